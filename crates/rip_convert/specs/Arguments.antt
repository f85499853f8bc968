-- Data made of values: what the arguments of a call to the server are as JSON (RFC 8259).
use Rattle.std.specs.Prelude.{ℕ, ℤ, zero, suc, ◌-◌, ◌^◌, ◌&&◌, nat_le, nat_lt, Bool, if◌then◌else◌, List, [], ◌∷◌, ◌++◌, length, Option, None, Some, Result, Ok, Err}
use Rattle.std.specs.List.{list_all}
use Rattle.std.specs.Char.Utf16.{has_unpaired_surrogate}
use Rattle.json.specs.Print.{quoted}
use Rattle.serde_json.specs.Data.{Data, null, boolean, number, string, array, object, Members, no_members, put}
use Rattle.serde_json.specs.View.{items_of}
use Rattle.serde_json.specs.Written.{compact_text}
use Rattle.rip_base.specs.declared.value.Span.{Span}
use Rattle.rip_base.specs.declared.value.Value.{Value}
use Rattle.rip_base.specs.declared.value.Value.TheVariants.{Undefined, Null, Bool as Boolean, Num, NaN, Text, Object}
use Rattle.rip_base.specs.declared.value.Fault.{Fault}
use Rattle.rip_base.specs.declared.value.Fault.TheVariants.{BadArgument, LoneSurrogate}
use Rattle.rip_values.specs.Pool.{Texts, text_at}
use Rattle.rip_heap.specs.declared.holder.Holder.{Holder}
use Rattle.rip_heap.specs.declared.holder.Holder.TheVariants.{PlainObject, ArrayObject, OtherObject}
use Rattle.rip_heap_region.specs.declared.pages.property.Property.{Property}
use Rattle.rip_heap.specs.Arrays.{elements_at}
use Rattle.rip_heap.specs.Holders.{holder_of}
use Rattle.rip_heap.specs.Stored.{properties_of as properties_in_heap}
use Rattle.rip_heap.specs.World.{World, Object as HeapObject, object_at}
use Rattle.rip_data.specs.Datum.{number_of_whole, utf8_of}
use Rattle.rip_data.specs.Reading.{is_whole}

-- what a walk over values finds, and how many pieces are left to it; or the fault that ends it
abbrev pub Walk : Type 0 → Type 0
Walk A = Result (A × ℕ) Fault

-- a walk, and what follows where no fault ended it
abbrev pub then_walks : {A B : Type 0} → Walk A → (A → ℕ → Walk B) → Walk B
then_walks (Ok found) next = next found.0 found.1
then_walks (Err fault) next = Err fault

-- a value, which takes one of the pieces that are left
abbrev pub taking : {A : Type 0} → ℕ → (ℕ → Walk A) → Walk A
taking left next = if nat_le 1 left then next (left - 1) else Err BadArgument

-- each number is a unit of UTF-16 (RFC 2781), below 2^16, as in each text of a heap
abbrev pub are_units : List ℕ → Bool
are_units units = list_all (λ unit. nat_lt unit (2 ^ 16)) units

-- a text or a name in UTF-8: each of its units is a piece, and no surrogate is without its partner; numbers that are no units
-- are no data
abbrev pub spelled : List ℕ → ℕ → Walk (List ℕ)
spelled units left =
    if nat_le (length units) left && are_units units then
    (if has_unpaired_surrogate units then Err LoneSurrogate else Ok (utf8_of units, left - length units))
    else Err BadArgument

-- the elements of an array, left to right, behind those found
abbrev pub elements_walked : (Value → ℕ → Walk Data) → List Data → List Value → ℕ → Walk (List Data)
elements_walked walk found [] left = Ok (found, left)
elements_walked walk found (v ∷ vs) left = then_walks (walk v left) (λ d rest. elements_walked walk (found ++ d ∷ []) vs rest)

-- the properties of an object, in the order of making, among those found: each name, and then its value. As data they
-- stand in the order of the names' bytes
abbrev pub fields_walked : (Value → ℕ → Walk Data) → Texts → Members → List Property → ℕ → Walk Members
fields_walked walk pool found [] left = Ok (found, left)
fields_walked walk pool found (p ∷ ps) left =
    then_walks (spelled (text_at pool p.name) left) (λ name rest.
    then_walks (walk p.value rest) (λ d end. fields_walked walk pool (put name d found) ps end))

-- the properties of an object
abbrev pub properties_of : Option HeapObject → List Property
properties_of = properties_in_heap

-- an object: an array by its elements, and a plain object, of which thrown codes are some, by its own properties;
-- nothing else is data
abbrev pub parts_walked : Holder → (Value → ℕ → Walk Data) → World → ℕ → ℕ → Walk Data
parts_walked ArrayObject walk w n left =
    then_walks (elements_walked walk [] (elements_at w n) left) (λ ds rest. Ok (array (items_of ds), rest))
parts_walked PlainObject walk w n left =
    then_walks (fields_walked walk w.pool no_members (properties_of (object_at w n)) left) (λ ms rest. Ok (object ms, rest))
parts_walked OtherObject walk w n left = Err BadArgument

-- a number: each of a heap is a whole one, and no other is data
abbrev pub whole_walked : ℤ → ℕ → Walk Data
whole_walked z left = if is_whole (number_of_whole z) then Ok (number (number_of_whole z), left) else Err BadArgument

-- a value, whose objects are walked so: undefined and NaN are no data
abbrev pub value_walked : (ℕ → ℕ → Walk Data) → World → Value → ℕ → Walk Data
value_walked parts w Undefined left = Err BadArgument
value_walked parts w Null left = Ok (null, left)
value_walked parts w (Boolean b) left = Ok (boolean b, left)
value_walked parts w (Num z) left = whole_walked z left
value_walked parts w NaN left = Err BadArgument
value_walked parts w (Text span) left = then_walks (spelled (text_at w.pool span) left) (λ bytes rest. Ok (string bytes, rest))
value_walked parts w (Object n) left = parts n left

-- a value, which is a piece, where so many levels of arrays and objects are left
abbrev pub walked : ℕ → World → Value → ℕ → Walk Data
walked zero w v left = taking left (value_walked (λ n rest. Err BadArgument) w v)
walked (suc levels) w v left =
    taking left (value_walked (λ n rest. parts_walked (holder_of (object_at w n)) (walked levels w) w n rest) w v)

-- what is found is data where its text has at most 16,384 bytes
abbrev pub text_judged : Walk Data → Result (List ℕ) Fault
text_judged (Ok found) = if nat_le (length (compact_text found.0)) 16384 then Ok (compact_text found.0) else Err BadArgument
text_judged (Err fault) = Err fault

-- THE FIRST FAULT

-- the first of two, of which the second is sought where the first is none
abbrev pub or_fault : Option Fault → Option Fault → Option Fault
or_fault (Some fault) later = Some fault
or_fault None later = later

-- a text or a name: numbers that are no units, or a surrogate without its partner
abbrev pub text_fault : List ℕ → Option Fault
text_fault units = if are_units units then (if has_unpaired_surrogate units then Some LoneSurrogate else None) else Some BadArgument

-- the elements of an array, left to right
abbrev pub elements_fault : (Value → Option Fault) → List Value → Option Fault
elements_fault walk [] = None
elements_fault walk (v ∷ vs) = or_fault (walk v) (elements_fault walk vs)

-- the properties of an object, in the order of making: each name, and then its value
abbrev pub fields_fault : (Value → Option Fault) → Texts → List Property → Option Fault
fields_fault walk pool [] = None
fields_fault walk pool (p ∷ ps) = or_fault (text_fault (text_at pool p.name)) (or_fault (walk p.value) (fields_fault walk pool ps))

-- all of them, where they are fewer than 2^32, as in each object of a heap; more are no data
abbrev pub properties_fault : (Value → Option Fault) → Texts → List Property → Option Fault
properties_fault walk pool ps = if nat_le (length ps) 4294967295 then fields_fault walk pool ps else Some BadArgument

-- an object: nothing but arrays and plain objects is data
abbrev pub parts_fault : Holder → (Value → Option Fault) → World → ℕ → Option Fault
parts_fault ArrayObject walk w n = elements_fault walk (elements_at w n)
parts_fault PlainObject walk w n = properties_fault walk w.pool (properties_of (object_at w n))
parts_fault OtherObject walk w n = Some BadArgument

-- a number that is not whole
abbrev pub whole_fault : ℤ → Option Fault
whole_fault z = if is_whole (number_of_whole z) then None else Some BadArgument

-- a value, whose objects have such faults: undefined and NaN are no data
abbrev pub value_fault : (ℕ → Option Fault) → World → Value → Option Fault
value_fault parts w Undefined = Some BadArgument
value_fault parts w Null = None
value_fault parts w (Boolean b) = None
value_fault parts w (Num z) = whole_fault z
value_fault parts w NaN = Some BadArgument
value_fault parts w (Text span) = text_fault (text_at w.pool span)
value_fault parts w (Object n) = parts n

-- the first fault on the walk over a value, left to right, where so many levels of arrays and objects are left, whatever
-- its length
abbrev pub fault_of : ℕ → World → Value → Option Fault
fault_of zero w v = value_fault (λ n. Some BadArgument) w v
fault_of (suc levels) w v = value_fault (λ n. parts_fault (holder_of (object_at w n)) (fault_of levels w) w n) w v

-- the fault, or what follows where there is none
abbrev pub unless_faulty : {A : Type 0} → Option Fault → Result A Fault → Result A Fault
unless_faulty (Some fault) otherwise = Err fault
unless_faulty None otherwise = otherwise

-- the canonical text of a value as data; or the first fault on the walk over it, left to right, 8 levels deep at most; or,
-- where there is none, BadArgument for a text of more than 16,384 bytes, as that of more than 16,384 pieces is
abbrev pub arguments_text : World → Value → Result (List ℕ) Fault
arguments_text w v = unless_faulty (fault_of 8 w v) (text_judged (walked 8 w v 16384))

-- the text of a call, `[NAME,ARGS]` with no space: a name in UTF-8 and the canonical text of arguments
abbrev pub call_line : List ℕ → List ℕ → List ℕ
call_line name args = 91 ∷ (quoted name ++ 44 ∷ (args ++ 93 ∷ []))

abbrev pub line_judged : List ℕ → Result (List ℕ) Fault → Result (List ℕ) Fault
line_judged name (Ok args) = Ok (call_line name args)
line_judged name (Err fault) = Err fault

-- the canonical text of a call of this name, or the first fault on the walk over its arguments, their length last
abbrev pub call_text : World → Span → Value → Result (List ℕ) Fault
call_text w name args = line_judged (utf8_of (text_at w.pool name)) (arguments_text w args)
