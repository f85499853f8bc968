-- The names of properties: what they are compared with, and where they are looked for.
use Rattle.std.specs.Prelude.{ℕ, ℤ, pos, negsuc, zero, suc, Bool, false, ◌||◌, ◌&&◌, ◌==◌, List, [], ◌∷◌, Option, None, Some, Result, Ok, Err, nat_eq, nat_le, is_some, unwrap_or, unsigned_abs, if◌then◌else◌}
use Rattle.std.specs.Cmp.Lexicographic.{pointwise}
use Rattle.std.specs.Fmt.{signed_decimal}
use Rattle.rip_base.specs.declared.value.Span.{Span}
use Rattle.rip_base.specs.declared.value.Value.{Value}
use Rattle.rip_base.specs.declared.value.Value.TheVariants.{Text, Undefined}
use Rattle.rip_base.specs.declared.value.Numeral.{Numeral}
use Rattle.rip_base.specs.declared.value.Numeral.TheVariants.{Num as Number, NaN as NotANumber}
use Rattle.rip_base.specs.declared.value.Fault.{Fault}
use Rattle.rip_values.specs.declared.fixed.FixedText.{FixedText}
use Rattle.rip_values.specs.declared.fixed.FixedText.TheVariants.{Name, Message, Constructor, ToString, ToLocaleString, ValueOf, IsPrototypeOf, PropertyIsEnumerable}
use Rattle.rip_values.specs.Pool.{Texts, text_at}
use Rattle.rip_heap.specs.declared.class.Class.{Class}
use Rattle.rip_heap.specs.declared.class.Class.TheVariants.{Plain, Prototype, Array, Function, Error, TypeError, RangeError, ThrownTypeError, ThrownReferenceError, Code, Event}
use Rattle.rip_heap.specs.declared.keys.Found.{Found}
use Rattle.rip_heap.specs.declared.keys.Found.TheVariants.{Here, Barred, Nowhere}
use Rattle.rip_heap.specs.declared.keys.LookedUp.{LookedUp}
use Rattle.rip_heap.specs.declared.keys.LookedUp.TheVariants.{Value as Gives, Barred as GivesBarred, Nowhere as GivesNowhere}
use Rattle.rip_heap.specs.Conversions.{number_of, span_of}
use Rattle.rip_heap.specs.Names.{same_text}
use Rattle.rip_heap.specs.Objects.{own, find}
use Rattle.rip_heap.specs.World.{World, object_at, class_of, proto_of}

-- the name is this fixed text
abbrev pub is_named : Texts → Span → FixedText → Bool
is_named pool name fixed = same_text pool name (span_of fixed)

-- INDEXES

-- a whole number from 0 to 4294967294 is an index of an array (ECMA-262 15.4)
abbrev pub is_index : ℤ → Bool
is_index (pos n) = nat_le n 4294967294
is_index (negsuc n) = false

abbrev pub index_if : List ℕ → Result Numeral Fault → Option ℕ
index_if text (Ok (Number z)) = if is_index z && pointwise nat_eq text (signed_decimal z) then Some (unsigned_abs z) else None
index_if text (Ok NotANumber) = None
index_if text (Err fault) = None

-- the index whose decimal numeral the name is, if it is one
abbrev pub index_of : Texts → Span → Option ℕ
index_of pool name = index_if (text_at pool name) (number_of pool (Text name))

-- the text begins with a digit, as the decimal numeral of each index does
abbrev pub begins_with_digit : List ℕ → Bool
begins_with_digit [] = false
begins_with_digit (unit ∷ rest) = nat_le 48 unit && nat_le unit 57

-- PLAIN OBJECTS

-- what no object of this class has in the profile, whatever was put there: on a code that the document threw the names
-- `name` and `message`, on the object that a function was made with as its `prototype` the name `constructor`
abbrev pub is_barred : Texts → Span → Class → Bool
is_barred pool name Code = is_named pool name Name || is_named pool name Message
is_barred pool name Prototype = is_named pool name Constructor
is_barred pool name Plain = false
is_barred pool name Array = false
is_barred pool name Function = false
is_barred pool name Error = false
is_barred pool name TypeError = false
is_barred pool name RangeError = false
is_barred pool name ThrownTypeError = false
is_barred pool name ThrownReferenceError = false
is_barred pool name Event = false

abbrev pub further : Option ℕ → (ℕ → Found) → Found
further None up = Nowhere
further (Some n) up = up n

-- where a look-up ends that looks at so many objects at most, the object first and then its prototypes
abbrev pub look_up_within : ℕ → World → ℕ → Span → Found
look_up_within zero w n name = Nowhere
look_up_within (suc k) w n name =
    if is_barred w.pool name (class_of (object_at w n)) then Barred
    else if is_some (own w n name) then Here
    else further (proto_of (object_at w n)) (λ up. look_up_within k w up name)

-- where the look-up of a name ends (ECMA-262 8.12.2); prototypes have lesser numbers
unfoldable pub look_up : World → ℕ → Span → Found
look_up w n name = look_up_within (suc n) w n name

-- what a look-up that ends so hands back: the value of the property, where one is found
abbrev pub handed_back : Option Value → Found → LookedUp
handed_back value Here = Gives (unwrap_or value Undefined)
handed_back value Barred = GivesBarred
handed_back value Nowhere = GivesNowhere

-- what the look-up of a name hands back (ECMA-262 8.12.2 and 8.12.3)
abbrev pub looked_up : World → ℕ → Span → LookedUp
looked_up w n name = handed_back (find w n name) (look_up w n name)

-- the names of the standard's Object.prototype that the profile does not have
abbrev pub is_of_object_prototype : Texts → Span → Bool
is_of_object_prototype pool name =
    is_named pool name Constructor || is_named pool name ToString || is_named pool name ToLocaleString
    || is_named pool name ValueOf || is_named pool name IsPrototypeOf || is_named pool name PropertyIsEnumerable

-- the name begins with two underscores
abbrev pub is_underscored : List ℕ → Bool
is_underscored [] = false
is_underscored (a ∷ []) = false
is_underscored (a ∷ b ∷ rest) = (a == 95) && (b == 95)
