-- What is written to an array is read.
use Rattle.std.proofs.Common.{◌≡◌, ℕ, pos, negsuc, ◌+◌, ◌≤◌, Bool, true, false, cond, ◌||◌, ◌==◌, List, [], ◌∷◌, ◌++◌, length, take, Option, None, Some, refl, sym, ap, ◌∙◌, arith, nat_le, nat_lt, slice_get}
use Rattle.std.specs.Prelude.{slice_set, unwrap_or}
use Rattle.std.proofs.lemmas.Bool.{eqb-true}
use Rattle.std.proofs.lemmas.Bool.Decides.{nat_tests}
use Rattle.std.proofs.lemmas.List.{length-take-le}
use Rattle.rip_base.specs.declared.value.Span.{Span}
use Rattle.rip_base.specs.declared.value.Value.{Value}
use Rattle.rip_base.specs.declared.value.Value.TheVariants.{Undefined, Null, Bool as Boolean, Num, NaN, Text, Object as ObjectValue}
use Rattle.rip_base.specs.declared.value.Fault.TheVariants.{NotInProfile, Hole}
use Rattle.rip_values.specs.declared.fixed.FixedText.TheVariants.{Length}
use Rattle.rip_values.specs.declared.builtin.Builtin.TheVariants.{Ripley}
use Rattle.rip_values.specs.Builtins.{number_of}
use Rattle.rip_values.specs.Pool.{text_at}
use Rattle.rip_heap.specs.declared.class.Class.{Class}
use Rattle.rip_heap.specs.declared.class.Class.TheVariants.{Plain, Prototype, Array, Function, Error, TypeError, RangeError, ThrownTypeError, ThrownReferenceError, Code, Event}
use Rattle.rip_heap.specs.declared.keys.Key.TheVariants.{Name, Index}
use Rattle.rip_heap.specs.Arrays.{elements_at, elements_of, with_elements, with_item, cut, push_item, push_in}
use Rattle.rip_heap.specs.Keys.{is_named, is_underscored, index_of}
use Rattle.rip_heap.specs.World.{World, Object, object_at, with_object, first_node, is_array, as_array, paid}
use Rattle.rip_ops.specs.declared.access.base.Base.TheVariants.{Array as ArrayBase, Builtin as BuiltinBase, Host as HostBase}
use Rattle.rip_ops.specs.declared.access.outcome.Read.TheVariants.{Value as Gives, Fault as ReadFaults}
use Rattle.rip_ops.specs.Base.{base_of, base_of_object, base_of_class}
use Rattle.rip_ops.specs.CallTable.{calls_of_arrays}
use Rattle.rip_ops.specs.Calls.{call_named}
use Rattle.rip_ops.specs.AccessLaws.{WrittenToArrayIsRead}
use Rattle.rip_ops.specs.Reading.{read_name, read_index, array_member, element_of, call_or_fault}
use Rattle.rip_ops.specs.Writing.{Writes, Faults, write_name, write_index, write_array, write_element, write_length, stepped}
use Rattle.rip_ops.proofs.ObjectLemmas.{slice_get-set, object_at-set}

-- the element behind all others stands at their count
slice_get-pushed : {X : Type 0} (xs : List X) (y : X) → slice_get (xs ++ y ∷ []) (length xs) ≡ Some y
slice_get-pushed [] y = refl
slice_get-pushed (x ∷ xs) y = slice_get-pushed xs y

-- an object of the class of arrays stands under this number
abbrev HasArray : World → ℕ → Object → Type 0
HasArray w n o = (object_at w n ≡ Some o) × (o.class ≡ Array)

array-there : (w : World) (n : ℕ) → base_of w (ObjectValue n) ≡ ArrayBase n → (o : Object) × HasArray w n o
array-there w n e = by (object_at w n) refl e
  where
    number : (b : Bool) → cond b (HostBase n) (BuiltinBase n) ≡ ArrayBase n → (o : Object) × HasArray w n o
    number true f = cc
    number false f = cc

    class : (c : Class) → base_of_class n c ≡ ArrayBase n → c ≡ Array
    class Plain f = cc
    class Prototype f = cc
    class Array f = refl
    class Function f = cc
    class Error f = cc
    class TypeError f = cc
    class RangeError f = cc
    class ThrownTypeError f = cc
    class ThrownReferenceError f = cc
    class Code f = cc
    class Event f = cc

    by : (x : Option Object) → object_at w n ≡ x → base_of_object n x ≡ ArrayBase n → (o : Object) × HasArray w n o
    by None at f = number (nat_le first_node n || n == number_of Ripley) f
    by (Some o) at f = (o, (at, class o.class f))

as_array-there : (w : World) (n : ℕ) (o : Object) → HasArray w n o → as_array (object_at w n) ≡ Some o
as_array-there w n o has = ap as_array has.0 ∙ ap (λ c. cond (is_array c) (Some o) None) has.1

-- the world is the same but for the elements of the array and what was charged
abbrev HasChanged : World → World → ℕ → Object → List Value → Type 0
HasChanged w next n o items = (cells : ℕ) × (next ≡ with_object (record w { cells = cells }) n (record o { elements = items }))

-- what reads of the array see
abbrev IsChanged : World → World → ℕ → List Value → Type 0
IsChanged w next n items = (next.pool ≡ w.pool) × (base_of next (ObjectValue n) ≡ ArrayBase n) × (elements_at next n ≡ items)

changed : (w next : World) (n : ℕ) (o : Object) (items : List Value) → HasArray w n o → HasChanged w next n o items → IsChanged w next n items
changed w next n o items has (cells, is) =
    let o2 : Object = record o { elements = items } in
    let at : object_at next n ≡ Some o2 = ap (λ x. object_at x n) is ∙ object_at-set (record w { cells = cells }) n o o2 has.0 in
    (ap (λ x. x.pool) is, ap (base_of_object n) at ∙ ap (base_of_class n) has.1, ap elements_of (as_array-there next n o2 (at, has.1)))

with_elements-there : (w : World) (n : ℕ) (o : Object) (change : List Value → List Value) → HasArray w n o → HasChanged w (with_elements w n change (as_array (object_at w n))) n o (change (elements_at w n))
with_elements-there w n o change has =
    let there : as_array (object_at w n) ≡ Some o = as_array-there w n o has in
    (w.cells, ap (with_elements w n change) there ∙ ap (λ items. with_object w n (record o { elements = change items })) (sym (ap elements_of there)))

push_item-there : (w next : World) (n : ℕ) (o : Object) (v : Value) → HasArray w n o → push_item w n v ≡ Some next → HasChanged w next n o (elements_at w n ++ v ∷ [])
push_item-there w next n o v has e =
    let there : as_array (object_at w n) ≡ Some o = as_array-there w n o has in
    let items : elements_at w n ≡ o.elements = ap elements_of there in
    by (nat_le (w.cells + 1) w.limit) items (sym (ap (push_in w n v) there) ∙ e)
  where
    by : (b : Bool) → elements_at w n ≡ o.elements → cond b (Some (with_object (paid 1 w) n (record o { elements = o.elements ++ v ∷ [] }))) None ≡ Some next → HasChanged w next n o (elements_at w n ++ v ∷ [])
    by true items f = (w.cells + 1, cc)
    by false items f = cc

-- ELEMENTS

-- the element that was written stands at its place
abbrev HasElement : World → World → ℕ → ℕ → Value → Type 0
HasElement w next n i v = (items : List Value) × IsChanged w next n items × (slice_get items i ≡ Some v)

element-written : (w next : World) (n i : ℕ) (v : Value) (o : Object) → HasArray w n o → write_element w n i v ≡ Writes next → HasElement w next n i v
element-written w next n i v o has e = by (nat_lt i (length (elements_at w n))) (i == length (elements_at w n)) (push_item w n v) refl refl refl e
  where
    by : (b c : Bool) (p : Option World) → nat_lt i (length (elements_at w n)) ≡ b → (i == length (elements_at w n)) ≡ c → push_item w n v ≡ p
        → cond b (Writes (with_item w n i v)) (cond c (stepped p) (Faults Hole)) ≡ Writes next → HasElement w next n i v
    by true c p lower same push f =
        let is : with_item w n i v ≡ next = cc in
        let now = with_elements-there w n o (λ items. slice_set items i v) has in
        (slice_set (elements_at w n) i v, changed w next n o (slice_set (elements_at w n) i v) has (now.0, sym is ∙ now.1), slice_get-set (elements_at w n) i v (grind (arith, nat_tests)))
    by false true None lower same push f = cc
    by false true (Some x) lower same push f =
        let is : push_item w n v ≡ Some next = cc in
        let last : i ≡ length (elements_at w n) = eqb-true i (length (elements_at w n)) same in (
          elements_at w n ++ v ∷ [],
          changed w next n o (elements_at w n ++ v ∷ []) has (push_item-there w next n o v has is),
          ap (slice_get (elements_at w n ++ v ∷ [])) last ∙ slice_get-pushed (elements_at w n) v,
        )
    by false false p lower same push f = cc

element-read : (w next : World) (n i : ℕ) (v : Value) → HasElement w next n i v → element_of next n i ≡ Gives v
element-read w next n i v (items, is, has) =
    ap (λ xs. Gives (unwrap_or (slice_get xs i) Undefined)) is.2 ∙ ap (λ x. Gives (unwrap_or x Undefined)) has

-- LENGTHS

abbrev HasLength : World → World → ℕ → Value → Type 0
HasLength w next n v = (items : List Value) × IsChanged w next n items × (v ≡ Num (pos (length items)))

length-written : (w next : World) (n : ℕ) (v : Value) (o : Object) → HasArray w n o → write_length w n v ≡ Writes next → HasLength w next n v
length-written w next n (Num (pos count)) o has e = by (nat_le count (length (elements_at w n))) refl e
  where
    by : (b : Bool) → nat_le count (length (elements_at w n)) ≡ b → cond b (Writes (cut w n count)) (Faults Hole) ≡ Writes next → HasLength w next n (Num (pos count))
    by true within f =
        let is : cut w n count ≡ next = cc in
        let now = with_elements-there w n o (take count) has in
        let low : count ≤ length (elements_at w n) = grind (arith, nat_tests) in
        (take count (elements_at w n), changed w next n o (take count (elements_at w n)) has (now.0, sym is ∙ now.1), ap (λ k. Num (pos k)) (sym (length-take-le count (elements_at w n) low)))
    by false within f = cc
length-written w next n (Num (negsuc k)) o has e = cc
length-written w next n Undefined o has e = cc
length-written w next n Null o has e = cc
length-written w next n (Boolean b) o has e = cc
length-written w next n NaN o has e = cc
length-written w next n (Text span) o has e = cc
length-written w next n (ObjectValue m) o has e = cc

-- NAMES

member-read : (w next : World) (n : ℕ) (name : Span) (v : Value) (o : Object) (at : Option ℕ) → HasArray w n o → write_array w n name v at ≡ Writes next
    → (next.pool ≡ w.pool) × (base_of next (ObjectValue n) ≡ ArrayBase n) × (array_member next n name at ≡ Gives v)
member-read w next n name v o (Some i) has e =
    let is = element-written w next n i v o has e in
    (is.1.0, is.1.1, element-read w next n i v is)
member-read w next n name v o None has e = by (is_named w.pool name Length) refl e
  where
    by : (b : Bool) → is_named w.pool name Length ≡ b → cond b (write_length w n v) (Faults NotInProfile) ≡ Writes next
        → (next.pool ≡ w.pool) × (base_of next (ObjectValue n) ≡ ArrayBase n) × (array_member next n name None ≡ Gives v)
    by false named f = cc
    by true named f =
        let is = length-written w next n v o has f in (
          is.1.0,
          is.1.1,
          ap (λ b. cond b (Gives (Num (pos (length (elements_at next n))))) (call_or_fault (call_named next.pool name calls_of_arrays))) (ap (λ pool. is_named pool name Length) is.1.0 ∙ named)
              ∙ ap (λ xs. Gives (Num (pos (length xs)))) is.1.2
              ∙ ap Gives (sym is.2),
        )

write-array : (w next : World) (n : ℕ) (name : Span) (v : Value) → write_name w (ArrayBase n) name v ≡ Writes next
    → (is_underscored (text_at w.pool name) ≡ false) × (write_array w n name v (index_of w.pool name) ≡ Writes next)
write-array w next n name v e = by (is_underscored (text_at w.pool name)) e
  where
    by : (b : Bool) → cond b (Faults NotInProfile) (write_array w n name v (index_of w.pool name)) ≡ Writes next → (b ≡ false) × (write_array w n name v (index_of w.pool name) ≡ Writes next)
    by true f = cc
    by false f = (refl, f)

pub written_read : WrittenToArrayIsRead
written_read w next n (Index i) v is e =
    let there = array-there w n is in
    let has = element-written w next n i v there.0 there.1 (sym (ap (λ b. write_index w b i v) is) ∙ e) in
    ap (λ b. read_index next b i) has.1.1 ∙ element-read w next n i v has
written_read w next n (Name name) v is e =
    let there = array-there w n is in
    let writes = write-array w next n name v (sym (ap (λ b. write_name w b name v) is) ∙ e) in
    let has = member-read w next n name v there.0 (index_of w.pool name) there.1 writes.1 in
    ap (λ b. read_name next b name) has.1
    ∙ ap (λ b. cond b (ReadFaults NotInProfile) (array_member next n name (index_of next.pool name))) (ap (λ pool. is_underscored (text_at pool name)) has.0 ∙ writes.0)
    ∙ ap (λ pool. array_member next n name (index_of pool name)) has.0
    ∙ has.2
