-- What is written to a plain object is read.
use Rattle.std.proofs.Common.{◌≡◌, ℕ, ◌+◌, Bool, true, false, cond, ◌||◌, ◌==◌, List, [], ◌∷◌, ◌++◌, Option, None, Some, refl, sym, ap, ◌∙◌, nat_le}
use Rattle.std.specs.Prelude.{is_some, unwrap_or}
use Rattle.rip_base.specs.declared.value.Span.{Span}
use Rattle.rip_base.specs.declared.value.Value.{Value}
use Rattle.rip_base.specs.declared.value.Value.TheVariants.{Undefined, Object as ObjectValue}
use Rattle.rip_base.specs.declared.value.Fault.TheVariants.{NotInProfile}
use Rattle.rip_values.specs.declared.builtin.Builtin.TheVariants.{Ripley}
use Rattle.rip_values.specs.Builtins.{number_of}
use Rattle.rip_values.specs.Pool.{text_at}
use Rattle.rip_heap.specs.declared.keys.Found.{Found}
use Rattle.rip_heap.specs.declared.keys.Found.TheVariants.{Here, Barred}
use Rattle.rip_heap.specs.declared.keys.Key.TheVariants.{Name, Index}
use Rattle.rip_heap_region.specs.declared.pages.property.Property.{Property}
use Rattle.rip_heap.specs.Keys.{is_barred, is_underscored, further, look_up, look_up_within}
use Rattle.rip_heap.specs.Laws.{PutsAreRead}
use Rattle.rip_heap.specs.Names.{place_of}
use Rattle.rip_heap.specs.Objects.{own, find, found_within, or_up, put, put_in, put_at, with_value}
use Rattle.rip_heap.specs.World.{World, Object, object_at, with_object, class_of, proto_of, first_node, paid}
use Rattle.rip_ops.specs.declared.access.base.Base.TheVariants.{Plain as PlainBase, Builtin as BuiltinBase, Host as HostBase}
use Rattle.rip_ops.specs.declared.access.outcome.Read.TheVariants.{Value as Gives, Fault as ReadFaults}
use Rattle.rip_ops.specs.Base.{base_of, base_of_object, base_of_class}
use Rattle.rip_ops.specs.AccessLaws.{WrittenIsRead}
use Rattle.rip_ops.specs.Reading.{read, read_name, found}
use Rattle.rip_ops.specs.Writing.{Writes, Faults, write_name, write_index, stepped}
use Rattle.rip_ops.proofs.ObjectLemmas.{IsObject-at, object_at-set, objects-some}

-- what is put changes the properties of the object, and else only what was charged
abbrev HasPut : World → World → ℕ → Object → Type 0
HasPut w next n o = (ps : List Property) × (cells : ℕ) × (next ≡ with_object (record w { cells = cells }) n (record o { properties = ps }))

put-changes : (w next : World) (n : ℕ) (name : Span) (v : Value) (o : Object) → object_at w n ≡ Some o → put w n name v ≡ Some next → HasPut w next n o
put-changes w next n name v o e done = by (place_of w.pool name o.properties) (sym (ap (put_in w n name v) e) ∙ done)
  where
    by : (p : Option ℕ) → put_at w n name v o p ≡ Some next → HasPut w next n o
    by (Some place) f = (with_value o.properties place v, w.cells, cc)
    by None f = charged (nat_le (w.cells + 1) w.limit) f
      where
        charged : (b : Bool) → cond b (Some (with_object (paid 1 w) n (record o { properties = o.properties ++ record { name = name; value = v } ∷ [] }))) None ≡ Some next → HasPut w next n o
        charged true f = (o.properties ++ record { name = name; value = v } ∷ [], w.cells + 1, cc)
        charged false f = cc

-- a look-up ends at an own property
look_up-here : (w : World) (n : ℕ) (name : Span) → is_barred w.pool name (class_of (object_at w n)) ≡ false → is_some (own w n name) ≡ true → look_up w n name ≡ Here
unfolding look_up
look_up-here w n name barred here = by (is_barred w.pool name (class_of (object_at w n))) (is_some (own w n name)) (further (proto_of (object_at w n)) (λ up. look_up_within n w up name)) barred here
  where
    by : (b c : Bool) (up : Found) → b ≡ false → c ≡ true → cond b Barred (cond c Here up) ≡ Here
    by true c up e f = cc
    by false true up e f = refl
    by false false up e f = cc

find-own : (w : World) (n : ℕ) (name : Span) (o : Object) (v : Value) → object_at w n ≡ Some o → own w n name ≡ Some v → find w n name ≡ Some v
unfolding find
find-own w n name o v e is =
    let some = objects-some w n o e in
    ap (λ k. found_within k w n name) some.1
    ∙ ap (λ x. or_up x (proto_of (object_at w n)) (λ up. found_within some.0 w up name)) is

-- a base that is a plain object stands in the heap
plain-there : (w : World) (n : ℕ) → base_of w (ObjectValue n) ≡ PlainBase n → (o : Object) × (object_at w n ≡ Some o) × (base_of_class n o.class ≡ PlainBase n)
plain-there w n e = by (object_at w n) refl e
  where
    by : (x : Option Object) → object_at w n ≡ x → base_of_object n x ≡ PlainBase n → (o : Object) × (object_at w n ≡ Some o) × (base_of_class n o.class ≡ PlainBase n)
    by None at f = number (nat_le first_node n || n == number_of Ripley) f
      where
        number : (b : Bool) → cond b (HostBase n) (BuiltinBase n) ≡ PlainBase n → (o : Object) × (object_at w n ≡ Some o) × (base_of_class n o.class ≡ PlainBase n)
        number true f = cc
        number false f = cc
    by (Some o) at f = (o, at, f)

-- the name has no rule of its own, and the value was put
abbrev IsPut : World → World → ℕ → Span → Value → Type 0
IsPut w next n name v = (is_underscored (text_at w.pool name) ≡ false) × (is_barred w.pool name (class_of (object_at w n)) ≡ false) × (put w n name v ≡ Some next)

write-puts : (w next : World) (n : ℕ) (name : Span) (v : Value) → write_name w (PlainBase n) name v ≡ Writes next → IsPut w next n name v
write-puts w next n name v e = by (is_underscored (text_at w.pool name)) (is_barred w.pool name (class_of (object_at w n))) (put w n name v) e
  where
    by : (b c : Bool) (p : Option World) → cond b (Faults NotInProfile) (cond c (Faults NotInProfile) (stepped p)) ≡ Writes next → (b ≡ false) × (c ≡ false) × (p ≡ Some next)
    by true c p f = cc
    by false true p f = cc
    by false false None f = cc
    by false false (Some x) f = (refl, refl, cc)

-- of an object that is like the old one but for its properties
put-read : (w : World) (n : ℕ) (name : Span) (v : Value) (o : Object) → object_at w n ≡ Some o → base_of_class n o.class ≡ PlainBase n
    → is_underscored (text_at w.pool name) ≡ false → is_barred w.pool name o.class ≡ false → own w n name ≡ Some v → read w (ObjectValue n) (Name name) ≡ Gives v
put-read w n name v o at plain open_name allowed has =
    let base : base_of w (ObjectValue n) ≡ PlainBase n = ap (base_of_object n) at ∙ plain in
    let here : look_up w n name ≡ Here = look_up-here w n name (ap (λ x. is_barred w.pool name (class_of x)) at ∙ allowed) (ap is_some has) in
    ap (λ b. read_name w b name) base
    ∙ ap (λ b. cond b (ReadFaults NotInProfile) (found w n name (look_up w n name))) open_name
    ∙ ap (found w n name) here
    ∙ ap (λ x. Gives (unwrap_or x Undefined)) (find-own w n name o v at has)

pub written_read : PutsAreRead → WrittenIsRead
written_read law w next n (Index i) v is e = let f : write_index w (PlainBase n) i v ≡ Writes next = sym (ap (λ b. write_index w b i v) is) ∙ e in cc
written_read law w next n (Name name) v is e =
    let there = plain-there w n is in
    let o = there.0 in
    let puts = write-puts w next n name v (sym (ap (λ b. write_name w b name v) is) ∙ e) in
    let has = put-changes w next n name v o there.1 puts.2 in
    let changed : Object = record o { properties = has.0 } in
    let at : object_at next n ≡ Some changed = ap (λ x. object_at x n) has.2 ∙ object_at-set (record w { cells = has.1 }) n o changed there.1 in
    put-read next n name v changed at there.2
    (ap (λ x. is_underscored (text_at x.pool name)) has.2 ∙ puts.0)
    (ap (λ x. is_barred x.pool name o.class) has.2 ∙ sym (ap (λ x. is_barred w.pool name (class_of x)) there.1) ∙ puts.1)
    (law w next n name v (IsObject-at w n o there.1) puts.2)
