-- What the world is when a property is given a value or taken away by the place of its name.
use Rattle.std.proofs.Common.{◌≡◌, ℕ, zero, suc, ◌+◌, ◌-◌, ◌<◌, ◌≤◌, ◌⊎◌, inl, inr, true, false, cond, List, [], ◌∷◌, ◌++◌, length, nat_le, nat_lt, Option, None, Some, IfSome, refl, sym, ap, ◌∙◌, subst, arith, slice_get}
use Rattle.std.specs.List.{position_or_len}
use Rattle.std.specs.Prelude.{is_some, option_and_then, option_map, remove, slice_set}
use Rattle.std.proofs.lemmas.Bool.{cases_lt}
use Rattle.std.proofs.lemmas.Bool.Decides.{nat_tests}
use Rattle.rip_base.specs.declared.value.Span.{Span}
use Rattle.rip_base.specs.declared.value.Value.{Value}
use Rattle.rip_values.specs.Pool.{Texts}
use Rattle.rip_heap_region.specs.declared.pages.property.Property.{Property}
use Rattle.rip_heap.specs.NamedObjects.{Named, edited, place_at, with_edit}
use Rattle.rip_heap.specs.Names.{named, place_of, same_text}
use Rattle.rip_heap.specs.Objects.{own, put, put_at, put_in, removed, removed_at, removed_in}
use Rattle.rip_heap.specs.Region.{valued, without}
use Rattle.rip_heap.specs.World.{World, Object, charging, cost_of_property, first_object, object_at, paid}

-- the world of what a heap keeps, with its limit and the cells charged
abbrev pub world_of : ℕ → ℕ → Named → World
world_of limit used m = record { limit = limit; cells = used; pool = m.pool; objects = m.objects; scopes = m.scopes }

-- the place of the property with this name, of an object or none
abbrev pub place_in : Texts → Span → Option Object → Option ℕ
place_in pool name o = option_and_then (λ (x : Object). place_of pool name x.properties) o

place_inside : (pool : Texts) (name : Span) (properties : List Property) → IfSome (place_of pool name properties) (λ place. place < length properties)
place_inside pool name properties = by (position_or_len (λ property. same_text pool property.name name) properties) (length properties)
  where
    tested : (n m : ℕ) → (n < m) ⊎ (m ≤ n) → IfSome (cond (nat_lt n m) (Some n) None) (λ place. place < m)
    tested n m (inl lt) =
        let test : nat_lt n m ≡ true = grind (arith, nat_tests) in
        subst (λ t. IfSome (cond t (Some n) None) (λ place. place < m)) (sym test) lt
    tested n m (inr le) =
        let test : nat_lt n m ≡ false = grind (arith, nat_tests) in
        subst (λ t. IfSome (cond t (Some n) None) (λ place. place < m)) (sym test) tt

    by : (n m : ℕ) → IfSome (cond (nat_lt n m) (Some n) None) (λ place. place < m)
    by n m = tested n m (cases_lt n m)

-- where there is a place there is a value
some_here : (properties : List Property) (found : Option ℕ) → IfSome found (λ place. place < length properties)
    → is_some found ≡ is_some (option_map (λ (property : Property). property.value) (option_and_then (slice_get properties) found))
some_here properties None inside = refl
some_here properties (Some place) inside = by properties place inside
  where
    by : (ps : List Property) (i : ℕ) → i < length ps → true ≡ is_some (option_map (λ (property : Property). property.value) (slice_get ps i))
    by [] i lt = absurd (omega (arith, lt))
    by (p ∷ ps) zero lt = refl
    by (p ∷ ps) (suc i) lt = by ps i (omega (arith, lt))

some_named : (w : World) (name : Span) (o : Option Object) → is_some (place_in w.pool name o) ≡ is_some (option_and_then (λ (x : Object). named w.pool name x.properties) o)
some_named w name None = refl
some_named w name (Some o) = some_here o.properties (place_of w.pool name o.properties) (place_inside w.pool name o.properties)

pub some_own : (w : World) (n : ℕ) (name : Span) (o : Option Object) → o ≡ object_at w n → is_some (place_in w.pool name o) ≡ is_some (own w n name)
some_own w n name o is = some_named w name o ∙ ap (λ x. is_some (option_and_then (λ (y : Object). named w.pool name y.properties) x)) is

set_same : (xs : List Object) (at : ℕ) (o : Object) → slice_get xs at ≡ Some o → slice_set xs at o ≡ xs
set_same [] at o there = refl
set_same (x ∷ xs) zero o there = ap (λ y. y ∷ xs) (sym (ap (λ found. some_or found) there))
  where
    some_or : Option Object → Object
    some_or None = x
    some_or (Some y) = y
set_same (x ∷ xs) (suc at) o there = ap (λ ys. x ∷ ys) (set_same xs at o there)

-- THE PROPERTY IS TAKEN AWAY

removed_here : (w : World) (n at : ℕ) (o : Object) (found : Option ℕ) → n - first_object ≡ at → slice_get w.objects at ≡ Some o
    → record w { objects = slice_set w.objects at (record o { properties = without o.properties found }) } ≡ removed_at w n o found
removed_here w n at o None place there = ap (λ objects. record w { objects = objects }) (set_same w.objects at o there)
removed_here w n at o (Some number) place there = ap (λ k. record w { objects = slice_set w.objects k (record o { properties = remove o.properties number }) }) (sym place)

removed_in_world : (w : World) (n at : ℕ) (name : Span) (there : Option Object) → n - first_object ≡ at → slice_get w.objects at ≡ there
    → record w { objects = edited w.objects at (λ o. record o { properties = without o.properties (place_in w.pool name there) }) there } ≡ removed_in w n name there
removed_in_world w n at name None place there = refl
removed_in_world w n at name (Some o) place there = removed_here w n at o (place_of w.pool name o.properties) place there

pub removed_stands : (w : World) (n at : ℕ) (name : Span) → n ≡ first_object + at → slice_get w.objects at ≡ object_at w n
    → record w { objects = edited w.objects at (λ o. record o { properties = without o.properties (place_in w.pool name (slice_get w.objects at)) }) (slice_get w.objects at) } ≡ removed w n name
removed_stands w n at name place is =
    removed_in_world w n at name (slice_get w.objects at) (omega (arith, place)) refl ∙ ap (removed_in w n name) is

-- THE PROPERTY GETS THE VALUE, where there is none nothing is changed
kept_here : (objects : List Object) (at : ℕ) (v : Value) (o : Object) (found : Option ℕ) → is_some found ≡ false → slice_get objects at ≡ Some o
    → slice_set objects at (record o { properties = valued o.properties v found }) ≡ objects
kept_here objects at v o None none there = set_same objects at o there
kept_here objects at v o (Some number) none there = cc

kept_there : (pool : Texts) (objects : List Object) (at : ℕ) (name : Span) (v : Value) (there : Option Object) → slice_get objects at ≡ there → is_some (place_in pool name there) ≡ false
    → edited objects at (λ o. record o { properties = valued o.properties v (place_in pool name there) }) there ≡ objects
kept_there pool objects at name v None there none = refl
kept_there pool objects at name v (Some o) there none = kept_here objects at v o (place_of pool name o.properties) none there

pub value_kept : (n : Named) (at : ℕ) (name : Span) (v : Value) → is_some (place_at n at name) ≡ false
    → with_edit n at (λ o. record o { properties = valued o.properties v (place_at n at name) }) ≡ n
value_kept n at name v none = ap (λ objects. record n { objects = objects }) (kept_there n.pool n.objects at name v (slice_get n.objects at) refl none)

-- and one is made
abbrev pub with_new : Span → Value → Object → Object
with_new name v o = record o { properties = o.properties ++ record { name = name; value = v } ∷ [] }

abbrev pub with_made : ℕ → Span → Value → World → World
with_made at name v x = record x { objects = edited x.objects at (with_new name v) (slice_get x.objects at) }

made_here : (w : World) (n at : ℕ) (name : Span) (v : Value) (o : Object) (found : Option ℕ) → n - first_object ≡ at → is_some found ≡ false → slice_get w.objects at ≡ Some o
    → put_at w n name v o found ≡ charging cost_of_property w (with_made at name v)
made_here w n at name v o (Some number) place none there = cc
made_here w n at name v o None place none there =
    ap (λ next. charging cost_of_property w (λ x. next)) (
    (λ t. record (paid cost_of_property w) { objects = slice_set w.objects (place t) (with_new name v o) })
    ∙ ap (λ found. record (paid cost_of_property w) { objects = edited w.objects at (with_new name v) found }) (sym there))

made_there : (w : World) (n at : ℕ) (name : Span) (v : Value) (there : Option Object) → n - first_object ≡ at → is_some (place_in w.pool name there) ≡ false → slice_get w.objects at ≡ there
    → at < length w.objects → put_in w n name v there ≡ charging cost_of_property w (with_made at name v)
made_there w n at name v None place none there within = absurd (past w.objects at there within)
  where
    past : (xs : List Object) (i : ℕ) → slice_get xs i ≡ None → i < length xs → ⊥
    past [] i gone lt = omega (arith, lt)
    past (x ∷ xs) zero gone lt = cc
    past (x ∷ xs) (suc i) gone lt = past xs i gone (omega (arith, lt))
made_there w n at name v (Some o) place none there within = made_here w n at name v o (place_of w.pool name o.properties) place none there

pub put_makes : (w : World) (n at : ℕ) (name : Span) (v : Value) → n ≡ first_object + at → slice_get w.objects at ≡ object_at w n → at < length w.objects
    → is_some (place_in w.pool name (slice_get w.objects at)) ≡ false → put w n name v ≡ charging cost_of_property w (with_made at name v)
put_makes w n at name v place is within none =
    ap (put_in w n name v) (sym is) ∙ made_there w n at name v (slice_get w.objects at) (omega (arith, place)) none refl within

-- it is made at its charge, or not where that would pass the limit
pub charged : {A : Type 0} (w : World) (f : World → A) → w.cells + 1 ≤ w.limit → charging cost_of_property w f ≡ Some (f (paid cost_of_property w))
charged w f room =
    let test : nat_le (w.cells + 1) w.limit ≡ true = grind (arith, nat_tests) in
    ap (λ t. cond t (Some (f (paid cost_of_property w))) None) test

pub uncharged : {A : Type 0} (w : World) (f : World → A) → w.limit < w.cells + 1 → charging cost_of_property w f ≡ None
uncharged w f full =
    let test : nat_le (w.cells + 1) w.limit ≡ false = grind (arith, nat_tests) in
    ap (λ t. cond t (Some (f (paid cost_of_property w))) None) test

-- what cannot be so is more than fits
pub too_many : (a b : ℕ) → (a ≤ b → false ≡ true) → b < a
too_many a b never = by (cases_lt b a)
  where
    by : (b < a) ⊎ (a ≤ b) → b < a
    by (inl lt) = lt
    by (inr le) = let f : false ≡ true = never le in cc
