-- What is put is read, and no other property changes.
use Rattle.std.proofs.Common.{◌≡◌, ℕ, zero, suc, ◌+◌, ◌-◌, ◌<◌, ◌≤◌, Bool, true, false, not, cond, ◌⊎◌, inl, inr, List, [], ◌∷◌, ◌++◌, length, Option, None, Some, refl, sym, ap, ◌∙◌, subst, arith, nat_le, nat_eq, nat_lt, slice_get}
use Rattle.std.specs.Prelude.{option_and_then, option_map, slice_set}
use Rattle.std.specs.List.{position, position_or_len}
use lib.Pointwise.{pointwise, bytes_decides}
use Rattle.std.proofs.lemmas.Bool.Decides.{nat_tests}
use Rattle.rip_base.specs.declared.value.Span.{Span}
use Rattle.rip_base.specs.declared.value.Value.{Value}
use Rattle.rip_values.specs.Pool.{Texts, text_at}
use Rattle.rip_heap_region.specs.declared.pages.property.Property.{Property}
use Rattle.rip_heap.specs.Laws.{PutsAreRead, PutsLeaveOthers}
use Rattle.rip_heap.specs.Names.{same_text, place_of, named}
use Rattle.rip_heap.specs.Objects.{own, put, put_in, put_at, with_value}
use Rattle.rip_heap.specs.World.{World, Object, IsObject, object_at, with_object, paid}

pointwise_same : (xs : List ℕ) → pointwise nat_eq xs xs ≡ true
pointwise_same xs = (bytes_decides xs xs).1 refl

-- a text that is like one is unlike what that is unlike
unlike : (pool : Texts) (a b c : Span) → same_text pool a b ≡ true → same_text pool b c ≡ false → same_text pool a c ≡ false
unlike pool a b c same differ =
    let equal : text_at pool a ≡ text_at pool b = (bytes_decides (text_at pool a) (text_at pool b)).0 same in
    ap (λ t. pointwise nat_eq t (text_at pool c)) equal ∙ differ

-- the place in a longer list
abbrev next : Bool → Option ℕ → Option ℕ
next true o = Some 0
next false o = option_map suc o

position-cons : {X : Type 0} (p : X → Bool) (x : X) (xs : List X) → position p (x ∷ xs) ≡ next (p x) (position p xs)
position-cons p x xs = by (p x) (nat_lt (position_or_len p xs) (length xs)) refl
  where
    longer : 1 + position_or_len p xs ≡ suc (position_or_len p xs)
    longer = omega arith

    by : (b c : Bool) → nat_lt (position_or_len p xs) (length xs) ≡ c
        → cond (nat_lt (cond (not b) (1 + position_or_len p xs) 0) (suc (length xs))) (Some (cond (not b) (1 + position_or_len p xs) 0)) None ≡ next b (cond c (Some (position_or_len p xs)) None)
    by true c e = let h : nat_lt 0 (suc (length xs)) ≡ true = grind (arith, nat_tests) in ap (λ t. cond t (Some 0) None) h
    by false true e =
        let h : nat_lt (1 + position_or_len p xs) (suc (length xs)) ≡ true = grind (arith, nat_tests) in
        ap (λ t. cond t (Some (1 + position_or_len p xs)) None) h ∙ ap (λ n. Some n) longer
    by false false e = let h : nat_lt (1 + position_or_len p xs) (suc (length xs)) ≡ false = grind (arith, nat_tests) in ap (λ t. cond t (Some (1 + position_or_len p xs)) None) h

-- the value of the first property, if it has the name, or else that of one behind it
abbrev behind : Bool → Value → Option Value → Option Value
behind true v rest = Some v
behind false v rest = rest

named-cons : (pool : Texts) (name : Span) (p : Property) (ps : List Property) → named pool name (p ∷ ps) ≡ behind (same_text pool p.name name) p.value (named pool name ps)
named-cons pool name p ps =
    ap (λ o. option_map (λ q. q.value) (option_and_then (slice_get (p ∷ ps)) o)) (position-cons (λ q. same_text pool q.name name) p ps)
    ∙ by (same_text pool p.name name) (position (λ q. same_text pool q.name name) ps)
  where
    by : (b : Bool) (o : Option ℕ) → option_map (λ q. q.value) (option_and_then (slice_get (p ∷ ps)) (next b o)) ≡ behind b p.value (option_map (λ q. q.value) (option_and_then (slice_get ps) o))
    by true o = refl
    by false None = refl
    by false (Some k) = refl

place-inner : (o : Option ℕ) (k : ℕ) → option_map suc o ≡ Some (suc k) → o ≡ Some k
place-inner None k f = cc
place-inner (Some j) k f = cc

-- the properties with the value at the place of the name
pub named-changed : (pool : Texts) (name : Span) (v : Value) (ps : List Property) (place : ℕ) → place_of pool name ps ≡ Some place → named pool name (with_value ps place v) ≡ Some v
named-changed pool name v [] place e = cc
named-changed pool name v (p ∷ ps) place e = by (named-changed pool name v ps) (same_text pool p.name name) refl place (sym (position-cons (λ q. same_text pool q.name name) p ps) ∙ e)
  where
    by : ((k : ℕ) → place_of pool name ps ≡ Some k → named pool name (with_value ps k v) ≡ Some v)
        → (b : Bool) → same_text pool p.name name ≡ b → (place : ℕ) → next b (place_of pool name ps) ≡ Some place → named pool name (with_value (p ∷ ps) place v) ≡ Some v
    by more true same zero f = named-cons pool name (record { name = p.name; value = v }) ps ∙ ap (λ b. behind b v (named pool name ps)) same
    by more true same (suc k) f = cc
    by more false same zero f = absurd (not-first (place_of pool name ps) f)
      where
        not-first : (o : Option ℕ) → option_map suc o ≡ Some zero → ⊥
        not-first None f = cc
        not-first (Some j) f = cc
    by more false same (suc k) f =
        named-cons pool name p (with_value ps k v)
        ∙ ap (λ b. behind b p.value (named pool name (with_value ps k v))) same
        ∙ more k (place-inner (place_of pool name ps) k f)

-- the properties with one of the name behind them
pub named-added : (pool : Texts) (name : Span) (v : Value) (ps : List Property) → place_of pool name ps ≡ None → named pool name (ps ++ record { name = name; value = v } ∷ []) ≡ Some v
named-added pool name v [] e = named-cons pool name (record { name = name; value = v }) [] ∙ ap (λ b. behind b v None) (pointwise_same (text_at pool name))
named-added pool name v (p ∷ ps) e = by (named-added pool name v ps) (same_text pool p.name name) refl (sym (position-cons (λ q. same_text pool q.name name) p ps) ∙ e)
  where
    none-inner : (o : Option ℕ) → option_map suc o ≡ None → o ≡ None
    none-inner None f = refl
    none-inner (Some j) f = cc

    by : (place_of pool name ps ≡ None → named pool name (ps ++ record { name = name; value = v } ∷ []) ≡ Some v)
        → (b : Bool) → same_text pool p.name name ≡ b → next b (place_of pool name ps) ≡ None → named pool name (p ∷ ps ++ record { name = name; value = v } ∷ []) ≡ Some v
    by more true same f = cc
    by more false same f =
        named-cons pool name p (ps ++ record { name = name; value = v } ∷ [])
        ∙ ap (λ b. behind b p.value (named pool name (ps ++ record { name = name; value = v } ∷ []))) same
        ∙ more (none-inner (place_of pool name ps) f)

-- the properties with another value at the place of the name
pub named-kept : (pool : Texts) (name other : Span) (v : Value) → same_text pool name other ≡ false → (ps : List Property) (place : ℕ) → place_of pool name ps ≡ Some place
    → named pool other (with_value ps place v) ≡ named pool other ps
named-kept pool name other v differ [] place e = cc
named-kept pool name other v differ (p ∷ ps) place e =
    by (named-kept pool name other v differ ps) (same_text pool p.name name) refl place (sym (position-cons (λ q. same_text pool q.name name) p ps) ∙ e)
  where
    by : ((k : ℕ) → place_of pool name ps ≡ Some k → named pool other (with_value ps k v) ≡ named pool other ps)
        → (b : Bool) → same_text pool p.name name ≡ b → (place : ℕ) → next b (place_of pool name ps) ≡ Some place → named pool other (with_value (p ∷ ps) place v) ≡ named pool other (p ∷ ps)
    by more true same zero f =
        let apart : same_text pool p.name other ≡ false = unlike pool p.name name other same differ in
        named-cons pool other (record { name = p.name; value = v }) ps
        ∙ ap (λ b. behind b v (named pool other ps)) apart
        ∙ sym (ap (λ b. behind b p.value (named pool other ps)) apart)
        ∙ sym (named-cons pool other p ps)
    by more true same (suc k) f = cc
    by more false same zero f = absurd (not-first (place_of pool name ps) f)
      where
        not-first : (o : Option ℕ) → option_map suc o ≡ Some zero → ⊥
        not-first None f = cc
        not-first (Some j) f = cc
    by more false same (suc k) f =
        named-cons pool other p (with_value ps k v)
        ∙ ap (λ o. behind (same_text pool p.name other) p.value o) (more k (place-inner (place_of pool name ps) k f))
        ∙ sym (named-cons pool other p ps)

-- the properties with one of another name behind them
pub named-behind : (pool : Texts) (other : Span) (p : Property) → same_text pool p.name other ≡ false → (ps : List Property) → named pool other (ps ++ p ∷ []) ≡ named pool other ps
named-behind pool other p differ [] = named-cons pool other p [] ∙ ap (λ b. behind b p.value None) differ
named-behind pool other p differ (q ∷ ps) =
    named-cons pool other q (ps ++ p ∷ [])
    ∙ ap (λ o. behind (same_text pool q.name other) q.value o) (named-behind pool other p differ ps)
    ∙ sym (named-cons pool other q ps)

-- THE WORLD

slice_get-there : {X : Type 0} (xs : List X) (i : ℕ) → i < length xs → slice_get xs i ≡ None → ⊥
slice_get-there [] i h e = omega (arith, h)
slice_get-there (x ∷ xs) zero h e = cc
slice_get-there (x ∷ xs) (suc i) h e = slice_get-there xs i (omega arith) e

slice_get-set : {X : Type 0} (xs : List X) (i : ℕ) (x y : X) → slice_get xs i ≡ Some x → slice_get (slice_set xs i y) i ≡ Some y
slice_get-set [] i x y e = cc
slice_get-set (z ∷ xs) zero x y e = refl
slice_get-set (z ∷ xs) (suc i) x y e = slice_get-set xs i x y e

slice_get-other : {X : Type 0} (xs : List X) (i j : ℕ) (y : X) → (i ≡ j → ⊥) → slice_get (slice_set xs i y) j ≡ slice_get xs j
slice_get-other [] i j y apart = refl
slice_get-other (z ∷ xs) zero zero y apart = absurd (apart refl)
slice_get-other (z ∷ xs) zero (suc j) y apart = refl
slice_get-other (z ∷ xs) (suc i) zero y apart = refl
slice_get-other (z ∷ xs) (suc i) (suc j) y apart = slice_get-other xs i j y (λ e. apart (ap suc e))

-- an object of the world is there
object_at-there : (w : World) (n : ℕ) → IsObject w n → object_at w n ≡ None → ⊥
object_at-there w n is e = by (nat_lt n 128) refl e
  where
    by : (b : Bool) → nat_lt n 128 ≡ b → cond b None (slice_get w.objects (n - 128)) ≡ None → ⊥
    by true h f = absurd (grind (arith, nat_tests, is.0))
    by false h f = slice_get-there w.objects (n - 128) (omega (arith, is.0, is.1)) f

-- its number is not that of a built-in
object_at-from : (w : World) (n : ℕ) (o : Object) → object_at w n ≡ Some o → (128 ≤ n) × (slice_get w.objects (n - 128) ≡ Some o)
object_at-from w n o e = by (nat_lt n 128) refl e
  where
    by : (b : Bool) → nat_lt n 128 ≡ b → cond b None (slice_get w.objects (n - 128)) ≡ Some o → (128 ≤ n) × (slice_get w.objects (n - 128) ≡ Some o)
    by true h f = cc
    by false h f = (grind (arith, nat_tests), f)

object_at-is : (w : World) (n : ℕ) → 128 ≤ n → object_at w n ≡ slice_get w.objects (n - 128)
object_at-is w n h = let low : nat_lt n 128 ≡ false = grind (arith, nat_tests) in ap (λ b. cond b None (slice_get w.objects (n - 128))) low

object_at-set : (w : World) (n : ℕ) (old new : Object) → object_at w n ≡ Some old → object_at (with_object w n new) n ≡ Some new
object_at-set w n old new e =
    let from = object_at-from w n old e in
    object_at-is (with_object w n new) n from.0 ∙ slice_get-set w.objects (n - 128) old new from.1

object_at-other : (w : World) (n m : ℕ) (old new : Object) → object_at w n ≡ Some old → (m ≡ n → ⊥) → object_at (with_object w n new) m ≡ object_at w m
object_at-other w n m old new e apart = by (nat_lt m 128) refl
  where
    by : (b : Bool) → nat_lt m 128 ≡ b → cond b None (slice_get (slice_set w.objects (n - 128) new) (m - 128)) ≡ cond b None (slice_get w.objects (m - 128))
    by true h = refl
    by false h =
        slice_get-other w.objects (n - 128) (m - 128) new
        (λ same. let from = object_at-from w n old e in let high : 128 ≤ m = grind (arith, nat_tests) in apart (omega (arith, same, from.0, high)))

-- the object with its properties changed
own-set : (w : World) (n : ℕ) (name : Span) (o : Object) (ps : List Property) → object_at w n ≡ Some o → own (with_object w n (record o { properties = ps })) n name ≡ named w.pool name ps
own-set w n name o ps e = ap (λ x. option_and_then (λ y. named w.pool name y.properties) x) (object_at-set w n o (record o { properties = ps }) e)

-- the properties after the name was put: the value at its place, or a property more
abbrev IsPut : World → Span → Value → List Property → List Property → Type 0
IsPut w name v before after =
    ((place : ℕ) × (place_of w.pool name before ≡ Some place) × (after ≡ with_value before place v))
    ⊎ ((place_of w.pool name before ≡ None) × (after ≡ before ++ record { name = name; value = v } ∷ []))

-- the world after it, but for what was charged
abbrev HasPut : World → World → ℕ → Span → Value → Object → Type 0
HasPut w next n name v o =
    (after : List Property) × (cells : ℕ) × (next ≡ with_object (record w { cells = cells }) n (record o { properties = after })) × IsPut w name v o.properties after

put-there : (w next : World) (n : ℕ) (name : Span) (v : Value) (o : Object) → object_at w n ≡ Some o → put w n name v ≡ Some next → HasPut w next n name v o
put-there w next n name v o e done = by (place_of w.pool name o.properties) refl (sym (ap (put_in w n name v) e) ∙ done)
  where
    by : (p : Option ℕ) → place_of w.pool name o.properties ≡ p → put_at w n name v o p ≡ Some next → HasPut w next n name v o
    by (Some place) is f = (with_value o.properties place v, w.cells, cc, inl (place, is, refl))
    by None is f = charged (nat_le (w.cells + 1) w.limit) f
      where
        charged : (b : Bool) → cond b (Some (with_object (paid 1 w) n (record o { properties = o.properties ++ record { name = name; value = v } ∷ [] }))) None ≡ Some next → HasPut w next n name v o
        charged true f = (o.properties ++ record { name = name; value = v } ∷ [], w.cells + 1, cc, inr (is, refl))
        charged false f = cc

-- what is put is read
pub put_read : PutsAreRead
put_read w next n name v is done = by (object_at w n) refl
  where
    by : (o : Option Object) → object_at w n ≡ o → own next n name ≡ Some v
    by None e = absurd (object_at-there w n is e)
    by (Some o) e = found (put-there w next n name v o e done)
      where
        found : HasPut w next n name v o → own next n name ≡ Some v
        found (ps, cells, is, inl (place, at, same)) =
            ap (λ x. own x n name) is ∙ own-set (record w { cells = cells }) n name o ps e ∙ ap (named w.pool name) same ∙ named-changed w.pool name v o.properties place at
        found (ps, cells, is, inr (none, same)) =
            ap (λ x. own x n name) is ∙ own-set (record w { cells = cells }) n name o ps e ∙ ap (named w.pool name) same ∙ named-added w.pool name v o.properties none

-- no other property changes
pub put_leaves : PutsLeaveOthers
put_leaves w next n m name other v apart done = by (object_at w n) refl
  where
    here : (o : Object) → object_at w n ≡ Some o → m ≡ n → HasPut w next n name v o → own next n other ≡ own w n other
    here o e same (ps, cells, is, how) =
        ap (λ x. own x n other) is ∙ own-set (record w { cells = cells }) n other o ps e ∙ kept how
        ∙ sym (ap (λ x. option_and_then (λ y. named w.pool other y.properties) x) e)
      where
        kept : IsPut w name v o.properties ps → named w.pool other ps ≡ named w.pool other o.properties
        kept (inl (place, at, changed)) = ap (named w.pool other) changed ∙ named-kept w.pool name other v (apart same) o.properties place at
        kept (inr (none, added)) = ap (named w.pool other) added ∙ named-behind w.pool other (record { name = name; value = v }) (apart same) o.properties

    elsewhere : (o : Object) → object_at w n ≡ Some o → (m ≡ n → ⊥) → HasPut w next n name v o → own next m other ≡ own w m other
    elsewhere o e differ (ps, cells, is, how) =
        ap (λ x. own x m other) is
        ∙ ap (λ x. option_and_then (λ y. named w.pool other y.properties) x) (object_at-other (record w { cells = cells }) n m o (record o { properties = ps }) e differ)

    by : (o : Option Object) → object_at w n ≡ o → own next m other ≡ own w m other
    by None e = let stays : Some w ≡ Some next = sym (ap (put_in w n name v) e) ∙ done in cc
    by (Some o) e = which (nat_eq m n) refl (put-there w next n name v o e done)
      where
        which : (b : Bool) → nat_eq m n ≡ b → HasPut w next n name v o → own next m other ≡ own w m other
        which true h has = let same : m ≡ n = grind (arith, nat_tests) in subst (λ k. own next k other ≡ own w k other) (sym same) (here o e same has)
        which false h has = elsewhere o e (λ same. grind (arith, nat_tests)) has
