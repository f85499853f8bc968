-- What stands at an ordinal, when a list is changed.
use Rattle.std.proofs.Common.{◌≡◌, ℕ, zero, suc, ◌+◌, ◌-◌, ◌<◌, List, [], ◌∷◌, ◌++◌, length, map, Option, Some, None, refl, sym, ap, ◌∙◌, arith}
use Rattle.std.specs.Prelude.{slice_get, slice_set, is_some}
use Rattle.std.proofs.lemmas.Bool.{false≢true}
use Rattle.std.proofs.lemmas.Option.{slice_get_past, slice_get_within}
use Rattle.rip_table.specs.Ordinals.{get_at}

pub none_some : {A : Type 0} (x : A) → None ≡ Some x → ⊥
none_some x e = false≢true (ap (λ (o : Option _). is_some o) e)

before : (i : ℕ) → suc i - 1 ≡ i
before i = omega arith

module _ {X : Type 0} where
  -- what is at an ordinal is within the list
  pub at_within : (n : ℕ) (xs : List X) (x : X) → get_at n xs ≡ Some x → (i : ℕ) × (n ≡ suc i) × (i < length xs)
  at_within zero xs x e = absurd (none_some x e)
  at_within (suc i) xs x e = (i, refl, slice_get_within xs i x e)

  pub get_set : (xs : List X) (i : ℕ) (x : X) → i < length xs → slice_get (slice_set xs i x) i ≡ Some x
  get_set [] i x lt = absurd (omega (arith, lt))
  get_set (y ∷ xs) zero x lt = refl
  get_set (y ∷ xs) (suc i) x lt = get_set xs i x (omega (arith, lt))

  pub get_set_other : (xs : List X) (i j : ℕ) (x : X) → (i ≡ j → ⊥) → slice_get (slice_set xs i x) j ≡ slice_get xs j
  get_set_other [] i j x ne = refl
  get_set_other (y ∷ xs) zero zero x ne = absurd (ne refl)
  get_set_other (y ∷ xs) zero (suc j) x ne = refl
  get_set_other (y ∷ xs) (suc i) zero x ne = refl
  get_set_other (y ∷ xs) (suc i) (suc j) x ne = get_set_other xs i j x (λ e. ne (ap suc e))

  pub length_set : (xs : List X) (i : ℕ) (x : X) → length (slice_set xs i x) ≡ length xs
  length_set [] i x = refl
  length_set (y ∷ xs) zero x = refl
  length_set (y ∷ xs) (suc i) x = ap suc (length_set xs i x)

  -- another in its place
  pub at_set : (n : ℕ) (xs : List X) (y x : X) → get_at n xs ≡ Some y → get_at n (slice_set xs (n - 1) x) ≡ Some x
  at_set zero xs y x e = absurd (none_some y e)
  at_set (suc i) xs y x e =
      ap (λ (k : ℕ). slice_get (slice_set xs k x) i) (before i) ∙ get_set xs i x (slice_get_within xs i y e)

  pub at_set_other : (n k : ℕ) (xs : List X) (y x : X) → get_at n xs ≡ Some y → (n ≡ k → ⊥) → get_at k (slice_set xs (n - 1) x) ≡ get_at k xs
  at_set_other zero k xs y x e ne = absurd (none_some y e)
  at_set_other (suc i) zero xs y x e ne = refl
  at_set_other (suc i) (suc j) xs y x e ne =
      ap (λ (k : ℕ). slice_get (slice_set xs k x) j) (before i) ∙ get_set_other xs i j x (λ s. ne (ap suc s))

  get-more : (xs : List X) (x : X) (i : ℕ) → (i ≡ length xs → ⊥) → slice_get (xs ++ x ∷ []) i ≡ slice_get xs i
  get-more [] x zero ne = absurd (ne refl)
  get-more [] x (suc i) ne = refl
  get-more (y ∷ xs) x zero ne = refl
  get-more (y ∷ xs) x (suc i) ne = get-more xs x i (λ e. ne (ap suc e))

  get-new : (xs : List X) (x : X) (i : ℕ) → i ≡ length xs → slice_get (xs ++ x ∷ []) i ≡ Some x
  get-new [] x zero e = refl
  get-new [] x (suc i) e = absurd (omega (arith, e))
  get-new (y ∷ xs) x zero e = absurd (omega (arith, e))
  get-new (y ∷ xs) x (suc i) e = get-new xs x i (omega (arith, e))

  -- one more behind the others
  pub at_new : (xs : List X) (x : X) (n : ℕ) → n ≡ length xs + 1 → get_at n (xs ++ x ∷ []) ≡ Some x
  at_new xs x zero e = absurd (omega (arith, e))
  at_new xs x (suc i) e = get-new xs x i (omega (arith, e))

  pub at_more : (xs : List X) (x : X) (n : ℕ) → (n ≡ length xs + 1 → ⊥) → get_at n (xs ++ x ∷ []) ≡ get_at n xs
  at_more xs x zero ne = refl
  at_more xs x (suc i) ne = get-more xs x i (λ e. ne (omega (arith, e)))

  pub at_none : (xs : List X) (n : ℕ) → n ≡ length xs + 1 → get_at n xs ≡ None
  at_none xs zero e = refl
  at_none xs (suc i) e = slice_get_past xs i (omega (arith, e))

  -- what stands at a place is put there again
  pub set_same : (xs : List X) (i : ℕ) (x : X) → slice_get xs i ≡ Some x → slice_set xs i x ≡ xs
  set_same [] i x e = refl
  set_same (y ∷ xs) zero x e = let same : x ≡ y = cc in ap (λ (z : X). z ∷ xs) same
  set_same (y ∷ xs) (suc i) x e = ap (λ t. y ∷ t) (set_same xs i x e)

  -- so at an ordinal
  pub at_set_same : (n : ℕ) (xs : List X) (x : X) → get_at n xs ≡ Some x → slice_set xs (n - 1) x ≡ xs
  at_set_same zero xs x e = absurd (none_some x e)
  at_set_same (suc i) xs x e = ap (λ (k : ℕ). slice_set xs k x) (before i) ∙ set_same xs i x e

  pub map_set : {Y : Type 0} (f : X → Y) (xs : List X) (i : ℕ) (x : X) → map f (slice_set xs i x) ≡ slice_set (map f xs) i (f x)
  map_set f [] i x = refl
  map_set f (y ∷ xs) zero x = refl
  map_set f (y ∷ xs) (suc i) x = ap (λ t. f y ∷ t) (map_set f xs i x)

  map-kept : {Y : Type 0} (f : X → Y) (xs : List X) (i : ℕ) (y x : X) → slice_get xs i ≡ Some y → f x ≡ f y → map f (slice_set xs i x) ≡ map f xs
  map-kept f [] i y x e same = refl
  map-kept f (z ∷ xs) zero y x e same = let is : z ≡ y = cc in ap (λ t. t ∷ map f xs) (same ∙ sym (ap f is))
  map-kept f (z ∷ xs) (suc i) y x e same = ap (λ t. f z ∷ t) (map-kept f xs i y x e same)

  pub map_set_kept : {Y : Type 0} (f : X → Y) (n : ℕ) (xs : List X) (y x : X) → get_at n xs ≡ Some y → f x ≡ f y → map f (slice_set xs (n - 1) x) ≡ map f xs
  map_set_kept f zero xs y x e same = absurd (none_some y e)
  map_set_kept f (suc i) xs y x e same = ap (λ (k : ℕ). map f (slice_set xs k x)) (before i) ∙ map-kept f xs i y x e same
