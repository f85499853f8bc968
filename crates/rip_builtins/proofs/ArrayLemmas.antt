-- Elements that are read one by one.
use Rattle.std.proofs.Common.{◌≡◌, ℕ, zero, suc, ◌+◌, ◌<◌, ◌≤◌, Bool, true, false, cond, List, [], ◌∷◌, length, drop, Option, None, Some, Ok, ℤ, refl, sym, ap, ◌∙◌, arith, slice_get}
use Rattle.std.proofs.lemmas.List.{at_drop_all}
use Rattle.std.specs.Option.{option_map_or}
use Rattle.std.specs.List.{position_from}
use Rattle.rip_base.specs.declared.value.Value.{Value}
use Rattle.rip_values.specs.Pool.{Texts}
use Rattle.rip_builtins.specs.Arguments.{argument, integer_in, then_gives}
use Rattle.rip_builtins.specs.Arrays.{index_in, place_of_value}

-- the element at a place and those behind it
pub drop-at : {X : Type 0} (xs : List X) (place : ℕ) (x : X) → slice_get xs place ≡ Some x → drop place xs ≡ x ∷ drop (place + 1) xs
drop-at [] place x e = cc
drop-at (y ∷ xs) zero x e = ap (λ z. z ∷ xs) (let h : y ≡ x = cc in h)
drop-at (y ∷ xs) (suc place) x e =
    let more : suc place + 1 ≡ suc (place + 1) = omega arith in
    drop-at xs place x e ∙ ap (λ n. x ∷ drop n (y ∷ xs)) (sym more)

-- the search from a place on
pub search-found : {X : Type 0} (p : X → Bool) (xs : List X) (place : ℕ) → option_map_or p (slice_get xs place) false ≡ true → position_from p place (drop place xs) ≡ Some place
search-found {X} p xs place e = by (slice_get xs place) refl e
  where
    by : (o : Option X) → slice_get xs place ≡ o → option_map_or p o false ≡ true → position_from p place (drop place xs) ≡ Some place
    by None is h = cc
    by (Some x) is h = ap (position_from p place) (drop-at xs place x is) ∙ ap (λ b. cond b (Some place) (position_from p (place + 1) (drop (place + 1) xs))) h

pub search-more : {X : Type 0} (p : X → Bool) (xs : List X) (place : ℕ) → place < length xs → option_map_or p (slice_get xs place) false ≡ false
    → position_from p place (drop place xs) ≡ position_from p (place + 1) (drop (place + 1) xs)
search-more {X} p xs place within e = by (slice_get xs place) refl e
  where
    by : (o : Option X) → slice_get xs place ≡ o → option_map_or p o false ≡ false → position_from p place (drop place xs) ≡ position_from p (place + 1) (drop (place + 1) xs)
    by None is h = absurd (slice_get-there xs place within is)
      where
        slice_get-there : {X : Type 0} (xs : List X) (i : ℕ) → i < length xs → slice_get xs i ≡ None → ⊥
        slice_get-there [] i h e = omega (arith, h)
        slice_get-there (x ∷ xs) zero h e = cc
        slice_get-there (x ∷ xs) (suc i) h e = slice_get-there xs i (omega arith) e
    by (Some x) is h = ap (position_from p place) (drop-at xs place x is) ∙ ap (λ b. cond b (Some place) (position_from p (place + 1) (drop (place + 1) xs))) h

pub search-end : {X : Type 0} (p : X → Bool) (xs : List X) (place : ℕ) → length xs ≤ place → position_from p place (drop place xs) ≡ None
search-end p xs place past = at_drop_all (position_from p place) xs place past

-- of elements that there are, the place is asked for
pub index_in-from : (pool : Texts) (items args : List Value) (from : ℤ) → ¬ (length items ≡ 0) → Ok from ≡ integer_in pool (argument args 1)
    → index_in pool items args ≡ Ok (place_of_value pool (argument args 0) items from)
index_in-from pool [] args from some e = absurd (some refl)
index_in-from pool (item ∷ items) args from some e = ap (λ r. then_gives r (place_of_value pool (argument args 0) (item ∷ items))) (sym e)
