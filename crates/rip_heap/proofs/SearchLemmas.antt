-- The first place of a text is the place at which the pattern stands and before which it stands nowhere.
use Rattle.std.proofs.Common.{◌≡◌, ℕ, zero, suc, ◌+◌, ◌<◌, ◌≤◌, ◌⊎◌, inl, inr, Bool, true, false, cond, List, [], ◌∷◌, length, take, drop, None, Some, refl, sym, ap, ◌∙◌, subst, arith, nat_eq}
use Rattle.std.specs.Prelude.{option_map}
use Rattle.std.specs.List.{starts_with}
use lib.Pointwise.{bytes_decides}
use Rattle.std.proofs.lemmas.Bool.{both_ways, cases_lt}
use Rattle.rip_heap.specs.Borders.{StandsAt}
use Rattle.rip_heap.specs.Search.{first_place}

begins : (pattern text : List ℕ) → StandsAt pattern text 0 → starts_with nat_eq text pattern ≡ true
begins pattern text stands = (bytes_decides pattern (take (length pattern) text)).1 (sym stands)

begins-not : (pattern text : List ℕ) → ¬ (StandsAt pattern text 0) → starts_with nat_eq text pattern ≡ false
begins-not pattern text differs = by (starts_with nat_eq text pattern) refl
  where
    by : (b : Bool) → starts_with nat_eq text pattern ≡ b → b ≡ false
    by true e = absurd (differs (sym ((bytes_decides pattern (take (length pattern) text)).0 e)))
    by false e = refl

pub first_place-found : (pattern text : List ℕ) (place : ℕ) → StandsAt pattern text place → ((q : ℕ) → q < place → ¬ (StandsAt pattern text q)) → first_place pattern text ≡ Some place
first_place-found pattern [] zero stands first = ap (λ b. cond b (Some 0) None) (begins pattern [] stands)
first_place-found pattern (u ∷ text) zero stands first = ap (λ b. cond b (Some 0) (option_map suc (first_place pattern text))) (begins pattern (u ∷ text) stands)
first_place-found pattern [] (suc place) stands first = absurd (first 0 (omega arith) stands)
first_place-found pattern (u ∷ text) (suc place) stands first =
    ap (λ b. cond b (Some 0) (option_map suc (first_place pattern text))) (begins-not pattern (u ∷ text) (first 0 (omega arith)))
    ∙ ap (option_map suc) (first_place-found pattern text place stands (λ q low s. first (suc q) (omega arith) s))

pub first_place-none : (pattern text : List ℕ) → ((q : ℕ) → ¬ (StandsAt pattern text q)) → first_place pattern text ≡ None
first_place-none pattern [] nowhere = ap (λ b. cond b (Some 0) None) (begins-not pattern [] (nowhere 0))
first_place-none pattern (u ∷ text) nowhere =
    ap (λ b. cond b (Some 0) (option_map suc (first_place pattern text))) (begins-not pattern (u ∷ text) (nowhere 0))
    ∙ ap (option_map suc) (first_place-none pattern text (λ q s. nowhere (suc q) s))

-- the empty pattern stands at once
pub first_place-empty : (pattern text : List ℕ) → length pattern ≡ 0 → first_place pattern text ≡ Some 0
first_place-empty [] [] e = refl
first_place-empty [] (u ∷ text) e = refl
first_place-empty (p ∷ pattern) text e = absurd (omega (arith, e))

-- TRIED PLACE BY PLACE

pub tried-here : (pattern text : List ℕ) (place : ℕ) → starts_with nat_eq (drop place text) pattern ≡ true → ((q : ℕ) → q < place → ¬ (StandsAt pattern text q)) → first_place pattern text ≡ Some place
tried-here pattern text place e before = first_place-found pattern text place (sym ((bytes_decides pattern (take (length pattern) (drop place text))).0 e)) before

pub tried-not : (pattern text : List ℕ) (place : ℕ) → starts_with nat_eq (drop place text) pattern ≡ false → ((q : ℕ) → q < place → ¬ (StandsAt pattern text q)) → (q : ℕ) → q < place + 1 → ¬ (StandsAt pattern text q)
tried-not pattern text place e before q low stands = by (cases_lt q place)
  where
    by : (q < place) ⊎ (place ≤ q) → ⊥
    by (inl h) = before q h stands
    by (inr h) = let at : q ≡ place = omega arith in both_ways _ e (begins pattern (drop place text) (subst (StandsAt pattern text) at stands))
