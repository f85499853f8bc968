-- The place at which a text is found is its first one (what `first_place` finds stands in the heap's crate).
use Rattle.std.proofs.Common.{◌≡◌, ℕ, zero, suc, ◌<◌, Bool, true, false, cond, List, [], ◌∷◌, length, take, Option, None, Some, refl, sym, subst, arith, nat_eq}
use Rattle.std.specs.Prelude.{option_map}
use Rattle.std.specs.List.{starts_with}
use lib.Pointwise.{bytes_decides}
use Rattle.rip_heap.specs.Borders.{StandsAt}
use Rattle.rip_heap.specs.Search.{first_place}
use Rattle.rip_builtins.specs.Laws.{IsFirstPlace}
use Rattle.std.proofs.lemmas.Bool.{both_ways}

begins : (pattern text : List ℕ) → StandsAt pattern text 0 → starts_with nat_eq text pattern ≡ true
begins pattern text stands = (bytes_decides pattern (take (length pattern) text)).1 (sym stands)

-- the first place is one
pub first_place-first : (pattern text : List ℕ) → IsFirstPlace pattern text (first_place pattern text)
first_place-first pattern [] = by (starts_with nat_eq [] pattern) refl
  where
    by : (b : Bool) → starts_with nat_eq [] pattern ≡ b → IsFirstPlace pattern [] (cond b (Some 0) None)
    by true e = (sym ((bytes_decides pattern (take (length pattern) [])).0 e), λ q low. absurd (omega (arith, low)))
    by false e = nowhere
      where
        nowhere : (q : ℕ) → ¬ (StandsAt pattern [] q)
        nowhere zero stands = both_ways _ e (begins pattern [] stands)
        nowhere (suc q) stands = both_ways _ e (begins pattern [] stands)
first_place-first pattern (u ∷ text) = by (first_place-first pattern text) (starts_with nat_eq (u ∷ text) pattern) refl (first_place pattern text) refl
  where
    by : IsFirstPlace pattern text (first_place pattern text) → (b : Bool) → starts_with nat_eq (u ∷ text) pattern ≡ b → (o : Option ℕ) → first_place pattern text ≡ o
        → IsFirstPlace pattern (u ∷ text) (cond b (Some 0) (option_map suc o))
    by h true e o f = (sym ((bytes_decides pattern (take (length pattern) (u ∷ text))).0 e), λ q low. absurd (omega (arith, low)))
    by h false e None f = below
      where
        h' : IsFirstPlace pattern text None
        h' = subst (IsFirstPlace pattern text) f h

        below : (q : ℕ) → ¬ (StandsAt pattern (u ∷ text) q)
        below zero stands = both_ways _ e (begins pattern (u ∷ text) stands)
        below (suc q) stands = h' q stands
    by h false e (Some place) f = (h'.0, before)
      where
        h' : IsFirstPlace pattern text (Some place)
        h' = subst (IsFirstPlace pattern text) f h

        before : (q : ℕ) → q < suc place → ¬ (StandsAt pattern (u ∷ text) q)
        before zero low stands = both_ways _ e (begins pattern (u ∷ text) stands)
        before (suc q) low stands = h'.1 q (omega arith) stands
