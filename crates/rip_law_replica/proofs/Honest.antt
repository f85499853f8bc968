-- Parts in which no session ends for a lie, and fronts of lists of batches.
use Rattle.std.proofs.Common.{◌≡◌, ℕ, zero, suc, ◌+◌, ◌-◌, ◌⊎◌, inl, inr, Bool, false, ◌||◌, List, [], ◌∷◌, ◌++◌, take, refl, ap, ◌∙◌}
use Rattle.std.specs.Prelude.{Some}
use Rattle.std.specs.List.{AllByRecursion}
use Rattle.rip_heap.specs.World.{World}
use Rattle.rip_eval_rows.specs.declared.close.Close.TheVariants.{Fine, Stopped}
use Rattle.rip_eval_rows.specs.declared.completion.Stop.{Stop}
use Rattle.rip_replica.specs.Play.{Closes}
use Rattle.rip_history.specs.Parts.{finishes, Part, Given}
use Rattle.rip_replica.specs.Parts.{Doing, after_item, first_given, given_behind, items_parts, part_of, whole_item}
use Rattle.rip_law_replica.specs.Truthful.{has_lie, is_lie}

abbrev pub Honest : List Part → Type 0
Honest ps = AllByRecursion (λ (p : Part). is_lie p.fact ≡ false) ps

pub honest_both : (ps qs : List Part) → Honest ps → Honest qs → Honest (ps ++ qs)
honest_both [] qs a b = b
honest_both (p ∷ ps) qs a b = (a.0, honest_both ps qs a.1 b)

neither : (a b : Bool) → a ≡ false → b ≡ false → (a || b) ≡ false
neither a b e f = ap (λ v. v || b) e ∙ f

pub no_lie : (ps : List Part) → Honest ps → has_lie ps ≡ false
no_lie [] h = refl
no_lie (p ∷ ps) h = neither (is_lie p.fact) (has_lie ps) h.0 (no_lie ps h.1)

-- a front of a list and one more is a front of the list, or all
pub front_cases : {X : Type 0} (k : ℕ) (xs : List X) (b : X) → (take k (xs ++ b ∷ []) ≡ take k xs) ⊎ (take k (xs ++ b ∷ []) ≡ xs ++ b ∷ [])
front_cases zero xs b = inl refl
front_cases (suc zero) [] b = inr refl
front_cases (suc (suc k)) [] b = inr refl
front_cases (suc k) (x ∷ xs) b = grown (front_cases k xs b)
  where
    grown : (take k (xs ++ b ∷ []) ≡ take k xs) ⊎ (take k (xs ++ b ∷ []) ≡ xs ++ b ∷ []) → (take (suc k) ((x ∷ xs) ++ b ∷ []) ≡ take (suc k) (x ∷ xs)) ⊎ (take (suc k) ((x ∷ xs) ++ b ∷ []) ≡ (x ∷ xs) ++ b ∷ [])
    grown (inl e) = inl (ap (λ ys. x ∷ ys) e)
    grown (inr e) = inr (ap (λ ys. x ∷ ys) e)

pub no_front : {X : Type 0} (k : ℕ) → ◌≡◌ {A = List X} (take k []) []
no_front zero = refl
no_front (suc k) = refl

-- ---- an item and those behind it

pub after_fine : {A S : Type 0} (d : Doing A S) (n : ℕ) (all : List A) (m cost : ℕ) (a : A) (ys : List A) (gs : List Given) (w x : World) (s r : S) (more : List (S → S)) (fuel left : ℕ) (next : List Given → World → S → List Part)
    → whole_item d n a m w s (first_given gs) ≡ Closes Fine more fuel left x r
    → items_parts d n all m cost (a ∷ ys) gs w s next ≡ part_of n m (cost + 1 + (d.full - left)) (d.fact a) ∷ items_parts d n all (m + 1) (cost + 1 + (d.full - left)) ys (given_behind (d.fact a) gs) x r next
after_fine d n all m cost a ys gs w x s r more fuel left next is =
    ap (λ v. after_item d n all m cost a v (λ spent y q. items_parts d n all (m + 1) spent ys (given_behind (d.fact a) gs) y q next)) is

pub after_stop : {A S : Type 0} (d : Doing A S) (n : ℕ) (all : List A) (m cost : ℕ) (a : A) (ys : List A) (gs : List Given) (w x : World) (s r : S) (item : ℕ) (stop : Stop) (more : List (S → S)) (fuel left : ℕ) (next : List Given → World → S → List Part)
    → whole_item d n a m w s (first_given gs) ≡ Closes (Stopped item stop) more fuel left x r
    → items_parts d n all m cost (a ∷ ys) gs w s next ≡ part_of n m (cost + 1 + (d.full - left)) (finishes (Some (d.ending all (Stopped item stop) r))) ∷ []
after_stop d n all m cost a ys gs w x s r item stop more fuel left next is =
    ap (λ v. after_item d n all m cost a v (λ spent y q. items_parts d n all (m + 1) spent ys (given_behind (d.fact a) gs) y q next)) is
