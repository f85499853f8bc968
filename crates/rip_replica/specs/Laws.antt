-- What holds of every plan that is played.
use Rattle.std.specs.Prelude.{◌≡◌, ℕ, ◌+◌, ◌≤◌, List, ◌++◌}
use Rattle.rip_heap.specs.World.{World}
use Rattle.rip_eval_rows.specs.Evaluation.{Evaluation}
use Rattle.rip_eval_rows.specs.Plan.{IsPlain, Plan, and_then}
use Rattle.rip_replica.specs.Going.{Going, LeadsWith, rest}
use Rattle.rip_replica.specs.Play.{Played, Closes, Holds, followed, play}

-- what is left is what is left of this batch after j units and these changes of the outside
abbrev pub StandsAt : {M S : Type 0} → Evaluation M S → (List (S → S) → ℕ → Played S) → List (S → S) → ℕ → Going M S → World → S → Type 0
StandsAt e batch changes j r w s = (gs : List _) (k : ℕ) → rest e r w s gs k ≡ batch (changes ++ gs) (j + k)

-- the cut law: where it stood at a batch, it stands n units later there, with what was changed in between
abbrev pub CutsAdd : {M S : Type 0} → Evaluation M S → Going M S → World → S → Type 0
CutsAdd e r w s =
    (batch : List _ → ℕ → Played _) (changes new : List _) (j n : ℕ) (r' : Going _ _) (w' : World) (s' : _)
    → StandsAt e batch changes j r w s → LeadsWith e new r w s n r' w' s' 0 → StandsAt e batch (changes ++ new) (j + n) r' w' s'

-- a plan that has closed closes alike with so many units more, and needs none of them
abbrev pub IsPlayedLater : {S : Type 0} → ℕ → Played S → Played S → Type 0
IsPlayedLater more (Closes close gs fuel u w s) later = later ≡ Closes close gs fuel (u + more) w s
IsPlayedLater more (Holds open_depth w s) later = Unit {0}

-- a number of units at or above the cost of a plan stands for its end
abbrev pub PlaysOnce : {M S : Type 0} → Evaluation M S → M → Type 0
PlaysOnce e m = (full : ℕ) (plan : Plan _) (gs : List _) (fuel u k : ℕ) →
    IsPlayedLater k (play (e.run m) full plan gs fuel u) (play (e.run m) full plan gs fuel (u + k))

-- the plan has closed
abbrev pub IsClosed : {S : Type 0} → Played S → Type 0
IsClosed (Closes close gs fuel u w s) = Unit {0}
IsClosed (Holds open_depth w s) = ⊥

-- a plan that takes no unit but for fuel, and waits for nothing, closes where there are as many units as fuel
abbrev pub PlainCloses : {M S : Type 0} → Evaluation M S → M → Type 0
PlainCloses e m = (full : ℕ) (plan : Plan _) (gs : List _) (fuel u : ℕ) →
    IsPlain plan → fuel ≤ u → IsClosed (play (e.run m) full plan gs fuel u)

-- one plan and then the next are played one after another: the next begins with what the first did not need
abbrev pub PlansFold : {M S : Type 0} → Evaluation M S → M → Type 0
PlansFold e m = (full : ℕ) (plan : Plan _) (next : World → _ → Plan _) (gs : List _) (fuel u : ℕ) →
    play (e.run m) full (and_then plan next) gs fuel u
    ≡ followed (play (e.run m) full plan gs fuel u) (λ hs f v x r. play (e.run m) full (next x r) hs f v)
