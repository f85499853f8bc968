-- What runs and items are asked to keep, so that their units count.
use Rattle.std.specs.Prelude.{◌≡◌, ℕ, ◌+◌, ◌-◌, ◌<◌, ◌≤◌, min, Bool, true}
use Rattle.rip_heap.specs.World.{World}
use Rattle.rip_eval_rows.specs.declared.close.Close.TheVariants.{Fine}
use Rattle.rip_eval_rows.specs.Cut.{run_of}
use Rattle.rip_eval_rows.specs.Evaluation.{IsEnded, IsLater, Reached, Passes, Breaks, Pauses, reached}
use Rattle.rip_eval_rows.specs.Plan.{IsPlain, Plan, Over, Takes, Awaits, Runs}
use Rattle.rip_eval_rows.specs.Row.{Row, Table}
use Rattle.rip_eval_rows.specs.Run.{Calling}
use Rattle.rip_eval_rows.specs.Started.{Started}
use Rattle.rip_history.specs.Parts.{Fact, passes, serves, finishes}

-- a run leaves no more units than it had
abbrev pub LeavesAtMost : {S : Type 0} → ℕ → Reached S → Type 0
LeavesAtMost most (Passes u w s) = u ≤ most
LeavesAtMost most (Breaks stop u w s) = u ≤ most
LeavesAtMost most (Pauses open_depth w s) = Unit {0}

-- where it comes to its end, it leaves fewer than so many units
abbrev pub LeavesLess : {S : Type 0} → ℕ → Reached S → Type 0
LeavesLess most (Passes u w s) = u < most
LeavesLess most (Breaks stop u w s) = u < most
LeavesLess most (Pauses open_depth w s) = Unit {0}

-- a run that is cut wants one unit more at least
abbrev pub WantsMore : {S : Type 0} → ℕ → Reached S → Reached S → Type 0
WantsMore more (Passes u w s) later = Unit {0}
WantsMore more (Breaks stop u w s) later = Unit {0}
WantsMore more (Pauses open_depth w s) later = LeavesLess more later

-- runs count their units: what they leave is what they had and did not need, whatever more there is; with as many units as
-- fuel they come to their end
pub record CountsUnits {S : Type 0} (run : Started → World → S → ℕ → ℕ → Reached S) : Type 0 where
  pub once : (start : Started) (w : World) (s : S) (fuel u k : ℕ) → IsLater (min (u + k) fuel - min u fuel) (run start w s fuel u) (run start w s fuel (u + k))
  pub ends : (start : Started) (w : World) (s : S) (fuel u : ℕ) → fuel ≤ u → IsEnded (run start w s fuel u)
  pub lent : (start : Started) (w : World) (s : S) (fuel u : ℕ) → LeavesAtMost (min u fuel) (run start w s fuel u)
  pub cut : (start : Started) (w : World) (s : S) (fuel u k : ℕ) → WantsMore (min (u + k) fuel - min u fuel) (run start w s fuel u) (run start w s fuel (u + k))

-- a call that waits to be served, with a page of which this is true, is over and fine then; else it ends the session
abbrev pub IsCallPlan : {S : Type 0} → (S → Bool) → Plan S → Type 0
IsCallPlan may (Over close w s) = ¬ (close ≡ Fine)
IsCallPlan may (Takes w s plan) = ⊥
IsCallPlan may (Awaits w s go) = (may s ≡ true) × ((r : _) → go r ≡ Over Fine w r)
IsCallPlan may (Runs item start w s go) = ⊥

-- an item that comes to this has such a plan: only a call waits or ends with a mismatch, and no item takes a unit but for its
-- fuel
abbrev pub IsItemPlan : {S : Type 0} → (S → Bool) → Fact → Plan S → Type 0
IsItemPlan may passes plan = IsPlain plan
IsItemPlan may (serves number name args) plan = IsCallPlan may plan
IsItemPlan may (finishes how) plan = ⊥

-- a plan that waits, or is over, does so in this world and with this page
abbrev pub StandsStill : {S : Type 0} → World → S → Plan S → Type 0
StandsStill w s (Over close x r) = (x ≡ w) × (r ≡ s)
StandsStill w s (Takes x r plan) = Unit {0}
StandsStill w s (Awaits x r go) = (x ≡ w) × (r ≡ s)
StandsStill w s (Runs item start x r go) = Unit {0}

-- a call that begins in this world and with this page changes neither before it is served
abbrev pub IsStill : {S : Type 0} → Fact → World → S → Plan S → Type 0
IsStill passes w s plan = Unit {0}
IsStill (serves number name args) w s plan = StandsStill w s plan
IsStill (finishes how) w s plan = Unit {0}

-- runs of rows with fuel leave no more units than they had, and one that is cut wants more
abbrev pub RunsWant : Type 0 → Type 0
RunsWant S = (h : Calling S) (t : Table) (depth room : ℕ) (row : Row) (s : S) (fuel u k : ℕ)
    → LeavesAtMost (min u fuel) (reached depth (run_of h t room row s fuel u))
    × WantsMore (min (u + k) fuel - min u fuel) (reached depth (run_of h t room row s fuel u)) (reached depth (run_of h t room row s fuel (u + k)))
