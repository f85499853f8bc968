-- A plan that is gone on with: what is left of it, and what each call leaves.
use Rattle.std.specs.Prelude.{◌≡◌, ℕ, ◌+◌, ◌*◌, ◌<◌, ◌≤◌, List, [], ◌++◌}
use Rattle.rip_heap.specs.World.{World}
use Rattle.rip_eval_rows.specs.declared.step.Phase.{Phase}
use Rattle.rip_eval_rows.specs.declared.step.Phase.TheVariants.{Asking, Taking, Awaiting, Running, Over as IsOver}
use Rattle.rip_eval_rows.specs.Evaluation.{Evaluation}
use Rattle.rip_eval_rows.specs.Plan.{Plan, Takes, Awaits, Runs}
use Rattle.rip_eval_rows.specs.Started.{Started}
use Rattle.rip_replica.specs.declared.scheduler.runner.Moved.{Moved}
use Rattle.rip_replica.specs.declared.scheduler.runner.Moved.TheVariants.{On, Rests as Stays}
use Rattle.rip_replica.specs.declared.scheduler.runner.Rested.{Rested}
use Rattle.rip_replica.specs.declared.scheduler.runner.Rested.TheVariants.{Busy, Awaits as Waits, Finished, Unplanned, Unrun}
use Rattle.rip_replica.specs.declared.scheduler.runner.Runner.{Runner}
use Rattle.rip_replica.specs.Play.{Played, Closes, Holds, after_run, play}

-- a plan that is gone on with, where M is the evaluator's type and S the host's: the evaluator, what the planner means, the
-- phase, the fuel that is left to the item where no run goes on, and the fuel of an item
pub record Going (M S : Type 0) : Type 0 where
  pub evaluator : M
  pub plan : World → S → Plan S
  pub phase : Phase
  pub fuel : ℕ
  pub full : ℕ

-- what a runner goes on with, whose planner means this
abbrev pub going : {M P S : Type 0} → (P → World → S → Plan S) → Runner M P → Going M S
going plan r = record { evaluator = r.evaluator; plan = plan r.planner; phase = r.phase; fuel = r.fuel; full = r.full }

-- a plan with what is there: changes of the outside, fuel and units
abbrev pub plays : {M S : Type 0} → Evaluation M S → Going M S → Plan S → List (S → S) → ℕ → ℕ → Played S
plays e r plan gs fuel u = play (e.run r.evaluator) r.full plan gs fuel u

-- what is left of the plan, by where it stands: with these changes of the outside to come, and so many units
abbrev pub rest_in : {M S : Type 0} → Evaluation M S → Going M S → Phase → World → S → List (S → S) → ℕ → Played S
rest_in e r Asking w s gs u = plays e r (r.plan w s) gs r.fuel u
rest_in e r Taking w s gs u = plays e r (Takes w s (r.plan w s)) gs r.fuel u
rest_in e r Awaiting w s gs u = plays e r (Awaits w s (r.plan w)) gs r.fuel u
rest_in e r (Running item) w s gs u =
    after_run item (e.left r.evaluator w s u) gs (e.fuel r.evaluator) u (λ f v x q. plays e r (r.plan x q) gs f v)
rest_in e r (IsOver close) w s gs u = Closes close gs r.fuel u w s

-- what is left of the plan
abbrev pub rest : {M S : Type 0} → Evaluation M S → Going M S → World → S → List (S → S) → ℕ → Played S
rest e r w s gs u = rest_in e r r.phase w s gs u

-- runs mean what they meant, and an item has the same fuel
abbrev pub Keeps : {M S : Type 0} → Evaluation M S → Going M S → Going M S → Type 0
Keeps e r r' = (e.run r'.evaluator ≡ e.run r.evaluator) × (r'.full ≡ r.full)

-- how much of the depth is open: only while a run goes on there is any
abbrev pub depth_in : {M S : Type 0} → Evaluation M S → M → Phase → ℕ
depth_in e m Asking = 0
depth_in e m Taking = 0
depth_in e m Awaiting = 0
depth_in e m (Running item) = e.in_use m
depth_in e m (IsOver close) = 0

-- what is left, in any course of things, is what was left n units before, of which u are not spent, and before these
-- changes of the outside
abbrev pub LeadsWith : {M S : Type 0} → Evaluation M S → List (S → S) → Going M S → World → S → ℕ → Going M S → World → S → ℕ → Type 0
LeadsWith e changes r w s n r' w' s' u =
    (gs : List _) (k : ℕ) → rest e r' w' s' gs (u + k) ≡ rest e r w s (changes ++ gs) (n + k)

-- the plan is cut after n units and these changes of the outside
abbrev pub IsCut : {M S : Type 0} → Evaluation M S → List (S → S) → Going M S → World → S → ℕ → Going M S → World → S → Type 0
IsCut e changes r w s n r' w' s' =
    (gs : List _) → rest e r w s (changes ++ gs) n ≡ Holds (depth_in e r'.evaluator r'.phase) w' s'

-- what n units and these changes of the outside leave: a plan that is cut after exactly these; or that waits for the
-- outside; or that is over; or whose next step wants memory; each with the units that are not spent, and what is left is
-- what was left, later. Of a run that wanted memory nothing is said
abbrev pub Rests : {M S : Type 0} → Evaluation M S → List (S → S) → Going M S → World → S → ℕ → Going M S → World → S → Rested → Type 0
Rests e changes r w s n r' w' s' Busy = IsCut e changes r w s n r' w' s' × LeadsWith e changes r w s n r' w' s' 0
Rests e changes r w s n r' w' s' (Waits u) = (r'.phase ≡ Awaiting) × LeadsWith e changes r w s n r' w' s' u
Rests e changes r w s n r' w' s' (Finished close u) = (r'.phase ≡ IsOver close) × LeadsWith e changes r w s n r' w' s' u
Rests e changes r w s n r' w' s' (Unplanned u) = (r'.phase ≡ Asking) × LeadsWith e changes r w s n r' w' s' u
Rests e changes r w s n r' w' s' (Unrun item) = Unit {0}

-- units that are not spent, of n
abbrev pub IsWithin : ℕ → Rested → Type 0
IsWithin n Busy = Unit {0}
IsWithin n (Waits u) = u ≤ n
IsWithin n (Finished close u) = u ≤ n
IsWithin n (Unplanned u) = u ≤ n
IsWithin n (Unrun item) = Unit {0}

-- what is left to do within a phase
abbrev pub weight : Phase → ℕ
weight Asking = 1
weight Taking = 2
weight Awaiting = 2
weight (Running item) = 2
weight (IsOver close) = 0

-- a bound of the turns of a runner, whose planner has at most so many steps left: no unit counts here
abbrev pub turns : ℕ → Phase → ℕ
turns steps phase = 2 * steps + weight phase

-- TURNS

-- what one turn leaves
abbrev pub Moves : {M S : Type 0} → Evaluation M S → Going M S → World → S → ℕ → Going M S → World → S → Moved → Type 0
Moves e r w s n r' w' s' (On u) = LeadsWith e [] r w s n r' w' s' u
Moves e r w s n r' w' s' (Stays rested) = Rests e [] r w s n r' w' s' rested

-- what a turn that begins a run leaves, whatever the host: the run with this plan after it; or nothing is said
abbrev pub BeginsRun : {M S : Type 0} → Evaluation M S → ℕ → Started → Going M S → World → ℕ → Going M S → World → Moved → Type 0
BeginsRun e item start r w n r' w' (On u) =
    (u ≡ n) × ((s : _) (gs : List _) (k : ℕ) → rest e r' w' s gs k ≡ plays e r (Runs item start w s r.plan) gs r.fuel k)
BeginsRun e item start r w n r' w' (Stays Busy) = ⊥
BeginsRun e item start r w n r' w' (Stays (Waits u)) = ⊥
BeginsRun e item start r w n r' w' (Stays (Finished close u)) = ⊥
BeginsRun e item start r w n r' w' (Stays (Unplanned u)) = ⊥
BeginsRun e item start r w n r' w' (Stays (Unrun at)) = Unit {0}

-- a turn takes no more units than there are
abbrev pub IsWithinTurn : ℕ → Moved → Type 0
IsWithinTurn n (On u) = u ≤ n
IsWithinTurn n (Stays rested) = IsWithin n rested

-- a turn after which the runner goes on is one of the turns that were left; one after which it stands adds none
abbrev pub IsOnward : Moved → ℕ → ℕ → Type 0
IsOnward (On u) new old = new < old
IsOnward (Stays rested) new old = new ≤ old
