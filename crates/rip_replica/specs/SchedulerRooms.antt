-- The rooms with which a plan wants no memory.
use Rattle.std.specs.Prelude.{ℕ, ◌≤◌}
use Rattle.rip_eval_rows.specs.declared.step.Phase.{Phase}
use Rattle.rip_eval_rows.specs.declared.step.Phase.TheVariants.{Asking, Taking, Awaiting, Running, Over as IsOver}
use Rattle.rip_eval_rows.specs.Evaluation.{Evaluation}
use Rattle.rip_replica.specs.declared.scheduler.runner.Moved.{Moved}
use Rattle.rip_replica.specs.declared.scheduler.runner.Moved.TheVariants.{On, Rests as Stays}
use Rattle.rip_replica.specs.declared.scheduler.runner.Rested.{Rested}
use Rattle.rip_replica.specs.declared.scheduler.runner.Rested.TheVariants.{Busy, Awaits as Waits, Finished, Unplanned, Unrun}
use Rattle.rip_replica.specs.declared.scheduler.runner.Runner.{Runner}

-- the fuel that is left to the item, by the phase: while a run goes on the evaluator has it
abbrev pub fuel_in : {M P S : Type 0} → Evaluation M S → Runner M P → Phase → ℕ
fuel_in e r Asking = r.fuel
fuel_in e r Taking = r.fuel
fuel_in e r Awaiting = r.fuel
fuel_in e r (Running item) = e.fuel r.evaluator
fuel_in e r (IsOver close) = r.fuel

-- the evaluator has room for runs with the fuel of an item; no more fuel than that is left; and the planner has as much room
-- as its steps need at this host
pub record HasRooms {M P S : Type 0} (e : Evaluation M S) (has_room : M → ℕ → Type 0) (room : P → ℕ) (need : S → ℕ) (r : Runner M P)
    (s : S) : Type 0 where
  pub runs : has_room r.evaluator r.full
  pub fuel : fuel_in e r r.phase ≤ r.full
  pub steps : need s ≤ room r.planner

-- no memory is wanting
abbrev pub HasNoLack : Rested → Type 0
HasNoLack Busy = Unit {0}
HasNoLack (Waits u) = Unit {0}
HasNoLack (Finished close u) = Unit {0}
HasNoLack (Unplanned u) = ⊥
HasNoLack (Unrun item) = ⊥

-- the same of one turn
abbrev pub HasNoLackSo : Moved → Type 0
HasNoLackSo (On u) = Unit {0}
HasNoLackSo (Stays rested) = HasNoLack rested
