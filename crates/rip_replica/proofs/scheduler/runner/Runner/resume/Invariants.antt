use Rattle.std.proofs.Common.{◌≡◌, ℕ, ◌≤◌, [], IsTrue}
use Rattle.rip_heap.specs.Growth.{Grows}
use Rattle.rip_replica.specs.Going.{Keeps, LeadsWith, going, turns}
use Rattle.rip_replica.specs.SchedulerNumbers.{KeepsNumber}
use Rattle.rip_replica.specs.SchedulerRooms.{HasRooms}
use Rattle.rip_replica.proofs.scheduler.runner.Runner.resume.Given as goal

abbrev pub invariant-loop-units : goal.invariant-loop-units
invariant-loop-units g l = record {
  fits : g.H.Host.fits l.host l.heap;
  grows : Grows l.fn.heap l.heap;
  keeps : Keeps (g.E.Evaluator.evaluation l.program) (going g.P.Planner.plan l.fn.self) (going g.P.Planner.plan l.self);
  kept : g.P.Planner.kept l.fn.self.planner l.self.planner;
  leads : LeadsWith (g.E.Evaluator.evaluation l.program) [] (going g.P.Planner.plan l.fn.self) l.fn.heap l.fn.host l.fn.n (going g.P.Planner.plan l.self) l.heap l.host l.left;
  within : l.left ≤ l.fn.n;
  later : turns (g.P.Planner.steps l.self.planner) l.self.phase ≤ turns (g.P.Planner.steps l.fn.self.planner) l.fn.self.phase;
  number : (number : _ → ℕ) → KeepsNumber (g.E.Evaluator.evaluation l.program) g.P.Planner.plan number → number l.host ≡ number l.fn.host;
  memory : KeepsNumber (g.E.Evaluator.evaluation l.program) g.P.Planner.plan g.P.Planner.need → (IsTrue g.H.Host.may_want_memory → ⊥)
      → HasRooms (g.E.Evaluator.evaluation l.program) g.E.Evaluator.has_room g.P.Planner.room g.P.Planner.need l.fn.self l.fn.host
      → HasRooms (g.E.Evaluator.evaluation l.program) g.E.Evaluator.has_room g.P.Planner.room g.P.Planner.need l.self l.host;
}

abbrev pub decreases-loop-units : goal.decreases-loop-units
decreases-loop-units g l = turns (g.P.Planner.steps l.self.planner) l.self.phase
