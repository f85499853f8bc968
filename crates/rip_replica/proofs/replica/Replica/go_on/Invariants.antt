use Rattle.std.proofs.Common.{◌≡◌, ℕ, ◌+◌, List, length, IsTrue}
use Rattle.rip_heap.specs.Growth.{Grows}
use Rattle.rip_replica.specs.SchedulerRooms.{HasRooms}
use Rattle.rip_history.specs.Services.{Called, Service}
use Rattle.rip_replica.specs.Numbers.{KeepsServed, KeepsSteps}
use Rattle.rip_replica.specs.Parts.{Doing}
use Rattle.rip_replica.specs.Rooms.{IsRoomed}
use Rattle.rip_replica.specs.Slices.{Agrees}
use Rattle.rip_replica.specs.Standing.{Ahead, Behind, Stands, spot, turns_left}
use Rattle.rip_replica.proofs.SliceLemmas.{Went}
use Rattle.rip_replica.proofs.replica.Replica.go_on.Given as goal

abbrev pub invariant-loop-units : goal.invariant-loop-units
invariant-loop-units g l = record {
  fits : g.H.Host.fits l.self.host l.self.heap;
  grows : Grows l.fn.self.heap l.self.heap;
  number : l.self.number ≡ l.fn.self.number;
  batch : l.self.runner.planner.batch ≡ l.fn.self.runner.planner.batch;
  went : (d : Doing _ _) (next : Behind _) (from base : ℕ) (ahead : Ahead _) (service : Service) (calls : List Called)
      → Agrees d g.I.Works.fact g.I.Works.served g.I.Works.ending
      → Stands (g.E.Evaluator.evaluation l.program) d g.I.Works.may_serve l.fn.self.number next (spot g.I.Items.item_plan g.I.Items.under_way l.fn.self) from base from ahead
      → g.V.Service.replies_as l.fn.service service calls
      → Went (g.E.Evaluator.evaluation l.program) d g.I.Works.may_serve l.fn.self.number next from base (from + l.slice.units) ahead service calls l.slice l.fn.made
      (spot g.I.Items.item_plan g.I.Items.under_way l.self) l.left l.made (g.V.Service.replies_as l.service service);
  page : (number : _ → ℕ) → KeepsSteps (g.E.Evaluator.evaluation l.program) g.I.Items.under_way number → KeepsServed g.I.Works.served number
      → number l.self.host ≡ number l.fn.self.host;
  rooms : IsRoomed (g.E.Evaluator.evaluation l.program) g.E.Evaluator.has_room g.I.Items.room g.I.Items.need g.I.Items.under_way g.I.Works.served (IsTrue g.H.Host.may_want_memory) l.fn.self.runner l.fn.self.host
      → HasRooms (g.E.Evaluator.evaluation l.program) g.E.Evaluator.has_room (λ p. g.I.Items.room p.items) g.I.Items.need l.self.runner l.self.host;
}

abbrev pub decreases-loop-units : goal.decreases-loop-units
decreases-loop-units g l = turns_left (length l.self.runner.planner.batch.items) l.self.place l.self.runner.planner.begun
