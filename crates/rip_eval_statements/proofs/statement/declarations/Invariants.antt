use Rattle.std.proofs.Common.{◌≡◌, ◌-◌, ◌^◌}
use Rattle.rip_heap.specs.World.{World}
use Rattle.rip_eval_language.specs.Reading.{children_from}
use Rattle.rip_eval_language.specs.Rows.Statements.{declarations}
use Rattle.rip_eval_statements.proofs.statement.declarations.Given as goal

abbrev pub invariant-loop-d : goal.invariant-loop-d
invariant-loop-d l = (w : World) → declarations l.p l.at (children_from l.p l.list l.place) w ≡ declarations l.p l.at (children_from l.p l.list l.from) w

abbrev pub decreases-loop-d : goal.decreases-loop-d
decreases-loop-d l = 2 ^ 32 - l.place
