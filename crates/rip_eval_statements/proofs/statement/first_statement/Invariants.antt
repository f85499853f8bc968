use Rattle.std.proofs.Common.{◌≡◌, ◌-◌, ◌^◌}
use Rattle.rip_heap.specs.World.{World}
use Rattle.rip_eval_rows.specs.declared.frame.Ending.{Ending}
use Rattle.rip_eval_language.specs.Reading.{children_from}
use Rattle.rip_eval_language.specs.Rows.Statements.{statements}
use Rattle.rip_eval_statements.proofs.statement.first_statement.Given as goal

abbrev pub invariant-loop-node : goal.invariant-loop-node
invariant-loop-node l = (ending : Ending) (w : World) → statements l.p l.at ending (children_from l.p l.at.node l.place) w ≡ statements l.p l.at ending (children_from l.p l.at.node l.from) w

abbrev pub decreases-loop-node : goal.decreases-loop-node
decreases-loop-node l = 2 ^ 32 - l.place
