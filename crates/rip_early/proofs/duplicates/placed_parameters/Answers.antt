use Rattle.std.proofs.Common.{None, arith}
use Rattle.rip_early.specs.Mistakes.{placed_parameter}
use Rattle.rip_early.proofs.Repeating.{placed-more}
use Rattle.rip_early.proofs.duplicates.placed_parameters.Goals as goal

pub loop-child-preserved : goal.loop-child-preserved
loop-child-preserved c =
    placed-more (placed_parameter c.args.tree.now) c.args.tree.now c.children-links.result.now c.loop-child.child-index None c.loop-child.names.items c.push_any.new.names.items c.in_ok-placed_parameter.field-0 (omega arith)
    c.in_ok-push_any.ensures c.loop-child.invariant c.in_ok-placed_parameter.ensures
