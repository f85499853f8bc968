use Rattle.std.proofs.Common.{None, arith}
use Rattle.rip_early.specs.Mistakes.{placed_entry}
use Rattle.rip_early.proofs.Repeating.{placed-more}
use Rattle.rip_early.proofs.duplicates.placed_entries.Goals as goal

pub loop-child-preserved : goal.loop-child-preserved
loop-child-preserved c =
    placed-more (placed_entry c.args.tree.now) c.args.tree.now c.children-links.result.now c.loop-child.child-index None c.loop-child.names.items c.push_any.new.names.items c.in_ok-placed_entry.field-0 (omega arith)
    c.in_ok-push_any.ensures c.loop-child.invariant c.in_ok-placed_entry.ensures
