use Rattle.std.proofs.Common.{length, arith}
use Rattle.rip_tree.proofs.Reading.{LieWithin-row}
use Rattle.rip_tree.proofs.moving.push_branches.Goals as goal

pub range_of-children-requires-clause-order : goal.range_of-children-requires-clause-order
range_of-children-requires-clause-order c =
    (LieWithin-row (length c.args.tree_links.now) c.args.tree_rows.now c.loop-row.row-index c.row-item.result c.row-item.is c.requires.tree_within (omega arith)).0

pub range_of-children-requires-clause-within : goal.range_of-children-requires-clause-within
range_of-children-requires-clause-within c =
    (LieWithin-row (length c.args.tree_links.now) c.args.tree_rows.now c.loop-row.row-index c.row-item.result c.row-item.is c.requires.tree_within (omega arith)).1
