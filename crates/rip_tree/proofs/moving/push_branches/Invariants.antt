use Rattle.std.proofs.Common.{◌≡◌, ◌++◌, length, map, take}
use Rattle.rip_tree.specs.Making.{branches_at, LieWithin}
use Rattle.rip_tree.specs.Program.{moved_branch}
use Rattle.rip_tree.proofs.moving.push_branches.Given as goal

abbrev pub invariant-loop-row : goal.invariant-loop-row
invariant-loop-row l = record {
  within : LieWithin (length l.links.items) l.rows.items;
  moved : branches_at l.links.items l.rows.items ≡ branches_at l.initial.links.items l.initial.rows.items ++ map (moved_branch l.by.there l.by.branches l.by.units) (branches_at l.tree_links (take l.row-index l.tree_rows));
}
