use Rattle.std.proofs.Common.{◌≡◌, ◌+◌, ◌++◌, length}
use Rattle.std.specs.List.{flat_map}
use Rattle.rip_tree.specs.Branches.{AreBetween, links_of}
use Rattle.rip_script.specs.Steps.{AreOpen, open_lines}
use Rattle.rip_script.specs.Texts.{child_lines, lines_below}
use Rattle.rip_script.proofs.draw.open_children.Given as goal

-- the lines of the children ahead, and of the branches that are open, are those of all children and of the branches that
-- were open before
abbrev pub invariant-loop-child : goal.invariant-loop-child
invariant-loop-child l = record {
  lines : flat_map (child_lines (λ child. lines_below (length l.tree.branches) l.tree.branches (l.branch.level + 1) child)) l.child-iterator.iter.rest.now ++ open_lines l.tree.branches l.stack.items
      ≡ flat_map (child_lines (λ child. lines_below (length l.tree.branches) l.tree.branches (l.branch.level + 1) child)) (links_of l.tree.branches l.branch.id) ++ open_lines l.tree.branches l.initial.stack.items;
  follow : AreBetween l.branch.id (length l.tree.branches) l.child-iterator.iter.rest.now;
  opened : AreOpen l.tree.branches l.stack.items;
}
