use Rattle.std.proofs.Common.{◌≡◌, ◌++◌, map, take}
use Rattle.rip_tree.specs.Program.{moved_child}
use Rattle.rip_tree.proofs.moving.push_children.Given as goal

abbrev pub invariant-loop-link : goal.invariant-loop-link
invariant-loop-link l = l.links.items ≡ l.initial.links.items ++ map (moved_child l.branches) (take l.link-index l.children)
