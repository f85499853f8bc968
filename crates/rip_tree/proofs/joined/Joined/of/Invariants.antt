use Rattle.std.proofs.Common.{◌≡◌, take}
use Rattle.rip_tree.specs.Joining.{grove_of, IsJoined}
use Rattle.rip_tree.specs.Program.{joined}
use Rattle.rip_tree.proofs.joined.Joined.of.Given as goal

abbrev pub invariant-loop-tree : goal.invariant-loop-tree
invariant-loop-tree l = record {
  kept : IsJoined l.all;
  joined : grove_of l.all ≡ joined (take l.tree-index l.trees);
}
