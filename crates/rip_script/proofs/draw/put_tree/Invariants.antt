use Rattle.std.proofs.Common.{◌≡◌, length}
use Rattle.rip_script.specs.Steps.{AreOpen, open_lines}
use Rattle.rip_script.specs.Texts.{tree_text}
use Rattle.rip_script.proofs.Passing.{Draws}
use Rattle.rip_script.proofs.draw.put_tree.Given as goal

-- the lines of the branches on the stack, and of all below them, are due
abbrev pub invariant-loop-next : goal.invariant-loop-next
invariant-loop-next g l = record {
  draws : Draws (tree_text l.tree) (open_lines l.tree.branches l.stack.items) l.block (g.S.Sink.held l.initial.out) (g.S.Sink.held l.out);
  opened : AreOpen l.tree.branches l.stack.items;
  counted : g.S.Sink.count l.out ≡ g.S.Sink.count l.initial.out;
}

abbrev pub decreases-loop-next : goal.decreases-loop-next
decreases-loop-next g l = length (open_lines l.tree.branches l.stack.items)
