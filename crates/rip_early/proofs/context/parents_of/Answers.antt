use Rattle.std.proofs.Common.{arith, ◌∙◌}
use Rattle.rip_early.proofs.Parents.{parent-noted}
use Rattle.rip_early.proofs.context.parents_of.Goals as goal

pub loop-id-preserved : goal.loop-id-preserved
loop-id-preserved c = record {
  many = c.note_children.ensures.many ∙ c.loop-id.invariant.many;
  each = λ node h. parent-noted c.args.tree.now.branches c.children.result.now c.loop-id.id node _ _ (omega arith) c.children.ensures (c.note_children.ensures.noted node (omega (arith, h))) (c.loop-id.invariant.each node h);
}
