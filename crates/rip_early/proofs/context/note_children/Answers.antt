use Rattle.std.proofs.Common.{None, arith, ◌∙◌}
use Rattle.rip_early.proofs.Parents.{noted-more}
use Rattle.rip_early.proofs.context.note_children.Goals as goal

pub loop-child-preserved : goal.loop-child-preserved
loop-child-preserved c = record {
  many = c.note_child.ensures.many ∙ c.loop-child.invariant.many;
  each = λ node h. noted-more node c.args.id c.loop-child.child-index c.args.children.now None _ _ _ (omega arith) (c.note_child.ensures.noted node (omega (arith, h))) (c.loop-child.invariant.each node h);
}
