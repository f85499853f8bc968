use Rattle.std.proofs.Common.{None, get_or, ap, ◌∙◌, sym, arith}
use Rattle.rip_early.specs.Names.{name_by, parameter_piece}
use Rattle.rip_early.specs.Indexed.{names_of, with_any, name_of_child}
use Rattle.rip_early.proofs.Gathering.{child-more}
use Rattle.rip_early.proofs.declared.add_parameters.Goals as goal

pub loop-child-preserved : goal.loop-child-preserved
loop-child-preserved c = record {
  kept = c.in_ok-add_any.ensures.kept;
  added = c.in_ok-add_any.ensures.added
      ∙ ap (with_any (names_of c.loop-child.names)) c.parameter_name.ensures
      ∙ ap (λ ns. with_any ns (name_of_child (name_by parameter_piece c.args.tree.now) (get_or c.children-links.result.now c.loop-child.child-index None))) c.loop-child.invariant.added
      ∙ sym (child-more (name_by parameter_piece c.args.tree.now) (names_of c.args.names.now) c.children-links.result.now c.loop-child.child-index None (omega arith));
}
