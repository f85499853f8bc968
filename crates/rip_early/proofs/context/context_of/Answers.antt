use Rattle.std.proofs.Common.{◌≡◌, ◌<◌, Some, sym, ap, ◌∙◌, arith}
use Rattle.rip_early.specs.Around.{parent_of}
use Rattle.rip_early.specs.Contexts.{context_within}
use Rattle.rip_early.proofs.Surrounding.{parent-below, form_of-node, context-parent}
use Rattle.rip_early.proofs.context.context_of.Goals as goal

pub bounds-contexts-outer : goal.bounds-contexts-outer
bounds-contexts-outer c =
    let is : parent_of c.args.tree.now c.args.id ≡ Some c.in-Some.outer = sym c.requires.parent ∙ c.in-Some.is in
    let below : c.in-Some.outer < c.args.id = (parent-below c.args.tree.now c.args.id c.in-Some.outer c.requires.follow is).0 in
    omega (arith, c.requires.known.many)

pub returns-in-Some : goal.returns-in-Some
returns-in-Some c =
    let is : parent_of c.args.tree.now c.args.id ≡ Some c.in-Some.outer = sym c.requires.parent ∙ c.in-Some.is in
    let below : c.in-Some.outer < c.args.id = (parent-below c.args.tree.now c.args.id c.in-Some.outer c.requires.follow is).0 in
    c.context_within.ensures
    ∙ ap (context_within c.in-Some.outer c.node.result.now.form) (c.requires.known.each c.in-Some.outer _ below)
    ∙ sym (context-parent c.args.tree.now c.requires.follow c.args.id c.in-Some.outer c.node.result.now.form is (form_of-node c.args.tree.now c.in-Some.outer c.node.result.now c.node.ensures))
