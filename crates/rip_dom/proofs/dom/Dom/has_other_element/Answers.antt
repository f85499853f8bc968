use Rattle.std.proofs.Common.{◌∙◌}
use Rattle.rip_dom.proofs.TreeLemmas.{fits}
use Rattle.rip_dom.proofs.WalkLemmas.{other-element}
use Rattle.rip_dom.proofs.dom.Dom.has_other_element.Goals as goal

pub returns : goal.returns
returns c = rw (← c.self.view_is) (c.has_other_element.ensures ∙ other-element c.self.inside.limit c.self.inside.nodes.items c.self.inside.children c.self.inside.attributes c.self.inside.pairs.items c.args.parent c.args.child c.args.old (fits c.self.invariant))
