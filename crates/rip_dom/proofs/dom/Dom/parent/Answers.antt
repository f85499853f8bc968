use Rattle.std.proofs.Common.{◌∙◌}
use Rattle.rip_dom.proofs.TreeLemmas.{fits, parent-is}
use Rattle.rip_dom.proofs.dom.Dom.parent.Goals as goal

pub returns : goal.returns
returns c = rw (← c.self.view_is) (c.owner.ensures ∙ parent-is c.self.inside.limit c.self.inside.nodes.items c.self.inside.children c.self.inside.attributes c.self.inside.pairs.items (fits c.self.invariant) c.args.n)
