use Rattle.std.proofs.Common.{◌∙◌}
use Rattle.rip_dom.proofs.TreeLemmas.{fits, previous-is}
use Rattle.rip_dom.proofs.dom.Dom.previous.Goals as goal

pub returns : goal.returns
returns c = rw (← c.self.view_is) (c.previous.ensures ∙ previous-is c.self.inside.limit c.self.inside.nodes.items c.self.inside.children c.self.inside.attributes c.self.inside.pairs.items (fits c.self.invariant) c.args.n)
