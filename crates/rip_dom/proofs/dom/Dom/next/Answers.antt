use Rattle.std.proofs.Common.{◌∙◌}
use Rattle.rip_dom.proofs.TreeLemmas.{fits, next-is}
use Rattle.rip_dom.proofs.dom.Dom.next.Goals as goal

pub returns : goal.returns
returns c = rw (← c.self.view_is) (c.next.ensures ∙ next-is c.self.inside.limit c.self.inside.nodes.items c.self.inside.children c.self.inside.attributes c.self.inside.pairs.items (fits c.self.invariant) c.args.n)
