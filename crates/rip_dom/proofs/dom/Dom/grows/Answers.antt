use Rattle.rip_dom.proofs.OrderLemmas.{document-grows}
use Rattle.rip_dom.proofs.dom.Dom.grows.Goals as goal

pub returns : goal.returns
returns c = rw (← c.self.view_is) (document-grows _ _ _ c.self.inside.nodes.items c.self.inside.children c.self.inside.attributes c.self.inside.pairs.items c.self.invariant c.are_listed.ensures)
