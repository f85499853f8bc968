use Rattle.rip_dom.proofs.TreeLemmas.{fits}
use Rattle.rip_dom.proofs.DomLemmas.{agree}
use Rattle.rip_dom.proofs.dom.Dom.parents_and_children_agree.Goals as goal

pub returns : goal.returns
returns c = rw (← c.self.view_is) (agree c.self.inside.limit c.self.inside.nodes.items c.self.inside.children c.self.inside.attributes c.self.inside.pairs.items (fits c.self.invariant) c.are_listed.ensures)
