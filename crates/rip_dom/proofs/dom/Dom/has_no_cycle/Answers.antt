use Rattle.rip_dom.proofs.DomLemmas.{no-cycle}
use Rattle.rip_dom.proofs.dom.Dom.has_no_cycle.Goals as goal

pub returns : goal.returns
returns c = rw (← c.self.view_is) (no-cycle _ _ _ c.self.inside.nodes.items c.self.inside.children c.self.inside.attributes c.self.inside.pairs.items c.self.invariant)
