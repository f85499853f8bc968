use Rattle.rip_dom.proofs.TreeLemmas.{fits, kind-is}
use Rattle.rip_dom.proofs.dom.Dom.kind.Goals as goal

pub returns : goal.returns
returns c = rw (← c.self.view_is) (kind-is c.self.inside.limit c.self.inside.nodes.items c.self.inside.children c.self.inside.attributes c.self.inside.pairs.items (fits c.self.invariant) c.args.n c.record_at.result c.record_at.ensures)
