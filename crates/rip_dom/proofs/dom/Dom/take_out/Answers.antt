use Rattle.rip_dom.proofs.TreeLemmas.{fits}
use Rattle.rip_dom.proofs.DomLemmas.{made-below, document-without, out-of-tree}
use Rattle.rip_dom.proofs.dom.Dom.take_out.Goals as goal

pub invariant_of-self : goal.invariant_of-self
invariant_of-self c = document-without _ _ _ c.args.child _ _ _ _ _ c.self.invariant
    (made-below c.self.inside.limit c.self.inside.nodes.items c.self.inside.children c.self.inside.attributes c.self.inside.pairs.items c.args.child c.args.self.now c.self.view_is c.requires) c.remove.ensures

pub returns : goal.returns
returns c = rw (← c.self.view_is) (out-of-tree c.self.inside.limit c.self.inside.nodes.items c.self.inside.children c.remove.new.self c.self.inside.attributes c.self.inside.pairs.items c.args.child (fits c.self.invariant) (made-below c.self.inside.limit c.self.inside.nodes.items c.self.inside.children c.self.inside.attributes c.self.inside.pairs.items c.args.child c.args.self.now c.self.view_is c.requires) c.remove.ensures)
