use Rattle.std.proofs.Common.{sym}
use Rattle.rip_dom.proofs.TreeLemmas.{fits}
use Rattle.rip_dom.proofs.RemovalLemmas.{attribute-removed, attribute-not-removed, document-unnamed}
use Rattle.rip_dom.proofs.dom.Dom.remove_attribute.Goals as goal

pub invariant_of-self : goal.invariant_of-self
invariant_of-self c = document-unnamed c.self.inside.limit _ _ c.in-Some.number c.self.inside.nodes.items c.self.inside.children c.self.inside.attributes c.remove.new.self c.self.inside.pairs.items c.self.invariant c.remove.ensures

pub returns-in-Some : goal.returns-in-Some
returns-in-Some c =
    rw (← c.self.view_is) (attribute-removed c.self.inside.limit c.self.inside.nodes.items c.self.inside.children c.self.inside.attributes c.remove.new.self c.self.inside.pairs.items c.args.pool.now c.args.n c.args.name.now c.in-Some.number
    (fits c.self.invariant) c.are_listed.ensures (sym c.in-Some.ensures) c.remove.ensures)

pub returns-in-None : goal.returns-in-None
returns-in-None c =
    rw (← c.self.view_is) (attribute-not-removed c.self.inside.limit c.self.inside.nodes.items c.self.inside.children c.self.inside.attributes c.self.inside.pairs.items c.args.pool.now c.args.n c.args.name.now (fits c.self.invariant) (sym c.in-None.ensures))
