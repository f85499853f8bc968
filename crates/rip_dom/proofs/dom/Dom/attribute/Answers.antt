use Rattle.std.proofs.Common.{◌∙◌, sym}
use Rattle.rip_dom.proofs.TreeLemmas.{fits}
use Rattle.rip_dom.proofs.NameLemmas.{attribute-is, value-found, value-missing}
use Rattle.rip_dom.proofs.dom.Dom.attribute.Goals as goal

pub returns-in-Some : goal.returns-in-Some
returns-in-Some c =
    rw (← c.self.view_is) (value-found c.self.inside.pairs.items _ c.in-Some.number c.pair_at.result (sym c.in-Some.ensures) c.pair_at.ensures
    ∙ attribute-is c.self.inside.limit c.self.inside.nodes.items c.self.inside.children c.self.inside.attributes c.self.inside.pairs.items c.args.pool.now c.args.n c.args.name.now (fits c.self.invariant))

pub returns-in-None : goal.returns-in-None
returns-in-None c =
    rw (← c.self.view_is) (value-missing c.self.inside.pairs.items _ (sym c.in-None.ensures)
    ∙ attribute-is c.self.inside.limit c.self.inside.nodes.items c.self.inside.children c.self.inside.attributes c.self.inside.pairs.items c.args.pool.now c.args.n c.args.name.now (fits c.self.invariant))
