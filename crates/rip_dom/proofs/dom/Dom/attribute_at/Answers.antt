use Rattle.std.proofs.Common.{◌∙◌, sym}
use Rattle.rip_dom.proofs.TreeLemmas.{fits}
use Rattle.rip_dom.proofs.WalkLemmas.{attributes-are, attribute-some, attribute-none}
use Rattle.rip_dom.proofs.dom.Dom.attribute_at.Goals as goal

pub returns-in-Some : goal.returns-in-Some
returns-in-Some c =
    rw (← c.self.view_is) (attribute-some c.self.inside.pairs.items _ c.in-Some.number c.pair_at.result (sym c.in-Some.ensures) c.pair_at.ensures
    ∙ attributes-are c.self.inside.limit c.self.inside.nodes.items c.self.inside.children c.self.inside.attributes c.self.inside.pairs.items (fits c.self.invariant) c.args.n c.args.place)

pub returns-in-None : goal.returns-in-None
returns-in-None c =
    rw (← c.self.view_is) (attribute-none c.self.inside.pairs.items _ (sym c.in-None.ensures)
    ∙ attributes-are c.self.inside.limit c.self.inside.nodes.items c.self.inside.children c.self.inside.attributes c.self.inside.pairs.items (fits c.self.invariant) c.args.n c.args.place)
