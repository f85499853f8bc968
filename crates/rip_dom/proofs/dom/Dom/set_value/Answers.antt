use Rattle.std.proofs.Common.{sym, length, length-set, ◌∙◌, ap}
use Rattle.rip_dom.specs.Document.{pair_at}
use Rattle.rip_dom.proofs.TreeLemmas.{fits}
use Rattle.rip_dom.proofs.AttributeLemmas.{document-valued, found-below, value-set, value-there, value-not-there}
use Rattle.rip_dom.proofs.dom.Dom.set_value.Goals as goal

pub put_value-requires : goal.put_value-requires
put_value-requires c = found-below c.args.pool.now c.self.inside.pairs.items c.args.name.now c.self.inside.attributes c.args.n c.in-Some.number c.are_listed.ensures c.self.invariant.attribute_items (sym c.in-Some.ensures)

pub invariant_of-self : goal.invariant_of-self
invariant_of-self c =
    document-valued c.self.inside.limit _ _ _ c.self.inside.nodes.items c.self.inside.children c.self.inside.attributes c.self.inside.pairs.items c.put_value.new.pairs.items c.self.invariant
    (ap length c.put_value.ensures.set ∙ length-set c.self.inside.pairs.items c.in-Some.number ((pair_at c.self.inside.pairs.items c.in-Some.number).0, c.args.value)) c.put_value.ensures.room

pub returns-in-Some-clause-found : goal.returns-in-Some-clause-found
returns-in-Some-clause-found c =
    rw (← c.self.view_is) (value-there c.self.inside.limit c.self.inside.nodes.items c.self.inside.children c.self.inside.attributes c.self.inside.pairs.items c.args.pool.now c.args.n c.args.name.now c.in-Some.number (fits c.self.invariant) (sym c.in-Some.ensures))

pub returns-in-Some-clause-set : goal.returns-in-Some-clause-set
returns-in-Some-clause-set c =
    rw (← c.self.view_is) (value-set c.self.inside.limit c.self.inside.nodes.items c.self.inside.children c.self.inside.attributes c.self.inside.pairs.items c.put_value.new.pairs.items c.args.pool.now c.args.n c.args.name.now c.in-Some.number c.args.value
    (fits c.self.invariant) c.are_listed.ensures c.self.invariant.attribute_items (sym c.in-Some.ensures) c.put_value.ensures.set)

pub returns-in-None-clause-found : goal.returns-in-None-clause-found
returns-in-None-clause-found c =
    rw (← c.self.view_is) (value-not-there c.self.inside.limit c.self.inside.nodes.items c.self.inside.children c.self.inside.attributes c.self.inside.pairs.items c.args.pool.now c.args.n c.args.name.now (fits c.self.invariant) (sym c.in-None.ensures))
