use Rattle.std.proofs.Common.{◌≡◌, ◌<◌, length, sym, subst, rules}
use Rattle.rip_dom.specs.Lists.{Lists}
use Rattle.rip_dom.proofs.TreeLemmas.{fits}
use Rattle.rip_dom.proofs.DomLemmas.{made-below, attribute-pushed}
use Rattle.rip_dom.proofs.dom.Dom.push_attribute.Goals as goal

pub returns : goal.returns
returns c =
    let n : c.len-number.result ≡ length c.self.inside.pairs.items = search rules in
    rw (← c.self.view_is) (attribute-pushed c.self.inside.limit c.self.inside.nodes.items c.self.inside.children c.self.inside.attributes c.add_item.new.self c.insert.new.self c.self.inside.pairs.items c.push_reserved.new.self.items
    c.args.n c.len-number.result (c.args.name, c.args.value) (fits c.self.invariant)
    (made-below c.self.inside.limit c.self.inside.nodes.items c.self.inside.children c.self.inside.attributes c.self.inside.pairs.items c.args.n c.args.self.now c.self.view_is c.requires.node)
    c.add_item.ensures.known c.self.invariant.attribute_items c.push_reserved.ensures.items n c.add_item.ensures.more c.insert.ensures)

pub insert-requires-clause-list : goal.insert-requires-clause-list
insert-requires-clause-list c =
    subst (λ (l : Lists). c.args.n < length l.lists) (sym c.add_item.ensures.more) (subst (λ k. c.args.n < k) (sym c.self.invariant.attribute_lists)
    (made-below c.self.inside.limit c.self.inside.nodes.items c.self.inside.children c.self.inside.attributes c.self.inside.pairs.items c.args.n c.args.self.now c.self.view_is c.requires.node))
