use Rattle.std.proofs.Common.{◌≡◌, ◌<◌, sym, subst, length, None, Some, true, false}
use Rattle.std.specs.Prelude.{IfSome}
use Rattle.rip_dom.specs.Lists.{Lists, owner_at}
use Rattle.rip_dom.specs.Tree.{Tree, is_child, is_above}
use Rattle.rip_dom.proofs.TreeLemmas.{fits, fits-without, free, place-stands}
use Rattle.rip_dom.proofs.DomLemmas.{made-below, document-with, into-tree}
use Rattle.rip_dom.proofs.dom.Dom.put_in.Goals as goal

pub insert-requires-clause-list : goal.insert-requires-clause-list
insert-requires-clause-list c =
    subst (λ (l : Lists). c.args.parent < length l.lists) (sym c.remove.ensures)
    (subst (λ k. c.args.parent < k) (sym (fits-without c.self.inside.nodes.items c.self.inside.children c.self.inside.attributes c.args.child (fits c.self.invariant)).lists) (made-below c.self.inside.limit c.self.inside.nodes.items c.self.inside.children c.self.inside.attributes c.self.inside.pairs.items c.args.parent c.args.self.now c.self.view_is c.requires.parent))

pub insert-requires-clause-item : goal.insert-requires-clause-item
insert-requires-clause-item c =
    subst (λ (l : Lists). c.args.child < length l.owners) (sym c.remove.ensures)
    (subst (λ k. c.args.child < k) (sym (fits-without c.self.inside.nodes.items c.self.inside.children c.self.inside.attributes c.args.child (fits c.self.invariant)).owners) (made-below c.self.inside.limit c.self.inside.nodes.items c.self.inside.children c.self.inside.attributes c.self.inside.pairs.items c.args.child c.args.self.now c.self.view_is c.requires.child))

pub insert-requires-clause-free : goal.insert-requires-clause-free
insert-requires-clause-free c = subst (λ (l : Lists). owner_at l.owners c.args.child ≡ None) (sym c.remove.ensures) (free c.self.inside.children.owners c.args.child)

pub insert-requires-clause-at : goal.insert-requires-clause-at
insert-requires-clause-at c =
    subst (λ (l : Lists). IfSome c.args.at (λ r. owner_at l.owners r ≡ Some c.args.parent)) (sym c.remove.ensures)
    (place-stands c.self.inside.limit c.self.inside.nodes.items c.self.inside.children c.self.inside.attributes c.self.inside.pairs.items c.args.parent c.args.child c.args.at (fits c.self.invariant) (subst (λ (t : Tree). is_child t c.args.parent c.args.at ≡ true) (sym c.self.view_is) c.requires.at) c.requires.other)

pub invariant_of-self : goal.invariant_of-self
invariant_of-self c =
    document-with c.self.inside.limit _ _ c.args.parent c.args.child c.args.at c.self.inside.nodes.items c.self.inside.children c.remove.new.self c.insert.new.self c.self.inside.attributes c.self.inside.pairs.items c.self.invariant
    (made-below c.self.inside.limit c.self.inside.nodes.items c.self.inside.children c.self.inside.attributes c.self.inside.pairs.items c.args.parent c.args.self.now c.self.view_is c.requires.parent)
    (made-below c.self.inside.limit c.self.inside.nodes.items c.self.inside.children c.self.inside.attributes c.self.inside.pairs.items c.args.child c.args.self.now c.self.view_is c.requires.child)
    (subst (λ (t : Tree). is_above t c.args.child c.args.parent ≡ false) (sym c.self.view_is) c.requires.below)
    c.remove.ensures c.insert.ensures

pub returns : goal.returns
returns c =
    rw (← c.self.view_is) (into-tree c.self.inside.limit c.self.inside.nodes.items c.self.inside.children c.remove.new.self c.insert.new.self c.self.inside.attributes c.self.inside.pairs.items c.args.parent c.args.child c.args.at (fits c.self.invariant)
    (made-below c.self.inside.limit c.self.inside.nodes.items c.self.inside.children c.self.inside.attributes c.self.inside.pairs.items c.args.parent c.args.self.now c.self.view_is c.requires.parent) (made-below c.self.inside.limit c.self.inside.nodes.items c.self.inside.children c.self.inside.attributes c.self.inside.pairs.items c.args.child c.args.self.now c.self.view_is c.requires.child) c.remove.ensures c.insert.ensures)
