use Rattle.std.proofs.Common.{◌≡◌, ◌<◌, subst, ◌∷◌, ◌++◌, [], None, length, ◌∙◌, sym, ap, rules}
use Rattle.rip_dom.specs.Lists.{Lists}
use Rattle.rip_dom.specs.Tree.{Tree}
use Rattle.rip_dom.proofs.TreeLemmas.{fits, made}
use Rattle.rip_dom.proofs.DomLemmas.{node-pushed, node-fresh, document-more}
use Rattle.rip_dom.proofs.dom.Dom.push_node.Goals as goal

pub returns-clause-number : goal.returns-clause-number
returns-clause-number c =
    let n : c.len-number.result ≡ length c.self.inside.nodes.items = search rules in
    rw (← c.self.view_is) (n ∙ sym (made c.self.inside.limit c.self.inside.nodes.items c.self.inside.children c.self.inside.attributes c.self.inside.pairs.items))

pub returns-clause-made : goal.returns-clause-made
returns-clause-made c =
    rw (← c.self.view_is) (node-pushed c.self.inside.limit c.self.inside.nodes.items c.push_reserved.new.self.items c.self.inside.children c.add_item.new.self c.self.inside.attributes c.add_list-2.new.self c.self.inside.pairs.items
    c.args.node (fits c.self.invariant) c.push_reserved.ensures.items
    (c.add_item.ensures.more ∙ ap (λ (l : Lists). record l { owners = l.owners ++ None ∷ [] }) c.add_list.ensures) c.add_list-2.ensures)

pub returns-clause-fresh : goal.returns-clause-fresh
returns-clause-fresh c =
    let n : c.len-number.result ≡ length c.self.inside.nodes.items = search rules in
    node-fresh c.self.inside.limit _ _ c.self.inside.nodes.items c.self.inside.children c.self.inside.attributes c.self.inside.pairs.items c.args.node _ c.len-number.result c.self.invariant
    (node-pushed c.self.inside.limit c.self.inside.nodes.items c.push_reserved.new.self.items c.self.inside.children c.add_item.new.self c.self.inside.attributes c.add_list-2.new.self c.self.inside.pairs.items
    c.args.node (fits c.self.invariant) c.push_reserved.ensures.items (c.add_item.ensures.more ∙ ap (λ (l : Lists). record l { owners = l.owners ++ None ∷ [] }) c.add_list.ensures) c.add_list-2.ensures) n

pub invariant_of-self : goal.invariant_of-self
invariant_of-self c =
    let room = subst (λ (t : Tree). t.used < t.limit) (sym c.self.view_is) c.requires in
    document-more c.self.inside.limit _ _ _ c.self.inside.nodes.items c.push_reserved.new.self.items c.self.inside.children c.add_item.new.self c.self.inside.attributes c.add_list-2.new.self c.self.inside.pairs.items
    c.args.node c.self.invariant room c.push_reserved.ensures.items (c.add_item.ensures.more ∙ ap (λ (l : Lists). record l { owners = l.owners ++ None ∷ [] }) c.add_list.ensures) c.add_list-2.ensures c.push_reserved.ensures.capacity
