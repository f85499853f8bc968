use Rattle.std.proofs.Common.{◌≡◌, ◌∙◌, ◌≤◌, length, sym, arith, rules}
use Rattle.rip_dom.specs.Document.{tree_of}
use Rattle.rip_dom.proofs.TreeLemmas.{made}
use Rattle.rip_dom.proofs.dom.Dom.made.Goals as goal

pub overflow_cast-result : goal.overflow_cast-result
overflow_cast-result c =
    let n : c.len.result ≡ length c.self.inside.nodes.items = search rules in
    omega (arith, n, c.self.invariant.within, c.self.invariant.small)

pub returns-clause-made : goal.returns-clause-made
returns-clause-made c =
    let n : c.len.result ≡ length c.self.inside.nodes.items = search rules in
    rw (← c.self.view_is) (n ∙ sym (made c.self.inside.limit c.self.inside.nodes.items c.self.inside.children c.self.inside.attributes c.self.inside.pairs.items))

pub returns-clause-within : goal.returns-clause-within
returns-clause-within c =
    let n = made c.self.inside.limit c.self.inside.nodes.items c.self.inside.children c.self.inside.attributes c.self.inside.pairs.items in
    let few : length (tree_of c.self.inside.limit c.self.inside.nodes.items c.self.inside.children c.self.inside.attributes c.self.inside.pairs.items).nodes ≤ c.self.inside.limit = omega (arith, n, c.self.invariant.within) in
    rw (← c.self.view_is) few
