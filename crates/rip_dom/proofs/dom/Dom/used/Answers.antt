use Rattle.std.proofs.Common.{◌≡◌, length, arith, rules}
use Rattle.rip_dom.proofs.dom.Dom.used.Goals as goal

pub overflow_cast-result : goal.overflow_cast-result
overflow_cast-result c =
    let n : c.len.result ≡ length c.self.inside.nodes.items = search rules in
    let m : c.len-2.result ≡ length c.self.inside.pairs.items = search rules in
    omega (arith, n, m, c.self.invariant.within, c.self.invariant.small)
