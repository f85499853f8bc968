use Rattle.std.proofs.Common.{◌≢◌, length, arith}
use Rattle.rip_wire.proofs.PartLemmas.{not_two_values}
use Rattle.rip_wire.proofs.parts.pair_of.Goals as goal

pub returns-else-len-eq2-clause-none : goal.returns-else-len-eq2-clause-none
returns-else-len-eq2-clause-none c =
    let other : length c.in_ok-values.values.now.items ≢ 2 = omega (arith, c.len.ensures, c.if-len-eq2.false) in
    not_two_values _ c.in_ok-values.values.now.items c.in_ok-values.ensures other
