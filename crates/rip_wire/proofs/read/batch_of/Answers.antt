use Rattle.std.proofs.Common.{arith}
use Rattle.rip_wire.proofs.BatchLemmas.{many_items}
use Rattle.rip_wire.proofs.read.batch_of.Goals as goal

pub returns-then-len-gt-MOST_ITEMS-clause-body : goal.returns-then-len-gt-MOST_ITEMS-clause-body
returns-then-len-gt-MOST_ITEMS-clause-body c =
    λ body. many_items _ _ _ c.in-Some-as_array.items.now.items c.in-Some.ensures.found c.in-Some-as_array.ensures (omega (arith, c.len.ensures, c.if-len-gt-MOST_ITEMS.true))
