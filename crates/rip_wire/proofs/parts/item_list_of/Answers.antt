use Rattle.std.proofs.Common.{arith}
use Rattle.rip_wire.proofs.PartLemmas.{many_listed}
use Rattle.rip_wire.proofs.parts.item_list_of.Goals as goal

pub returns-then-len-gt-MOST_ITEMS-clause-body : goal.returns-then-len-gt-MOST_ITEMS-clause-body
returns-then-len-gt-MOST_ITEMS-clause-body c =
    λ body. many_listed _ _ c.in-Some.items.now.items c.in_ok-value.ensures.found c.in-Some.ensures (omega (arith, c.len.ensures, c.if-len-gt-MOST_ITEMS.true))
