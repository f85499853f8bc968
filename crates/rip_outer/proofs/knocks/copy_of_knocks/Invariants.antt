use Rattle.std.proofs.Common.{◌≡◌, take}
use Rattle.rip_outer.proofs.knocks.copy_of_knocks.Given as goal

-- the knocks that were passed are copied
abbrev pub invariant-loop-knock : goal.invariant-loop-knock
invariant-loop-knock l = l.copy.items ≡ take l.knock-index l.knocks
