use Rattle.std.proofs.Common.{◌≤◌, length}
use Rattle.rip_real.proofs.link.write_front.Given as goal

-- no more is written than there is
abbrev pub invariant-loop : goal.invariant-loop
invariant-loop l = l.count ≤ length l.bytes
