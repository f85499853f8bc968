use Rattle.std.proofs.Common.{◌≤◌, length}
use Rattle.rip_real.proofs.sink.write_front.Given as goal

-- no more is written than there is
abbrev pub invariant-loop : goal.invariant-loop
invariant-loop g l = l.count ≤ length l.bytes
