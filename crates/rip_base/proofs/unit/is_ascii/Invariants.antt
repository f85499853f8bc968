use Rattle.std.proofs.Common.{◌≡◌, bytes_eq, drop}
use Rattle.rip_base.proofs.unit.is_ascii.Given as goal

abbrev pub invariant-loop-byte : goal.invariant-loop-byte
invariant-loop-byte l = bytes_eq l.rest (drop l.byte-index l.ascii) ≡ bytes_eq l.units l.ascii
