use Rattle.std.proofs.Common.{◌≡◌, bytes_eq, drop}
use Rattle.rip_base.specs.Units.{small_text}
use Rattle.rip_base.proofs.unit.is_ascii_in_small.Given as goal

abbrev pub invariant-loop-byte : goal.invariant-loop-byte
invariant-loop-byte l = bytes_eq (small_text l.rest) (drop l.byte-index l.ascii) ≡ bytes_eq (small_text l.units) l.ascii
