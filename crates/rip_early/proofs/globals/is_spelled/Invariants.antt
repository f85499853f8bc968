use Rattle.std.proofs.Common.{◌≡◌, length}
use Rattle.std.specs.Str.{bytes_eq}
use Rattle.rip_early.proofs.globals.is_spelled.Given as goal

abbrev pub invariant-loop-bytes : goal.invariant-loop-bytes
invariant-loop-bytes l = bytes_eq l.bytes l.units ≡ bytes_eq l.text l.name

abbrev pub decreases-loop-bytes : goal.decreases-loop-bytes
decreases-loop-bytes l = length l.bytes
