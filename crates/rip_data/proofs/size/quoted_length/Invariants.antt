use Rattle.std.proofs.Common.{◌≡◌, ◌+◌, ◌-◌, ◌≤◌, length, drop, min}
use Rattle.rip_data.specs.Written.{escaped_length}
use Rattle.rip_data.proofs.size.quoted_length.Given as goal

-- the bytes so far and those of the rest are all of them
abbrev pub invariant-loop-at : goal.invariant-loop-at
invariant-loop-at l =
    (l.at ≤ length l.units) × (min (l.bytes + escaped_length (drop l.at l.units)) 18446744073709551615 ≡ min (2 + escaped_length l.units) 18446744073709551615)
    × (l.bytes ≤ 18446744073709551615)

abbrev pub decreases-loop-at : goal.decreases-loop-at
decreases-loop-at l = length l.units - l.at
