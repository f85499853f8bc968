use Rattle.std.proofs.Common.{◌≡◌, ◌≤◌, ◌-◌, length, drop}
use Rattle.std.specs.Char.Utf16.{has_unpaired_surrogate}
use Rattle.rip_convert.proofs.units.has_unpaired_surrogate.Given as goal

-- the rest has one where the whole has
abbrev pub invariant-loop-at : goal.invariant-loop-at
invariant-loop-at l = (l.at ≤ length l.units) × (has_unpaired_surrogate (drop l.at l.units) ≡ has_unpaired_surrogate l.units)

abbrev pub decreases-loop-at : goal.decreases-loop-at
decreases-loop-at l = length l.units - l.at
