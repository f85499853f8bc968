use Rattle.std.proofs.Common.{◌≡◌, ◌≤◌, ◌-◌, length, drop}
use Rattle.std.specs.Cmp.Lexicographic.{slice_cmp}
use Rattle.std.specs.Ordering.{nat_cmp}
use Rattle.rip_data.specs.Datum.{utf8_of}
use Rattle.rip_convert.proofs.units.compare_texts.Given as goal

-- the rests stand as the texts do
abbrev pub invariant-loop-i : goal.invariant-loop-i
invariant-loop-i l = (l.i ≤ length l.a) × (l.j ≤ length l.b) × (slice_cmp nat_cmp (utf8_of (drop l.i l.a)) (utf8_of (drop l.j l.b)) ≡ slice_cmp nat_cmp (utf8_of l.a) (utf8_of l.b))

abbrev pub decreases-loop-i : goal.decreases-loop-i
decreases-loop-i l = length l.a - l.i
