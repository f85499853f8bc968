use Rattle.std.proofs.Common.{◌≡◌, ◌-◌, ◌≤◌, Some, length, take}
use Rattle.rip_http.specs.Heads.{after}
use Rattle.rip_http.specs.declared.head.Scan.TheVariants.{Before}
use Rattle.rip_http.proofs.head.seek_end.Given as goal

abbrev pub invariant-loop-i : goal.invariant-loop-i
invariant-loop-i l = (after Before (take l.i l.bytes) ≡ Some l.scan) × (l.i ≤ length l.bytes)

abbrev pub decreases-loop-i : goal.decreases-loop-i
decreases-loop-i l = length l.bytes - l.i
