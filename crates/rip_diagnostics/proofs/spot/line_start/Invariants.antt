use Rattle.std.proofs.Common.{◌≡◌, ◌+◌, ◌-◌, ◌≤◌, length, take}
use Rattle.rip_diagnostics.specs.Spots.{line_before}
use Rattle.rip_diagnostics.proofs.spot.line_start.Given as goal

abbrev pub invariant-loop-start : goal.invariant-loop-start
invariant-loop-start l =
    (l.start ≤ length l.text) × (length l.text - l.start + line_before (take l.start l.text) ≡ line_before l.text)

abbrev pub decreases-loop-start : goal.decreases-loop-start
decreases-loop-start l = l.start
