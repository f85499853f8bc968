use Rattle.std.proofs.Common.{◌≡◌, ◌+◌, ◌≤◌, false, drop}
use Rattle.rip_diagnostics.specs.Spots.{line_ends}
use Rattle.rip_diagnostics.proofs.spot.line_ends.Given as goal

-- what ends before the byte and what ends from it on make up all
abbrev pub invariant-loop-byte : goal.invariant-loop-byte
invariant-loop-byte l =
    (l.count + line_ends l.behind_cr (drop l.byte-index l.text) ≡ line_ends false l.text) × (l.count ≤ l.byte-index)
