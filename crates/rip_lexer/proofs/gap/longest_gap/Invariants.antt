use Rattle.std.proofs.Common.{◌≡◌, ◌≤◌, ◌||◌, Bool, List, drop, length, ℕ, ◌+◌}
use Rattle.rip_lexer.specs.View.{ReadsGap}
use Rattle.rip_lexer.proofs.gap.longest_gap.Given as goal

abbrev pub invariant-loop-part : goal.invariant-loop-part
invariant-loop-part l = record {
  bound : l.gap.count ≤ length l.units;
  at : l.rest ≡ drop l.gap.count l.units;
  reads : (count : ℕ) (line : Bool) (rest : List ℕ) → ReadsGap l.rest count line rest → ReadsGap l.units (l.gap.count + count) (l.gap.holds_line_end || line) rest;
}

abbrev pub decreases-loop-part : goal.decreases-loop-part
decreases-loop-part l = length l.rest
