use Rattle.std.proofs.Common.{ℕ, ◌+◌, ◌-◌, ◌≤◌, List, ◌++◌, length, drop}
use Rattle.rip_client.specs.Cutting.{IsCut}
use Rattle.rip_client.proofs.cutting.batches.cut.Given as goal

-- the cut of the rest completes what was counted
abbrev pub invariant-loop-counts : goal.invariant-loop-counts
invariant-loop-counts l = record {
  completes : (more : List ℕ) → IsCut l.number (drop l.start l.sizes) more → IsCut l.first l.sizes (l.counts.items ++ more);
  within : l.start ≤ length l.sizes;
  numbers : l.number ≤ l.first + l.start;
}

abbrev pub decreases-loop-counts : goal.decreases-loop-counts
decreases-loop-counts l = length l.sizes - l.start
