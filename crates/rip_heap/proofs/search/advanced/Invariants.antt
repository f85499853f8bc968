use Rattle.std.proofs.Common.{ℕ, List, ◌≤◌}
use Rattle.rip_heap.specs.Borders.{IsLongest, IsLongestBefore}
use Rattle.rip_heap.proofs.search.advanced.Given as goal

abbrev pub invariant-loop-kept : goal.invariant-loop-kept
invariant-loop-kept l =
    (l.kept ≤ l.matched) × ((text : List ℕ) → IsLongest l.pattern text l.matched → IsLongestBefore l.pattern text l.unit l.kept)

abbrev pub decreases-loop-kept : goal.decreases-loop-kept
decreases-loop-kept l = l.kept
