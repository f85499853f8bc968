use Rattle.std.proofs.Common.{ℕ, ◌+◌, ◌<◌, ◌≤◌, length, take}
use Rattle.rip_heap.specs.Borders.{IsLongest, StandsAt}
use Rattle.rip_heap.proofs.search.place_by.Given as goal

abbrev pub invariant-loop-i : goal.invariant-loop-i
invariant-loop-i l =
    (l.matched < length l.pattern) × IsLongest l.pattern (take l.i l.text) l.matched × ((place : ℕ) → place + length l.pattern ≤ l.i → ¬ (StandsAt l.pattern l.text place))
