use Rattle.std.proofs.Common.{ℕ, ◌<◌}
use Rattle.rip_heap.specs.Borders.{StandsAt}
use Rattle.rip_heap.proofs.search.place_by_place.Given as goal

abbrev pub invariant-loop-place : goal.invariant-loop-place
invariant-loop-place l = (place : ℕ) → place < l.place → ¬ (StandsAt l.pattern l.text place)
