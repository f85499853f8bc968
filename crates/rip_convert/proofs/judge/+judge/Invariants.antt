use Rattle.std.proofs.Common.{◌≡◌, ◌≤◌, ◌+◌, ◌*◌, drop}
use Rattle.rip_heap.specs.Arrays.{elements_at}
use Rattle.rip_heap.specs.World.{object_at}
use Rattle.rip_convert.specs.Arguments.{properties_of}
use Rattle.rip_convert.specs.Written.{elements_left, fields_left, left_after}
use Rattle.rip_convert.proofs.judge.+judge.Given as goal

abbrev pub decreases-left_after : goal.decreases-left_after
decreases-left_after l = 3 * l.levels

abbrev pub decreases-parts_left : goal.decreases-parts_left
decreases-parts_left l = 3 * l.levels + 2

abbrev pub decreases-elements_left : goal.decreases-elements_left
decreases-elements_left l = 3 * l.levels + 1

abbrev pub decreases-fields_left : goal.decreases-fields_left
decreases-fields_left l = 3 * l.levels + 1

-- the rest leaves what the whole leaves
abbrev pub invariant-elements_left-loop-place : goal.invariant-elements_left-loop-place
invariant-elements_left-loop-place l =
    (elements_left (left_after l.levels l.heap) (drop l.place (elements_at l.heap l.array)) l.left ≡ elements_left (left_after l.levels l.heap) (elements_at l.heap l.array) l.fn.pieces)
    × (l.left ≤ l.fn.pieces)

abbrev pub invariant-fields_left-loop-property : goal.invariant-fields_left-loop-property
invariant-fields_left-loop-property l =
    (fields_left (left_after l.levels l.heap) l.heap.pool l.own l.left
    ≡ fields_left (left_after l.levels l.heap) l.heap.pool (properties_of (object_at l.heap l.object)) l.fn.pieces)
    × (l.left ≤ l.fn.pieces)

abbrev pub decreases-fields_left-loop-property : goal.decreases-fields_left-loop-property
decreases-fields_left-loop-property l = l.left
