use Rattle.std.proofs.Common.{◌≡◌, ◌≤◌, ◌+◌, ◌*◌, drop, length}
use Rattle.rip_heap.specs.Arrays.{elements_at}
use Rattle.rip_heap.specs.World.{object_at}
use Rattle.rip_convert.specs.Arguments.{properties_of, elements_fault, fields_fault, fault_of}
use Rattle.rip_convert.specs.Written.{AreWalked}
use Rattle.rip_convert.proofs.faults.+faults.Given as goal

abbrev pub decreases-first_fault : goal.decreases-first_fault
decreases-first_fault l = 4 * l.levels + 1

abbrev pub decreases-object_fault : goal.decreases-object_fault
decreases-object_fault l = 4 * l.levels

abbrev pub decreases-parts_fault : goal.decreases-parts_fault
decreases-parts_fault l = 4 * l.levels + 3

abbrev pub decreases-elements_fault : goal.decreases-elements_fault
decreases-elements_fault l = 4 * l.levels + 2

abbrev pub decreases-fields_fault : goal.decreases-fields_fault
decreases-fields_fault l = 4 * l.levels + 2

-- the rest has the fault of the whole
abbrev pub invariant-elements_fault-loop-place : goal.invariant-elements_fault-loop-place
invariant-elements_fault-loop-place l =
    (elements_fault (fault_of l.levels l.heap) (drop l.place (elements_at l.heap l.array)) ≡ elements_fault (fault_of l.levels l.heap) (elements_at l.heap l.array))
    × (AreWalked l.heap l.marks)

abbrev pub invariant-fields_fault-loop-property : goal.invariant-fields_fault-loop-property
invariant-fields_fault-loop-property l =
    (fields_fault (fault_of l.levels l.heap) l.heap.pool l.own
    ≡ fields_fault (fault_of l.levels l.heap) l.heap.pool (properties_of (object_at l.heap l.object)))
    × (AreWalked l.heap l.marks) × (length (properties_of (object_at l.heap l.object)) ≤ 4294967295)

abbrev pub decreases-fields_fault-loop-property : goal.decreases-fields_fault-loop-property
decreases-fields_fault-loop-property l = length l.own
