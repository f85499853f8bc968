use Rattle.std.proofs.Common.{◌≡◌, ◌++◌, length}
use Rattle.rip_heap.specs.World.{object_at}
use Rattle.rip_convert.specs.Arguments.{properties_of}
use Rattle.rip_convert.proofs.order.push_properties.Given as goal

-- those that are there and those that are left make up the whole
abbrev pub invariant-loop-property : goal.invariant-loop-property
invariant-loop-property l = record {
  properties : l.fields.properties ++ l.own ≡ l.initial.fields.properties ++ properties_of (object_at l.heap l.object);
  places : l.fields.places ≡ l.initial.fields.places;
}

abbrev pub decreases-loop-property : goal.decreases-loop-property
decreases-loop-property l = length l.own
