use Rattle.std.proofs.Common.{◌∙◌}
use Rattle.rip_outer.proofs.Doors.{door_made}
use Rattle.rip_outer.proofs.memory_door.MemoryDoor.make.Goals as goal

pub returns : goal.returns
returns c =
    door_made c.in_ok-with_capacity.field-0.items c.in_ok-copy_of_knocks.field-0.items c.args.knocks.now c.in_ok-with_capacity-2.field-0.items c.in_ok-make.field-0 c.in_ok-make-2.field-0 c.in_ok-make-3.field-0 _ c.args.failing_next.now c.args.failing_send.now
    c.in_ok-with_capacity.ensures.items (c.in_ok-copy_of_knocks.ensures ∙ c.as_slice.ensures.value) c.in_ok-with_capacity-2.ensures.items c.in_ok-make.ensures c.in_ok-make-2.ensures c.in_ok-make-3.ensures
