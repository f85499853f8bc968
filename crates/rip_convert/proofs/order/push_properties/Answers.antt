use Rattle.std.proofs.Common.{ap, length, length-append, arith}
use Rattle.rip_heap.specs.World.{object_at}
use Rattle.rip_convert.specs.Arguments.{properties_of}
use Rattle.rip_convert.proofs.order.push_properties.Goals as goal

pub push-requires : goal.push-requires
push-requires c =
    let all = properties_of (object_at c.args.heap.now c.args.object) in
    omega (
      arith,
      c.requires,
      ap length c.in-Some.ensures.steps,
      ap length c.loop-property.invariant.properties,
      length-append c.loop-property.fields.properties c.loop-property.own,
      length-append c.args.fields.now.properties all,
    )
