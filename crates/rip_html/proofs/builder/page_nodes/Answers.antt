use Rattle.std.proofs.Common.{arith, length, ap}
use Rattle.std.specs.Vec.Iter.{into_iter_items}
use Rattle.rip_html.proofs.Counting.{built_longer}
use Rattle.rip_html.proofs.builder.page_nodes.Goals as goal

pub take-requires : goal.take-requires
take-requires c =
    let b = c.loop-placed.builder in
    omega (arith, built_longer b.open.items b.nodes.items (into_iter_items c.loop-placed.placed-iterator), ap length c.loop-placed.invariant, c.requires)
