use Rattle.std.proofs.Common.{◌+◌, ◌-◌, ◌/◌, ap, ◌∙◌, arith}
use Rattle.rip_convert.specs.Written.{order}
use Rattle.rip_convert.proofs.Searching.{between-right, between-left}
use Rattle.rip_convert.proofs.order.search.Goals as goal

pub loop-low-preserved-in-Greater : goal.loop-low-preserved-in-Greater
loop-low-preserved-in-Greater c =
    let middle = c.loop-low.low + (c.loop-low.high - c.loop-low.low) / 2 in
    between-right c.args.heap.now.pool c.args.fields.now.properties c.args.fields.now.places c.args.base c.args.place c.loop-low.low c.loop-low.high middle c.requires.ordered c.loop-low.invariant
    (omega (arith, c.loop-low-test.true)) (omega (arith, c.loop-low-test.true))
    (c.in-Greater.ensures ∙ ap (order c.args.heap.now.pool c.args.fields.now.properties c.args.place) c.place.ensures)

pub loop-low-preserved : goal.loop-low-preserved
loop-low-preserved c =
    let middle = c.loop-low.low + (c.loop-low.high - c.loop-low.low) / 2 in
    between-left c.args.heap.now.pool c.args.fields.now.properties c.args.fields.now.places c.args.base c.args.place c.loop-low.low c.loop-low.high middle c.requires.ordered c.loop-low.invariant
    (omega (arith, c.loop-low-test.true)) (omega (arith, c.loop-low-test.true))
    (λ greater. c.in_default.not-Greater (c.compare_names.ensures ∙ ap (order c.args.heap.now.pool c.args.fields.now.properties c.args.place) c.place.ensures ∙ greater))
