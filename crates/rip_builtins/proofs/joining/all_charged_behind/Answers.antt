use Rattle.std.proofs.Common.{◌≡◌, ◌<◌, Err, length, ◌∙◌, arith, rules}
use Rattle.rip_heap.specs.Arrays.{elements_at}
use Rattle.rip_builtins.specs.Joining.{all_charged}
use Rattle.rip_builtins.proofs.JoinLemmas.{charged-more, charged-halts}
use Rattle.rip_builtins.proofs.joining.all_charged_behind.Goals as goal

pub returns-in_err-used : goal.returns-in_err-used
returns-in_err-used c =
    let items = elements_at c.args.heap.now c.args.array in
    let within : c.loop-place.place < length items = omega (arith, c.loop-place-test.true, c.count-place-end.ensures) in
    let halts : all_charged c.args.heap.now.pool c.args.before items ≡ Err c.in_err-used.field-0.0 =
    c.loop-place.invariant
    ∙ charged-halts c.args.heap.now.pool c.loop-place.used c.in_err-used.field-0.0 items c.loop-place.place c.item.result within c.item.ensures c.in_err-used.ensures in
    search rules

pub loop-place-preserved : goal.loop-place-preserved
loop-place-preserved c =
    let items = elements_at c.args.heap.now c.args.array in
    let within : c.loop-place.place < length items = omega (arith, c.loop-place-test.true, c.count-place-end.ensures) in
    c.loop-place.invariant
    ∙ charged-more c.args.heap.now.pool c.loop-place.used c.in_ok-used.used items c.loop-place.place c.item.result within c.item.ensures c.in_ok-used.ensures
