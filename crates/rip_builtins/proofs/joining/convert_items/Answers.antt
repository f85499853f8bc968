use Rattle.std.proofs.Common.{◌≡◌, ◌<◌, Err, length, ap, ◌∙◌, arith, rules}
use Rattle.rip_heap.specs.Arrays.{elements_at}
use Rattle.rip_builtins.specs.Joining.{converted}
use Rattle.rip_builtins.specs.Pieces.{item_at}
use Rattle.rip_builtins.proofs.JoinLemmas.{converted-more, converted-halts, same-elements, text-keeps}
use Rattle.rip_builtins.proofs.joining.convert_items.Goals as goal

pub returns-in_err-to_text-clause-halts : goal.returns-in_err-to_text-clause-halts
returns-in_err-to_text-clause-halts c =
    let w = c.args.heap.now in
    let v = c.loop-place.heap in
    let items = elements_at w c.args.array in
    let within : c.loop-place.place < length items = omega (arith, c.loop-place-test.true, c.count-place-end.ensures) in
    let read : c.item-v.result ≡ item_at items c.loop-place.place =
    c.item-v.ensures ∙ ap (λ is. item_at is c.loop-place.place) (same-elements w v c.args.array c.loop-place.invariant.1) in
    let halts : converted w items ≡ Err c.in_err-to_text.field-0.0 =
    c.loop-place.invariant.0
    ∙ converted-halts v c.to_text.new.heap c.in_err-to_text.field-0.0 items c.loop-place.place c.item-v.result within read c.in_err-to_text.ensures.made in
    search rules

pub loop-place-preserved : goal.loop-place-preserved
loop-place-preserved c =
    let w = c.args.heap.now in
    let v = c.loop-place.heap in
    let items = elements_at w c.args.array in
    let within : c.loop-place.place < length items = omega (arith, c.loop-place-test.true, c.count-place-end.ensures) in
    let read : c.item-v.result ≡ item_at items c.loop-place.place =
    c.item-v.ensures ∙ ap (λ is. item_at is c.loop-place.place) (same-elements w v c.args.array c.loop-place.invariant.1) in (
      c.loop-place.invariant.0
          ∙ converted-more v c.to_text.new.heap c.in_ok-to_text.field-0 items c.loop-place.place c.item-v.result within read c.in_ok-to_text.ensures.made,
      ap (λ made. made.1.objects) c.to_text.ensures.made ∙ text-keeps v c.item-v.result ∙ c.loop-place.invariant.1,
      search rules,
    )
