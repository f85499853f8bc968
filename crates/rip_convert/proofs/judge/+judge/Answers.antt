use Rattle.std.proofs.Common.{◌≡◌, ℕ, ◌+◌, ◌-◌, ◌∙◌, Err, drop, unwrap_or, sym, ap, arith}
use Rattle.std.proofs.lemmas.Option.{unwrap_or-slice_get}
use Rattle.std.proofs.lemmas.Result.{err_from_is_err_and}
use Rattle.rip_values.specs.Pool.{text_at}
use Rattle.rip_base.specs.declared.value.Value.TheVariants.{Undefined}
use Rattle.rip_heap.specs.Arrays.{elements_at}
use Rattle.rip_convert.specs.Written.{then_left, spelled_left, elements_left, fields_left, left_after}
use Rattle.rip_convert.proofs.Judging.{element_here, left_number, left_object, left_text}
use Rattle.rip_convert.proofs.judge.+judge.Goals as goal

pub elements_left-returns-in_err-left-clause-left : goal.elements_left-returns-in_err-left-clause-left
elements_left-returns-in_err-left-clause-left t c =
    let w = c.args.heap.now in
    let vs = elements_at w c.args.array in
    let judge = left_after c.args.levels w in
    let v = c.unwrap_or-v.result in
    let here = element_here judge vs c.loop-place.place v c.loop-place.left (omega (arith, c.loop-place-test.true, c.count-place-end.ensures)) (c.unwrap_or-v.ensures ∙ ap (λ o. unwrap_or o Undefined) c.item.ensures ∙ unwrap_or-slice_get vs c.loop-place.place Undefined) in
    let p = err_from_is_err_and c.from_residual.result c.from_residual.ensures.1 in
    p.1 ∙ ap Err p.2 ∙ ap (λ m. then_left m (elements_left judge (drop (c.loop-place.place + 1) vs))) c.in_err-left.ensures.left ∙ sym here ∙ c.loop-place.invariant.0

pub elements_left-loop-place-preserved : goal.elements_left-loop-place-preserved
elements_left-loop-place-preserved t c =
    let w = c.args.heap.now in
    let vs = elements_at w c.args.array in
    let judge = left_after c.args.levels w in
    let v = c.unwrap_or-v.result in
    let here = element_here judge vs c.loop-place.place v c.loop-place.left (omega (arith, c.loop-place-test.true, c.count-place-end.ensures)) (c.unwrap_or-v.ensures ∙ ap (λ o. unwrap_or o Undefined) c.item.ensures ∙ unwrap_or-slice_get vs c.loop-place.place Undefined) in (
      ap (λ m. then_left m (elements_left judge (drop (c.loop-place.place + 1) vs))) c.in_ok-left.ensures.left ∙ sym here ∙ c.loop-place.invariant.0,
      omega (arith, c.in_ok-left.ensures.fewer, c.loop-place.invariant.1),
    )

pub fields_left-returns-in_err-rest-clause-left : goal.fields_left-returns-in_err-rest-clause-left
fields_left-returns-in_err-rest-clause-left t c =
    let w = c.args.heap.now in
    let judge = left_after c.args.levels w in
    let property = c.in-Some.property in
    let further = λ (rest : ℕ). then_left (judge property.value rest) (fields_left judge w.pool c.next.new.self) in
    let spelling : c.get.result.now ≡ text_at w.pool property.name = c.get.ensures.text ∙ ap (λ p. text_at p property.name) c.pool.ensures in
    let here = ap (λ ps. fields_left judge w.pool ps c.loop-property.left) c.in-Some.ensures.steps in
    let p = err_from_is_err_and c.from_residual.result c.from_residual.ensures.1 in
    p.1 ∙ ap Err p.2 ∙ ap (λ m. then_left m further) c.in_err-rest.ensures.left ∙ ap (λ u. then_left (spelled_left u c.loop-property.left) further) spelling ∙ sym here ∙ c.loop-property.invariant.0

pub fields_left-returns-in_err-left-clause-left : goal.fields_left-returns-in_err-left-clause-left
fields_left-returns-in_err-left-clause-left t c =
    let w = c.args.heap.now in
    let judge = left_after c.args.levels w in
    let property = c.in-Some.property in
    let further = λ (rest : ℕ). then_left (judge property.value rest) (fields_left judge w.pool c.next.new.self) in
    let spelling : c.get.result.now ≡ text_at w.pool property.name = c.get.ensures.text ∙ ap (λ p. text_at p property.name) c.pool.ensures in
    let here = ap (λ ps. fields_left judge w.pool ps c.loop-property.left) c.in-Some.ensures.steps in
    let p = err_from_is_err_and c.from_residual-in_err-left.result c.from_residual-in_err-left.ensures.1 in
    p.1 ∙ ap Err p.2 ∙ ap (λ m. then_left m (fields_left judge w.pool c.next.new.self)) c.in_err-left.ensures.left ∙ ap (λ m. then_left m further) c.in_ok-rest.ensures.left
    ∙ ap (λ u. then_left (spelled_left u c.loop-property.left) further) spelling ∙ sym here ∙ c.loop-property.invariant.0

pub fields_left-loop-property-preserved : goal.fields_left-loop-property-preserved
fields_left-loop-property-preserved t c =
    let w = c.args.heap.now in
    let judge = left_after c.args.levels w in
    let property = c.in-Some.property in
    let further = λ (rest : ℕ). then_left (judge property.value rest) (fields_left judge w.pool c.next.new.self) in
    let spelling : c.get.result.now ≡ text_at w.pool property.name = c.get.ensures.text ∙ ap (λ p. text_at p property.name) c.pool.ensures in
    let here = ap (λ ps. fields_left judge w.pool ps c.loop-property.left) c.in-Some.ensures.steps in (
      ap (λ m. then_left m (fields_left judge w.pool c.next.new.self)) c.in_ok-left.ensures.left ∙ ap (λ m. then_left m further) c.in_ok-rest.ensures.left
          ∙ ap (λ u. then_left (spelled_left u c.loop-property.left) further) spelling ∙ sym here ∙ c.loop-property.invariant.0,
      omega (arith, c.in_ok-left.ensures.fewer, c.in_ok-rest.ensures.no_more, c.loop-property.invariant.1),
    )

pub fields_left-returns-clause-left : goal.fields_left-returns-clause-left
fields_left-returns-clause-left t c =
    let w = c.args.heap.now in
    sym (ap (λ ps. fields_left (left_after c.args.levels w) w.pool ps c.loop-property.left) c.in_default.ensures.steps.0) ∙ c.loop-property.invariant.0

pub left_after-returns-else-levels-eq0-clause-left : goal.left_after-returns-else-levels-eq0-clause-left
left_after-returns-else-levels-eq0-clause-left t c =
    let w = c.args.heap.now in
    c.parts_left.ensures.left ∙ sym (ap (λ v. left_after c.args.levels w v c.args.left) c.in-Object.is ∙ left_object c.args.levels w c.in-Object.number c.args.left (omega (arith, c.if-levels-eq0.false)) (omega (arith, c.if-left-eq0.false)))

pub left_after-returns-in-Text-clause-left : goal.left_after-returns-in-Text-clause-left
left_after-returns-in-Text-clause-left t c =
    let w = c.args.heap.now in
    let span = c.in-Text.span in
    let spelling : c.get.result.now ≡ text_at w.pool span = c.get.ensures.text ∙ ap (λ p. text_at p span) c.pool.ensures in
    c.spelled_left.ensures.left ∙ ap (λ u. spelled_left u (c.args.left - 1)) spelling
    ∙ sym (ap (λ v. left_after c.args.levels w v c.args.left) c.in-Text.is ∙ left_text c.args.levels w span c.args.left (omega (arith, c.if-left-eq0.false)))

pub left_after-returns-in-Num-clause-left : goal.left_after-returns-in-Num-clause-left
left_after-returns-in-Num-clause-left t c =
    sym (ap (λ v. left_after c.args.levels c.args.heap.now v c.args.left) c.in-Num.is ∙ left_number c.args.levels c.args.heap.now c.in-Num.whole c.args.left c.get-number.ensures.whole (omega (arith, c.if-left-eq0.false)))
