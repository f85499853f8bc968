use Rattle.std.proofs.Common.{◌≡◌, ◌<◌, ◌≤◌, ◌+◌, ◌∙◌, drop, unwrap_or, sym, ap, arith}
use Rattle.std.proofs.lemmas.Option.{unwrap_or-slice_get}
use Rattle.rip_values.specs.Pool.{text_at}
use Rattle.rip_base.specs.declared.value.Value.TheVariants.{Undefined, Object}
use Rattle.rip_heap.specs.Arrays.{elements_at}
use Rattle.rip_heap.specs.World.{object_at}
use Rattle.rip_convert.specs.Arguments.{properties_of, or_fault, text_fault, elements_fault, fields_fault, fault_of}
use Rattle.rip_convert.specs.Written.{mark_of}
use Rattle.rip_convert.proofs.FirstFault.{or_first, or_later, element_fault, properties_few, fault_object, deeper_none}
use Rattle.rip_convert.proofs.faults.+faults.Goals as goal

pub elements_fault-returns-then-is_some-clause-fault : goal.elements_fault-returns-then-is_some-clause-fault
elements_fault-returns-then-is_some-clause-fault t c =
    let w = c.args.heap.now in
    let vs = elements_at w c.args.array in
    let walk = fault_of c.args.levels w in
    let i = c.loop-place.place in
    let is = c.unwrap_or-v.ensures ∙ ap (λ o. unwrap_or o Undefined) c.item.ensures ∙ unwrap_or-slice_get vs i Undefined in
    let here = element_fault walk vs i c.unwrap_or-v.result (omega (arith, c.loop-place-test.true, c.count-place-end.ensures)) is in
    let rest = elements_fault walk (drop (i + 1) vs) in
    or_first c.first_fault-fault.result rest (sym c.is_some.ensures ∙ c.if-is_some.true) ∙ ap (λ o. or_fault o rest) c.first_fault-fault.ensures.fault ∙ sym here ∙ c.loop-place.invariant.0

pub elements_fault-loop-place-preserved : goal.elements_fault-loop-place-preserved
elements_fault-loop-place-preserved t c =
    let w = c.args.heap.now in
    let vs = elements_at w c.args.array in
    let walk = fault_of c.args.levels w in
    let i = c.loop-place.place in
    let is = c.unwrap_or-v.ensures ∙ ap (λ o. unwrap_or o Undefined) c.item.ensures ∙ unwrap_or-slice_get vs i Undefined in
    let here = element_fault walk vs i c.unwrap_or-v.result (omega (arith, c.loop-place-test.true, c.count-place-end.ensures)) is in
    let rest = elements_fault walk (drop (i + 1) vs) in (
      sym (or_later c.first_fault-fault.result rest (sym c.is_some.ensures ∙ c.if-is_some.false)) ∙ ap (λ o. or_fault o rest) c.first_fault-fault.ensures.fault ∙ sym here ∙ c.loop-place.invariant.0,
      c.first_fault-fault.ensures.walked,
    )

pub fields_fault-returns-then-is_some-2-clause-fault : goal.fields_fault-returns-then-is_some-2-clause-fault
fields_fault-returns-then-is_some-2-clause-fault t c =
    let w = c.args.heap.now in
    let walk = fault_of c.args.levels w in
    let property = c.in-Some.property in
    let rest = or_fault (walk property.value) (fields_fault walk w.pool c.next.new.self) in
    let spelling : c.get.result.now ≡ text_at w.pool property.name = c.get.ensures.text ∙ ap (λ p. text_at p property.name) c.pool.ensures in
    let here = ap (fields_fault walk w.pool) c.in-Some.ensures.steps in
    or_first c.text_fault-of_name.result rest (sym c.is_some-in-Some.ensures ∙ c.if-is_some-2.true)
    ∙ ap (λ o. or_fault o rest) (c.text_fault-of_name.ensures ∙ ap text_fault spelling) ∙ sym here ∙ c.loop-property.invariant.0
    ∙ sym (properties_few walk w.pool (properties_of (object_at w c.args.object)) c.loop-property.invariant.2)

pub fields_fault-returns-then-is_some-3-clause-fault : goal.fields_fault-returns-then-is_some-3-clause-fault
fields_fault-returns-then-is_some-3-clause-fault t c =
    let w = c.args.heap.now in
    let walk = fault_of c.args.levels w in
    let property = c.in-Some.property in
    let end = fields_fault walk w.pool c.next.new.self in
    let rest = or_fault (walk property.value) end in
    let spelling : c.get.result.now ≡ text_at w.pool property.name = c.get.ensures.text ∙ ap (λ p. text_at p property.name) c.pool.ensures in
    let here = ap (fields_fault walk w.pool) c.in-Some.ensures.steps in
    or_first c.first_fault-of_value.result end (sym c.is_some-in-Some-2.ensures ∙ c.if-is_some-3.true) ∙ ap (λ o. or_fault o end) c.first_fault-of_value.ensures.fault
    ∙ sym (or_later c.text_fault-of_name.result rest (sym c.is_some-in-Some.ensures ∙ c.if-is_some-2.false))
    ∙ ap (λ o. or_fault o rest) (c.text_fault-of_name.ensures ∙ ap text_fault spelling) ∙ sym here ∙ c.loop-property.invariant.0
    ∙ sym (properties_few walk w.pool (properties_of (object_at w c.args.object)) c.loop-property.invariant.2)

pub fields_fault-loop-property-preserved : goal.fields_fault-loop-property-preserved
fields_fault-loop-property-preserved t c =
    let w = c.args.heap.now in
    let walk = fault_of c.args.levels w in
    let property = c.in-Some.property in
    let end = fields_fault walk w.pool c.next.new.self in
    let rest = or_fault (walk property.value) end in
    let spelling : c.get.result.now ≡ text_at w.pool property.name = c.get.ensures.text ∙ ap (λ p. text_at p property.name) c.pool.ensures in
    let here = ap (fields_fault walk w.pool) c.in-Some.ensures.steps in (
      sym (or_later c.first_fault-of_value.result end (sym c.is_some-in-Some-2.ensures ∙ c.if-is_some-3.false)) ∙ ap (λ o. or_fault o end) c.first_fault-of_value.ensures.fault
          ∙ sym (or_later c.text_fault-of_name.result rest (sym c.is_some-in-Some.ensures ∙ c.if-is_some-2.false))
          ∙ ap (λ o. or_fault o rest) (c.text_fault-of_name.ensures ∙ ap text_fault spelling) ∙ sym here ∙ c.loop-property.invariant.0,
      c.first_fault-of_value.ensures.walked,
      c.loop-property.invariant.2,
    )

pub fields_fault-returns-clause-fault : goal.fields_fault-returns-clause-fault
fields_fault-returns-clause-fault t c =
    let w = c.args.heap.now in
    let walk = fault_of c.args.levels w in
    sym (ap (fields_fault walk w.pool) c.in_default.ensures.steps.0) ∙ c.loop-property.invariant.0
    ∙ sym (properties_few walk w.pool (properties_of (object_at w c.args.object)) c.loop-property.invariant.2)

pub object_fault-returns-then-mark-levels-clause-fault : goal.object_fault-returns-then-mark-levels-clause-fault
object_fault-returns-then-mark-levels-clause-fault t c =
    let w = c.args.heap.now in
    let n = c.args.number in
    let mark = mark_of c.args.marks.now n in
    let some : 0 < mark = omega (arith, c.at-mark.ensures, c.if-mark-gt0.true) in
    let few : mark ≤ c.args.levels = omega (arith, c.at-mark.ensures, c.if-mark-levels.true) in
    sym (deeper_none mark c.args.levels w (Object n) few (c.requires.walked n some))

pub object_fault-returns-else-is_none-clause-fault : goal.object_fault-returns-else-is_none-clause-fault
object_fault-returns-else-is_none-clause-fault t c =
    c.parts_fault-fault.ensures.fault ∙ sym (fault_object c.args.levels c.args.heap.now c.args.number (omega (arith, c.if-levels-eq0.false)))
