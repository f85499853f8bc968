use Rattle.std.proofs.Common.{◌≡◌, subst, sym}
use Rattle.rip_heap.specs.Outcome.{Gives}
use Rattle.rip_ops.specs.Operators.{binary}
use Rattle.rip_eval_rows.specs.declared.completion.Completion.TheVariants.{Normal}
use Rattle.rip_eval_in_place.proofs.InPlace.{compound_done, of_child}
use Rattle.rip_eval_in_place.proofs.Texts.{adds_on, grows_on, texts_grow}
use Rattle.rip_eval_in_place.proofs.in_place.done_compound.Goals as goal

pub returns-in-Some-calculated-clause-done : goal.returns-in-Some-calculated-clause-done
returns-in-Some-calculated-clause-done c =
    let p = c.args.p.now in
    let at = c.args.at.now in
    let w = c.args.heap.now in
    let y = c.had_inside.new.heap in
    let z = c.calculated.new.heap in
    let had = c.in-Some-had_inside.had in
    let v = c.in-Some-calculated.v in
    compound_done p at w y z c.done_write.new.heap c.in-Some.old had.value v had.units c.done_write.result (c.is_name.ensures c.if-not-is_name.false)
    (sym c.in-Some.ensures) (adds_on w y z c.had_inside.ensures.texts c.calculated.ensures.texts)
    (of_child p at w y (Normal had.value) 1 c.child.result had.units c.child.ensures c.in-Some-had_inside.ensures.had)
    (subst (λ op. binary y op c.in-Some.old had.value ≡ Gives v z) c.operator.ensures c.in-Some-calculated.ensures.gives) c.done_write.ensures.done

pub returns-in-Some-calculated-clause-grows : goal.returns-in-Some-calculated-clause-grows
returns-in-Some-calculated-clause-grows c =
    let w = c.args.heap.now in
    let y = c.had_inside.new.heap in
    let z = c.calculated.new.heap in
    grows_on w z c.done_write.new.heap (texts_grow w z (adds_on w y z c.had_inside.ensures.texts c.calculated.ensures.texts)) c.done_write.ensures.grows
