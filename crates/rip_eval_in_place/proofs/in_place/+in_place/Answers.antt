use Rattle.std.proofs.Common.{◌+◌, None, Some, ap, refl, sym}
use Rattle.rip_base.specs.declared.value.Value.TheVariants.{Undefined}
use Rattle.rip_eval_rows.specs.declared.completion.Completion.TheVariants.{Normal, Returned, Broken, Continued}
use Rattle.rip_eval_language.specs.Rows.Statements.{return_of, return_row}
use Rattle.rip_eval_language.specs.Table.{row_by}
use Rattle.rip_eval_in_place.proofs.InPlace.{block_done, ended_done, expression_done, if_branch_done, if_done, of_child, return_done}
use Rattle.rip_eval_in_place.proofs.in_place.+in_place.Goals as goal

pub done_by_form-returns-in-Break-clause-done : goal.done_by_form-returns-in-Break-clause-done
done_by_form-returns-in-Break-clause-done t c =
    let p = c.args.p.now in
    let at = c.args.at.now in
    let w = c.args.heap.now in
    ended_done p (row_by p at c.args.form.now w) w Broken c.ended.result c.ended.ensures (ap (λ form. row_by p at form w) c.in-Break.is)

pub done_by_form-returns-in-Continue-clause-done : goal.done_by_form-returns-in-Continue-clause-done
done_by_form-returns-in-Continue-clause-done t c =
    let p = c.args.p.now in
    let at = c.args.at.now in
    let w = c.args.heap.now in
    ended_done p (row_by p at c.args.form.now w) w Continued c.ended-in-Continue.result c.ended-in-Continue.ensures (ap (λ form. row_by p at form w) c.in-Continue.is)

pub done_expression-returns-in-Some-clause-done : goal.done_expression-returns-in-Some-clause-done
done_expression-returns-in-Some-clause-done t c =
    let p = c.args.p.now in
    let at = c.args.at.now in
    let w = c.args.heap.now in
    let x = c.done_inside.new.heap in
    let inner = c.in-Some.inner in
    expression_done p at w x inner.completion c.expression_end.result inner.units (1 + inner.units)
    (of_child p at w x inner.completion 0 c.child.result inner.units c.child.ensures c.in-Some.ensures.done) c.expression_end.ensures refl

pub done_block-returns-in-Some-done_inside-clause-done : goal.done_block-returns-in-Some-done_inside-clause-done
done_block-returns-in-Some-done_inside-clause-done t c =
    let inner = c.in-Some-done_inside.inner in
    block_done c.args.p.now c.args.at.now c.args.heap.now c.done_inside.new.heap inner.completion c.expression_end.result c.in-Some.statement inner.units (1 + inner.units)
    c.in-Some.ensures.0 c.in-Some.ensures.1 c.in-Some-done_inside.ensures.done c.expression_end.ensures refl

pub done_if-returns-in-None-branch_of-clause-done : goal.done_if-returns-in-None-branch_of-clause-done
done_if-returns-in-None-branch_of-clause-done t c =
    let p = c.args.p.now in
    let at = c.args.at.now in
    let w = c.args.heap.now in
    let y = c.had_inside.new.heap in
    let test = c.in-Some.test in
    if_done p at w y test.value None test.units (1 + test.units)
    (of_child p at w y (Normal test.value) 0 c.child.result test.units c.child.ensures c.in-Some.ensures.had) c.in-None-branch_of.ensures refl refl

pub done_if-returns-in-Some-done_inside-clause-done : goal.done_if-returns-in-Some-done_inside-clause-done
done_if-returns-in-Some-done_inside-clause-done t c =
    let p = c.args.p.now in
    let at = c.args.at.now in
    let w = c.args.heap.now in
    let y = c.had_inside.new.heap in
    let x = c.done_inside.new.heap in
    let test = c.in-Some.test in
    let branch = c.in-Some-branch_of.branch in
    let later = c.in-Some-done_inside.last in
    if_branch_done p at w y x test.value later.completion (Some branch) branch test.units later.units (1 + test.units + later.units)
    (of_child p at w y (Normal test.value) 0 c.child.result test.units c.child.ensures c.in-Some.ensures.had) c.in-Some-branch_of.ensures refl
    c.in-Some-done_inside.ensures.done refl

pub done_return-returns-in-Some-done_inside-clause-done : goal.done_return-returns-in-Some-done_inside-clause-done
done_return-returns-in-Some-done_inside-clause-done t c =
    let inner = c.in-Some-done_inside.inner in
    return_done c.args.p.now c.args.at.now c.args.heap.now c.done_inside.new.heap inner.completion c.returned.result c.in-Some.e inner.units (1 + inner.units)
    (sym c.in-Some.ensures.child) c.in-Some-done_inside.ensures.done c.returned.ensures refl

pub done_return-returns-in-None-clause-done : goal.done_return-returns-in-None-clause-done
done_return-returns-in-None-clause-done t c =
    let p = c.args.p.now in
    let at = c.args.at.now in
    let w = c.args.heap.now in
    ended_done p (return_row p at w) w (Returned Undefined) c.ended.result c.ended.ensures (ap (λ e. return_of at e w) (sym c.in-None.ensures.child))
