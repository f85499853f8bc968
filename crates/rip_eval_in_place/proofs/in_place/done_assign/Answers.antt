use Rattle.rip_eval_rows.specs.declared.completion.Completion.TheVariants.{Normal}
use Rattle.rip_eval_in_place.proofs.InPlace.{assign_done, of_child}
use Rattle.rip_eval_in_place.proofs.in_place.done_assign.Goals as goal

pub returns-in-Some-clause-done : goal.returns-in-Some-clause-done
returns-in-Some-clause-done c =
    let p = c.args.p.now in
    let at = c.args.at.now in
    let w = c.args.heap.now in
    let y = c.had_inside.new.heap in
    let had = c.in-Some.had in
    assign_done p at w y c.done_write.new.heap had.value had.units c.done_write.result (c.is_name.ensures c.if-not-is_name.false) c.had_inside.ensures.texts
    (of_child p at w y (Normal had.value) 1 c.child.result had.units c.child.ensures c.in-Some.ensures.had) c.done_write.ensures.done
