use Rattle.std.proofs.Common.{◌+◌, refl}
use Rattle.rip_eval_rows.specs.declared.completion.Completion.TheVariants.{Normal}
use Rattle.rip_eval_in_place.proofs.InPlace.{index_done, of_child}
use Rattle.rip_eval_in_place.proofs.Texts.{adds_on}
use Rattle.rip_eval_in_place.proofs.referred.done_index.Goals as goal

pub returns-in-Some-subscript_end-clause-done : goal.returns-in-Some-subscript_end-clause-done
returns-in-Some-subscript_end-clause-done c =
    let p = c.args.p.now in
    let at = c.args.at.now in
    let w = c.args.heap.now in
    let y = c.had_inside.new.heap in
    let x = c.had_inside-2.new.heap in
    let base = c.in-Some.base in
    let key = c.in-Some-had_inside.key in
    index_done p at w y x base.value key.value c.in-Some-subscript_end.completion base.units key.units (1 + base.units + key.units)
    (of_child p at w y (Normal base.value) 0 c.child.result base.units c.child.ensures c.in-Some.ensures.had)
    (of_child p at y x (Normal key.value) 1 c.child-subscript.result key.units c.child-subscript.ensures c.in-Some-had_inside.ensures.had) c.in-Some-subscript_end.ensures refl

pub returns-in-Some-subscript_end-clause-texts : goal.returns-in-Some-subscript_end-clause-texts
returns-in-Some-subscript_end-clause-texts c =
    adds_on c.args.heap.now c.had_inside.new.heap c.had_inside-2.new.heap c.had_inside.ensures.texts c.had_inside-2.ensures.texts
