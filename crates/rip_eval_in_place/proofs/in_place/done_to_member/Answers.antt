use Rattle.std.proofs.Common.{subst}
use Rattle.rip_eval_rows.specs.declared.completion.Completion.{Completion}
use Rattle.rip_eval_rows.specs.declared.completion.Completion.TheVariants.{Normal}
use Rattle.rip_eval_rows.specs.Done.{Done}
use Rattle.rip_eval_language.specs.Reading.{target_at}
use Rattle.rip_eval_language.specs.Table.{table}
use Rattle.rip_eval_in_place.proofs.InPlace.{member_assigned, of_child}
use Rattle.rip_eval_in_place.proofs.Texts.{adds_on}
use Rattle.rip_eval_in_place.proofs.in_place.done_to_member.Goals as goal

pub returns-in-Some-had_inside-clause-done : goal.returns-in-Some-had_inside-clause-done
returns-in-Some-had_inside-clause-done c =
    let p = c.args.p.now in
    let at = c.args.at.now in
    let w = c.args.heap.now in
    let y = c.done_target.new.heap in
    let z = c.had_inside.new.heap in
    let target = c.in-Some.target in
    let had = c.in-Some-had_inside.had in
    let D : Completion → Type 0 = λ e. Done (table p) (target_at p at 0) target.units w e y in
    member_assigned p at w y z c.done_put.new.heap c.in-Referred.member had.value target.units had.units c.done_put.result
    (adds_on w y z c.done_target.ensures.texts c.had_inside.ensures.texts)
    (subst D c.in-Referred.is c.in-Some.ensures.done)
    (of_child p at y z (Normal had.value) 1 c.child.result had.units c.child.ensures c.in-Some-had_inside.ensures.had) c.done_put.ensures.done
