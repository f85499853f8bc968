use Rattle.std.proofs.Common.{◌+◌, refl}
use Rattle.rip_eval_rows.specs.declared.completion.Completion.TheVariants.{Normal}
use Rattle.rip_eval_in_place.proofs.InPlace.{member_done, of_child}
use Rattle.rip_eval_in_place.proofs.referred.done_member.Goals as goal

pub returns-in-Some-named_end-clause-done : goal.returns-in-Some-named_end-clause-done
returns-in-Some-named_end-clause-done c =
    let p = c.args.p.now in
    let at = c.args.at.now in
    let w = c.args.heap.now in
    let y = c.had_inside.new.heap in
    let base = c.in-Some.base in
    member_done p at w y base.value c.in-Some-named_end.completion base.units (1 + base.units)
    (of_child p at w y (Normal base.value) 0 c.child.result base.units c.child.ensures c.in-Some.ensures.had) c.in-Some-named_end.ensures refl
