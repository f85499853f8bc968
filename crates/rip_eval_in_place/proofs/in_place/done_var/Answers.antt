use Rattle.std.proofs.Common.{◌+◌, refl}
use Rattle.rip_eval_language.specs.Reading.{child}
use Rattle.rip_eval_in_place.proofs.InPlace.{var_done}
use Rattle.rip_eval_in_place.proofs.in_place.done_var.Goals as goal

pub returns-in-Ok-clause-done : goal.returns-in-Ok-clause-done
returns-in-Ok-clause-done c =
    let p = c.args.p.now in
    let at = c.args.at.now in
    let had = c.in-Some-had_inside.had in
    let only = c.in-Some.ensures in
    var_done p at c.args.heap.now c.had_inside.new.heap c.write.new.heap had.value (child p at.node 0) c.in-Some.e had.units (1 + had.units) only.0 only.1 only.2
    c.in-Some-had_inside.ensures.had (cc (c.in-Ok.ensures.written)) refl
