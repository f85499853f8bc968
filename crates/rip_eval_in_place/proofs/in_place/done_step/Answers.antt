use Rattle.std.proofs.Common.{◌≡◌, ◌<◌, Ok, if◌then◌else◌, ap, sym, subst, ◌∙◌, arith}
use Rattle.rip_eval_language.specs.Reading.{is_postfix, target_at}
use Rattle.rip_eval_language.specs.Rows.Expressions.{numbers_of_step}
use Rattle.rip_eval_in_place.proofs.InPlace.{step_done}
use Rattle.rip_eval_in_place.proofs.in_place.done_step.Goals as goal
use Rattle.rip_eval_in_place.proofs.in_place.done_step.Goals.{then-is_postfix, else-is_postfix}

pub returns-after-is_postfix-clause-done : goal.returns-after-is_postfix-clause-done
returns-after-is_postfix-clause-done c =
    let p = c.args.p.now in
    let at = c.args.at.now in
    let w = c.args.heap.now in
    let old = c.in-Ok.old in
    let new = c.in-Ok.new in
    let given : c.if-is_postfix.given ≡ (if is_postfix p at.node then old else new) =
    elim c.if-is_postfix.branch [
      | then-is_postfix b ↦ b.given-is ∙ ap (λ t. if t then old else new) (sym b.if-is_postfix.true ∙ c.is_postfix.ensures)
      | else-is_postfix b ↦ b.given-is ∙ ap (λ t. if t then old else new) (sym b.if-is_postfix.false ∙ c.is_postfix.ensures)
    ] in
    let some : 0 < (target_at p at 0).room = omega arith in
    step_done p at w c.done_write.new.heap c.in-Some.v (old, new) c.if-is_postfix.given c.done_write.result (c.is_name.ensures c.if-not-is_name.false) some
    (sym c.in-Some.ensures) (subst (λ op. numbers_of_step w op c.in-Some.v ≡ Ok (old, new)) c.step_operator.ensures (sym c.in-Ok.ensures)) given
    c.done_write.ensures.done
