use Rattle.std.proofs.Common.{Ok, ap, sym, ◌∙◌}
use Rattle.rip_heap.specs.Outcome.{number_or_fault}
use Rattle.rip_ops.specs.Arithmetic.{bits_not, negative}
use Rattle.rip_ops.specs.Numbers.{of_result}
use Rattle.rip_eval_language.specs.Rows.Expressions.{gives, operated, with_outcome}
use Rattle.rip_eval_in_place.proofs.InPlace.{number_of_one}
use Rattle.rip_eval_in_place.proofs.had.operated.Goals as goal

pub returns-in-Ok : goal.returns-in-Ok
returns-in-Ok c =
    let w = c.args.heap.now in
    let a = c.args.a in
    number_of_one c.args.op a w (Ok c.negative.result) c.number-in-Ok.result
    (λ p at. ap (λ op. operated p at op a w) c.in-Minus.is ∙ ap (λ n. with_outcome (number_or_fault w (of_result negative n)) w gives) (sym c.in-Ok.ensures.number)
    ∙ ap (λ n. with_outcome (number_or_fault w n) w gives) c.negative.ensures) c.number-in-Ok.ensures

pub returns-in-Ok-to_number : goal.returns-in-Ok-to_number
returns-in-Ok-to_number c =
    let w = c.args.heap.now in
    let a = c.args.a in
    number_of_one c.args.op a w (Ok c.bits_not.result) c.number-in-Ok-to_number.result
    (λ p at. ap (λ op. operated p at op a w) c.in-BitNot.is ∙ ap (λ n. with_outcome (number_or_fault w (of_result bits_not n)) w gives) (sym c.in-Ok-to_number.ensures.number)
    ∙ ap (λ n. with_outcome (number_or_fault w n) w gives) c.bits_not.ensures) c.number-in-Ok-to_number.ensures
