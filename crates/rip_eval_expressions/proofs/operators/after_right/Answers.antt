use Rattle.std.proofs.Common.{◌≡◌, Err, ap, sym, ◌∙◌, subst, rules}
use Rattle.rip_base.specs.declared.operator.BinaryOperator.{BinaryOperator}
use Rattle.rip_heap.specs.Outcome.{Answers}
use Rattle.rip_ops.specs.Operators.{binary}
use Rattle.rip_eval_rows.specs.declared.completion.Completion.TheVariants.{Normal}
use Rattle.rip_eval_language.specs.Reading.{operator}
use Rattle.rip_eval_language.specs.Rows.Expressions.{abruptly, gives, right_end}
use Rattle.rip_eval_language.proofs.Abruptly.{answers_want_none, does_here, outcome_abruptly}
use Rattle.rip_eval_expressions.proofs.operators.after_right.Goals as goal

pub returns-in-Err-clause-row : goal.returns-in-Err-clause-row
returns-in-Err-clause-row c =
    let p = c.args.p.now in
    let at = c.args.at.now in
    let w = c.args.heap.now in
    let x = c.binary.new.heap in
    let left = c.args.left in
    let right : c.args.c.now ≡ Normal c.in-Some.right = search rules in
    let A : BinaryOperator → Type 0 = λ op. Answers (binary w op left c.in-Some.right) w (Err c.in-Err.cause) x in
    let answers = subst A c.operator.ensures c.in-Err.ensures.answers in
    let row = outcome_abruptly (binary w (operator p at.node) left c.in-Some.right) w x c.in-Err.cause gives answers in
    does_here p at c.abrupt.result c.abrupt.new.heap (abruptly c.in-Err.cause x) (right_end p at left c.args.c.now w) c.abrupt.ensures.row
    (row ∙ ap (λ d. right_end p at left d w) (sym right))

pub abrupt-requires : goal.abrupt-requires
abrupt-requires c = answers_want_none (binary c.args.heap.now c.operator.result c.args.left c.in-Some.right) c.args.heap.now c.binary.new.heap c.in-Err.cause c.in-Err.ensures.answers
