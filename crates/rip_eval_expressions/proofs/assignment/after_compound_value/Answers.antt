use Rattle.std.proofs.Common.{◌≡◌, Err, ap, sym, ◌∙◌, subst, rules}
use Rattle.rip_base.specs.declared.operator.BinaryOperator.{BinaryOperator}
use Rattle.rip_heap.specs.Outcome.{Answers}
use Rattle.rip_ops.specs.Operators.{binary}
use Rattle.rip_eval_rows.specs.declared.completion.Completion.TheVariants.{Normal}
use Rattle.rip_eval_language.specs.Reading.{operator}
use Rattle.rip_eval_language.specs.Rows.Expressions.{abruptly, compound_value, writes}
use Rattle.rip_eval_language.proofs.Abruptly.{answers_want_none, does_with_host, outcome_abruptly}
use Rattle.rip_eval_expressions.proofs.assignment.after_compound_value.Goals as goal

pub returns-in-Err-clause-row : goal.returns-in-Err-clause-row
returns-in-Err-clause-row g c =
    let p = c.args.p.now in
    let at = c.args.at.now in
    let w = c.args.heap.now in
    let x = c.binary.new.heap in
    let target = c.args.target.now in
    let old = c.args.old.now in
    let right : c.args.c.now ≡ Normal c.in-Some.right = search rules in
    let A : BinaryOperator → Type 0 = λ op. Answers (binary w op old c.in-Some.right) w (Err c.in-Err.cause) x in
    let answers = subst A c.operator.ensures c.in-Err.ensures.answers in
    let row = outcome_abruptly (binary w (operator p at.node) old c.in-Some.right) w x c.in-Err.cause (λ v y. writes p at target v v y) answers in
    does_with_host g.H.Host.answers p at c.abrupt.result c.abrupt.new.heap c.args.host.now (abruptly c.in-Err.cause x) (compound_value p at target old c.args.c.now w) c.abrupt.ensures.row
    (row ∙ ap (λ d. compound_value p at target old d w) (sym right))

pub abrupt-requires : goal.abrupt-requires
abrupt-requires g c = answers_want_none (binary c.args.heap.now c.operator.result c.args.old.now c.in-Some.right) c.args.heap.now c.binary.new.heap c.in-Err.cause c.in-Err.ensures.answers
