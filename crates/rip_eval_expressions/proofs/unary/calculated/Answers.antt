use Rattle.rip_ops.specs.Operators.{unary}
use Rattle.rip_eval_language.specs.Rows.Expressions.{abruptly, gives, with_outcome}
use Rattle.rip_eval_language.proofs.Abruptly.{answers_want_none, does_as, outcome_abruptly}
use Rattle.rip_eval_expressions.proofs.unary.calculated.Goals as goal

pub returns-in-Err-clause-row : goal.returns-in-Err-clause-row
returns-in-Err-clause-row c =
    let w = c.args.heap.now in
    let x = c.unary.new.heap in
    let outcome = unary w c.args.op c.args.a in
    does_as c.abrupt.result c.abrupt.new.heap (abruptly c.in-Err.cause x) (with_outcome outcome w gives) c.abrupt.ensures.row
    (outcome_abruptly outcome w x c.in-Err.cause gives c.in-Err.ensures.answers)

pub abrupt-requires : goal.abrupt-requires
abrupt-requires c = answers_want_none (unary c.args.heap.now c.args.op c.args.a) c.args.heap.now c.unary.new.heap c.in-Err.cause c.in-Err.ensures.answers
