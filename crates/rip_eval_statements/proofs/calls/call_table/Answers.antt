use Rattle.rip_builtins.specs.Builtins.{builtin}
use Rattle.rip_eval_language.specs.Rows.Expressions.{gives}
use Rattle.rip_eval_language.proofs.Abruptly.{answered_abruptly, answers_want_none}
use Rattle.rip_eval_statements.proofs.calls.call_table.Goals as goal

pub returns-in-Err-clause-row : goal.returns-in-Err-clause-row
returns-in-Err-clause-row c =
    let w = c.args.heap.now in
    answered_abruptly (builtin w c.args.b c.args.this.now c.args.args.now) w c.builtin.new.heap c.abrupt.new.heap c.in-Err.cause gives c.abrupt.result
    c.in-Err.ensures.answers c.abrupt.ensures.row

pub abrupt-requires : goal.abrupt-requires
abrupt-requires c = answers_want_none (builtin c.args.heap.now c.args.b c.args.this.now c.args.args.now) c.args.heap.now c.builtin.new.heap c.in-Err.cause c.in-Err.ensures.answers
