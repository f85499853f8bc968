use Rattle.rip_ops.specs.Writing.{write}
use Rattle.rip_eval_language.proofs.Abruptly.{writing_abruptly, writing_wants_none}
use Rattle.rip_eval_expressions.proofs.members.write_value.Goals as goal

pub returns-in-Err-clause-written : goal.returns-in-Err-clause-written
returns-in-Err-clause-written g c =
    let w = c.args.heap.now in
    let v = c.args.v.now in
    writing_abruptly g.H.Host.answers (write w c.args.base.now c.args.key v) v w c.write.new.heap c.abrupt.new.heap c.args.host.now c.in-Err.cause c.abrupt.result
    c.in-Err.ensures.writes c.abrupt.ensures.row

pub abrupt-requires : goal.abrupt-requires
abrupt-requires g c = writing_wants_none (write c.args.heap.now c.args.base.now c.args.key c.args.v.now) c.args.heap.now c.write.new.heap c.in-Err.cause c.in-Err.ensures.writes
