use Rattle.rip_ops.specs.Writing.{write}
use Rattle.rip_eval_in_place.proofs.InPlace.{not_written}
use Rattle.rip_eval_in_place.proofs.in_place.done_put.Goals as goal

pub returns-in-Err-clause-done : goal.returns-in-Err-clause-done
returns-in-Err-clause-done c =
    not_written (write c.args.heap.now c.args.member.now.base c.args.member.now.key c.args.v.now) c.args.heap.now c.write.new.heap c.in-Err.field-0 c.in-Err.ensures.writes
