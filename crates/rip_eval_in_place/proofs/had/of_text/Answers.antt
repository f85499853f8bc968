use Rattle.rip_ops.specs.Addition.{added}
use Rattle.rip_eval_in_place.proofs.Texts.{sum_adds, sum_fails}
use Rattle.rip_eval_in_place.proofs.had.of_text.Goals as goal

pub returns-in-Ok-clause-texts : goal.returns-in-Ok-clause-texts
returns-in-Ok-clause-texts c = sum_adds c.args.heap.now c.added.new.heap c.args.a c.args.b c.in-Ok.v c.in-Ok.ensures.answers

pub returns-in-Err-clause-texts : goal.returns-in-Err-clause-texts
returns-in-Err-clause-texts c =
    sum_fails c.args.heap.now c.added.new.heap (added c.args.heap.now c.args.a c.args.b) c.in-Err.field-0 c.in-Err.ensures.answers
