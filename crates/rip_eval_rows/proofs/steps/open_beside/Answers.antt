use Rattle.rip_eval_rows.proofs.Nested.{kept_behind}
use Rattle.rip_eval_rows.proofs.steps.open_beside.Goals as goal

pub returns : goal.returns
returns c = kept_behind c.args.stack.now c.pushed.new.stack c.kept.new.stack c.args.frame.now c.args.value.now c.pushed.ensures c.kept.ensures
