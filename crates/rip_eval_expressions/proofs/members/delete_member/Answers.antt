use Rattle.rip_ops.specs.Deleting.{deleted}
use Rattle.rip_eval_language.specs.Rows.Expressions.{abruptly}
use Rattle.rip_eval_language.specs.Rows.Members.{with_deletion}
use Rattle.rip_eval_language.proofs.Abruptly.{deletion_abruptly, deletion_wants_none, does_as}
use Rattle.rip_eval_expressions.proofs.members.delete_member.Goals as goal

pub returns-in-Err-clause-row : goal.returns-in-Err-clause-row
returns-in-Err-clause-row c =
    let w = c.args.heap.now in
    let x = c.delete.new.heap in
    let writing = deleted w c.args.member.now.base c.args.member.now.key in
    does_as c.abrupt.result c.abrupt.new.heap (abruptly c.in-Err.cause x) (with_deletion writing w) c.abrupt.ensures.row
    (deletion_abruptly writing w x c.in-Err.cause c.in-Err.ensures.deletes)

pub abrupt-requires : goal.abrupt-requires
abrupt-requires c = deletion_wants_none (deleted c.args.heap.now c.args.member.now.base c.args.member.now.key) c.args.heap.now c.delete.new.heap c.in-Err.cause c.in-Err.ensures.deletes
