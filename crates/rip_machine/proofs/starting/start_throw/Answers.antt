use Rattle.std.proofs.Common.{ap, sym}
use Rattle.rip_heap.specs.declared.class.Class.TheVariants.{ThrownTypeError}
use Rattle.rip_eval_language.specs.Rows.Names.{throws}
use Rattle.rip_machine.specs.Starting.{Runs}
use Rattle.rip_eval_language.specs.Table.{table}
use Rattle.rip_machine.proofs.Beginnings.{stood_in}
use Rattle.rip_machine.proofs.starting.start_throw.Goals as goal

pub returns-clause-starts : goal.returns-clause-starts
returns-clause-starts c = λ p args.
    let row = throws ThrownTypeError c.args.heap.now in
    let stood = stood_in c.throw-thrown.result (table p) c.outside.result row c.args.fuel c.begin.new.self c.throw-thrown.new.heap c.throw-thrown.ensures.row c.begin.ensures.begins in
    (row, ap (Runs row) (sym stood.0), stood.1)
