use Rattle.rip_machine.specs.Law.{loaded, run}
use Rattle.rip_eval_language.specs.Table.{table}
use Rattle.rip_eval_rows.proofs.Resumes.{begins_whole}
use Rattle.rip_machine.proofs.law.begun_is_whole.Goals as goal

pub returns : goal.returns
returns g c = λ row begins k.
    begins_whole g.H.Host.answers (table (loaded c.args.program.now c.args.machine.now)) row
    c.args.fuel c.args.heap.now c.args.host.now (run c.args.machine.now) begins k
