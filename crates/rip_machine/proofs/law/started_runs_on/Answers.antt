use Rattle.rip_machine.specs.Law.{loaded}
use Rattle.rip_machine.proofs.WholeRuns.{runs_on}
use Rattle.rip_machine.proofs.law.started_runs_on.Goals as goal

pub returns : goal.returns
returns g c = λ start w depth started k.
    runs_on g.H.Host.answers (loaded c.args.program.now c.args.machine.now) depth start w
    c.args.heap.now c.args.host.now c.args.fuel c.args.machine.now started k
