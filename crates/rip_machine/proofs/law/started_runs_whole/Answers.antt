use Rattle.rip_machine.specs.Law.{loaded}
use Rattle.rip_machine.proofs.WholeRuns.{goes_whole, stopped}
use Rattle.rip_machine.proofs.law.started_runs_whole.Goals as goal

pub returns-clause-goes : goal.returns-clause-goes
returns-clause-goes g c = λ start w depth started m' w' s' turned law.
    goes_whole g.H.Host.answers (loaded c.args.program.now c.args.machine.now) depth start w
    c.args.heap.now w' c.args.host.now s' c.args.fuel c.args.machine.now m' turned started law

pub returns-clause-stops : goal.returns-clause-stops
returns-clause-stops g c = λ start w depth limit exceeds.
    stopped g.H.Host.answers (loaded c.args.program.now c.args.machine.now) depth start w c.args.host.now c.args.fuel limit exceeds
