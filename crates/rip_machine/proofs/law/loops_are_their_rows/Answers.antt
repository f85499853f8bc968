use Rattle.rip_machine.specs.Law.{loaded}
use Rattle.rip_machine.proofs.LoopRuns.{loops_same}
use Rattle.rip_machine.proofs.law.loops_are_their_rows.Goals as goal

pub returns : goal.returns
returns g c =
    loops_same g.H.Host.answers (loaded c.args.program.now c.args.machine.now) c.args.at
    c.args.heap.now c.args.host.now
