use Rattle.rip_machine.specs.Law.{loaded}
use Rattle.rip_machine.specs.Starting.{arguments_in, begun, started_of}
use Rattle.rip_eval_language.specs.Table.{table}
use Rattle.rip_machine.proofs.PlanLaws.{begins, same_run}
use Rattle.rip_machine.proofs.Roomed.{started_room}
use Rattle.rip_machine.proofs.machine.Machine.begin_run.Goals as goal

pub returns-clause-keeps : goal.returns-clause-keeps
returns-clause-keeps g c =
    let keeps = c.start.ensures.keeps in
    same_run g.H.Host.answers c.args.program.now c.args.self.now c.start.new.self keeps.0 keeps.1

pub returns-clause-begins : goal.returns-clause-begins
returns-clause-begins g c =
    let keeps = c.start.ensures.keeps in
    begins g.H.Host.answers c.args.program.now c.args.self.now c.start.new.self c.args.heap.now c.start.new.heap (started_of c.args.s.now) c.args.fuel c.start.result keeps.0 keeps.1
    c.start.ensures.starts

pub returns-clause-room : goal.returns-clause-room
returns-clause-room g c most has few within =
    started_room (table (loaded c.args.program.now c.args.self.now)) (begun (loaded c.args.program.now c.args.self.now) c.args.self.now.depth c.args.s.now c.args.heap.now) c.args.fuel c.args.heap.now c.start.new.heap
    c.args.self.now c.start.new.self c.start.result most (arguments_in (started_of c.args.s.now)) c.start.ensures.starts c.start.ensures.keeps.2 c.start.ensures.values has few within
