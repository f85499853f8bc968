use Rattle.std.proofs.Common.{[]}
use Rattle.rip_replica.specs.Going.{going}
use Rattle.rip_replica.proofs.Pieces.{rests_on}
use Rattle.rip_replica.proofs.scheduler.runner.Runner.resume.Goals as goal

pub returns-in-Rests-clause-law : goal.returns-in-Rests-clause-law
returns-in-Rests-clause-law g c =
    let plan = g.P.Planner.plan in
    rests_on (g.E.Evaluator.evaluation c.args.program.now) [] [] (going plan c.args.self.now) (going plan c.loop-units.self) (going plan c.turn.new.self)
    c.args.heap.now c.loop-units.heap c.turn.new.heap c.args.host.now c.loop-units.host c.turn.new.host c.args.n c.loop-units.left c.in-Rests.rested
    c.loop-units.invariant.leads c.in-Rests.ensures.moves
