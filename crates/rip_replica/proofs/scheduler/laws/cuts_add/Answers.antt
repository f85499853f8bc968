use Rattle.rip_replica.specs.Going.{going}
use Rattle.rip_replica.proofs.Pieces.{stands_later}
use Rattle.rip_replica.proofs.scheduler.laws.cuts_add.Goals as goal

pub returns : goal.returns
returns g c = λ batch changes new j n after x t stands leads.
    stands_later (g.E.Evaluator.evaluation c.args.program.now) batch changes new (going g.P.Planner.plan c.args.runner.now) after c.args.heap.now x c.args.host.now t j n stands leads
