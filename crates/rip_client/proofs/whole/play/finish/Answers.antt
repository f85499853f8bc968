use Rattle.rip_replica.specs.Going.{going}
use Rattle.rip_replica.specs.Standing.{planned}
use Rattle.rip_client.proofs.PlayedWhole.{left_by}
use Rattle.rip_client.proofs.whole.play.finish.Goals as goal

pub returns-in-Finished-clause-law : goal.returns-in-Finished-clause-law
returns-in-Finished-clause-law g c =
    let law = c.in-Finished.ensures.law in
    left_by (g.E.Evaluator.evaluation c.args.program.now) (going (planned g.I.Items.under_way) c.args.replica.now.runner) (going (planned g.I.Items.under_way) c.go_on.new.replica.runner) c.args.replica.now.heap c.go_on.new.replica.heap c.args.replica.now.host c.go_on.new.replica.host c.args.left c.in-Finished.left c.args.full c.in-Finished.close law.0 law.1
