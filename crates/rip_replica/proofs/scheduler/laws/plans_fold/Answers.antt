use Rattle.rip_replica.proofs.PlayLaws as laws
use Rattle.rip_replica.proofs.scheduler.laws.plans_fold.Goals as goal

pub returns : goal.returns
returns g c = λ full plan next gs fuel u.
    laws.plans_fold ((g.E.Evaluator.evaluation c.args.program.now).run c.args.evaluator.now) full plan next gs fuel u
