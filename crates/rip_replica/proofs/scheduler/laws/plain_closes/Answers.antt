use Rattle.rip_replica.proofs.PlayLaws as laws
use Rattle.rip_replica.proofs.scheduler.laws.plain_closes.Goals as goal

pub returns : goal.returns
returns g c = λ full plan gs fuel u plain le.
    laws.plain_closes ((g.E.Evaluator.evaluation c.args.program.now).run c.args.evaluator.now) full (g.met.E.Evaluator.ends c.args.program.now c.args.evaluator.now) plan gs fuel u plain le
