use Rattle.rip_replica.proofs.PlayLaws.{play_later}
use Rattle.rip_replica.proofs.scheduler.laws.plays_once.Goals as goal

pub returns : goal.returns
returns g c = λ full plan gs fuel u k.
    play_later ((g.E.Evaluator.evaluation c.args.program.now).run c.args.evaluator.now) full (g.met.E.Evaluator.once c.args.program.now c.args.evaluator.now) plan gs fuel u k
