use Rattle.std.proofs.Common.{arith}
use Rattle.rip_gen.specs.Working.{sessions_by}
use Rattle.rip_gen.proofs.WorkLemmas.{opens_plays}
use Rattle.rip_gen.proofs.generate.work.Work.open_all.Goals as goal

pub returns : goal.returns
returns g c =
    opens_plays (sessions_by g.A.Actor.session g.O.Opens.opens g.O.Opens.gives) c.args.plan.now c.loop-place.place c.loop-place.self c.loop-place.invariant
    (omega (arith, c.loop-place-test.false, c.loop-place.auto.place-end, c.sessions-place-end.ensures))
