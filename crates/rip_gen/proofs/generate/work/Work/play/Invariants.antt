use Rattle.rip_gen.specs.Working.{PlaysTo, sessions_by}
use Rattle.rip_gen.proofs.generate.work.Work.play.Given as goal

abbrev pub invariant-loop-place : goal.invariant-loop-place
invariant-loop-place g l = PlaysTo (sessions_by g.A.Actor.session g.O.Opens.opens g.O.Opens.gives) l.plan l.round l.place l.self
