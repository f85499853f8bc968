use Rattle.rip_gen.specs.Working.{OpensTo, sessions_by}
use Rattle.rip_gen.proofs.generate.work.Work.open_all.Given as goal

abbrev pub invariant-loop-place : goal.invariant-loop-place
invariant-loop-place g l = OpensTo (sessions_by g.A.Actor.session g.O.Opens.opens g.O.Opens.gives) l.place l.self
