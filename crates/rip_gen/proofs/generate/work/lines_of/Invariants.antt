use Rattle.rip_gen.specs.Working.{PlaysTo, sessions_by}
use Rattle.rip_gen.proofs.generate.work.lines_of.Given as goal

abbrev pub invariant-loop-round : goal.invariant-loop-round
invariant-loop-round g l = PlaysTo (sessions_by g.A.Actor.session g.O.Opens.opens g.O.Opens.gives) l.plan l.round 0 l.work
