use Rattle.std.proofs.Common.{ℕ, subst, arith}
use Rattle.rip_gen.specs.Working.{PlaysTo, sessions_by, stage_of}
use Rattle.rip_gen.proofs.generate.work.lines_of.Goals as goal

pub returns : goal.returns
returns g c = (
  stage_of c.loop-round.work,
  (subst (λ (k : ℕ). PlaysTo (sessions_by g.A.Actor.session g.O.Opens.opens g.O.Opens.gives) c.args.plan.now k 0 c.loop-round.work)
      (omega (arith, c.loop-round-test.false, c.loop-round.auto.round-end)) c.loop-round.invariant).0,
)
