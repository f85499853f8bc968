use Rattle.std.proofs.Common.{◌+◌, sym, subst, true, false, arith}
use Rattle.rip_gen.specs.Working.{PlaysTo, sessions_by}
use Rattle.rip_gen.specs.declared.generate.work.Work.{Work}
use Rattle.rip_gen.proofs.WorkLemmas.{plays_more, plays_over}
use Rattle.rip_gen.proofs.generate.work.Work.play.Goals.{then-may_lie+in_ok-tell_lying, else-may_lie+in_ok-tell}
use Rattle.rip_gen.proofs.generate.work.Work.play.Goals as goal

pub loop-place-preserved : goal.loop-place-preserved
loop-place-preserved g c =
    let x = sessions_by g.A.Actor.session g.O.Opens.opens g.O.Opens.gives in
    let plan = c.args.plan.now in
    let old = c.loop-place.self in
    elim c.if-may_lie.branch [
      | then-may_lie+in_ok-tell_lying w ↦ subst (λ (n : Work g.row.O.Denot g.row.A.Denot g.row.G.Denot). PlaysTo x plan c.args.round (c.loop-place.place + 1) n) (sym w.self-is)
          (plays_more x plan c.args.round c.loop-place.place c.gesture-gesture.result.now c.may_lie.result true old w.tell_lying.new.self c.loop-place.invariant c.gesture-gesture.ensures
          c.may_lie.ensures w.if-may_lie.true w.in_ok-tell_lying.ensures)
      | else-may_lie+in_ok-tell w ↦ subst (λ (n : Work g.row.O.Denot g.row.A.Denot g.row.G.Denot). PlaysTo x plan c.args.round (c.loop-place.place + 1) n) (sym w.self-is)
          (plays_more x plan c.args.round c.loop-place.place c.gesture-gesture.result.now c.may_lie.result false old w.tell.new.self c.loop-place.invariant c.gesture-gesture.ensures
          c.may_lie.ensures w.if-may_lie.false w.in_ok-tell.ensures)
    ]

pub returns : goal.returns
returns g c =
    plays_over (sessions_by g.A.Actor.session g.O.Opens.opens g.O.Opens.gives) c.args.plan.now c.args.round c.loop-place.place c.loop-place.self c.loop-place.invariant
    (omega (arith, c.loop-place-test.false, c.loop-place.auto.place-end, c.sessions-place-end.ensures))

pub tell_lying-requires-clause-on : goal.tell_lying-requires-clause-on
tell_lying-requires-clause-on g c = c.loop-place.invariant.1

pub tell-requires-clause-on : goal.tell-requires-clause-on
tell-requires-clause-on g c = c.loop-place.invariant.1
