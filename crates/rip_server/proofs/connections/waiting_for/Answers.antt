use Rattle.std.proofs.Common.{◌≡◌, sym, ap, ◌∙◌, subst}
use Rattle.rip_server.specs.declared.connection.Wait.{Wait}
use Rattle.rip_server.proofs.PlaceLemmas.{got, owed_more, owed_found, owed_none}
use Rattle.rip_server.proofs.connections.waiting_for.Goals as goal
use Rattle.rip_server.proofs.connections.waiting_for.Goals.{in-Some+else-wait-session, in_default}

pub returns-then-wait-session-clause-some : goal.returns-then-wait-session-clause-some
returns-then-wait-session-clause-some c = (
  c.index-list-place.result,
  got c.args.list.now c.loop-place.place c.index-list-place.result c.loop-place-test.true c.index-list-place.is,
  c.in-Some.is,
  owed_found c.args.session c.args.list.now c.loop-place.place c.index-list-place.result c.in-Some.wait c.loop-place-test.true c.index-list-place.is c.in-Some.is
      c.if-wait-session.true c.loop-place.invariant,
)

pub returns-clause-none : goal.returns-clause-none
returns-clause-none c = owed_none c.args.session c.args.list.now c.loop-place.place c.loop-place-test.false c.loop-place.invariant

pub loop-place-preserved : goal.loop-place-preserved
loop-place-preserved c =
    elim c.match-connection.branch [
      | in-Some+else-wait-session w ↦
          owed_more c.args.session c.args.list.now c.loop-place.place c.index-list-place.result c.loop-place-test.true c.index-list-place.is
          (λ v e same. w.if-wait-session.false (let is : w.in-Some.wait ≡ v = cc in subst (λ (x : Wait). x.session ≡ c.args.session) (sym is) same))
          c.loop-place.invariant
      | in_default w ↦
          owed_more c.args.session c.args.list.now c.loop-place.place c.index-list-place.result c.loop-place-test.true c.index-list-place.is
          (λ v e same. w.in_default.not-Some v e)
          c.loop-place.invariant
    ]
