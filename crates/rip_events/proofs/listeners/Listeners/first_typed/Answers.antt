use Rattle.std.proofs.Common.{◌≤◌, ◌+◌, ◌∙◌, subst, sym, ap, arith}
use Rattle.rip_events.specs.Chained.{first_on}
use Rattle.rip_events.proofs.Chains.{IsAhead, ahead}
use Rattle.rip_events.proofs.Finds.{start, step}
use Rattle.rip_events.proofs.listeners.Listeners.first_typed.Goals as goal

pub loop-i-init : goal.loop-i-init
loop-i-init c = (
  c.count-i-end.ensures.registered,
  start c.args.pool.now c.args.wanted c.args.text.now c.args.self.now c.args.from c.args.until c.first_on-at.result (sym c.count-i-end.ensures.standing ∙ c.count-i-end.ensures.registered) c.first_on-at.ensures,
  ahead c.args.self.now.registered c.args.wanted.node 0 c.args.from c.first_on-at.result (omega arith) c.first_on-at.ensures,
)

pub loop-i-preserved : goal.loop-i-preserved
loop-i-preserved c =
    let a = subst (IsAhead c.args.self.now.registered c.args.wanted.node c.loop-i._i) c.in-Some.is c.loop-i.invariant.2 in
    let h : c.loop-i._i + 1 ≤ c.in-Some.n + 1 = omega (arith, a.0) in (
      c.loop-i.invariant.0,
      c.loop-i.invariant.1 ∙ step c.args.pool.now c.args.wanted c.args.text.now c.args.self.now c.args.until c.in-Some.n c.loop-i.at c.behind-at.result (sym c.count-i-end.ensures.standing ∙ c.count-i-end.ensures.registered) c.in-Some.is (sym c.fits.ensures ∙ c.if-fits.false) a.2 c.behind-at.ensures,
      ahead c.args.self.now.registered c.args.wanted.node (c.loop-i._i + 1) (c.in-Some.n + 1) c.behind-at.result h (c.behind-at.ensures ∙ ap (λ p. first_on c.args.self.now.registered p (c.in-Some.n + 1)) a.2),
    )
