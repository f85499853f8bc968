use Rattle.std.proofs.Common.{◌-◌, ◌+◌, ◌∙◌, sym, ap}
use Rattle.rip_dom.specs.Tree.{way_up}
use Rattle.rip_dom.proofs.WalkLemmas.{meets, up-step}
use Rattle.rip_dom.proofs.dom.Dom.is_above.Goals as goal

pub loop-i-preserved : goal.loop-i-preserved
loop-i-preserved c = (
  c.loop-i.invariant.0,
  ap (λ x. meets c.args.upper (way_up (c.made-i-end.result - (c.loop-i._i + 1)) c.args.self.now x)) c.parent-at.ensures
      ∙ sym (up-step c.args.self.now c.args.upper c.made-i-end.result c.loop-i._i c.in-Some.n c.loop-i.at c.loop-i-test.true c.in-Some.is c.if-n-upper.false)
      ∙ c.loop-i.invariant.1,
)
