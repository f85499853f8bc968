use Rattle.std.proofs.Common.{◌-◌, ◌+◌, ◌∙◌, sym, ap, find}
use Rattle.rip_dom.specs.Order.{has_id}
use Rattle.rip_dom.specs.Way.{way_on}
use Rattle.rip_dom.proofs.OrderLemmas.{find-first, find-found, find-more, find-end, find-over}
use Rattle.rip_dom.proofs.dom.Dom.find_id.Goals as goal

pub loop-i-init : goal.loop-i-init
loop-i-init c = (c.steps-i-end.ensures, find-first (has_id c.args.pool.now c.args.self.now c.args.id.now) c.args.self.now c.steps-i-end.result c.grows.ensures c.steps-i-end.ensures)

pub loop-i-preserved : goal.loop-i-preserved
loop-i-preserved c = (
  c.loop-i.invariant.0,
  ap (λ s. find (has_id c.args.pool.now c.args.self.now c.args.id.now) (way_on c.args.self.now 0 (c.steps-i-end.result - (c.loop-i._i + 1)) s)) c.step-at.ensures
      ∙ sym (find-more (has_id c.args.pool.now c.args.self.now c.args.id.now) c.args.self.now 0 c.steps-i-end.result c.loop-i._i c.loop-i.at c.loop-i-test.true (sym c.in-None.ensures))
      ∙ c.loop-i.invariant.1,
)

pub returns-in-Some : goal.returns-in-Some
returns-in-Some c = sym (find-found (has_id c.args.pool.now c.args.self.now c.args.id.now) c.args.self.now 0 c.steps-i-end.result c.loop-i._i c.in-Some.found c.loop-i.at c.loop-i-test.true (sym c.in-Some.ensures)) ∙ c.loop-i.invariant.1

pub returns-then-is_end : goal.returns-then-is_end
returns-then-is_end c = sym (find-end (has_id c.args.pool.now c.args.self.now c.args.id.now) c.args.self.now 0 (c.steps-i-end.result - c.loop-i._i) c.loop-i.at (sym c.is_end.ensures ∙ c.if-is_end.true)) ∙ c.loop-i.invariant.1

pub returns : goal.returns
returns c = sym (find-over (has_id c.args.pool.now c.args.self.now c.args.id.now) c.args.self.now 0 c.steps-i-end.result c.loop-i._i c.loop-i.at c.loop-i-test.false) ∙ c.loop-i.invariant.1
