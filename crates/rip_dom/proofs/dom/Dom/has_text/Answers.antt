use Rattle.std.proofs.Common.{◌≡◌, ◌-◌, ◌+◌, ◌∙◌, sym, ap}
use Rattle.rip_values.specs.Pool.{text_at}
use Rattle.rip_dom.specs.Way.{span_at}
use Rattle.rip_dom.proofs.ReadingLemmas.{compares-first, compares-more, compares-other, compares-all, empty-text, texts-end, texts-over}
use Rattle.rip_dom.proofs.dom.Dom.has_text.Goals as goal

pub loop-i-init : goal.loop-i-init
loop-i-init c = compares-first c.args.pool.now c.args.self.now c.args.n c.steps-i-end.result c.args.text.now c.grows.ensures c.steps-i-end.ensures

pub loop-i-preserved : goal.loop-i-preserved
loop-i-preserved c =
    compares-more c.args.pool.now c.args.self.now c.args.n c.steps-i-end.result c.loop-i._i c.loop-i.at c.step-at.result c.loop-i.rest.now c.in-Some.behind.now c.args.text.now c.get.result.now c.loop-i.invariant c.loop-i-test.true
    (c.get.ensures.text ∙ ap (text_at c.args.pool.now) c.span_at.ensures) c.in-Some.ensures.cases.0 c.in-Some.ensures.cases.1 c.step-at.ensures

pub returns-in-None : goal.returns-in-None
returns-in-None c =
    compares-other c.args.pool.now c.args.self.now c.args.n c.steps-i-end.result c.loop-i._i c.loop-i.at c.loop-i.rest.now c.args.text.now c.get.result.now c.loop-i.invariant c.loop-i-test.true
    (c.get.ensures.text ∙ ap (text_at c.args.pool.now) c.span_at.ensures) c.in-None.ensures.cases

pub returns-then-is_end : goal.returns-then-is_end
returns-then-is_end c =
    compares-all c.args.pool.now c.args.self.now c.args.n (c.steps-i-end.result - c.loop-i._i) c.loop-i.at c.loop-i.rest.now c.args.text.now c.is_empty.result c.loop-i.invariant
    (texts-end c.args.pool.now c.args.self.now c.args.n (c.steps-i-end.result - c.loop-i._i) c.loop-i.at (sym c.is_end.ensures ∙ c.if-is_end.true)) (empty-text c.loop-i.rest.now c.is_empty.result c.is_empty.ensures)

pub returns : goal.returns
returns c =
    compares-all c.args.pool.now c.args.self.now c.args.n (c.steps-i-end.result - c.loop-i._i) c.loop-i.at c.loop-i.rest.now c.args.text.now c.is_empty-2.result c.loop-i.invariant
    (texts-over c.args.pool.now c.args.self.now c.args.n c.steps-i-end.result c.loop-i._i c.loop-i.at c.loop-i-test.false) (empty-text c.loop-i.rest.now c.is_empty-2.result c.is_empty-2.ensures)
