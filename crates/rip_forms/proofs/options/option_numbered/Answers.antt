use Rattle.std.proofs.Common.{◌-◌, ◌+◌, ◌∙◌, sym, subst}
use Rattle.rip_forms.proofs.OptionLemmas.{Seeks, seeks-first, seeks-more, seeks-found, seeks-end, seeks-over}
use Rattle.rip_forms.proofs.options.option_numbered.Goals as goal

pub loop-i-init : goal.loop-i-init
loop-i-init c = seeks-first c.args.pool.now c.args.dom.now c.args.n c.steps-i-end.result c.args.place c.steps_go_in_order.ensures c.steps-i-end.ensures.count

pub loop-i-preserved : goal.loop-i-preserved
loop-i-preserved c =
    subst (λ k. Seeks c.args.pool.now c.args.dom.now c.args.n (c.steps-i-end.result - (c.loop-i._i + 1)) c.step-at.result k c.args.place) (sym c.fewer-left.ensures)
    (seeks-more c.args.pool.now c.args.dom.now c.args.n c.steps-i-end.result c.loop-i._i c.loop-i.left c.args.place c.loop-i.at c.step-at.result c.option_of-here.result c.loop-i.invariant c.loop-i-test.true c.option_of-here.ensures
    (sym c.is_sought.ensures ∙ c.if-is_sought.false) c.step-at.ensures)

pub returns-then-is_sought : goal.returns-then-is_sought
returns-then-is_sought c =
    seeks-found c.args.pool.now c.args.dom.now c.args.n c.steps-i-end.result c.loop-i._i c.loop-i.left c.args.place c.loop-i.at c.option_of-here.result c.loop-i.invariant c.loop-i-test.true c.option_of-here.ensures
    (sym c.is_sought.ensures ∙ c.if-is_sought.true)

pub returns-then-is_end : goal.returns-then-is_end
returns-then-is_end c =
    seeks-end c.args.pool.now c.args.dom.now c.args.n (c.steps-i-end.result - c.loop-i._i) c.loop-i.left c.args.place c.loop-i.at c.loop-i.invariant (sym c.is_end.ensures ∙ c.if-is_end.true)

pub returns : goal.returns
returns c = seeks-over c.args.pool.now c.args.dom.now c.args.n c.steps-i-end.result c.loop-i._i c.loop-i.left c.args.place c.loop-i.at c.loop-i.invariant c.loop-i-test.false
