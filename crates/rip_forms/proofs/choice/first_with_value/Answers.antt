use Rattle.std.proofs.Common.{ℕ, ◌+◌, ◌-◌, ◌∙◌, sym, subst}
use Rattle.rip_forms.proofs.OptionLemmas.{Finds, finds-first, finds-more, finds-found, finds-end, finds-over}
use Rattle.rip_forms.proofs.choice.first_with_value.Goals as goal

pub loop-i-init : goal.loop-i-init
loop-i-init c = finds-first c.args.pool.now c.args.dom.now c.args.text.now c.args.n c.steps-i-end.result c.steps_go_in_order.ensures c.steps-i-end.ensures.count

pub loop-i-preserved : goal.loop-i-preserved
loop-i-preserved c =
    subst (λ k. Finds c.args.pool.now c.args.dom.now c.args.text.now c.args.n (c.steps-i-end.result - (c.loop-i._i + 1)) c.step-at.result (c.loop-i.count + k) (c.loop-i._i + 1)) (sym c.more-count.ensures)
    (finds-more c.args.pool.now c.args.dom.now c.args.text.now c.args.n c.steps-i-end.result c.loop-i._i c.loop-i.count c.loop-i.at c.step-at.result c.option_of-here.result c.loop-i.invariant c.loop-i-test.true c.option_of-here.ensures
    (sym c.is_wanted.ensures ∙ c.if-is_wanted.false) c.step-at.ensures)

pub returns-then-is_wanted-clause-place : goal.returns-then-is_wanted-clause-place
returns-then-is_wanted-clause-place c =
    finds-found c.args.pool.now c.args.dom.now c.args.text.now c.args.n c.steps-i-end.result c.loop-i._i c.loop-i.count c.loop-i.at c.option_of-here.result c.loop-i.invariant c.loop-i-test.true c.option_of-here.ensures
    (sym c.is_wanted.ensures ∙ c.if-is_wanted.true)

pub returns-then-is_end-clause-place : goal.returns-then-is_end-clause-place
returns-then-is_end-clause-place c =
    finds-end c.args.pool.now c.args.dom.now c.args.text.now c.args.n (c.steps-i-end.result - c.loop-i._i) c.loop-i._i c.loop-i.count c.loop-i.at c.loop-i.invariant (sym c.is_end.ensures ∙ c.if-is_end.true)

pub returns-clause-place : goal.returns-clause-place
returns-clause-place c = finds-over c.args.pool.now c.args.dom.now c.args.text.now c.args.n c.steps-i-end.result c.loop-i._i c.loop-i.count c.loop-i.at c.loop-i.invariant c.loop-i-test.false
