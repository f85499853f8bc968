use Rattle.std.proofs.Common.{ℕ, ◌+◌, ◌-◌, ◌∙◌, sym, subst}
use Rattle.rip_forms.specs.OptionSteps.{more, found_behind}
use Rattle.rip_forms.proofs.OptionLemmas.{Chooses, chooses-first, chooses-more, chooses-end, chooses-over}
use Rattle.rip_forms.proofs.options.first_choice.Goals as goal

pub loop-i-init : goal.loop-i-init
loop-i-init c = chooses-first c.args.pool.now c.args.dom.now c.args.n c.steps-i-end.result c.steps_go_in_order.ensures c.steps-i-end.ensures.count

pub loop-i-preserved : goal.loop-i-preserved
loop-i-preserved c =
    let R : ℕ → ℕ → Type 0 = λ k f. Chooses c.args.pool.now c.args.dom.now c.args.n (c.steps-i-end.result - (c.loop-i._i + 1)) c.step-at.result k f (c.loop-i._i + 1) in
    subst (λ f. R (c.loop-i.count + c.more-count.result) f) (sym c.found_behind-found.ensures)
    (subst (λ k. R (c.loop-i.count + k) (found_behind c.args.pool.now c.args.dom.now c.option_of-here.result c.loop-i.count c.loop-i.found)) (sym c.more-count.ensures)
    (chooses-more c.args.pool.now c.args.dom.now c.args.n c.steps-i-end.result c.loop-i._i c.loop-i.count c.loop-i.found c.loop-i.at c.step-at.result c.option_of-here.result c.loop-i.invariant c.loop-i-test.true c.option_of-here.ensures c.step-at.ensures))

pub returns-then-is_end-clause-place : goal.returns-then-is_end-clause-place
returns-then-is_end-clause-place c =
    chooses-end c.args.pool.now c.args.dom.now c.args.n (c.steps-i-end.result - c.loop-i._i) c.loop-i._i c.loop-i.count c.loop-i.found c.loop-i.at c.loop-i.invariant (sym c.is_end.ensures ∙ c.if-is_end.true)

pub returns-clause-place : goal.returns-clause-place
returns-clause-place c = chooses-over c.args.pool.now c.args.dom.now c.args.n c.steps-i-end.result c.loop-i._i c.loop-i.count c.loop-i.found c.loop-i.at c.loop-i.invariant c.loop-i-test.false
