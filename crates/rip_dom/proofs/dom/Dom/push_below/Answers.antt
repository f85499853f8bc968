use Rattle.std.proofs.Common.{◌≡◌, ◌≤◌, ◌-◌, ◌+◌, ◌∙◌, length, sym, ap, subst}
use Rattle.rip_base.specs.declared.value.Span.{Span}
use Rattle.rip_values.specs.Pool.{text_at}
use Rattle.rip_dom.specs.Reading.{text_below}
use Rattle.rip_dom.specs.Way.{span_at}
use Rattle.rip_dom.proofs.ReadingLemmas.{joins-none, joins-text, joins-room, joins-more, joins-all, texts-end, texts-over}
use Rattle.rip_dom.proofs.dom.Dom.push_below.Goals as goal

-- the texts stood up to here before the call
stood : (c : goal.After-part_before) → length c.args.pool.now.units ≡ c.end_of-start.result.start
stood c = sym (ap (λ (s : Span). s.start) c.end_of-start.ensures.span)

same-text : (c : goal.After-part_before) → text_at c.loop-i.pool c.part_before.result ≡ text_at c.args.pool.now (span_at c.args.self.now c.loop-i.at)
same-text c =
    joins-text c.args.self.now c.args.pool.now c.loop-i.pool c.args.n (c.steps-i-end.result - c.loop-i._i) c.loop-i.at (text_below c.args.pool.now c.args.self.now c.args.n) c.part_before.result c.loop-i.invariant
    (subst (λ k. c.part_before.result.start + c.part_before.result.count ≤ k) (sym (stood c)) c.part_before.ensures.lies)
    (c.part_before.ensures.text c.args.pool.now.units (stood c) ∙ ap (text_at c.args.pool.now) c.span_at.ensures)

pub loop-i-init : goal.loop-i-init
loop-i-init c = joins-none c.args.self.now c.args.pool.now c.end_of-start.new.pool c.args.n c.steps-i-end.result c.grows.ensures c.steps-i-end.ensures c.end_of-start.ensures.added

pub push_text-requires : goal.push_text-requires
push_text-requires c =
    joins-room c.args.self.now c.args.pool.now c.loop-i.pool c.args.n c.steps-i-end.result c.loop-i._i c.loop-i.at (text_below c.args.pool.now c.args.self.now c.args.n) c.part_before.result c.loop-i.invariant c.loop-i-test.true
    (subst (λ k. c.args.pool.now.used + k ≤ c.args.pool.now.limit) c.requires.count c.requires.room) (same-text c)

pub loop-i-preserved : goal.loop-i-preserved
loop-i-preserved c =
    joins-more c.args.self.now c.args.pool.now c.loop-i.pool c.push_text.new.pool c.args.n c.steps-i-end.result c.loop-i._i c.loop-i.at c.step-at.result (text_below c.args.pool.now c.args.self.now c.args.n) c.part_before.result c.loop-i.invariant c.loop-i-test.true
    (joins-text c.args.self.now c.args.pool.now c.loop-i.pool c.args.n (c.steps-i-end.result - c.loop-i._i) c.loop-i.at (text_below c.args.pool.now c.args.self.now c.args.n) c.part_before.result c.loop-i.invariant
    (subst (λ k. c.part_before.result.start + c.part_before.result.count ≤ k) (ap (λ (s : Span). s.start) c.end_of-start.ensures.span) c.part_before.ensures.lies)
    (c.part_before.ensures.text c.args.pool.now.units (sym (ap (λ (s : Span). s.start) c.end_of-start.ensures.span)) ∙ ap (text_at c.args.pool.now) c.span_at.ensures))
    c.push_text.ensures c.step-at.ensures

pub returns-then-is_end-clause-added : goal.returns-then-is_end-clause-added
returns-then-is_end-clause-added c =
    joins-all c.args.self.now c.args.pool.now c.loop-i.pool c.args.n (c.steps-i-end.result - c.loop-i._i) c.args.count c.loop-i.at (text_below c.args.pool.now c.args.self.now c.args.n) c.loop-i.invariant
    (texts-end c.args.pool.now c.args.self.now c.args.n (c.steps-i-end.result - c.loop-i._i) c.loop-i.at (sym c.is_end.ensures ∙ c.if-is_end.true)) c.requires.count

pub returns-clause-added : goal.returns-clause-added
returns-clause-added c =
    joins-all c.args.self.now c.args.pool.now c.loop-i.pool c.args.n (c.steps-i-end.result - c.loop-i._i) c.args.count c.loop-i.at (text_below c.args.pool.now c.args.self.now c.args.n) c.loop-i.invariant
    (texts-over c.args.pool.now c.args.self.now c.args.n c.steps-i-end.result c.loop-i._i c.loop-i.at c.loop-i-test.false) c.requires.count
