use Rattle.std.proofs.Common.{◌-◌, ◌∙◌, sym, ap, arith}
use Rattle.rip_values.specs.Pool.{text_at}
use Rattle.rip_dom.specs.Reading.{text_below}
use Rattle.rip_dom.proofs.ReadingLemmas.{counts-none, counts-long, counts-more, counts-all, texts-end, texts-over}
use Rattle.rip_dom.proofs.dom.Dom.count_below.Goals as goal

pub loop-i-init : goal.loop-i-init
loop-i-init c = record {
  end = c.steps-i-end.ensures;
  most = c.text_limit-most.ensures;
  counts = counts-none c.args.pool.now c.args.self.now c.args.n c.steps-i-end.result c.text_limit-most.result c.grows.ensures c.steps-i-end.ensures c.text_limit-most.ensures;
}

pub overflow_sub-result : goal.overflow_sub-result
overflow_sub-result c = omega (arith, c.loop-i.invariant.counts.within, c.loop-i.invariant.most)

pub returns-then-is_end-clause-some : goal.returns-then-is_end-clause-some
returns-then-is_end-clause-some c =
    ap (λ k. k - c.loop-i.left) c.loop-i.invariant.most
    ∙ counts-all c.args.pool.now c.args.self.now c.args.n (c.steps-i-end.result - c.loop-i._i) c.loop-i.left c.loop-i.at (text_below c.args.pool.now c.args.self.now c.args.n) c.loop-i.invariant.counts
    (texts-end c.args.pool.now c.args.self.now c.args.n (c.steps-i-end.result - c.loop-i._i) c.loop-i.at (sym c.is_end.ensures ∙ c.if-is_end.true))

pub returns-then-more-left-clause-none : goal.returns-then-more-left-clause-none
returns-then-more-left-clause-none c = λ _.
    counts-long c.args.pool.now c.args.self.now c.args.n c.steps-i-end.result c.loop-i._i c.loop-i.left c.loop-i.at (text_below c.args.pool.now c.args.self.now c.args.n) c.get-more.result.now c.loop-i.invariant.counts c.loop-i-test.true
    (c.get-more.ensures.text ∙ ap (text_at c.args.pool.now) c.span_at.ensures) c.if-more-left.true

pub loop-i-preserved : goal.loop-i-preserved
loop-i-preserved c = record {
  end = c.loop-i.invariant.end;
  most = c.loop-i.invariant.most;
  counts =
      counts-more c.args.pool.now c.args.self.now c.args.n c.steps-i-end.result c.loop-i._i c.loop-i.left c.loop-i.at c.step-at.result (text_below c.args.pool.now c.args.self.now c.args.n) c.get-more.result.now c.loop-i.invariant.counts c.loop-i-test.true
      (c.get-more.ensures.text ∙ ap (text_at c.args.pool.now) c.span_at.ensures) c.if-more-left.false c.step-at.ensures;
}

pub returns-clause-some : goal.returns-clause-some
returns-clause-some c =
    ap (λ k. k - c.loop-i.left) c.loop-i.invariant.most
    ∙ counts-all c.args.pool.now c.args.self.now c.args.n (c.steps-i-end.result - c.loop-i._i) c.loop-i.left c.loop-i.at (text_below c.args.pool.now c.args.self.now c.args.n) c.loop-i.invariant.counts
    (texts-over c.args.pool.now c.args.self.now c.args.n c.steps-i-end.result c.loop-i._i c.loop-i.at c.loop-i-test.false)
