use Rattle.std.proofs.Common.{◌≡◌, ◌+◌, ◌-◌, get_or, sym, ap, ◌∙◌, subst, arith}
use Rattle.rip_heap.specs.Borders.{IsLongestBefore}
use Rattle.rip_heap.proofs.BorderLemmas.{before-all, before-next, entry-below, longest-more, longest-none}
use Rattle.rip_heap.proofs.search.advanced.Goals as goal

pub loop-kept-init : goal.loop-kept-init
loop-kept-init c = (omega arith, λ text h. before-all c.args.pattern.now text c.args.unit c.args.matched h)

pub returns-then-pattern-kept : goal.returns-then-pattern-kept
returns-then-pattern-kept c = λ text h.
    longest-more c.args.pattern.now text c.args.unit c.loop-kept.kept (c.loop-kept.invariant.1 text h) (omega arith) c.if-pattern-kept.true

pub loop-kept-smaller : goal.loop-kept-smaller
loop-kept-smaller c = omega (arith, entry-below c.args.pattern.now c.args.table.now (c.loop-kept.kept - 1) c.requires.table (omega arith))

pub loop-kept-preserved : goal.loop-kept-preserved
loop-kept-preserved c =
    let pattern = c.args.pattern.now in
    let back : c.loop-kept.kept - 1 + 1 ≡ c.loop-kept.kept = omega arith in (
      omega (arith, entry-below pattern c.args.table.now (c.loop-kept.kept - 1) c.requires.table (omega arith)),
      λ text h. before-next pattern text c.args.table.now c.args.unit (c.loop-kept.kept - 1) c.requires.table (omega arith)
          (λ e. c.if-pattern-kept.false (ap (λ n. get_or pattern n 0) (sym back) ∙ e))
          (subst (IsLongestBefore pattern text c.args.unit) (sym back) (c.loop-kept.invariant.1 text h)),
    )

pub returns-then-pattern-unit : goal.returns-then-pattern-unit
returns-then-pattern-unit c = λ text h.
    let none : c.loop-kept.kept ≡ 0 = omega arith in
    longest-more c.args.pattern.now text c.args.unit 0 (subst (IsLongestBefore c.args.pattern.now text c.args.unit) none (c.loop-kept.invariant.1 text h)) (omega arith) c.if-pattern-unit.true

pub returns-else-pattern-unit : goal.returns-else-pattern-unit
returns-else-pattern-unit c = λ text h.
    let none : c.loop-kept.kept ≡ 0 = omega arith in
    longest-none c.args.pattern.now text c.args.unit (subst (IsLongestBefore c.args.pattern.now text c.args.unit) none (c.loop-kept.invariant.1 text h)) c.if-pattern-unit.false
