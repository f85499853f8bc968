use Rattle.std.proofs.Common.{◌+◌, take, sym, arith, length-take}
use Rattle.rip_heap.proofs.BorderLemmas.{ends-bound, longest-taken, found-first, nowhere-more, stands-bound}
use Rattle.rip_heap.proofs.SearchLemmas.{first_place-none}
use Rattle.rip_heap.proofs.search.place_by.Goals as goal

pub overflow_sub-result : goal.overflow_sub-result
overflow_sub-result c =
    let text = c.args.text.now in
    let i = c.loop-i.i in
    let longest = longest-taken c.args.pattern.now text i c.advanced-matched.result (omega arith) (c.advanced-matched.ensures (take i text) c.loop-i.invariant.1) in
    omega (arith, ends-bound c.args.pattern.now (take (i + 1) text) c.advanced-matched.result longest.ends, length-take (i + 1) text)

pub returns-then-matched-pattern-clause-place : goal.returns-then-matched-pattern-clause-place
returns-then-matched-pattern-clause-place c =
    let text = c.args.text.now in
    let i = c.loop-i.i in
    let longest = longest-taken c.args.pattern.now text i c.advanced-matched.result (omega arith) (c.advanced-matched.ensures (take i text) c.loop-i.invariant.1) in
    sym (found-first c.args.pattern.now text i c.advanced-matched.result (omega arith) c.if-matched-pattern.true longest c.loop-i.invariant.2)

pub loop-i-preserved : goal.loop-i-preserved
loop-i-preserved c =
    let text = c.args.text.now in
    let i = c.loop-i.i in
    let longest = longest-taken c.args.pattern.now text i c.advanced-matched.result (omega arith) (c.advanced-matched.ensures (take i text) c.loop-i.invariant.1) in
    (omega (arith, longest.ends.0), longest, nowhere-more c.args.pattern.now text i c.advanced-matched.result longest c.if-matched-pattern.false c.loop-i.invariant.2)

pub returns-clause-place : goal.returns-clause-place
returns-clause-place c =
    sym (first_place-none c.args.pattern.now c.args.text.now (λ q s. c.loop-i.invariant.2 q (omega (arith, stands-bound c.args.pattern.now c.args.text.now q c.requires.some s)) s))
