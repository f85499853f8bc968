use Rattle.std.proofs.Common.{◌+◌, ◌||◌, false, length-drop, drop, length, sym, ap, ◌∙◌, subst, arith, drop-drop, add-zero}
use Rattle.rip_lexer.specs.View.{ReadsGap}
use Rattle.rip_lexer.proofs.Choice.{or_false}
use Rattle.rip_lexer.proofs.Gaps.{gap_turn, no_gap}
use Rattle.rip_lexer.proofs.gap.longest_gap.Goals as goal

pub loop-part-preserved : goal.loop-part-preserved
loop-part-preserved c =
    let was = c.loop-part.invariant in
    let rest = c.split_at.ensures.back in
    record {
      bound = omega (arith, c.in-Some.ensures.bound.1, ap length was.at, length-drop c.loop-part.gap.count c.args.units.now);
      at = rest ∙ ap (λ u. drop c.in-Some.part.count u) was.at ∙ drop-drop c.in-Some.part.count c.loop-part.gap.count c.args.units.now;
      reads = λ count line end below.
          subst (λ b. ReadsGap c.args.units.now (c.loop-part.gap.count + c.in-Some.part.count + count) (b || line) end) (sym c.or.ensures)
          (gap_turn c.args.units.now c.loop-part.rest.now c.loop-part.gap.count c.loop-part.gap.holds_line_end c.in-Some.part c.in-Some.ensures.part was.reads count line end
          (subst (λ u. ReadsGap u count line end) rest below));
    }

pub returns-clause-reads : goal.returns-clause-reads
returns-clause-reads c =
    let was = c.loop-part.invariant in
    subst (λ u. ReadsGap c.args.units.now c.loop-part.gap.count c.loop-part.gap.holds_line_end u) was.at
    (subst (λ b. ReadsGap c.args.units.now c.loop-part.gap.count b c.loop-part.rest.now) (or_false c.loop-part.gap.holds_line_end)
    (subst (λ n. ReadsGap c.args.units.now n (c.loop-part.gap.holds_line_end || false) c.loop-part.rest.now) (add-zero c.loop-part.gap.count)
    (was.reads 0 false c.loop-part.rest.now (no_gap c.loop-part.rest.now))))
