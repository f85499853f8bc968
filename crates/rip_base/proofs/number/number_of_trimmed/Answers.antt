use Rattle.std.proofs.Common.{◌≡◌, ◌≢◌, ◌∙◌, sym, ap, length, take, drop, ◌-◌, ◌==◌, nat_eq, codes, arith, []}
use lib.Pointwise.{pointwise}
use Rattle.std.proofs.lemmas.Bool.{both_ways}
use Rattle.std.proofs.lemmas.Grind.{common_steps}
use Rattle.rip_base.specs.NumberScan.{is_fraction}
use Rattle.rip_base.proofs.NumberLemmas.{IsNumberOf-hexadecimal, IsNumberOf-decimal, SpellsFraction-true, SpellsNothing-tests}
use Rattle.rip_base.proofs.number.number_of_trimmed.Goals as goal

pub returns-then-is_hexadecimal : goal.returns-then-is_hexadecimal
returns-then-is_hexadecimal c =
    let text = c.args.text.now in
    let digits : take (length text - 2) (drop 2 text) ≡ drop 2 text = grind (arith, common_steps) in
    record {
      value = IsNumberOf-hexadecimal text (take (length text - 2) (drop 2 text)) c.whole_of-then-is_hexadecimal.result digits
          (sym c.is_hexadecimal.ensures ∙ c.if-is_hexadecimal.true) c.whole_of-then-is_hexadecimal.ensures;
    }

pub returns-then-is_numeral : goal.returns-then-is_numeral
returns-then-is_numeral c = record {
  value =
      IsNumberOf-decimal c.args.text.now c.split_sign-negative.result.1.now c.split_sign-negative.result.0 c.whole_of-then-is_numeral.result
      c.split_sign-negative.ensures.minus c.split_sign-negative.ensures.rest (sym c.is_numeral.ensures ∙ c.if-is_numeral.true) c.whole_of-then-is_numeral.ensures;
}

pub returns-then-is_fraction : goal.returns-then-is_fraction
returns-then-is_fraction c = record { value = SpellsFraction-true c.args.text.now (ap is_fraction (sym c.split_sign-negative.ensures.rest) ∙ sym c.is_fraction.ensures ∙ c.if-is_fraction.true) }

pub returns-else-eq : goal.returns-else-eq
returns-else-eq c =
    let literal = c.split_sign-negative.result.1.now in
    let some : c.args.text.now ≢ [] = λ e. both_ways _ c.if-is_empty.false (c.is_empty.ensures ∙ ap (λ t. length t == 0) e) in
    let infinity : literal ≢ codes "Infinity" = λ e. both_ways _ c.if-eq.false (c.eq.ensures ∙ ap (pointwise nat_eq literal) c.as_slice.ensures ∙ ap (λ t. pointwise nat_eq t (codes "Infinity")) e) in
    record {
      value = SpellsNothing-tests c.args.text.now literal c.split_sign-negative.ensures.rest some
          (sym c.is_hexadecimal.ensures ∙ c.if-is_hexadecimal.false)
          (sym c.is_numeral.ensures ∙ c.if-is_numeral.false)
          (sym c.is_fraction.ensures ∙ c.if-is_fraction.false)
          infinity;
    }
