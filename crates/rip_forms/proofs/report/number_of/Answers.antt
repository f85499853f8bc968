use Rattle.std.proofs.Common.{◌≡◌, ℕ, ◌+◌, ◌-◌, ◌*◌, ◌<◌, ◌≤◌, ◌∙◌, drop, get_or, refl, sym, ap, subst, arith, rules}
use Rattle.rip_forms.specs.Reports.{number_behind}
use Rattle.rip_forms.proofs.NumberLemmas.{IsBounded, bounded-none, bounded-more, bounded-small, spells-more}
use Rattle.rip_forms.proofs.report.number_of.Goals as goal

pub loop-digit-init : goal.loop-digit-init
loop-digit-init c = record { rest = search rules; bounded = bounded-none }

pub overflow_mul-number : goal.overflow_mul-number
overflow_mul-number c =
    let few : c.loop-digit.number ≤ 6553600000000 = bounded-small c.loop-digit.number c.loop-digit.digit-index c.loop-digit.invariant.bounded (omega arith) in
    omega arith

pub overflow_add-number : goal.overflow_add-number
overflow_add-number c =
    let few : c.loop-digit.number ≤ 6553600000000 = bounded-small c.loop-digit.number c.loop-digit.digit-index c.loop-digit.invariant.bounded (omega arith) in
    omega arith

pub loop-digit-preserved : goal.loop-digit-preserved
loop-digit-preserved c =
    let digit : ℕ = get_or c.args.digits.now c.loop-digit.digit-index 0 in
    let is : digit - 48 ≡ c.from.result = sym c.saturating_sub.ensures ∙ sym c.from.ensures in
    let fits : digit < 65536 = omega (arith, c.type_inv.digits c.loop-digit.digit-index) in
    record {
      rest =
          sym (spells-more c.args.digits.now c.loop-digit.number c.loop-digit.digit-index digit c.loop-digit-test.true refl
          ∙ ap (λ d. number_behind (10 * c.loop-digit.number + d) (drop (c.loop-digit.digit-index + 1) c.args.digits.now)) is)
          ∙ c.loop-digit.invariant.rest;
      bounded =
          subst (λ d. IsBounded (10 * c.loop-digit.number + d) (c.loop-digit.digit-index + 1)) is
          (bounded-more c.loop-digit.number c.loop-digit.digit-index digit c.loop-digit.invariant.bounded fits);
    }
