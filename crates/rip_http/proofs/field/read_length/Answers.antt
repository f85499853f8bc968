use Rattle.std.proofs.Common.{◌≡◌, ℕ, ◌≤◌, true, false, cond, List, length, get_or, Some, None, sym, ap, ◌∙◌, arith}
use Rattle.std.specs.List.{list_all}
use Rattle.std.specs.Char.{is_ascii_digit, digit_value}
use Rattle.std.specs.Str.Parse.{digits_value}
use Rattle.std.proofs.lemmas.Grind.{pow_more}
use Rattle.std.proofs.lemmas.List.{take_all}
use Rattle.std.proofs.lemmas.Bool.{and_right, and_from, le-leb, cond-true, cond-false}
use Rattle.std.proofs.lemmas.Bool.Decides.{nat_tests}
use Rattle.std.proofs.lemmas.Int.Digits.{digits_value_more}
use Rattle.rip_http.specs.Fields.{is_length}
use Rattle.rip_http.proofs.FieldLemmas.{list_all_more, list_all_fails, room_for_digit}
use Rattle.rip_http.proofs.field.read_length.Goals as goal

no_length : (ds : List ℕ) → is_length ds ≡ false → None ≡ cond (is_length ds) (Some (digits_value 10 ds)) None
no_length ds e = sym (cond-false _ _ _ e)

pub returns-then-not-is_ascii_digit : goal.returns-then-not-is_ascii_digit
returns-then-not-is_ascii_digit c =
    let fails = list_all_fails is_ascii_digit c.args.value.now c.loop-b.b-index 0 c.loop-b-test.true (sym c.if-not-is_ascii_digit.ensures.value) in
    no_length c.args.value.now (and_right _ _ (and_right _ _ fails))

pub overflow_mul-n : goal.overflow_mul-n
overflow_mul-n c =
    omega (arith, room_for_digit c.loop-b.n c.loop-b.b-index c.loop-b.invariant.small (omega arith))

pub overflow_add-n : goal.overflow_add-n
overflow_add-n c =
    let digit : digit_value (get_or c.args.value.now c.loop-b.b-index 0) ≡ c.from.result = grind (arith, nat_tests) in
    let below : c.from.result ≤ 9 = grind (arith, nat_tests) in
    omega (arith, below, room_for_digit c.loop-b.n c.loop-b.b-index c.loop-b.invariant.small (omega arith))

pub loop-b-preserved : goal.loop-b-preserved
loop-b-preserved c =
    let digit : digit_value (get_or c.args.value.now c.loop-b.b-index 0) ≡ c.from.result = grind (arith, nat_tests) in
    let below : c.from.result ≤ 9 = grind (arith, nat_tests) in record {
      value = omega (arith, digit, digits_value_more 10 c.args.value.now _ c.loop-b-test.true, c.loop-b.invariant.value);
      digits = list_all_more is_ascii_digit _ _ 0 c.loop-b-test.true c.loop-b.invariant.digits (sym c.if-not-is_ascii_digit.ensures.value);
      small = omega (arith, below, pow_more 10 c.loop-b.b-index, c.loop-b.invariant.small);
    }

pub returns : goal.returns
returns c =
    let ds = c.args.value.now in
    let all = take_all c.loop-b.b-index ds c.loop-b-test.false in
    let value : c.loop-b.n ≡ digits_value 10 ds = c.loop-b.invariant.value ∙ ap (digits_value 10) all in
    let digits : list_all is_ascii_digit ds ≡ true = sym (ap (list_all is_ascii_digit) all) ∙ c.loop-b.invariant.digits in
    let some : 1 ≤ length ds = grind (arith, nat_tests) in
    let few : length ds ≤ 19 = omega arith in
    let number : is_length ds ≡ true = and_from _ _ (le-leb _ _ some) (and_from _ _ (le-leb _ _ few) digits) in
    ap Some value ∙ sym (cond-true _ _ _ number)
