-- A text that does not begin with a digit is the numeral of no index.
use Rattle.std.proofs.Common.{◌≡◌, ℕ, pos, negsuc, ◌^◌, ◌<◌, Bool, true, false, ◌&&◌, cond, List, [], ◌∷◌, length, None, Some, Result, Ok, Err, refl, ap, ◌∙◌, arith, nat_eq, nat_le}
use Rattle.std.proofs.lemmas.Bool.Decides.{nat_tests}
use Rattle.std.proofs.lemmas.Bool.{both_ways}
use Rattle.std.proofs.lemmas.Fmt.{decimal_is_IsNumeral}
use Rattle.std.proofs.lemmas.Str.Parse.{digit_from_value}
use lib.Pointwise.{pointwise, bytes_decides}
use Rattle.std.specs.Fmt.{decimal}
use Rattle.std.specs.Str.Parse.{AllDigits}
use Rattle.rip_base.specs.declared.value.Numeral.{Numeral}
use Rattle.rip_base.specs.declared.value.Numeral.TheVariants.{Num, NaN}
use Rattle.rip_base.specs.declared.value.Fault.{Fault}
use Rattle.rip_heap.specs.Keys.{begins_with_digit, index_if}

begins-digits : (ds : List ℕ) → 0 < length ds → AllDigits 10 ds → begins_with_digit ds ≡ true
begins-digits [] some d = absurd (omega (arith, some))
begins-digits (c ∷ ds) some d = let digit = digit_from_value c d.0 in grind (arith, nat_tests)

begins-decimal : (n : ℕ) → n < 2 ^ 64 → begins_with_digit (decimal n) ≡ true
begins-decimal n small = let numeral = (decimal_is_IsNumeral n small).0 in begins-digits (decimal n) numeral.0 numeral.1

pub no_index : (text : List ℕ) (number : Result Numeral Fault) → begins_with_digit text ≡ false → index_if text number ≡ None
no_index text (Err fault) e = refl
no_index text (Ok NaN) e = refl
no_index text (Ok (Num (negsuc n))) e = refl
no_index text (Ok (Num (pos n))) e = by (nat_le n 4294967294) (pointwise nat_eq text (decimal n)) refl refl
  where
    by : (a b : Bool) → nat_le n 4294967294 ≡ a → pointwise nat_eq text (decimal n) ≡ b → cond (a && b) (Some n) None ≡ None
    by false b f g = refl
    by true false f g = refl
    by true true f g =
        let is : text ≡ decimal n = (bytes_decides text (decimal n)).0 g in
        let small : n < 2 ^ 64 = grind (arith, nat_tests) in
        absurd (both_ways _ e (ap begins_with_digit is ∙ begins-decimal n small))
