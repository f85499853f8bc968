-- The number of a text that specs/Conversions.antt computes is the one that the grammar gives it.
use Rattle.std.proofs.Common.{◌≡◌, ◌≢◌, ℕ, ℤ, pos, negsuc, ◌≤◌, Bool, true, false, cond, List, [], ◌∷◌, drop, inl, Result, Ok, Err, refl, ap, arith, codes, nat_eq, nat_le, unsigned_abs}
use Rattle.std.proofs.lemmas.Bool.Decides.{nat_tests}
use Rattle.std.proofs.lemmas.Bool.{both_ways}
use Rattle.std.proofs.lemmas.Int.{ints}
use lib.Pointwise.{pointwise, bytes_decides}
use Rattle.std.specs.Str.Parse.{digits_value, starts_with_minus, without_leading_sign}
use Rattle.rip_base.specs.declared.value.Numeral.{Numeral}
use Rattle.rip_base.specs.declared.value.Numeral.TheVariants.{Num, NaN}
use Rattle.rip_base.specs.declared.value.Fault.{Fault}
use Rattle.rip_base.specs.declared.value.Fault.TheVariants.{NotWhole, Infinite, OutOfRange}
use Rattle.rip_base.specs.Blank.{trimmed}
use Rattle.rip_base.specs.Numbers.{IsNumberOf}
use Rattle.rip_base.specs.NumberScan.{IsRanged, signed_value, is_numeral, is_hexadecimal, is_fraction}
use Rattle.rip_base.specs.Whole.{IsWhole}
use Rattle.rip_base.proofs.NumberLaws.{IsNumberOf-one}
use Rattle.rip_base.proofs.NumberLemmas.{IsNumberOf-hexadecimal, IsNumberOf-decimal, SpellsFraction-true, SpellsNothing-tests}
use Rattle.rip_heap.specs.Conversions.{ranged, number_of_literal, number_of_trimmed, number_of_text}

IsWhole-within : (z : ℤ) → unsigned_abs z ≤ 9007199254740991 → IsWhole z
IsWhole-within (pos n) h = (omega (arith, ints), omega (arith, ints))
IsWhole-within (negsuc n) h = (omega (arith, ints), omega (arith, ints))

within-IsWhole : (z : ℤ) → IsWhole z → unsigned_abs z ≤ 9007199254740991
within-IsWhole (pos n) h = omega (arith, ints, h.1)
within-IsWhole (negsuc n) h = omega (arith, ints, h.0)

IsRanged-ranged : (z : ℤ) → IsRanged z (ranged z)
IsRanged-ranged z = by (nat_le (unsigned_abs z) 9007199254740991) refl
  where
    by : (b : Bool) → nat_le (unsigned_abs z) 9007199254740991 ≡ b → IsRanged z (cond b (Ok (Num z)) (Err OutOfRange))
    by true e = (refl, IsWhole-within z (grind (arith, nat_tests)))
    by false e = λ w. let h : unsigned_abs z ≤ 9007199254740991 = within-IsWhole z w in grind (arith, nat_tests)

pointwise-codes : (text : List ℕ) → pointwise nat_eq text (codes "Infinity") ≡ true → text ≡ codes "Infinity"
pointwise-codes text e = (bytes_decides text (codes "Infinity")).0 e

literal : (text : List ℕ) → text ≢ [] → is_hexadecimal text ≡ false → IsNumberOf text (number_of_literal (starts_with_minus text) (without_leading_sign text))
literal text some hex = by (is_numeral 10 (without_leading_sign text)) (is_fraction (without_leading_sign text)) (pointwise nat_eq (without_leading_sign text) (codes "Infinity")) refl refl refl
  where
    by : (a b c : Bool) → is_numeral 10 (without_leading_sign text) ≡ a → is_fraction (without_leading_sign text) ≡ b → pointwise nat_eq (without_leading_sign text) (codes "Infinity") ≡ c
        → IsNumberOf text (cond a (ranged (signed_value (starts_with_minus text) (digits_value 10 (without_leading_sign text)))) (cond b (Err NotWhole) (cond c (Err Infinite) (Ok NaN))))
    by true b c e f g =
        IsNumberOf-decimal text (without_leading_sign text) (starts_with_minus text) _ refl refl e (IsRanged-ranged (signed_value (starts_with_minus text) (digits_value 10 (without_leading_sign text))))
    by false true c e f g = SpellsFraction-true text f
    by false false true e f g = pointwise-codes (without_leading_sign text) g
    by false false false e f g =
        SpellsNothing-tests text (without_leading_sign text) refl some hex e f
        (λ is. both_ways _ g (ap (λ t. pointwise nat_eq t (codes "Infinity")) is))

IsNumberOf-trimmed : (text : List ℕ) → IsNumberOf text (number_of_trimmed text)
IsNumberOf-trimmed [] = (inl (refl, refl), IsWhole-within (pos 0) (omega arith))
IsNumberOf-trimmed (unit ∷ text) = by (is_hexadecimal (unit ∷ text)) refl
  where
    by : (b : Bool) → is_hexadecimal (unit ∷ text) ≡ b
        → IsNumberOf (unit ∷ text) (cond b (ranged (pos (digits_value 16 (drop 2 (unit ∷ text))))) (number_of_literal (starts_with_minus (unit ∷ text)) (without_leading_sign (unit ∷ text))))
    by true e = IsNumberOf-hexadecimal (unit ∷ text) (drop 2 (unit ∷ text)) _ refl e (IsRanged-ranged (pos (digits_value 16 (drop 2 (unit ∷ text)))))
    by false e = literal (unit ∷ text) (λ h. cc) e

-- what the grammar gives a text is the number that is computed
pub number_of_text_one : (text : List ℕ) (r : Result Numeral Fault) → IsNumberOf (trimmed text) r → r ≡ number_of_text text
unfolding number_of_text
number_of_text_one text r h = IsNumberOf-one (trimmed text) r (number_of_trimmed (trimmed text)) h (IsNumberOf-trimmed (trimmed text))
