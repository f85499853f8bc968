-- `parseInt` (ECMA-262 15.1.2.2).
use Rattle.std.specs.Prelude.{ℕ, ℤ, pos, negsuc, Bool, false, ◌||◌, ◌&&◌, ◌==◌, List, [], ◌∷◌, drop, Option, None, Some, Result, Ok, nat_le, take_while, if◌then◌else◌}
use Rattle.std.specs.Str.Parse.{digits_value, starts_with_minus, without_leading_sign}
use Rattle.rip_base.specs.declared.value.Value.{Value}
use Rattle.rip_base.specs.declared.value.Numeral.{Numeral}
use Rattle.rip_base.specs.declared.value.Numeral.TheVariants.{NaN}
use Rattle.rip_base.specs.declared.value.Fault.{Fault}
use Rattle.rip_base.specs.Blank.{trimmed_start}
use Rattle.rip_base.specs.NumberScan.{is_digit, signed_value}
use Rattle.rip_values.specs.Pool.{Texts, text_at}
use Rattle.rip_heap.specs.Conversions.{number_of, int32_of, ranged, text_of_value}
use Rattle.rip_base.specs.Values.{value_of_number}
use Rattle.rip_heap.specs.Outcome.{Outcome, after_text}
use Rattle.rip_heap.specs.World.{World}
use Rattle.rip_builtins.specs.Arguments.{argument, then_gives, then_tries, value_or_fault}

-- the text begins with `0x` or `0X`
abbrev pub is_marked : List ℕ → Bool
is_marked [] = false
is_marked (first ∷ []) = false
is_marked (first ∷ mark ∷ digits) = first == 48 && (mark == 88 || mark == 120)

-- the base of the digits (steps 7 to 10): a radix from 2 to 36; where the radix is 0 ten, or 16 of a text that is marked
abbrev pub base_of : ℤ → List ℕ → Option ℕ
base_of (negsuc n) text = None
base_of (pos n) text =
    if n == 0 then (if is_marked text then Some 16 else Some 10)
    else if nat_le 2 n && nat_le n 36 then Some n else None

-- the text behind the mark, which in base 16 may stand before the digits (step 10)
abbrev pub without_mark : ℕ → List ℕ → List ℕ
without_mark base text = if base == 16 && is_marked text then drop 2 text else text

-- the number of digits, of which there may be none (steps 12 to 14)
abbrev pub number_of_digits : Bool → ℕ → List ℕ → Result Numeral Fault
number_of_digits negative base [] = Ok NaN
number_of_digits negative base (digit ∷ digits) = ranged (signed_value negative (digits_value base (digit ∷ digits)))

-- the number of the digits that the text begins with (step 11)
abbrev pub number_at_start : Bool → List ℕ → Option ℕ → Result Numeral Fault
number_at_start negative text None = Ok NaN
number_at_start negative text (Some base) = number_of_digits negative base (take_while (is_digit base) (without_mark base text))

-- the number that a text without blanks at its start begins with (steps 3 to 5)
abbrev pub number_behind_sign : ℤ → List ℕ → Result Numeral Fault
number_behind_sign radix text = number_at_start (starts_with_minus text) (without_leading_sign text) (base_of radix (without_leading_sign text))

-- the number that the text begins with (step 2)
abbrev pub integer_at_start : List ℕ → ℤ → Result Numeral Fault
integer_at_start text radix = number_behind_sign radix (trimmed_start text)

-- the same, by a radix that is made a number first (step 6)
abbrev pub integer_by_radix : Texts → Value → List ℕ → Result Numeral Fault
integer_by_radix pool radix text = then_tries (number_of pool radix) (λ n. integer_at_start text (int32_of n))

-- the same as a value
abbrev pub value_by_radix : Texts → Value → List ℕ → Result Value Fault
value_by_radix pool radix text = then_gives (integer_by_radix pool radix text) value_of_number

-- `parseInt`
abbrev pub parse_int : World → List Value → Outcome
parse_int w args = after_text (text_of_value w (argument args 0)) (λ text v. value_or_fault v (value_by_radix w.pool (argument args 1) (text_at v.pool text)))
