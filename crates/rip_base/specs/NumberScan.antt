use Rattle.std.specs.Prelude.{◌≡◌, ℕ, ℤ, pos, neg_ℤ, Bool, false, List, [], ◌∷◌, length, drop, ◌==◌, ◌&&◌, ◌||◌, nat_lt, if◌then◌else◌, Result, Ok, Err}
use Rattle.rip_base.specs.declared.value.Numeral.{Numeral}
use Rattle.rip_base.specs.declared.value.Numeral.TheVariants.{Num, NaN}
use Rattle.rip_base.specs.declared.value.Fault.{Fault}
use Rattle.rip_base.specs.declared.value.Fault.TheVariants.{NotWhole, Infinite, OutOfRange, Hole, NotInProfile, ObjectToPrimitive, BadArgument, LoneSurrogate, TextTooLong}
use Rattle.rip_base.specs.Whole.{IsWhole}
use Rattle.std.specs.List.{list_all, prefix_len}
use Rattle.std.specs.Char.{digit_value}
use Rattle.std.specs.Str.Parse.{without_leading_sign}

-- Tests of a text for the spellings of specs/Numbers.antt, which proofs/NumberLemmas.antt shows to be those.

-- the unit is a digit in the base
abbrev pub is_digit : ℕ → ℕ → Bool
is_digit base unit = nat_lt (digit_value unit) base

-- the number with this sign and this absolute value
abbrev pub signed_value : Bool → ℕ → ℤ
signed_value negative n = if negative then neg_ℤ (pos n) else pos n

-- the answer for a whole number: it, or that it is past the range
abbrev pub IsRanged : ℤ → Result Numeral Fault → Type 0
IsRanged value (Ok (Num number)) = (number ≡ value) × IsWhole value
IsRanged value (Ok NaN) = ⊥
IsRanged value (Err NotWhole) = ⊥
IsRanged value (Err Infinite) = ⊥
IsRanged value (Err OutOfRange) = ¬ (IsWhole value)
IsRanged value (Err Hole) = ⊥
IsRanged value (Err NotInProfile) = ⊥
IsRanged value (Err ObjectToPrimitive) = ⊥
IsRanged value (Err BadArgument) = ⊥
IsRanged value (Err LoneSurrogate) = ⊥
IsRanged value (Err TextTooLong) = ⊥

-- how many decimal digits the text begins with
unfoldable pub digits_at_start : List ℕ → ℕ
digits_at_start text = prefix_len (is_digit 10) text

-- the text is one digit of the base or more
unfoldable pub is_numeral : ℕ → List ℕ → Bool
is_numeral base text = nat_lt 0 (length text) && list_all (is_digit base) text

-- the text is `0x` or `0X` and hexadecimal digits
abbrev pub is_hexadecimal : List ℕ → Bool
is_hexadecimal [] = false
is_hexadecimal (first ∷ []) = false
is_hexadecimal (first ∷ mark ∷ digits) = first == 48 && (mark == 88 || mark == 120) && is_numeral 16 digits

-- the text is an exponent
unfoldable pub is_exponent : List ℕ → Bool
is_exponent [] = false
is_exponent (mark ∷ rest) = (mark == 69 || mark == 101) && is_numeral 10 (without_leading_sign rest)

-- the text, which follows so many digits and a point, begins with digits, of which there is one on either side, and goes on as an exponent or not at all
unfoldable pub ends_after_point : ℕ → List ℕ → Bool
ends_after_point count text =
    (nat_lt 0 count || nat_lt 0 (digits_at_start text))
    && (length (drop (digits_at_start text) text) == 0 || is_exponent (drop (digits_at_start text) text))

-- the text, which follows so many digits, begins with a point or is an exponent
abbrev pub ends_after_digits : ℕ → List ℕ → Bool
ends_after_digits count [] = false
ends_after_digits count (unit ∷ text) =
    if unit == 46 then ends_after_point count text else nat_lt 0 count && is_exponent (unit ∷ text)

-- the text is a decimal literal with a point or an exponent
unfoldable pub is_fraction : List ℕ → Bool
is_fraction text = ends_after_digits (digits_at_start text) (drop (digits_at_start text) text)
