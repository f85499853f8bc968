use Rattle.std.specs.Prelude.{◌≡◌, ℕ, ℤ, pos, ◌+◌, ◌<◌, ◌⊎◌, List, [], ◌∷◌, ◌++◌, length, Result, Ok, Err, codes}
use Rattle.std.specs.Str.Parse.{AllDigits, IsNumeral, digits_value, without_leading_sign, signed_digits_value}
use Rattle.rip_base.specs.declared.value.Numeral.{Numeral}
use Rattle.rip_base.specs.declared.value.Numeral.TheVariants.{Num, NaN}
use Rattle.rip_base.specs.declared.value.Fault.{Fault}
use Rattle.rip_base.specs.declared.value.Fault.TheVariants.{NotWhole, Infinite, OutOfRange, Hole, NotInProfile, ObjectToPrimitive, BadArgument, LoneSurrogate, TextTooLong}
use Rattle.rip_base.specs.Whole.{IsWhole}

-- The spellings of numbers in texts, by ECMA-262 9.3.1. Each is of a text with no blanks around it.

-- HexIntegerLiteral: `0x` or `0X` and hexadecimal digits
pub record IsHexadecimal (text : List ℕ) (value : ℤ) : Type 0 where
  pub mark : ℕ
  pub digits : List ℕ
  pub spelled : text ≡ 48 ∷ mark ∷ digits
  pub is_mark : (mark ≡ 120) ⊎ (mark ≡ 88)
  pub are_digits : IsNumeral 16 digits
  pub counts : value ≡ pos (digits_value 16 digits)

-- ExponentPart: `e` or `E`, a sign or none, and digits
pub record IsExponent (text : List ℕ) : Type 0 where
  pub mark : ℕ
  pub rest : List ℕ
  pub spelled : text ≡ mark ∷ rest
  pub is_mark : (mark ≡ 101) ⊎ (mark ≡ 69)
  pub are_digits : IsNumeral 10 (without_leading_sign rest)

-- digits with a point before, among or behind them, and an exponent or none
pub record IsPointed (text : List ℕ) : Type 0 where
  pub whole : List ℕ
  pub fraction : List ℕ
  pub exponent : List ℕ
  pub spelled : text ≡ whole ++ 46 ∷ (fraction ++ exponent)
  pub whole_digits : AllDigits 10 whole
  pub fraction_digits : AllDigits 10 fraction
  pub some_digit : 0 < length whole + length fraction
  pub is_exponent : (exponent ≡ []) ⊎ IsExponent exponent

-- digits and an exponent
pub record IsScaled (text : List ℕ) : Type 0 where
  pub whole : List ℕ
  pub exponent : List ℕ
  pub spelled : text ≡ whole ++ exponent
  pub whole_digits : IsNumeral 10 whole
  pub is_exponent : IsExponent exponent

-- the text spells this whole number: nothing, hexadecimal digits, or a sign or none and decimal digits
abbrev pub SpellsWhole : List ℕ → ℤ → Type 0
SpellsWhole text value =
    ((text ≡ []) × (value ≡ pos 0))
    ⊎ IsHexadecimal text value
    ⊎ (IsNumeral 10 (without_leading_sign text) × (value ≡ signed_digits_value 10 text))

-- the text is a sign or none and a decimal literal with a point or an exponent
abbrev pub SpellsFraction : List ℕ → Type 0
SpellsFraction text = IsPointed (without_leading_sign text) ⊎ IsScaled (without_leading_sign text)

-- the text is a sign or none and `Infinity`
abbrev pub SpellsInfinity : List ℕ → Type 0
SpellsInfinity text = without_leading_sign text ≡ codes "Infinity"

-- the text has none of these spellings
pub record SpellsNothing (text : List ℕ) : Type 0 where
  pub no_whole : (value : ℤ) → SpellsWhole text value → ⊥
  pub no_fraction : SpellsFraction text → ⊥
  pub no_infinity : SpellsInfinity text → ⊥

-- ToNumber of a text with no blanks around it, in the profile: whole numbers in range, and else NaN or a fault
abbrev pub IsNumberOf : List ℕ → Result Numeral Fault → Type 0
IsNumberOf text (Ok (Num value)) = SpellsWhole text value × IsWhole value
IsNumberOf text (Ok NaN) = SpellsNothing text
IsNumberOf text (Err NotWhole) = SpellsFraction text
IsNumberOf text (Err Infinite) = SpellsInfinity text
IsNumberOf text (Err OutOfRange) = (value : ℤ) × SpellsWhole text value × ¬ (IsWhole value)
IsNumberOf text (Err Hole) = ⊥
IsNumberOf text (Err NotInProfile) = ⊥
IsNumberOf text (Err ObjectToPrimitive) = ⊥
IsNumberOf text (Err BadArgument) = ⊥
IsNumberOf text (Err LoneSurrogate) = ⊥
IsNumberOf text (Err TextTooLong) = ⊥
