-- Numerals, the whole numbers that they stand for, and those that are refused (ECMA-262 7.8.3, B.1.1). Units by
-- number: 48 is `0`, 120 and 88 are `x` and `X`, 46, 101 and 69 are `.`, `e` and `E`.
use Rattle.std.specs.Prelude.{ℕ, Bool, false, not, ◌||◌, ◌&&◌, ◌==◌, nat_lt, if◌then◌else◌, List, [], ◌∷◌, length, drop, Option, Some, None}
use Rattle.std.specs.List.{list_all, prefix_len}
use Rattle.std.specs.Str.Parse.{digits_value}
use Rattle.rip_base.specs.Units.{is_one_of, is_hex_digit, begins}
use Rattle.rip_lexer.specs.Units.{is_digit, is_name_unit}
use Rattle.rip_lexer.specs.Fault.{fault}
use Rattle.rip_lexer.specs.declared.refusal.Fault.{Fault}
use Rattle.rip_lexer.specs.declared.refusal.LexKind.TheVariants.{BadCharacter, FractionLiteral, OctalLiteral, LiteralTooLarge}

-- `0`, or a digit from 1 to 9 and then digits
abbrev pub is_decimal : List ℕ → Bool
is_decimal [] = false
is_decimal (c ∷ []) = is_digit c
is_decimal (c ∷ d ∷ ds) = if c == 48 then false else is_digit c && list_all is_digit (d ∷ ds)

-- the units are `0x` or `0X` and more
abbrev pub has_prefix : List ℕ → Bool
has_prefix (z ∷ x ∷ h ∷ hs) = (z == 48) && is_one_of (120 ∷ 88 ∷ []) x
has_prefix _ = false

-- `0x` or `0X`, and then hexadecimal digits
abbrev pub is_hexadecimal : List ℕ → Bool
is_hexadecimal s = has_prefix s && list_all is_hex_digit (drop 2 s)

-- a numeral, decimal or hexadecimal
abbrev pub is_numeral : List ℕ → Bool
is_numeral s = is_decimal s || is_hexadecimal s

-- the value of a numeral
unfoldable pub numeral_value : List ℕ → ℕ
numeral_value s = if has_prefix s then digits_value 16 (drop 2 s) else digits_value 10 s

-- what stands behind the digits that come first
abbrev pub after_digits : List ℕ → List ℕ
after_digits rest = drop (prefix_len is_digit rest) rest

-- Where a numeral with this rest is refused, counted from its first unit, and why. Digits followed by `.`, `e` or `E`
-- are a fraction; a `0` followed by a digit is octal; no value passes 2 ^ 53 - 1; no name begins directly behind.
unfoldable pub numeral_fault : List ℕ → List ℕ → Option Fault
numeral_fault s rest =
    if not (has_prefix s) && begins (is_one_of (46 ∷ 101 ∷ 69 ∷ [])) (after_digits rest) then Some (fault 0 FractionLiteral)
    else (if begins is_digit rest then Some (fault 0 OctalLiteral)
    else (if nat_lt 9007199254740991 (numeral_value s) then Some (fault 0 LiteralTooLarge)
    else (if begins is_name_unit rest then Some (fault (length s) BadCharacter)
    else None)))
