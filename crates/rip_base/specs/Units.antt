-- The units of texts by class, as pages and scripts have them. Units by number: 48 to 57 are the decimal digits, 65 to 90
-- and 97 to 122 the letters.
use Rattle.std.specs.Prelude.{ℕ, ◌+◌, ◌-◌, Bool, false, ◌||◌, ◌&&◌, ◌==◌, nat_le, if◌then◌else◌, List, [], ◌∷◌, map}
use Rattle.std.specs.List.{list_any}

-- from the low unit to the high one, both included
abbrev pub is_between : ℕ → ℕ → ℕ → Bool
is_between low high c = nat_le low c && nat_le c high

-- one of these units
abbrev pub is_one_of : List ℕ → ℕ → Bool
is_one_of units c = list_any (λ unit. c == unit) units

-- the units begin with one that passes
abbrev pub begins : (ℕ → Bool) → List ℕ → Bool
begins passes [] = false
begins passes (c ∷ rest) = passes c

-- a hexadecimal digit (ECMA-262 7.8.3)
unfoldable pub is_hex_digit : ℕ → Bool
is_hex_digit c = is_between 48 57 c || is_between 97 102 c || is_between 65 70 c

-- the number that a hexadecimal digit stands for, and 0 for any other unit
unfoldable pub hex_value : ℕ → ℕ
hex_value c = if is_between 48 57 c then c - 48 else (if is_between 97 102 c then c - 87 else (if is_between 65 70 c then c - 55 else 0))

-- a unit in small letters: of a capital from A to Z its small letter
abbrev pub small_unit : ℕ → ℕ
small_unit c = if is_between 65 90 c then c + 32 else c

-- the text in small letters
abbrev pub small_text : List ℕ → List ℕ
small_text text = map small_unit text
