-- The units of a page by class (HTML 13.1.2, 13.1.2.3, 13.1.2.6). Units by number: 48 to 57 are the decimal digits, 65
-- to 90 and 97 to 122 the letters.
use Rattle.std.specs.Prelude.{ℕ, Bool, not, ◌||◌, ◌==◌, [], ◌∷◌, codes}
use Rattle.rip_base.specs.Units.{is_between, is_one_of}

-- TAB, LF, FF or SP; a CR is none, since lines end in LF alone by then
unfoldable pub is_space : ℕ → Bool
is_space c = is_one_of (9 ∷ 10 ∷ 12 ∷ 32 ∷ []) c

-- a letter of ASCII
unfoldable pub is_letter : ℕ → Bool
is_letter c = is_between 97 122 c || is_between 65 90 c

-- a decimal digit
unfoldable pub is_digit : ℕ → Bool
is_digit c = is_between 48 57 c

-- a unit of an element's name: a letter, a digit or `-`
unfoldable pub is_name_unit : ℕ → Bool
is_name_unit c = is_letter c || is_digit c || (c == 45)

-- a unit of an attribute's name: also `_`, `:` and `.`
unfoldable pub is_attribute_unit : ℕ → Bool
is_attribute_unit c = is_name_unit c || is_one_of (codes "_:.") c

-- a quote, `"` or `'`
unfoldable pub is_quote : ℕ → Bool
is_quote c = is_one_of (34 ∷ 39 ∷ []) c

-- a unit of a value without quotes: no space, no quote, and none of `=`, `<`, `>` and the backquote
unfoldable pub is_unquoted : ℕ → Bool
is_unquoted c = not (is_space c || is_quote c || is_one_of (codes "=<>`") c)
