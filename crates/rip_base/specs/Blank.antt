use Rattle.std.specs.Prelude.{ℕ, Bool, List, [], ◌∷◌, ◌==◌, ◌||◌, if◌then◌else◌, reverse}
use Rattle.std.specs.List.{list_any}

-- the units of white space (ECMA-262 7.2)
abbrev pub white_space : List ℕ
white_space =
    0x9 ∷ 0xB ∷ 0xC ∷ 0x20 ∷ 0xA0 ∷ 0x1680
    ∷ 0x2000 ∷ 0x2001 ∷ 0x2002 ∷ 0x2003 ∷ 0x2004 ∷ 0x2005 ∷ 0x2006 ∷ 0x2007 ∷ 0x2008 ∷ 0x2009 ∷ 0x200A
    ∷ 0x202F ∷ 0x205F ∷ 0x3000 ∷ 0xFEFF ∷ []

-- the units that end a line (ECMA-262 7.3)
abbrev pub line_ends : List ℕ
line_ends = 0xA ∷ 0xD ∷ 0x2028 ∷ 0x2029 ∷ []

-- the unit is white space
abbrev pub is_white_space : ℕ → Bool
is_white_space unit = list_any (λ u. u == unit) white_space

-- the unit ends a line
abbrev pub is_line_end : ℕ → Bool
is_line_end unit = list_any (λ u. u == unit) line_ends

-- the unit is white space or ends a line
unfoldable pub is_blank : ℕ → Bool
is_blank unit = is_white_space unit || is_line_end unit

-- the text without the blanks at its start
abbrev pub trimmed_start : List ℕ → List ℕ
trimmed_start [] = []
trimmed_start (unit ∷ text) = if is_blank unit then trimmed_start text else (unit ∷ text)

-- the text without the blanks at its end
abbrev pub trimmed_end : List ℕ → List ℕ
trimmed_end text = reverse (trimmed_start (reverse text))

-- the text without the blanks at its start and at its end
abbrev pub trimmed : List ℕ → List ℕ
trimmed text = trimmed_end (trimmed_start text)
