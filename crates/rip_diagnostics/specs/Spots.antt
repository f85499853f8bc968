-- Where a place of a text in UTF-8 stands, as an editor shows it. Bytes by number: 10 is LF, 13 is CR.
use Rattle.std.specs.List.{prefix_len, suffix_len}
use Rattle.std.specs.Prelude.{ℕ, ◌+◌, Bool, ◌&&◌, ◌||◌, ◌==◌, not, nat_lt, if◌then◌else◌, List, [], ◌∷◌}

-- How many lines end in a text: LF, CR, or CR with LF behind it, ends one. The first argument says whether a CR stands
-- before the text.
abbrev pub line_ends : Bool → List ℕ → ℕ
line_ends behind_cr [] = 0
line_ends behind_cr (c ∷ rest) =
    (if (c == 13) || ((c == 10) && not behind_cr) then 1 else 0) + line_ends (c == 13) rest

-- whether a line ends at the byte
abbrev pub is_end : ℕ → Bool
is_end c = (c == 10) || (c == 13)

-- whether the byte begins a character (RFC 3629 section 3)
abbrev pub begins_character : ℕ → Bool
begins_character c = nat_lt c 0x80 || not (nat_lt c 0xC0)

-- how many bytes of its last line a text has
abbrev pub line_before : List ℕ → ℕ
line_before text = suffix_len (λ c. not (is_end c)) text

-- how many bytes of its first line a text has
abbrev pub line_behind : List ℕ → ℕ
line_behind text = prefix_len (λ c. not (is_end c)) text
