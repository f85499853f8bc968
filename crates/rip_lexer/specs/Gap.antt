-- What may stand between tokens: white space, line ends and comments (ECMA-262 7.2, 7.3, 7.4). Units by number: 47
-- is `/`, 42 is `*`.
use Rattle.std.specs.Prelude.{◌≡◌, ℕ, Bool, true, false, not, ◌||◌, ◌&&◌, ◌==◌, List, [], ◌∷◌, ◌++◌}
use Rattle.std.specs.List.{list_any, list_all}
use Rattle.rip_base.specs.Units.{begins}
use Rattle.rip_lexer.specs.Units.{is_line_end, is_blank}

-- a part of a gap: one unit, or a comment with the units of its body
pub data Part : Type 0 where
  Blank : ℕ → Part
  LineComment : List ℕ → Part
  BlockComment : List ℕ → Part

-- `*/` stands somewhere in these units
abbrev pub holds_close : List ℕ → Bool
holds_close [] = false
holds_close (c ∷ rest) = ((c == 42) && begins (λ d. d == 47) rest) || holds_close rest

-- a line ends here: by a line end, or because nothing follows
abbrev pub ends_line : List ℕ → Bool
ends_line [] = true
ends_line (c ∷ rest) = is_line_end c

-- the units of a part, and then the rest
abbrev pub part_text : Part → List ℕ → List ℕ
part_text (Blank c) rest = c ∷ rest
part_text (LineComment body) rest = 47 ∷ 47 ∷ (body ++ rest)
part_text (BlockComment body) rest = 47 ∷ 42 ∷ (body ++ (42 ∷ 47 ∷ rest))

-- the part may stand before this rest
abbrev pub IsPart : Part → List ℕ → Type 0
IsPart (Blank c) rest = is_blank c ≡ true
IsPart (LineComment body) rest = (list_all (λ c. not (is_line_end c)) body ≡ true) × (ends_line rest ≡ true)
IsPart (BlockComment body) rest = holds_close body ≡ false

-- the part holds a line end
abbrev pub line_in : Part → Bool
line_in (Blank c) = is_line_end c
line_in (LineComment body) = false
line_in (BlockComment body) = list_any is_line_end body

-- the units of a gap, and then the rest
abbrev pub gap_text : List Part → List ℕ → List ℕ
gap_text [] rest = rest
gap_text (part ∷ gap) rest = part_text part (gap_text gap rest)

-- the parts may stand in this order before this rest
abbrev pub IsGap : List Part → List ℕ → Type 0
IsGap [] rest = Unit {0}
IsGap (part ∷ gap) rest = IsPart part (gap_text gap rest) × IsGap gap rest

-- a comment begins here
abbrev pub begins_comment : List ℕ → Bool
begins_comment [] = false
begins_comment (c ∷ rest) = (c == 47) && begins (λ d. (d == 47) || (d == 42)) rest
