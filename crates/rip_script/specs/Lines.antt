-- Lines of words.
use Rattle.std.specs.Prelude.{ℕ, List, [], ◌∷◌, ◌++◌}
use Rattle.std.specs.List.{flat_map}

-- a line: its words, a space between two, and a line feed
abbrev pub line_text : List (List ℕ) → List ℕ
line_text [] = 10 ∷ []
line_text (word ∷ []) = word ++ 10 ∷ []
line_text (word ∷ next ∷ words) = word ++ 32 ∷ line_text (next ∷ words)

-- some lines, one behind the other
abbrev pub lines_text : List (List (List ℕ)) → List ℕ
lines_text lines = flat_map line_text lines
