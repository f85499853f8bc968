-- The pieces of a text between line feeds.
use Rattle.std.specs.Prelude.{ℕ, ◌==◌, if◌then◌else◌, List, [], ◌∷◌}

-- a byte before the first of some pieces
abbrev pub with_first : ℕ → List (List ℕ) → List (List ℕ)
with_first b [] = (b ∷ []) ∷ []
with_first b (p ∷ ps) = (b ∷ p) ∷ ps

-- the pieces between line feeds (10): a line feed ends the piece before it, and after the last line feed an empty piece
-- is dropped
abbrev pub pieces : List ℕ → List (List ℕ)
pieces [] = []
pieces (b ∷ bs) = (if b == 10 then [] ∷ pieces bs else with_first b (pieces bs))
