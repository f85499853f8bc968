-- Spaces, which stand between the words of a line.
use Rattle.std.specs.Prelude.{◌≢◌, ℕ, ◌<◌, List, length, get_or}

-- the bytes hold no space
abbrev pub HasNoSpace : List ℕ → Type 0
HasNoSpace bytes = (k : ℕ) → k < length bytes → get_or bytes k 0 ≢ 32
