-- Lines, which a line feed ends.
use Rattle.std.specs.Prelude.{◌≢◌, ℕ, ◌<◌, List, length, get_or}

-- the bytes hold no line feed
abbrev pub HasNoFeed : List ℕ → Type 0
HasNoFeed bytes = (k : ℕ) → k < length bytes → get_or bytes k 0 ≢ 10
