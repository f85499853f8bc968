-- The longest beginnings of a pattern at the end of a text, by which it is found in time linear in both.
use Rattle.std.specs.Prelude.{◌≡◌, ℕ, ◌<◌, ◌≤◌, List, ◌++◌, length, take, drop, slice_index}

-- the first k units of the pattern stand at the end of the text
abbrev pub EndsIn : List ℕ → List ℕ → ℕ → Type 0
EndsIn pattern text k = (k ≤ length pattern) × ((before : List ℕ) × (text ≡ before ++ take k pattern))

-- k is the greatest number of which this is so
pub record IsLongest (pattern text : List ℕ) (k : ℕ) : Type 0 where
  pub ends : EndsIn pattern text k
  pub greatest : (j : ℕ) → EndsIn pattern text j → j ≤ k

-- the same where only those count that the unit continues
pub record IsLongestBefore (pattern text : List ℕ) (unit k : ℕ) : Type 0 where
  pub ends : EndsIn pattern text k
  pub greatest : (j : ℕ) → EndsIn pattern text j → j < length pattern → slice_index pattern j ≡ unit → j ≤ k

-- at each place of the table the greatest number for the so many units of the pattern that stand behind its first
abbrev pub IsTable : List ℕ → List ℕ → Type 0
IsTable pattern table = (i : ℕ) → i < length table → IsLongest pattern (take i (drop 1 pattern)) (slice_index table i)

-- the pattern stands at that place of the text
abbrev pub StandsAt : List ℕ → List ℕ → ℕ → Type 0
StandsAt pattern text place = take (length pattern) (drop place text) ≡ pattern
