-- Lines in a row of bytes.
use Rattle.std.specs.Prelude.{◌≡◌, ℕ, ◌<◌, List, length, slice_get, slice_index, Some}

-- the bytes begin with the text and a line feed
pub record BeginsWithLine (bytes text : List ℕ) : Type 0 where
  pub text_first : (k : ℕ) → k < length text → slice_get bytes k ≡ Some (slice_index text k)
  pub then_feed : slice_get bytes (length text) ≡ Some 10
