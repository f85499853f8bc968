-- Cutting a list of items into batches, by the sizes of the items' texts.
use Rattle.std.specs.Prelude.{◌≡◌, ℕ, ◌+◌, ◌-◌, ◌<◌, ◌≤◌, List, [], ◌∷◌, length, sum, take, drop, decimal}

-- the bytes of a body without items: `{"batch":`, its number, `,"items":[` and `]}`
abbrev pub frame_size : ℕ → ℕ
frame_size number = 21 + length (decimal number)

-- the bytes of a body whose items have texts of these sizes: between two stands a comma
abbrev pub body_size : ℕ → List ℕ → ℕ
body_size number sizes = frame_size number + (sum sizes + (length sizes - 1))

-- a batch may have these items: at most 64, in a body of at most 65,536 bytes
pub record Fits (number : ℕ) (sizes : List ℕ) : Type 0 where
  pub few : length sizes ≤ 64
  pub short : body_size number sizes ≤ 65536

-- the longest front that fits has so many of them
pub record IsLongest (number : ℕ) (sizes : List ℕ) (count : ℕ) : Type 0 where
  pub within : count ≤ length sizes
  pub fits : Fits number (take count sizes)
  pub longest : (more : ℕ) → count < more → more ≤ length sizes → ¬ Fits number (take more sizes)

-- the batches from this number on take so many each: the longest front, and then the longest of the rest; no items make one
-- batch without any
pub data IsCut : ℕ → List ℕ → List ℕ → Type 0 where
  whole : (number : ℕ) (sizes : List ℕ) → IsLongest number sizes (length sizes) → IsCut number sizes (length sizes ∷ [])
  parts : (number : ℕ) (sizes : List ℕ) (count : ℕ) (counts : List ℕ) → IsLongest number sizes count → count < length sizes → IsCut (number + 1) (drop count sizes) counts → IsCut number sizes (count ∷ counts)

-- a list is cut in one way
abbrev pub CutIsOne : Type 0
CutIsOne = (number : ℕ) (sizes counts others : List ℕ) → IsCut number sizes counts → IsCut number sizes others → counts ≡ others
