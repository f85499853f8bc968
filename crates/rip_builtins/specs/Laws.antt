-- Laws of the built-in functions, in words that their definitions do not use.
use Rattle.std.specs.Prelude.{ℕ, ◌<◌, List, Option, None, Some}
use Rattle.rip_heap.specs.Borders.{StandsAt}
use Rattle.rip_heap.specs.Search.{first_place}

-- the pattern stands at that place of the text and at no lesser one; where there is no such place it stands nowhere
abbrev pub IsFirstPlace : List ℕ → List ℕ → Option ℕ → Type 0
IsFirstPlace pattern text (Some place) = StandsAt pattern text place × ((q : ℕ) → q < place → ¬ (StandsAt pattern text q))
IsFirstPlace pattern text None = (q : ℕ) → ¬ (StandsAt pattern text q)

-- `indexOf` of texts finds the first place (ECMA-262 15.5.4.7 step 8)
abbrev pub FindsFirstPlaces : Type 0
FindsFirstPlaces = (pattern text : List ℕ) → IsFirstPlace pattern text (first_place pattern text)
