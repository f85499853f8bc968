-- A text in a text, by its units (ECMA-262 15.5.4.7 step 8).
use Rattle.std.specs.Prelude.{ℕ, suc, List, [], ◌∷◌, drop, ◌+◌, Option, None, Some, nat_eq, option_map, if◌then◌else◌}
use Rattle.std.specs.List.{starts_with}

-- the first place of the text at which the pattern stands
abbrev pub first_place : List ℕ → List ℕ → Option ℕ
first_place pattern [] = if starts_with nat_eq [] pattern then Some 0 else None
first_place pattern (unit ∷ text) = if starts_with nat_eq (unit ∷ text) pattern then Some 0 else option_map suc (first_place pattern text)

-- the same from a place on
abbrev pub first_place_from : List ℕ → List ℕ → ℕ → Option ℕ
first_place_from pattern text from = option_map (λ place. from + place) (first_place pattern (drop from text))
