-- How often the nodes of a tree hold a number as that of a child.
use Rattle.std.specs.Prelude.{ℕ, ◌+◌, ◌==◌, cond, List, [], ◌∷◌, Option, Some, None}
use Rattle.rip_tree.specs.Branches.{Branch}

-- how often the number is among these children
abbrev pub times_among : ℕ → List (Option ℕ) → ℕ
times_among id [] = 0
times_among id (None ∷ cs) = times_among id cs
times_among id (Some c ∷ cs) = cond (c == id) 1 0 + times_among id cs

-- how often it is among the children of these branches
abbrev pub times_held : ℕ → List Branch → ℕ
times_held id [] = 0
times_held id (b ∷ bs) = times_among id b.children + times_held id bs
