-- The words that the program answers.
use Rattle.std.specs.Prelude.{◌∷◌, ℕ, List, [], codes}
use Rattle.rip_words.specs.Commands.{Task, checks, replays, serves, drives, generates, IsTask}

-- the words have a form
abbrev pub IsForm : List (List ℕ) → Type 0
IsForm words = (task : Task) × IsTask words task

-- the words ask for service
abbrev pub AskToServe : List (List ℕ) → Type 0
AskToServe words = (page app address : List ℕ) × (turns : ℕ) × IsTask words (serves page app address turns)

-- the names of the files in the order of the words
abbrev pub in_order : Task → List (List ℕ)
in_order (checks page app) = page ∷ app ∷ []
in_order (replays page app trace turns) = page ∷ app ∷ trace ∷ []
in_order (serves page app address turns) = page ∷ app ∷ []
in_order (drives page app gestures) = page ∷ app ∷ gestures ∷ []
in_order (generates n) = []

-- what other words are answered
abbrev pub usage_line : List ℕ
usage_line = codes "usage: ripley check|replay|serve|drive|generate\n"
