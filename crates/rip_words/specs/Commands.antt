-- The words of the command line, and what they ask for.
use Rattle.std.specs.Prelude.{◌≡◌, ℕ, ◌<◌, ◌≤◌, ◌^◌, ◌⊎◌, List, [], ◌∷◌, ◌++◌, codes, decimal}
use Rattle.rip_words.specs.declared.command.Command.{Command}
use Rattle.rip_words.specs.declared.command.Command.TheVariants as command

-- what is asked for, with the names of its files: whether a page and a manifest are an application; the log of a trace,
-- within so many turns; service at an address, within so many turns; the trace of gestures; the line of a number
pub data Task : Type 0 where
  checks : (page app : List ℕ) → Task
  replays : (page app trace : List ℕ) (turns : ℕ) → Task
  serves : (page app address : List ℕ) (turns : ℕ) → Task
  drives : (page app gestures : List ℕ) → Task
  generates : ℕ → Task

-- `--turns=N`: a numeral without leading zeros, from 1 to 2^53 - 1
pub record IsTurns (word : List ℕ) (turns : ℕ) : Type 0 where
  pub spelled : word ≡ codes "--turns=" ++ decimal turns
  pub from_one : 1 ≤ turns
  pub bounded : turns < 2 ^ 53

-- the words behind the names: none, for the usual number of turns, or an option
abbrev pub IsOption : List (List ℕ) → ℕ → ℕ → Type 0
IsOption words usual turns = ((words ≡ []) × (turns ≡ usual)) ⊎ ((word : List ℕ) × (words ≡ word ∷ []) × IsTurns word turns)

-- the words ask for this
abbrev pub IsTask : List (List ℕ) → Task → Type 0
-- check PAGE APP
IsTask words (checks page app) = words ≡ codes "check" ∷ page ∷ app ∷ []
-- replay PAGE APP TRACE [--turns=N]
IsTask words (replays page app trace turns) = (option : List (List ℕ)) × (words ≡ codes "replay" ∷ page ∷ app ∷ trace ∷ option) × IsOption option 1000000000 turns
-- serve PAGE APP ADDRESS [--turns=N]
IsTask words (serves page app address turns) = (option : List (List ℕ)) × (words ≡ codes "serve" ∷ page ∷ app ∷ address ∷ option) × IsOption option 9007199254740991 turns
-- drive PAGE APP GESTURES
IsTask words (drives page app gestures) = words ≡ codes "drive" ∷ page ∷ app ∷ gestures ∷ []
-- generate N: a numeral without leading zeros, below 2^32
IsTask words (generates n) = (words ≡ codes "generate" ∷ decimal n ∷ []) × (n < 2 ^ 32)

-- what a command asks for
abbrev pub task_of : Command → Task
task_of (command.Check page app) = checks page.now app.now
task_of (command.Replay page app trace turns) = replays page.now app.now trace.now turns
task_of (command.Serve page app address turns) = serves page.now app.now address.now turns
task_of (command.Drive page app gestures) = drives page.now app.now gestures.now
task_of (command.Generate n) = generates n

-- words ask for one thing at most
abbrev pub TaskIsOne : Type 0
TaskIsOne = (words : List (List ℕ)) (s t : Task) → IsTask words s → IsTask words t → s ≡ t
