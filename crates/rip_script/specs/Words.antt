-- The words of the command line.
use Rattle.std.specs.Prelude.{◌≡◌, ◌≤◌, ◌∷◌, ℕ, List, [], Option, Some, None, length, slice_get, codes}
use Rattle.std.specs.Str.Parse.{IsNumeral, digits_value}
use Rattle.rip_script.specs.declared.words.Command.{Command}
use Rattle.rip_script.specs.declared.words.Command.TheVariants as command
use Rattle.rip_script.specs.declared.words.RunLimits.{RunLimits}

-- LIMITS

-- the limits of a run where the words name none: those of an application
abbrev pub usual : RunLimits
usual = record { fuel = 100000; cells = 20000; units = 100000; depth = 500 }

-- the greatest limits that the words may name
abbrev pub greatest : RunLimits
greatest = record { fuel = 1000000000; cells = 4000000000; units = 4000000000; depth = 10000 }

-- the word is a decimal numeral of this number, which is from 1 to the most
pub record IsNumber (word : List ℕ) (most number : ℕ) : Type 0 where
  pub numeral : IsNumeral 10 word
  pub value : number ≡ digits_value 10 word
  pub positive : 1 ≤ number
  pub within : number ≤ most

-- the limit that a word names, or the usual one where there is no word
abbrev pub IsLimitBy : Option (List ℕ) → ℕ → ℕ → ℕ → Type 0
IsLimitBy None otherwise most limit = limit ≡ otherwise
IsLimitBy (Some word) otherwise most limit = IsNumber word most limit

-- the same of the word at this place
abbrev pub IsLimit : List (List ℕ) → ℕ → ℕ → ℕ → ℕ → Type 0
IsLimit words place otherwise most limit = IsLimitBy (slice_get words place) otherwise most limit

-- the words name these limits, in this order; those behind the last word are the usual ones
pub record AreLimits (words : List (List ℕ)) (limits : RunLimits) : Type 0 where
  pub few : length words ≤ 4
  pub fuel : IsLimit words 0 usual.fuel greatest.fuel limits.fuel
  pub cells : IsLimit words 1 usual.cells greatest.cells limits.cells
  pub units : IsLimit words 2 usual.units greatest.units limits.units
  pub depth : IsLimit words 3 usual.depth greatest.depth limits.depth

-- COMMANDS

-- what words ask for, with the name of the script's file
pub data Task : Type 0 where
  TokensOf : (file : List ℕ) → Task
  TreeOf : (file : List ℕ) → Task
  RunOf : (file : List ℕ) → (limits : RunLimits) → Task

-- the name of the script's file
abbrev pub file_of : Task → List ℕ
file_of (TokensOf file) = file
file_of (TreeOf file) = file
file_of (RunOf file limits) = file

-- the words ask for this: they are `tokens FILE`, `tree FILE`, or `run FILE` with words for limits behind it
abbrev pub IsTask : List (List ℕ) → Task → Type 0
IsTask words (TokensOf file) = words ≡ codes "tokens" ∷ file ∷ []
IsTask words (TreeOf file) = words ≡ codes "tree" ∷ file ∷ []
IsTask words (RunOf file limits) = (numbers : List (List ℕ)) × (words ≡ codes "run" ∷ file ∷ numbers) × AreLimits numbers limits

-- the words have the form of a command
abbrev pub IsForm : List (List ℕ) → Type 0
IsForm words = (task : Task) × IsTask words task

-- what a command asks for
abbrev pub task_of : Command → Task
task_of (command.Tokens file) = TokensOf file.now
task_of (command.Tree file) = TreeOf file.now
task_of (command.Run file limits) = RunOf file.now limits

-- what other words are answered
abbrev pub usage_line : List ℕ
usage_line = codes "usage: script tokens FILE | script tree FILE | script run FILE [FUEL [CELLS [UNITS [DEPTH]]]]\n"
