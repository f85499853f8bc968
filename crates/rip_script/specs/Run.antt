-- What a run did, by its status.
use Rattle.std.specs.Prelude.{◌≡◌, ◌⊎◌, ◌∷◌, [], ℕ, List, Option}
use Rattle.rip_outer.specs.Outside.{Rose, Front, also}
use Rattle.rip_outer.specs.declared.reading.NamedFile.{NamedFile}
use Rattle.rip_script.specs.Given.{Refuses, Answers, IsDue, refusal_line}
use Rattle.rip_script.specs.Words.{Task, file_of, IsTask, IsForm, usage_line}
use Rattle.rip_script.specs.declared.refusal.Refusal.{Refusal}
use Rattle.rip_script.specs.declared.status.Status.{Status}
use Rattle.rip_script.specs.declared.status.Status.TheVariants.{Done, BadWords, BadScript, Outside, NoMemory}

-- what files and sink tell at one moment: the files that are there, the names asked and the bytes put, each where it is
-- told, and how many calls of each failed
pub record Told : Type 0 where
  pub held : Option (List NamedFile)
  pub asked : Option (List (List ℕ))
  pub put : Option (List ℕ)
  pub reads_failed : ℕ
  pub puts_failed : ℕ

-- no call failed
pub record IsCalm (old new : Told) : Type 0 where
  pub files : new.reads_failed ≡ old.reads_failed
  pub sink : new.puts_failed ≡ old.puts_failed

-- the words ask for this, and its file was asked for
pub record Asks (words : List (List ℕ)) (task : Task) (old new : Told) : Type 0 where
  pub form : IsTask words task
  pub asked : new.asked ≡ also (file_of task ∷ []) old.asked

-- other words: nothing is asked for, and the usage line was put
pub record PutsUsage (words : List (List ℕ)) (old new : Told) : Type 0 where
  pub no_form : ¬ IsForm words
  pub asked : new.asked ≡ old.asked
  pub put : new.put ≡ also usage_line old.put

-- the script is refused, and the line that says so was put
pub record PutsRefusal (words : List (List ℕ)) (old new : Told) : Type 0 where
  pub task : Task
  pub asks : Asks words task old new
  pub refusal : Refusal
  pub refuses : Refuses old.held task refusal
  pub put : new.put ≡ also (refusal_line refusal) old.put

-- the script is accepted, and what is asked for was put: its tokens, its tree, or what its run comes to
pub record PutsAnswer (words : List (List ℕ)) (old new : Told) : Type 0 where
  pub task : Task
  pub asks : Asks words task old new
  pub answer : List ℕ
  pub answers : Answers old.held task answer
  pub put : new.put ≡ also answer old.put

-- the file was asked for and could not be read, and nothing was put
pub record StopsReading (words : List (List ℕ)) (old new : Told) : Type 0 where
  pub task : Task
  pub asks : Asks words task old new
  pub put : new.put ≡ old.put

-- the run stopped before anything was put, and the file was asked for or not
pub record StopsEarly (words : List (List ℕ)) (old new : Told) : Type 0 where
  pub task : Task
  pub form : IsTask words task
  pub asked : (new.asked ≡ old.asked) ⊎ (new.asked ≡ also (file_of task ∷ []) old.asked)
  pub put : new.put ≡ old.put

-- the run stopped before the usage line was put whole
pub record StopsUsage (words : List (List ℕ)) (old new : Told) : Type 0 where
  pub no_form : ¬ IsForm words
  pub asked : new.asked ≡ old.asked
  pub put : Front usage_line old.put new.put

-- the run stopped before what was due was put whole
pub record StopsPutting (words : List (List ℕ)) (old new : Told) : Type 0 where
  pub task : Task
  pub asks : Asks words task old new
  pub due : List ℕ
  pub is_due : IsDue old.held task due
  pub put : Front due old.put new.put

-- the run stopped at the first call that failed: of the files, or of the sink
abbrev pub StopsOutside : List (List ℕ) → Told → Told → Type 0
StopsOutside words old new =
    (Rose old.reads_failed new.reads_failed × (new.puts_failed ≡ old.puts_failed) × StopsReading words old new)
    ⊎ (Rose old.puts_failed new.puts_failed × (new.reads_failed ≡ old.reads_failed) × (StopsUsage words old new ⊎ StopsPutting words old new))

-- the run stopped for want of memory, anywhere
abbrev pub StopsMemory : List (List ℕ) → Told → Told → Type 0
StopsMemory words old new =
    IsCalm old new × (StopsEarly words old new ⊎ StopsUsage words old new ⊎ StopsPutting words old new)

-- what a run did
abbrev pub Ran : Status → List (List ℕ) → Told → Told → Type 0
Ran Done words old new = IsCalm old new × PutsAnswer words old new
Ran BadWords words old new = IsCalm old new × PutsUsage words old new
Ran BadScript words old new = IsCalm old new × PutsRefusal words old new
Ran Outside words old new = StopsOutside words old new
Ran NoMemory words old new = StopsMemory words old new
