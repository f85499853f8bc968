-- What a run did, by its status.
use Rattle.std.specs.Prelude.{◌≡◌, ◌++◌, ◌⊎◌, ℕ, List, Option}
use Rattle.rip_outer.specs.Outside.{Rose, also}
use Rattle.rip_outer.specs.declared.reading.NamedFile.{NamedFile}
use Rattle.rip_words.specs.Commands.{Task, IsTask}
use Rattle.rip_server.specs.Turning.{Outer}
use Rattle.rip_serve.specs.Serving.{NoFaults, OneFault}
use Rattle.rip_cli.specs.Words.{IsForm, in_order, usage_line}
use Rattle.rip_cli.specs.Input.{IsInputOf, Refuses}
use Rattle.rip_cli.specs.Service.{Does}
use Rattle.rip_cli.specs.Settling.{Puts, PutsFront}
use Rattle.rip_cli.specs.declared.input.Input.{Input}
use Rattle.rip_cli.specs.declared.status.Status.{Status}
use Rattle.rip_cli.specs.declared.status.Status.TheVariants.{Read, BadWords, BadInput, TurnsSpent, Outside, NoMemory}

-- what is told at one moment: the files that are there and the names asked, each where it is told, and how many reads
-- failed; and what sink, door, clock and random words tell
pub record Told : Type 0 where
  pub held : Option (List NamedFile)
  pub asked : Option (List (List ℕ))
  pub reads_failed : ℕ
  pub outer : Outer

-- no call failed: of the files, of the sink, of the door
abbrev pub AreCalm : Told → Told → Type 0
AreCalm old new = (new.reads_failed ≡ old.reads_failed) × NoFaults old.outer new.outer

-- the named files were asked for, in the order of the words, and gave this input
pub record Reads (words : List (List ℕ)) (old new : Told) (i : Input) : Type 0 where
  pub task : Task
  pub form : IsTask words task
  pub contents : IsInputOf old.held task i
  pub asked : new.asked ≡ also (in_order task) old.asked

-- other words: nothing is asked for, and the usage line was put
pub record PutsUsage (words : List (List ℕ)) (old new : Told) : Type 0 where
  pub no_form : ¬ IsForm words
  pub asked : new.asked ≡ old.asked
  pub put : Puts usage_line old.outer new.outer

-- the input is refused, and the line that says so was put
pub record PutsRefusal (words : List (List ℕ)) (old new : Told) : Type 0 where
  pub input : Input
  pub reads : Reads words old new input
  pub line : List ℕ
  pub refuses : Refuses input line
  pub put : Puts line old.outer new.outer

-- the run stopped while it read: some of the files were asked for, from the first on, and nothing else was done
pub record StopsReading (words : List (List ℕ)) (old new : Told) : Type 0 where
  pub task : Task
  pub form : IsTask words task
  pub first : List (List ℕ)
  pub others : List (List ℕ)
  pub in_order : in_order task ≡ first ++ others
  pub asked : new.asked ≡ also first old.asked
  pub nothing : new.outer ≡ old.outer

-- it stopped before the usage line was put whole
pub record StopsUsage (words : List (List ℕ)) (old new : Told) : Type 0 where
  pub no_form : ¬ IsForm words
  pub asked : new.asked ≡ old.asked
  pub put : PutsFront usage_line old.outer new.outer

-- or before the line for input that is refused was
pub record StopsRefusal (words : List (List ℕ)) (old new : Told) : Type 0 where
  pub input : Input
  pub reads : Reads words old new input
  pub line : List ℕ
  pub refuses : Refuses input line
  pub put : PutsFront line old.outer new.outer

-- the input is accepted, and what it asks for was done, up to how the run ended
pub record Works (words : List (List ℕ)) (status : Status) (old new : Told) : Type 0 where
  pub input : Input
  pub reads : Reads words old new input
  pub does : Does input status old.outer new.outer

-- it stopped as it put a line, or in what it did
abbrev pub StopsPutting : Status → List (List ℕ) → Told → Told → Type 0
StopsPutting status words old new = StopsUsage words old new ⊎ StopsRefusal words old new ⊎ Works words status old new

-- the run stopped at the first call that failed: of the files, as it read; or of sink or door
abbrev pub StopsOutside : List (List ℕ) → Told → Told → Type 0
StopsOutside words old new =
    (Rose old.reads_failed new.reads_failed × NoFaults old.outer new.outer × StopsReading words old new)
    ⊎ ((new.reads_failed ≡ old.reads_failed) × OneFault old.outer new.outer × StopsPutting Outside words old new)

-- the run stopped for want of memory, anywhere
abbrev pub StopsMemory : List (List ℕ) → Told → Told → Type 0
StopsMemory words old new = AreCalm old new × (StopsReading words old new ⊎ StopsPutting NoMemory words old new)

-- what a run did
abbrev pub Ran : Status → List (List ℕ) → Told → Told → Type 0
Ran Read words old new = AreCalm old new × Works words Read old new
Ran BadWords words old new = AreCalm old new × PutsUsage words old new
Ran BadInput words old new = AreCalm old new × PutsRefusal words old new
Ran TurnsSpent words old new = AreCalm old new × Works words TurnsSpent old new
Ran Outside words old new = StopsOutside words old new
Ran NoMemory words old new = StopsMemory words old new
