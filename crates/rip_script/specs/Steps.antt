-- What the steps of a run do. No public clause cites this.
use Rattle.std.specs.Prelude.{◌≡◌, ◌++◌, ◌<◌, ◌≤◌, length, ◌⊎◌, ◌∷◌, [], ℕ, zero, suc, List, Option, Some, Result, Ok, Err, reverse}
use Rattle.std.specs.List.{AllByRecursion, flat_map, join_with_byte}
use Rattle.rip_outer.specs.Outside.{Rose, Front, also}
use Rattle.rip_outer.specs.declared.writing.SinkError.{SinkError}
use Rattle.rip_outer.specs.declared.writing.SinkError.TheVariants.{Failed, Memory}
use Rattle.rip_base.specs.declared.value.Refused.{Refused}
use Rattle.rip_base.specs.declared.value.Refused.TheVariants.{Limit as At, Memory as NoRoom}
use Rattle.rip_tree.specs.Branches.{Branch, Plant, node_of}
use Rattle.rip_tree.specs.Program.{Code}
use Rattle.rip_early.specs.Mistakes.{AreClean}
use Rattle.rip_early.specs.Program.{program_of}
use Rattle.rip_heap.specs.World.{World}
use Rattle.rip_machine.specs.Law.{Standing}
use Rattle.rip_eval_rows.specs.declared.outcome.Turned.{Turned}
use Rattle.rip_eval_rows.specs.declared.outcome.Turned.TheVariants.{More}
use Rattle.rip_eval_rows.specs.declared.outcome.Turned.TheVariants as turned
use Rattle.rip_script.specs.Evaluation.{IsEvaluated, IsStarted, stopped}
use Rattle.rip_script.specs.declared.words.RunLimits.{RunLimits}
use Rattle.rip_tree.specs.declared.node.Node.{Node}
use Rattle.rip_script.specs.Given.{refusal_line}
use Rattle.rip_script.specs.Texts.{lines_below, node_line}
use Rattle.rip_script.specs.declared.draw.Open.{Open}
use Rattle.rip_script.specs.declared.refusal.Refusal.{Refusal}
use Rattle.rip_script.specs.declared.refusal.Stop.{Stop}
use Rattle.rip_script.specs.declared.refusal.Stop.TheVariants as stop
use Rattle.rip_script.specs.declared.status.Status.{Status}
use Rattle.rip_script.specs.declared.status.Status.TheVariants.{Done, BadWords, BadScript, Outside, NoMemory}

-- PUTTING

-- a front of the block went to the sink, and the rest is the block now
pub record Moved (block block' : List ℕ) (old new : Option (List ℕ)) : Type 0 where
  pub front : List ℕ
  pub parts : block ≡ front ++ block'
  pub put : new ≡ also front old

-- a front of the block went to the sink: the rest is kept, unless the sink stopped
abbrev pub Passes : {A : Type 0} → Result A SinkError → List ℕ → List ℕ → Option (List ℕ) → Option (List ℕ) → Type 0
Passes (Ok done) block block' old new = Moved block block' old new
Passes (Err e) block block' old new = Front block old new

-- the text was put, or a front of it where the sink stopped or memory ran out
abbrev pub Puts : {A : Type 0} → Result A SinkError → List ℕ → Option (List ℕ) → Option (List ℕ) → Type 0
Puts (Ok done) text old new = new ≡ also text old
Puts (Err e) text old new = Front text old new

-- TREES

-- the branch is there, and no more levels stand above it than branches before it
pub record IsOpen (branches : List Branch) (o : Open) : Type 0 where
  pub there : o.id < length branches
  pub level : o.level ≤ o.id

-- each of the open branches is
abbrev pub AreOpen : List Branch → List Open → Type 0
AreOpen branches opened = AllByRecursion (IsOpen branches) (reverse opened)

-- the lines of an open branch, and of all that stands below it
abbrev pub lines_of : List Branch → Open → List (List (List ℕ))
lines_of branches o = lines_below (length branches) branches o.level o.id

-- the lines that are due for the open branches, the last of which comes first
abbrev pub open_lines : List Branch → List Open → List (List (List ℕ))
open_lines branches opened = flat_map (lines_of branches) (reverse opened)

-- the lines that were due for the branch and those below it on the stack are its own line, and then those due now
abbrev pub Opens : List Branch → Open → List Open → List Open → Type 0
Opens branches o old new =
    (node : Node) → node_of branches o.id ≡ Some node → lines_of branches o ++ open_lines branches old ≡ node_line o.level node ∷ open_lines branches new

-- SETTLING

-- what was put of what is due, where these texts are answers and these refusals refuse
abbrev pub Settles : (List ℕ → Type 0) → (Refusal → Type 0) → Status → Option (List ℕ) → Option (List ℕ) → Type 0
Settles IsAnswer IsRefusal Done old new = (answer : List ℕ) × IsAnswer answer × (new ≡ also answer old)
Settles IsAnswer IsRefusal BadWords old new = ⊥
Settles IsAnswer IsRefusal BadScript old new = (refusal : Refusal) × IsRefusal refusal × (new ≡ also (refusal_line refusal) old)
Settles IsAnswer IsRefusal Outside old new =
    (due : List ℕ) × (IsAnswer due ⊎ ((refusal : Refusal) × IsRefusal refusal × (due ≡ refusal_line refusal))) × Front due old new
Settles IsAnswer IsRefusal NoMemory old new =
    (new ≡ old)
    ⊎ ((due : List ℕ) × (IsAnswer due ⊎ ((refusal : Refusal) × IsRefusal refusal × (due ≡ refusal_line refusal))) × Front due old new)

-- why reading stopped: a refusal, or want of memory
abbrev pub IsStop : (Refusal → Type 0) → Stop → Type 0
IsStop IsRefusal (stop.Refused refusal) = IsRefusal refusal
IsStop IsRefusal stop.Memory = Unit {0}

-- the sink's count rose where the outside stopped the run, and else is as it was
abbrev pub CountsStatus : Status → ℕ → ℕ → Type 0
CountsStatus Done old new = new ≡ old
CountsStatus BadWords old new = new ≡ old
CountsStatus BadScript old new = new ≡ old
CountsStatus Outside old new = Rose old new
CountsStatus NoMemory old new = new ≡ old

-- the status of a run that puts all that is due, where putting ended so
abbrev pub status_after : {A : Type 0} → Result A SinkError → Status → Status
status_after (Ok done) due = due
status_after (Err Failed) due = Outside
status_after (Err Memory) due = NoMemory

-- the text was put where the run ends with the status that is due, and a front of it where it stopped before
abbrev pub PutsThen : Status → Status → List ℕ → Option (List ℕ) → Option (List ℕ) → Type 0
PutsThen due Done text old new = (due ≡ Done) × (new ≡ also text old)
PutsThen due BadWords text old new = (due ≡ BadWords) × (new ≡ also text old)
PutsThen due BadScript text old new = (due ≡ BadScript) × (new ≡ also text old)
PutsThen due Outside text old new = Front text old new
PutsThen due NoMemory text old new = Front text old new

-- the statuses of a run that puts all that is due
abbrev pub IsWhole : Status → Type 0
IsWhole Done = Unit {0}
IsWhole BadWords = Unit {0}
IsWhole BadScript = Unit {0}
IsWhole Outside = ⊥
IsWhole NoMemory = ⊥

-- the line for why reading stopped was put, or a front of it; want of memory has none
abbrev pub PutsStop : Status → Stop → Option (List ℕ) → Option (List ℕ) → Type 0
PutsStop status (stop.Refused refusal) old new = PutsThen BadScript status (refusal_line refusal) old new
PutsStop status stop.Memory old new = (status ≡ NoMemory) × (new ≡ old)

-- VALUES

-- what stands before the element at this place: a comma, but nothing before the first
abbrev pub comma_before : ℕ → List ℕ
comma_before zero = []
comma_before (suc place) = 44 ∷ []

-- what is left to write of these parts: this before the first of them, and a comma before each other
abbrev pub parts_left : List ℕ → List (List ℕ) → List ℕ
parts_left before [] = []
parts_left before (part ∷ parts) = before ++ join_with_byte 44 (part ∷ parts)

-- RUNNING

-- the script of this tree alone has no early error, and this is its program
pub record IsChecked (tree : Plant) (program : Code) : Type 0 where
  pub clean : AreClean (tree ∷ [])
  pub made : program ≡ program_of (tree ∷ [])

-- how a run began: it stands at its beginning, or a limit stopped it. Of want of memory nothing is said
abbrev pub BeginsRun : RunLimits → Code → Result (Unit {0}) Refused → World → Standing → Type 0
BeginsRun limits code (Ok done) w m = IsStarted limits code w m
BeginsRun limits code (Err (At limit)) w m = IsEvaluated limits code (stopped limit w)
BeginsRun limits code (Err NoRoom) w m = Unit {0}

-- the run is at its end
abbrev pub IsOver : Turned → Type 0
IsOver More = ⊥
IsOver (turned.Done outcome) = Unit {0}
