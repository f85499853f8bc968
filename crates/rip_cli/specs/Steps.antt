-- What the steps of a run do: reading the input, and putting a line.
use Rattle.std.specs.Prelude.{◌≡◌, ◌++◌, ℕ, List, Option, Some, None, Result, Ok, Err, codes}
use Rattle.rip_outer.specs.Outside.{Rose, Front, also}
use Rattle.rip_app.specs.App.{Loaded, IsAppRefusal}
use Rattle.rip_trace.specs.Gestures.{HasNoLineAt}
use Rattle.rip_trace.specs.Traces.{IsRefusedAt}
use Rattle.rip_cli.specs.Content.{content_bytes}
use Rattle.rip_cli.specs.Lines.{too_long_line, app_line, trace_line, gestures_line}
use Rattle.rip_cli.specs.Input.{IsApp, AreRefusedAt, FitsAll, files_of, first_too_long}
use Rattle.rip_cli.specs.declared.input.AppInput.{AppInput}
use Rattle.rip_cli.specs.declared.input.ThreeFiles.{ThreeFiles}
use Rattle.rip_cli.specs.declared.input.Input.{Input}
use Rattle.rip_cli.specs.declared.input.Input.TheVariants.{Check, Replay, Serve, Drive, Generate}
use Rattle.rip_cli.specs.declared.input.InputFile.{InputFile}
use Rattle.rip_cli.specs.declared.input.InputFile.TheVariants as part
use Rattle.rip_cli.specs.declared.input.ReadStop.{ReadStop}
use Rattle.rip_cli.specs.declared.input.ReadStop.TheVariants as stop
use Rattle.rip_cli.specs.declared.refusal.Refusal.{Refusal}
use Rattle.rip_cli.specs.declared.refusal.Refusal.TheVariants as refusal
use Rattle.rip_cli.specs.declared.status.Status.{Status}
use Rattle.rip_cli.specs.declared.status.Status.TheVariants.{Read, BadWords, BadInput, TurnsSpent, Outside, NoMemory}

-- ---- reading

-- a front of the names was asked for, in order
pub record AskedFront (names : List (List ℕ)) (old new : Option (List (List ℕ))) : Type 0 where
  pub first : List (List ℕ)
  pub others : List (List ℕ)
  pub in_order : names ≡ first ++ others
  pub asked : new ≡ also first old

-- the names that were asked for: all where reading went well
abbrev pub Asked : {A : Type 0} → Result A ReadStop → List (List ℕ) → Option (List (List ℕ)) → Option (List (List ℕ)) → Type 0
Asked (Ok x) names old new = new ≡ also names old
Asked (Err e) names old new = AskedFront names old new

-- the count rose where reading failed, and else is as it was
abbrev pub CountsReading : {A : Type 0} → Result A ReadStop → ℕ → ℕ → Type 0
CountsReading (Ok x) old new = new ≡ old
CountsReading (Err stop.Failed) old new = Rose old new
CountsReading (Err stop.Memory) old new = new ≡ old

-- ---- refusals

-- the word by which a line names a file
abbrev pub file_word : InputFile → List ℕ
file_word part.Page = codes "page"
file_word part.App = codes "app"
file_word part.Trace = codes "trace"
file_word part.Gestures = codes "gestures"

-- the word of a file, if there is one
abbrev pub word_of : Option InputFile → Option (List ℕ)
word_of None = None
word_of (Some file) = Some (file_word file)

-- the line for a refusal; none for want of memory
abbrev pub refusal_line : Refusal → Option (List ℕ)
refusal_line (refusal.TooLong file) = Some (too_long_line (file_word file))
refusal_line (refusal.Application cause) = app_line cause
refusal_line (refusal.Trace line) = Some (trace_line line)
refusal_line (refusal.Gestures line) = Some (gestures_line line)
refusal_line refusal.Memory = None

-- why a page and a manifest, neither of which is too long, are no application; want of memory has no cause
abbrev pub IsAppCause : AppInput → Refusal → Type 0
IsAppCause i (refusal.Application cause) = IsAppRefusal (content_bytes i.page) (content_bytes i.manifest) cause
IsAppCause i (refusal.TooLong file) = ⊥
IsAppCause i (refusal.Trace line) = ⊥
IsAppCause i (refusal.Gestures line) = ⊥
IsAppCause i refusal.Memory = Unit {0}

-- why a trace that is not too long is none
abbrev pub IsTraceCause : ThreeFiles → Refusal → Type 0
IsTraceCause i (refusal.Trace line) = IsRefusedAt (content_bytes i.third) line
IsTraceCause i (refusal.Gestures line) = ⊥
IsTraceCause i (refusal.Application cause) = ⊥
IsTraceCause i (refusal.TooLong file) = ⊥
IsTraceCause i refusal.Memory = Unit {0}

-- why gestures in a file that is not too long are none
abbrev pub IsGesturesCause : ThreeFiles → Refusal → Type 0
IsGesturesCause i (refusal.Gestures line) = HasNoLineAt (content_bytes i.third) line
IsGesturesCause i (refusal.Trace line) = ⊥
IsGesturesCause i (refusal.Application cause) = ⊥
IsGesturesCause i (refusal.TooLong file) = ⊥
IsGesturesCause i refusal.Memory = Unit {0}

-- the files of the application, if the input has one
abbrev pub app_input : Input → Option AppInput
app_input (Check i) = Some i
app_input (Replay i turns) = Some i.app
app_input (Serve i turns) = Some i
app_input (Drive i) = Some i.app
app_input (Generate n) = None

-- the input asks for service
abbrev pub IsServe : Input → Type 0
IsServe (Check i) = ⊥
IsServe (Replay i turns) = ⊥
IsServe (Serve i turns) = Unit {0}
IsServe (Drive i) = ⊥
IsServe (Generate n) = ⊥

-- why input is refused, the first cause that applies; want of memory has none
abbrev pub IsRefusedBy : Input → Refusal → Type 0
IsRefusedBy i (refusal.TooLong file) = first_too_long (files_of i) ≡ Some (file_word file)
IsRefusedBy i (refusal.Application cause) =
    FitsAll i × ((files : AppInput) × (app_input i ≡ Some files) × IsAppCause files (refusal.Application cause))
IsRefusedBy (Replay i turns) (refusal.Trace line) =
    FitsAll (Replay i turns) × ((app : Loaded) × IsApp i.app app) × IsTraceCause i (refusal.Trace line)
IsRefusedBy (Check i) (refusal.Trace line) = ⊥
IsRefusedBy (Serve i turns) (refusal.Trace line) = ⊥
IsRefusedBy (Drive i) (refusal.Trace line) = ⊥
IsRefusedBy (Generate n) (refusal.Trace line) = ⊥
IsRefusedBy (Drive i) (refusal.Gestures line) =
    FitsAll (Drive i) × ((app : Loaded) × IsApp i.app app × AreRefusedAt app i line)
IsRefusedBy (Check i) (refusal.Gestures line) = ⊥
IsRefusedBy (Replay i turns) (refusal.Gestures line) = ⊥
IsRefusedBy (Serve i turns) (refusal.Gestures line) = ⊥
IsRefusedBy (Generate n) (refusal.Gestures line) = ⊥
IsRefusedBy i refusal.Memory = Unit {0}

-- ---- putting a line

-- the statuses of a run that puts one line
abbrev pub IsLineStatus : Status → Type 0
IsLineStatus Read = Unit {0}
IsLineStatus BadWords = Unit {0}
IsLineStatus BadInput = Unit {0}
IsLineStatus TurnsSpent = ⊥
IsLineStatus Outside = ⊥
IsLineStatus NoMemory = ⊥

-- a line was put where the run ends with its status, and a front of it where it stopped before
abbrev pub PutsLine : Status → Status → List ℕ → Option (List ℕ) → Option (List ℕ) → Type 0
PutsLine due Read line old new = (due ≡ Read) × (new ≡ also line old)
PutsLine due BadWords line old new = (due ≡ BadWords) × (new ≡ also line old)
PutsLine due BadInput line old new = (due ≡ BadInput) × (new ≡ also line old)
PutsLine due TurnsSpent line old new = ⊥
PutsLine due Outside line old new = Front line old new
PutsLine due NoMemory line old new = new ≡ old

-- a line was put, if there is one; with none the run ends for want of memory
abbrev pub PutsLineOf : Status → Status → Option (List ℕ) → Option (List ℕ) → Option (List ℕ) → Type 0
PutsLineOf due status None old new = (status ≡ NoMemory) × (new ≡ old)
PutsLineOf due status (Some line) old new = PutsLine due status line old new

-- the sink's count rose where the outside stopped the run, and else is as it was
abbrev pub CountsStatus : Status → ℕ → ℕ → Type 0
CountsStatus Read old new = new ≡ old
CountsStatus BadWords old new = new ≡ old
CountsStatus BadInput old new = new ≡ old
CountsStatus TurnsSpent old new = new ≡ old
CountsStatus Outside old new = Rose old new
CountsStatus NoMemory old new = new ≡ old
