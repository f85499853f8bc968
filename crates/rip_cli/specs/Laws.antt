-- What a run comes to whose files are accepted.
use Rattle.std.specs.Prelude.{◌≡◌, ◌≢◌, ◌≤◌, ℕ, List, Some, length}
use Rattle.rip_outer.specs.Reading.{contents_of, longest_file}
use Rattle.rip_outer.specs.declared.reading.NamedFile.{NamedFile}
use Rattle.rip_words.specs.Commands.{Task, checks, replays, serves, drives, generates, IsTask}
use Rattle.rip_app.specs.App.{Loaded, AppOf}
use Rattle.rip_trace.specs.Gestures.{AreGestures}
use Rattle.rip_trace.specs.Traces.{Given, IsTrace}
use Rattle.rip_trace.specs.declared.gestures.LinedGesture.{LinedGesture}
use Rattle.rip_wire.specs.Batches.{Contents}
use Rattle.rip_drive.specs.Driving.{DrivesApp, refused}
use Rattle.rip_cli.specs.Run.{Told, Ran}
use Rattle.rip_cli.specs.declared.status.Status.{Status}
use Rattle.rip_cli.specs.declared.status.Status.TheVariants.{BadWords, BadInput}

-- the file of that name holds these bytes, and is no longer than a file may be
abbrev pub HasBytes : List NamedFile → List ℕ → List ℕ → Type 0
HasBytes files name bytes = (contents_of files name ≡ Some bytes) × (length bytes ≤ longest_file)

-- the files of these names are an application
pub record HoldApp (files : List NamedFile) (page manifest : List ℕ) : Type 0 where
  pub page_bytes : List ℕ
  pub manifest_bytes : List ℕ
  pub has_page : HasBytes files page page_bytes
  pub has_manifest : HasBytes files manifest manifest_bytes
  pub app : Loaded
  pub is : AppOf page_bytes manifest_bytes app

-- the file of this name is a trace
pub record HoldTrace (files : List NamedFile) (trace : List ℕ) : Type 0 where
  pub bytes : List ℕ
  pub has : HasBytes files trace bytes
  pub given : Given
  pub is : IsTrace bytes given

-- the file of this name has gestures, each of which is legal at its place where the application is driven
pub record HoldGestures (files : List NamedFile) (app : Loaded) (name : List ℕ) : Type 0 where
  pub bytes : List ℕ
  pub has : HasBytes files name bytes
  pub gestures : List LinedGesture
  pub are : AreGestures bytes gestures
  pub legal : (batches : List Contents) (line : ℕ) → ¬ DrivesApp app gestures batches (refused line)

-- the files that a task names are an application, and a trace or legal gestures where it names them
abbrev pub AreAccepted : List NamedFile → Task → Type 0
AreAccepted files (checks page app) = HoldApp files page app
AreAccepted files (replays page app trace turns) = HoldApp files page app × HoldTrace files trace
AreAccepted files (serves page app address turns) = HoldApp files page app
AreAccepted files (drives page app gestures) = (hold : HoldApp files page app) × HoldGestures files hold.app gestures
AreAccepted files (generates n) = Unit {0}

-- a run whose files are accepted does what the words ask for: it refuses neither them nor the files
abbrev pub AcceptedIsDone : Type 0
AcceptedIsDone =
    (status : Status) (words : List (List ℕ)) (task : Task) (old new : Told) (files : List NamedFile)
    → old.held ≡ Some files → IsTask words task → AreAccepted files task → Ran status words old new
    → (status ≢ BadWords) × (status ≢ BadInput)
