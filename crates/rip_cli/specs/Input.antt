-- The input of a run: what the files that the words name hold, and what is wrong with it.
use Rattle.std.specs.Prelude.{◌≡◌, ◌≤◌, ◌∷◌, ◌⊎◌, ℕ, List, [], Option, Some, None, length, codes}
use Rattle.rip_outer.specs.Reading.{IsContents, IsTooLong, longest_file}
use Rattle.rip_outer.specs.declared.reading.NamedFile.{NamedFile}
use Rattle.rip_words.specs.Commands.{Task, checks, replays, serves, drives, generates}
use Rattle.rip_app.specs.App.{Loaded, AppOf, IsAppRefusal}
use Rattle.rip_app.specs.declared.refusal.AppRefusal.{AppRefusal}
use Rattle.rip_trace.specs.Gestures.{AreGestures, HasNoLineAt}
use Rattle.rip_trace.specs.Traces.{Given, IsTrace, IsRefusedAt}
use Rattle.rip_trace.specs.declared.gestures.LinedGesture.{LinedGesture}
use Rattle.rip_wire.specs.Batches.{Contents}
use Rattle.rip_drive.specs.Driving.{DrivesApp, refused}
use Rattle.rip_cli.specs.Lines.{count_line, too_long_line, app_line, trace_line, gestures_line}
use Rattle.rip_cli.specs.declared.input.Content.{Content}
use Rattle.rip_cli.specs.declared.input.Content.TheVariants.{Bytes, TooLong}
use Rattle.rip_cli.specs.declared.input.AppInput.{AppInput}
use Rattle.rip_cli.specs.declared.input.ThreeFiles.{ThreeFiles}
use Rattle.rip_cli.specs.declared.input.Input.{Input}
use Rattle.rip_cli.specs.declared.input.Input.TheVariants.{Check, Replay, Serve, Drive, Generate}

-- ---- files

-- the content of the file of that name, where it is told what the files hold
abbrev pub IsContentOf : Option (List NamedFile) → List ℕ → Content → Type 0
IsContentOf held name (Bytes content) = IsContents held name content × (length content ≤ longest_file)
IsContentOf held name TooLong = IsTooLong held name

-- the contents of a page and a manifest
abbrev pub IsAppOf : Option (List NamedFile) → List ℕ → List ℕ → AppInput → Type 0
IsAppOf held page manifest i = IsContentOf held page i.page × IsContentOf held manifest i.manifest

-- and of a third file
abbrev pub AreThreeOf : Option (List NamedFile) → List ℕ → List ℕ → List ℕ → ThreeFiles → Type 0
AreThreeOf held page manifest third i = IsAppOf held page manifest i.app × IsContentOf held third i.third

-- what the files that a task names hold, and the turns that it grants
abbrev pub IsInputOf : Option (List NamedFile) → Task → Input → Type 0
IsInputOf held (checks page app) (Check i) = IsAppOf held page app i
IsInputOf held (replays page app trace turns) (Replay i most) = AreThreeOf held page app trace i × (most ≡ turns)
IsInputOf held (serves page app address turns) (Serve i most) = IsAppOf held page app i × (most ≡ turns)
IsInputOf held (drives page app gestures) (Drive i) = AreThreeOf held page app gestures i
IsInputOf held (generates n) (Generate number) = number ≡ n
IsInputOf held task input = ⊥

-- ---- lengths

-- the files in the order of the words, each with the word by which a line names it
abbrev pub app_files : AppInput → List (List ℕ × Content)
app_files i = (codes "page", i.page) ∷ (codes "app", i.manifest) ∷ []

abbrev pub three_files : List ℕ → ThreeFiles → List (List ℕ × Content)
three_files third i = (codes "page", i.app.page) ∷ (codes "app", i.app.manifest) ∷ (third, i.third) ∷ []

abbrev pub files_of : Input → List (List ℕ × Content)
files_of (Check i) = app_files i
files_of (Replay i turns) = three_files (codes "trace") i
files_of (Serve i turns) = app_files i
files_of (Drive i) = three_files (codes "gestures") i
files_of (Generate n) = []

-- the word, where its file is too long, and else another
abbrev pub word_or : List ℕ → Content → Option (List ℕ) → Option (List ℕ)
word_or word (Bytes content) other = other
word_or word TooLong other = Some word

-- the word of the first of these files that is too long
abbrev pub first_too_long : List (List ℕ × Content) → Option (List ℕ)
first_too_long [] = None
first_too_long (file ∷ files) = word_or file.0 file.1 (first_too_long files)

-- no file is too long
abbrev pub FitsAll : Input → Type 0
FitsAll i = first_too_long (files_of i) ≡ None

-- ---- the application, and the trace or the gestures

-- the page and the manifest are this application
pub record IsApp (i : AppInput) (app : Loaded) : Type 0 where
  pub page : List ℕ
  pub manifest : List ℕ
  pub is_page : i.page ≡ Bytes page
  pub is_manifest : i.manifest ≡ Bytes manifest
  pub application : AppOf page manifest app

-- or none, for the cause that the line tells
pub record RefusesApp (i : AppInput) (line : List ℕ) : Type 0 where
  pub page : List ℕ
  pub manifest : List ℕ
  pub is_page : i.page ≡ Bytes page
  pub is_manifest : i.manifest ≡ Bytes manifest
  pub refusal : AppRefusal
  pub refused : IsAppRefusal page manifest refusal
  pub text : app_line refusal ≡ Some line

-- the trace gives these knocks, moments and words
pub record HasTrace (i : ThreeFiles) (given : Given) : Type 0 where
  pub trace : List ℕ
  pub is_trace : i.third ≡ Bytes trace
  pub gives : IsTrace trace given

-- or it is none, from the line on that is told, where there is an application
pub record RefusesTrace (i : ThreeFiles) (line : List ℕ) : Type 0 where
  pub app : Loaded
  pub is_app : IsApp i.app app
  pub trace : List ℕ
  pub is_trace : i.third ≡ Bytes trace
  pub number : ℕ
  pub refused : IsRefusedAt trace number
  pub text : line ≡ trace_line number

-- the file of gestures has these
pub record HasGestures (i : ThreeFiles) (gestures : List LinedGesture) : Type 0 where
  pub text : List ℕ
  pub is_text : i.third ≡ Bytes text
  pub are : AreGestures text gestures

-- its line of this number is the first that is none
pub record HasNoGestureAt (i : ThreeFiles) (number : ℕ) : Type 0 where
  pub text : List ℕ
  pub is_text : i.third ≡ Bytes text
  pub none : HasNoLineAt text number

-- the gesture of this line is the first that is not legal at its place, where the application is driven
pub record HasIllegalAt (app : Loaded) (i : ThreeFiles) (number : ℕ) : Type 0 where
  pub gestures : List LinedGesture
  pub has : HasGestures i gestures
  pub batches : List Contents
  pub drives : DrivesApp app gestures batches (refused number)

-- the gestures are refused at this line: all lines are judged before the first gesture
abbrev pub AreRefusedAt : Loaded → ThreeFiles → ℕ → Type 0
AreRefusedAt app i number = HasNoGestureAt i number ⊎ HasIllegalAt app i number

-- they are refused, at the line that is told, where there is an application
pub record RefusesGestures (i : ThreeFiles) (line : List ℕ) : Type 0 where
  pub app : Loaded
  pub is_app : IsApp i.app app
  pub number : ℕ
  pub refused_at : AreRefusedAt app i number
  pub text : line ≡ gestures_line number

-- ---- refusals

-- the line for input of which no file is too long, and which is refused: the first that applies
abbrev pub RefusesForm : Input → List ℕ → Type 0
RefusesForm (Check i) line = RefusesApp i line
RefusesForm (Replay i turns) line = RefusesApp i.app line ⊎ RefusesTrace i line
RefusesForm (Serve i turns) line = RefusesApp i line
RefusesForm (Drive i) line = RefusesApp i.app line ⊎ RefusesGestures i line
RefusesForm (Generate n) line = ⊥

-- the line for input of which a file is too long: it names the first one
abbrev pub RefusesLength : Input → List ℕ → Type 0
RefusesLength i line = (word : List ℕ) × (first_too_long (files_of i) ≡ Some word) × (line ≡ too_long_line word)

-- the line for input that is refused: the first that applies
abbrev pub Refuses : Input → List ℕ → Type 0
Refuses i line = RefusesLength i line ⊎ (FitsAll i × RefusesForm i line)

-- ---- check

-- the line for an application
pub record IsCount (i : AppInput) (line : List ℕ) : Type 0 where
  pub app : Loaded
  pub is_app : IsApp i app
  pub text : line ≡ count_line (length app.page.nodes) (length app.program.grove.roots)
