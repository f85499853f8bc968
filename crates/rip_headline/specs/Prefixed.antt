-- What a replay or a service puts is the text of a legal course, or a front of one.
use Rattle.std.specs.Prelude.{◌≡◌, ◌⊎◌, ℕ, List, Some}
use Rattle.rip_outer.specs.declared.reading.NamedFile.{NamedFile}
use Rattle.rip_words.specs.Commands.{IsTask, replays, serves}
use Rattle.rip_app.specs.App.{Loaded}
use Rattle.rip_trace.specs.Traces.{Given}
use Rattle.rip_server.specs.Turning.{Outer}
use Rattle.rip_serve.specs.declared.serving.Stop.TheVariants as stop
use Rattle.rip_law_server.specs.Begun.{BeginsLegal}
use Rattle.rip_law_server.specs.Rising.{PartsRise}
use Rattle.rip_session.specs.Application.{meaning_of_app}
use Rattle.rip_serve.specs.Sites.{site_of_app}
use Rattle.rip_cli.specs.Laws.{AreAccepted}
use Rattle.rip_cli.specs.Run.{Ran, Told}
use Rattle.rip_cli.specs.Service.{brought}
use Rattle.rip_cli.specs.declared.status.Status.{Status}
use Rattle.rip_cli.specs.declared.status.Status.TheVariants.{BadInput, BadWords, NoMemory, Outside, Read, TurnsSpent}

-- the parts of the sessions of each application rise
abbrev pub ApplicationsRise : Type 0
ApplicationsRise = (app : Loaded) → PartsRise (meaning_of_app app)

-- the application is served to a status: with 0 or 3 what is put is the text of a legal course and that status, and with 4 or 5 a
-- front of such a text
abbrev pub PutsLegal : Status → Loaded → ℕ → Outer → Outer → Type 0
PutsLegal Read app most old new = BeginsLegal (site_of_app app) most stop.Idle old new
PutsLegal BadWords app most old new = ⊥
PutsLegal BadInput app most old new = ⊥
PutsLegal TurnsSpent app most old new = BeginsLegal (site_of_app app) most stop.TurnsSpent old new
PutsLegal Outside app most old new = BeginsLegal (site_of_app app) most stop.Outside old new
PutsLegal NoMemory app most old new = BeginsLegal (site_of_app app) most stop.Memory old new

-- so it is where it is served to what a trace brings: of all that only the sink is seen
pub record ReplayPutsLegal (status : Status) (app : Loaded) (given : Given) (most : ℕ) (old new : Outer) : Type 0 where
  pub end : Outer
  pub legal : PutsLegal status app most (brought given old.seen.held old.sink_faults) end
  pub put : new.seen.held ≡ end.seen.held

-- a run stopped, with 4 or 5, before anything but its files was asked for
abbrev pub StopsFirst : Status → Outer → Outer → Type 0
StopsFirst status old new = ((status ≡ Outside) ⊎ (status ≡ NoMemory)) × (new ≡ old)

-- so it is of each replay whose files are accepted, unless it stopped before
abbrev pub ReplaysBeginLegal : Type 0
ReplaysBeginLegal =
    (status : Status) (words : List (List ℕ)) (page app trace : List ℕ) (turns : ℕ) (old new : Told) (files : List NamedFile)
    → old.held ≡ Some files → IsTask words (replays page app trace turns) → (hold : AreAccepted files (replays page app trace turns))
    → Ran status words old new
    → StopsFirst status old.outer new.outer ⊎ ReplayPutsLegal status hold.0.app hold.1.given turns old.outer new.outer

-- and of each service whose files are accepted
abbrev pub ServesBeginLegal : Type 0
ServesBeginLegal =
    (status : Status) (words : List (List ℕ)) (page app address : List ℕ) (turns : ℕ) (old new : Told) (files : List NamedFile)
    → old.held ≡ Some files → IsTask words (serves page app address turns) → (hold : AreAccepted files (serves page app address turns))
    → Ran status words old new
    → StopsFirst status old.outer new.outer ⊎ PutsLegal status hold.app turns old.outer new.outer
