-- What is done for input that is accepted: an application is checked, or served, to a trace or at a door, or driven by gestures.
use Rattle.std.specs.Prelude.{◌≡◌, ℕ, List, [], map, Option, Some, None}
use Rattle.rip_outer.specs.Connections.{knocked}
use Rattle.rip_outer.specs.Moments.{new_clock, moment_at, new_words, word_at}
use Rattle.rip_outer.specs.Outside.{Front, also}
use Rattle.rip_outer.specs.declared.connections.TraceKnock.{TraceKnock}
use Rattle.rip_app.specs.App.{Loaded}
use Rattle.rip_trace.specs.Traces.{Given}
use Rattle.rip_trace.specs.declared.gestures.LinedGesture.{LinedGesture}
use Rattle.rip_drive.specs.Driving as driving
use Rattle.rip_gen.specs.Generated.{IsGenerated}
use Rattle.rip_server.specs.Acts.{seen}
use Rattle.rip_server.specs.Turning.{Outer, outer, source}
use Rattle.rip_serve.specs.declared.serving.Stop.{Stop}
use Rattle.rip_serve.specs.declared.serving.Stop.TheVariants as stop
use Rattle.rip_serve.specs.Sites.{ServesApp}
use Rattle.rip_cli.specs.Input.{IsApp, HasTrace, HasGestures, IsCount}
use Rattle.rip_cli.specs.declared.input.AppInput.{AppInput}
use Rattle.rip_cli.specs.declared.input.ThreeFiles.{ThreeFiles}
use Rattle.rip_cli.specs.declared.input.Input.{Input}
use Rattle.rip_cli.specs.declared.input.Input.TheVariants.{Check, Replay, Serve, Drive, Generate}
use Rattle.rip_cli.specs.declared.status.Status.{Status}
use Rattle.rip_cli.specs.declared.status.Status.TheVariants.{Read, BadWords, BadInput, TurnsSpent, Outside, NoMemory}

-- ---- serving

-- how serving stops with a status
abbrev pub IsStop : Status → Stop → Type 0
IsStop Read how = how ≡ stop.Idle
IsStop BadWords how = ⊥
IsStop BadInput how = ⊥
IsStop TurnsSpent how = how ≡ stop.TurnsSpent
IsStop Outside how = how ≡ stop.Outside
IsStop NoMemory how = how ≡ stop.Memory

-- ---- serve

-- the application of the files was served at the door that was handed in
pub record ServesDoor (i : AppInput) (most : ℕ) (status : Status) (old new : Outer) : Type 0 where
  pub app : Loaded
  pub is_app : IsApp i app
  pub how : Stop
  pub stops : IsStop status how
  pub served : ServesApp app most how old new

-- ---- replay

-- what a trace brings to a sink that holds this: its knocks come at a door that tells what came and what is left, and never
-- fails; its moments and words come in turn; the last moment stands, and behind the last word j comes j
abbrev pub brought : Given → Option (List ℕ) → ℕ → Outer
brought given held faults =
    outer (seen (λ c. None) (record { told = Some []; left = Some given.knocks }) None None held)
    (source None (λ j. Some (moment_at (new_clock given.moments) j)))
    (source None (λ j. Some (word_at (new_words given.words) j)))
    0 faults

-- the application was served to what the trace brings; of all that only the sink is seen, and how often it failed. All that the
-- door told are knocks: no send found its connection gone
pub record Replayed (app : Loaded) (given : Given) (most : ℕ) (how : Stop) (held held_new : Option (List ℕ)) (faults faults_new : ℕ) : Type 0 where
  pub end : Outer
  pub served : ServesApp app most how (brought given held faults) end
  pub put : held_new ≡ end.seen.held
  pub counted : faults_new ≡ end.sink_faults
  pub never_fails : end.door_faults ≡ 0
  pub came : List TraceKnock
  pub never_gone : end.seen.telling.told ≡ Some (map knocked came)

-- the application of the files was served to what their trace brings
pub record ServesTrace (i : ThreeFiles) (most : ℕ) (status : Status) (old new : Outer) : Type 0 where
  pub app : Loaded
  pub is_app : IsApp i.app app
  pub given : Given
  pub gives : HasTrace i given
  pub how : Stop
  pub stops : IsStop status how
  pub served : Replayed app given most how old.seen.held new.seen.held old.sink_faults new.sink_faults

-- ---- check

-- the line of `check` was put, or a front of it, or nothing
abbrev pub PutsCount : AppInput → Status → Option (List ℕ) → Option (List ℕ) → Type 0
PutsCount i Read old new = (line : List ℕ) × IsCount i line × (new ≡ also line old)
PutsCount i BadWords old new = ⊥
PutsCount i BadInput old new = ⊥
PutsCount i TurnsSpent old new = ⊥
PutsCount i Outside old new = (line : List ℕ) × IsCount i line × Front line old new
PutsCount i NoMemory old new = (line : List ℕ) × IsCount i line × Front line old new

-- ---- drive

-- the trace of a truthful client of the application of the files, whose user does what the file of gestures says
pub record IsTraceOf (i : ThreeFiles) (text : List ℕ) : Type 0 where
  pub app : Loaded
  pub is_app : IsApp i.app app
  pub gestures : List LinedGesture
  pub has : HasGestures i gestures
  pub driven : driving.IsTrace app gestures text

-- that trace was put, or a front of it, or nothing
abbrev pub PutsDriven : ThreeFiles → Status → Option (List ℕ) → Option (List ℕ) → Type 0
PutsDriven i Read old new = (text : List ℕ) × IsTraceOf i text × (new ≡ also text old)
PutsDriven i BadWords old new = ⊥
PutsDriven i BadInput old new = ⊥
PutsDriven i TurnsSpent old new = ⊥
PutsDriven i Outside old new = (text : List ℕ) × IsTraceOf i text × Front text old new
PutsDriven i NoMemory old new = (text : List ℕ) × IsTraceOf i text × Front text old new

-- ---- generate

-- the line of the generated work of a number was put, or a front of it, or nothing
abbrev pub PutsGenerated : ℕ → Status → Option (List ℕ) → Option (List ℕ) → Type 0
PutsGenerated n Read old new = (line : List ℕ) × IsGenerated n line × (new ≡ also line old)
PutsGenerated n BadWords old new = ⊥
PutsGenerated n BadInput old new = ⊥
PutsGenerated n TurnsSpent old new = ⊥
PutsGenerated n Outside old new = (line : List ℕ) × IsGenerated n line × Front line old new
PutsGenerated n NoMemory old new = (line : List ℕ) × IsGenerated n line × Front line old new

-- ---- any

-- what was done for input that is accepted, up to how the run ended
abbrev pub Does : Input → Status → Outer → Outer → Type 0
Does (Check i) status old new = PutsCount i status old.seen.held new.seen.held
Does (Replay i most) status old new = ServesTrace i most status old new
Does (Serve i most) status old new = ServesDoor i most status old new
Does (Drive i) status old new = PutsDriven i status old.seen.held new.seen.held
Does (Generate n) status old new = PutsGenerated n status old.seen.held new.seen.held
