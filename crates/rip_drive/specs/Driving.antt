-- Sessions that are driven by a file of gestures, and the traces that this makes.
use Rattle.std.specs.Prelude.{◌≡◌, ℕ, ◌+◌, List, [], ◌∷◌, ◌++◌, Option}
use Rattle.std.specs.List.{flat_map}
use Rattle.rip_heap.specs.World.{World}
use Rattle.rip_eval_rows.specs.declared.close.Close.TheVariants.{Fine, Refused, Stopped}
use Rattle.rip_eval_rows.specs.declared.completion.Stop.{Stop}
use Rattle.rip_eval_rows.specs.declared.completion.Stop.TheVariants as stop
use Rattle.rip_base.specs.declared.report.BadReport.{BadReport}
use Rattle.rip_app.specs.App.{Loaded}
use Rattle.rip_wire.specs.Batches.{Contents}
use Rattle.rip_wire.specs.Items.{Reported}
use Rattle.rip_wire.specs.Reasons.{fault_reason, limit_reason}
use Rattle.rip_wire.specs.declared.ending.Reason.{Reason}
use Rattle.rip_history.specs.Services.{Called, Service, service_of}
use Rattle.rip_replica.specs.Parts.{Doing, first_given}
use Rattle.rip_client.specs.Wholes.{IsWhole, calls_behind, given_for}
use Rattle.rip_client.specs.declared.whole.play.Over.{Over as Outcome}
use Rattle.rip_session.specs.Tasks.{reports}
use Rattle.rip_session.specs.Application.{doing_of}
use Rattle.rip_client.specs.Truth.{Playing, TellsGesture, Waiting}
use Rattle.rip_law_replica.specs.Truthful.{Giving, IsAny, Seat, playing_of}
use Rattle.rip_law_served.specs.Honest.{next_in}
use Rattle.rip_trace.specs.declared.gestures.LinedGesture.{LinedGesture}
use Rattle.rip_trace.specs.Said.{batch_line, ended_line, opening_lines}
use Rattle.rip_drive.specs.declared.driver.DriveRefusal.{DriveRefusal}
use Rattle.rip_drive.specs.declared.driver.DriveRefusal.TheVariants as refusal

-- ---- a session that is driven

-- a service gives replies at moment 0, where it was called for these before
abbrev pub replies_at_once : Service → Giving (List Called)
replies_at_once service = record {
  gives = λ fact calls. given_for service calls 0 fact;
  behind = calls_behind;
}

-- a session of a client that is given these replies; of its items nothing is asked, since driving says how it ends
abbrev pub driven : {A S : Type 0} → Doing A S → (Reported → A) → (S → Option Waiting) → Service → Playing (Seat S) (List Called)
driven d task next service = playing_of d task next (replies_at_once service) IsAny

-- ---- how driving ends

-- all gestures were told; a limit or a fault ended the session at the gesture of this line, or at 0, its opening; the gesture
-- of this line is not legal at its place
pub data End : Type 0 where
  whole : End
  stopped : Stop → ℕ → End
  refused : ℕ → End

-- gestures are driven, one after another, from a client on: its session, what gives replies, the number of the next batch, and
-- the calls whose replies wait. They make these batches, and it ends so
pub data Drives {A G : Type 0} (x : Playing A G) : List LinedGesture → A → G → ℕ → List ℕ → List Contents → End → Type 0 where
  none : (a : A) (g : G) (number : ℕ) (waiting : List ℕ) → Drives x [] a g number waiting [] whole
  told : (lined : LinedGesture) (others : List LinedGesture) (a b : A) (g h : G) (number next : ℕ) (waiting waits : List ℕ) (batches more : List Contents) (end : End)
      → TellsGesture x lined.gesture a g number waiting Fine batches b h next waits → Drives x others b h next waits more end
      → Drives x (lined ∷ others) a g number waiting (batches ++ more) end
  stops : (lined : LinedGesture) (others : List LinedGesture) (a b : A) (g h : G) (number next : ℕ) (waiting waits : List ℕ) (batches : List Contents) (item : ℕ) (stop : Stop)
      → TellsGesture x lined.gesture a g number waiting (Stopped item stop) batches b h next waits
      → Drives x (lined ∷ others) a g number waiting batches (stopped stop lined.line)
  refuses : (lined : LinedGesture) (others : List LinedGesture) (a b : A) (g h : G) (number next : ℕ) (waiting waits : List ℕ) (batches : List Contents) (item : ℕ) (kind : BadReport)
      → TellsGesture x lined.gesture a g number waiting (Refused item kind) batches b h next waits
      → Drives x (lined ∷ others) a g number waiting batches (refused lined.line)

-- ---- an application that is driven

-- the one item of the opening is played whole, closes so, and leaves this world and page
abbrev pub Opens : {A S : Type 0} → Doing A S → Outcome → World → S → Type 0
Opens d over world page = IsWhole d 0 d.opening 1 d.world d.page (first_given []) over world page

-- a session in which this is done is opened and driven: where a limit or a fault ends it in its opening, nothing is told
pub data DrivesSession {A S : Type 0} (d : Doing A S) (task : Reported → A) (next : S → Option Waiting) (service : Service) (gestures : List LinedGesture) : List Contents → End → Type 0 where
  goes_on : (fuel : ℕ) (world : World) (page : S) (batches : List Contents) (end : End) → Opens d (record { close = Fine; fuel = fuel }) world page
      → Drives (driven d task next service) gestures (record { world = world; page = page; batch = 0; count = 1 }) [] 1 [] batches end
      → DrivesSession d task next service gestures batches end
  stops : (fuel : ℕ) (world : World) (page : S) (item : ℕ) (stop : Stop) → Opens d (record { close = Stopped item stop; fuel = fuel }) world page
      → DrivesSession d task next service gestures [] (stopped stop 0)

-- the session of an application, from seed 3 and at moment 0, with the replies of its functions
unfoldable pub DrivesApp : Loaded → List LinedGesture → List Contents → End → Type 0
DrivesApp app gestures batches end = DrivesSession (doing_of app 3 0) reports next_in (service_of app.manifest.functions) gestures batches end

-- ---- what is answered

-- the reason of a limit or a fault
abbrev pub stop_reason : Stop → Reason
stop_reason (stop.Fault fault) = fault_reason fault
stop_reason (stop.Limit limit) = limit_reason limit

-- the lines of a trace behind its opening
abbrev pub batch_lines : List Contents → List ℕ
batch_lines batches = flat_map (batch_line 0 1) batches

abbrev pub end_lines : End → List ℕ
end_lines whole = []
end_lines (stopped stop line) = ended_line (stop_reason stop) line
end_lines (refused line) = []

-- the trace of these batches
abbrev pub trace_text : List Contents → End → List ℕ
trace_text batches end = opening_lines 0 ++ (batch_lines batches ++ end_lines end)

-- each gesture that was told is legal at its place
abbrev pub AreLegal : End → Type 0
AreLegal whole = Unit {0}
AreLegal (stopped stop line) = Unit {0}
AreLegal (refused line) = ⊥

-- the text is the trace of the gestures, of which none is illegal at its place
pub record IsTrace (app : Loaded) (gestures : List LinedGesture) (text : List ℕ) : Type 0 where
  pub batches : List Contents
  pub end : End
  pub drives : DrivesApp app gestures batches end
  pub legal : AreLegal end
  pub is : text ≡ trace_text batches end

-- why there is none: the gesture of a line is illegal at its place, or memory was wanting, which may be at any gestures
abbrev pub IsRefusal : Loaded → List LinedGesture → DriveRefusal → Type 0
IsRefusal app gestures (refusal.Line n) = (batches : List Contents) × DrivesApp app gestures batches (refused n)
IsRefusal app gestures refusal.Memory = Unit {0}
