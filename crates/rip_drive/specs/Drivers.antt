-- A client that is driven, with the store that gives it replies and the trace so far.
use Rattle.std.specs.Prelude.{◌≡◌, ℕ, List, [], ◌∷◌, ◌++◌, Option, Some, None}
use Rattle.rip_eval_rows.specs.declared.close.Close.TheVariants.{Fine, Refused, Stopped}
use Rattle.rip_eval_rows.specs.declared.completion.Stop.{Stop}
use Rattle.rip_store.specs.declared.store.Store.{Store}
use Rattle.rip_base.specs.declared.report.BadReport.{BadReport}
use Rattle.rip_wire.specs.Batches.{Contents}
use Rattle.rip_client.specs.Sizes.{ToldSo}
use Rattle.rip_client.specs.Truth.{Playing}
use Rattle.rip_client.specs.declared.client.HowTold.{HowTold}
use Rattle.rip_trace.specs.declared.gestures.LinedGesture.{LinedGesture}
use Rattle.rip_trace.specs.Said.{opening_lines}
use Rattle.rip_client.specs.declared.whole.play.Over.{Over as Outcome}
use Rattle.rip_drive.specs.Driving.{AreLegal, Drives, End, batch_lines, end_lines, refused, stopped}
use Rattle.rip_drive.specs.declared.driver.DriveRefusal.{DriveRefusal}
use Rattle.rip_drive.specs.declared.driver.DriveRefusal.TheVariants as refusal
use Rattle.rip_drive.specs.declared.driver.Driver.{Driver}

-- these gestures, driven from there, make these batches, and it ends so
abbrev pub DrivesFrom : {A : Type 0} → Playing A Store → Driver A → List LinedGesture → List Contents → End → Type 0
DrivesFrom x o gestures batches end = Drives x gestures o.client.actor o.store o.client.list.number o.client.waiting.items batches end

-- the first of these gestures were told, up to the others: whatever those come to, all come to it behind these batches
pub record Leads {A : Type 0} (x : Playing A Store) (o : Driver A) (gestures : List LinedGesture) (n : Driver A) (others : List LinedGesture) : Type 0 where
  pub batches : List Contents
  pub text : n.text ≡ o.text ++ batch_lines batches
  pub leads : (more : List Contents) (end : End) → DrivesFrom x n others more end → DrivesFrom x o gestures (batches ++ more) end

-- the first of these gestures is the last that is told, for this limit or fault
pub record Stops {A : Type 0} (x : Playing A Store) (o : Driver A) (lined : LinedGesture) (others : List LinedGesture) (stop : Stop) (text : List ℕ) : Type 0 where
  pub batches : List Contents
  pub drives : DrivesFrom x o (lined ∷ others) batches (stopped stop lined.line)
  pub is : text ≡ o.text ++ batch_lines batches

-- a gesture was told, and what ended the session there, if anything did
abbrev pub TellsSo : {A : Type 0} → Playing A Store → LinedGesture → Driver A → Driver A → Option Stop → Type 0
TellsSo x lined o n None = (others : List LinedGesture) → Leads x o (lined ∷ others) n others
TellsSo x lined o n (Some stop) = (others : List LinedGesture) → Stops x o lined others stop n.text

-- a gesture that was told so is over and fine, or this limit or fault ended the session
abbrev pub EndsSo : HowTold → Option Stop → Type 0
EndsSo how None = ToldSo how Fine
EndsSo how (Some stop) = (item : ℕ) × ToldSo how (Stopped item stop)

-- the gesture of this line was told so and is not legal at its place; or memory was wanting
abbrev pub RefusesSo : HowTold → ℕ → DriveRefusal → Type 0
RefusesSo how line (refusal.Line n) = (n ≡ line) × (item : ℕ) × (kind : BadReport) × ToldSo how (Refused item kind)
RefusesSo how line refusal.Memory = Unit {0}

-- gestures were not told, since that of a line is illegal at its place; or for want of memory
abbrev pub RefusesFrom : {A : Type 0} → Playing A Store → Driver A → List LinedGesture → DriveRefusal → Type 0
RefusesFrom x o gestures (refusal.Line n) = (batches : List Contents) × DrivesFrom x o gestures batches (refused n)
RefusesFrom x o gestures refusal.Memory = Unit {0}

-- all of these gestures were told in a session that was opened, up to one at which it ended
pub record IsDriven {A : Type 0} (x : Playing A Store) (a : A) (g : Store) (gestures : List LinedGesture) (old text : List ℕ) : Type 0 where
  pub batches : List Contents
  pub end : End
  pub drives : Drives x gestures a g 1 [] batches end
  pub legal : AreLegal end
  pub is : text ≡ old ++ (batch_lines batches ++ end_lines end)

-- or they were not
abbrev pub IsRefused : {A : Type 0} → Playing A Store → A → Store → List LinedGesture → DriveRefusal → Type 0
IsRefused x a g gestures (refusal.Line n) = (batches : List Contents) × Drives x gestures a g 1 [] batches (refused n)
IsRefused x a g gestures refusal.Memory = Unit {0}

-- a session opens so: it, what gives replies, how its opening came out, and both then
abbrev pub Opening : Type 0 → Type 1
Opening A = A → Store → Outcome → A → Store → Type 0

-- a session was opened so and is fine, and these gestures were told in it, up to one at which it ended; or a limit or a fault
-- ended it in its opening
pub data IsOpenedAndDriven {A : Type 0} (x : Playing A Store) (opens : Opening A) (a : A) (g : Store) (gestures : List LinedGesture) (text : List ℕ) : Type 0 where
  goes_on : (over : Outcome) (b : A) (h : Store) → opens a g over b h → over.close ≡ Fine → IsDriven x b h gestures (opening_lines 0) text → IsOpenedAndDriven x opens a g gestures text
  stops : (over : Outcome) (b : A) (h : Store) (item : ℕ) (stop : Stop) → opens a g over b h → over.close ≡ Stopped item stop → text ≡ opening_lines 0 ++ end_lines (stopped stop 0)
      → IsOpenedAndDriven x opens a g gestures text

-- it was opened so and is fine, and a gesture was refused in it; or memory was wanting
abbrev pub IsOpenedAndRefused : {A : Type 0} → Playing A Store → Opening A → A → Store → List LinedGesture → DriveRefusal → Type 0
IsOpenedAndRefused {A} x opens a g gestures (refusal.Line n) =
    (over : Outcome) × (b : A) × (h : Store) × opens a g over b h × (over.close ≡ Fine) × IsRefused x b h gestures (refusal.Line n)
IsOpenedAndRefused x opens a g gestures refusal.Memory = Unit {0}
