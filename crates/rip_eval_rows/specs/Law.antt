-- What is left of a run that stands, and what `resume` leaves of it.
use Rattle.std.specs.Prelude.{◌≡◌, ℕ, ◌+◌, ◌-◌, ◌*◌, ◌⊎◌, min, slice_get, Bool, true, false, List, [], ◌∷◌, length, Option, None, Some}
use Rattle.rip_base.specs.declared.value.Limit.TheVariants.{Fuel}
use Rattle.rip_base.specs.declared.value.Value.TheVariants.{Undefined}
use Rattle.rip_heap.specs.World.{World}
use Rattle.rip_eval_rows.specs.declared.completion.Completion.{Completion}
use Rattle.rip_eval_rows.specs.declared.completion.Completion.TheVariants.{Normal, Thrown as ThrownCompletion, Returned, Broken, Continued, Referred, Method}
use Rattle.rip_eval_rows.specs.declared.completion.Stop.{Stop}
use Rattle.rip_eval_rows.specs.declared.completion.Stop.TheVariants.{Fault as AtFault, Limit as AtLimit}
use Rattle.rip_eval_rows.specs.declared.next.Control.{Control}
use Rattle.rip_eval_rows.specs.declared.next.Control.TheVariants.{Enter, Give, Halted}
use Rattle.rip_eval_rows.specs.declared.next.Next.{Next}
use Rattle.rip_eval_rows.specs.Cut.{rest_of}
use Rattle.rip_eval_rows.specs.declared.part.Part.{Part}
use Rattle.rip_eval_rows.specs.Rest.{as_row, control_of, frame_of, rest, room_in}
use Rattle.rip_eval_rows.specs.Room.{most_values}
use Rattle.rip_eval_rows.specs.Row.{Row, Table}
use Rattle.rip_eval_rows.specs.Run.{Answer, Completes, Stops, Cuts, Calling}
use Rattle.rip_eval_rows.specs.Stack.{Open}
use Rattle.rip_eval_rows.specs.declared.outcome.Outcome.{Outcome}
use Rattle.rip_eval_rows.specs.declared.outcome.Outcome.TheVariants.{Value as Gives, Thrown, Fault, Limit, Memory}
use Rattle.rip_eval_rows.specs.declared.outcome.Turned.{Turned}
use Rattle.rip_eval_rows.specs.declared.outcome.Turned.TheVariants.{More, Done}

-- a run that stands: what it goes on with, the open frames, the fuel that is left, and the units that were entered; and the
-- greatest depth, and how many values beside the open frames have room
pub record Standing : Type 0 where
  pub control : Control
  pub frames : List Open
  pub fuel : ℕ
  pub spent : ℕ
  pub depth : ℕ
  pub value_room : ℕ

-- what is left of the run, with k units
abbrev pub left : {S : Type 0} → Calling S → Table → Standing → World → S → ℕ → Answer S
left h t m w s k = rest_of h t m.control m.frames w s m.fuel k

-- the run can't go on: no unit is left for a part, or there is no frame for a completion, or it has stopped
abbrev pub Stands : Control → List Open → ℕ → Type 0
Stands (Enter part) frames units = units ≡ 0
Stands (Give c) frames units = frames ≡ []
Stands (Halted stop room) frames units = Unit {0}

-- DEPTH

-- how many nodes are entered and not ended, and functions are running, where the depth is at most `depth`, and this is
-- the innermost frame: the part of that frame is open, for which its room was left
abbrev pub open_in : ℕ → Option Open → ℕ
open_in depth None = 0
open_in depth (Some o) = depth + 1 - o.frame.at.room

-- the same where the run goes on with this: a part that is not entered yet, a completion for the innermost frame, or
-- nothing, with what was open where the run stopped
abbrev pub open_at : ℕ → Control → List Open → ℕ
open_at depth (Enter part) frames = depth - part.room
open_at depth (Give c) frames = open_in depth (slice_get frames (length frames - 1))
open_at depth (Halted stop room) frames = depth - room

-- how many nodes are entered and not ended, and functions are running, where a machine stands
abbrev pub open_depth : Standing → ℕ
open_depth m = open_at m.depth m.control m.frames

-- the most values that are ever beside the open frames of a run
abbrev pub values_of : Standing → ℕ
values_of m = most_values m.control m.frames m.fuel

-- STEPS

-- with any units more, the rest of a run is what it was
abbrev pub SameRest : {S : Type 0} → Calling S → Table → Control → List Open → ℕ → World → S → Control → List Open → ℕ → World → S → Type 0
SameRest h t control os u w s control' os' u' w' s' = (k : ℕ) → rest h t control' os' (u' + k) w' s' ≡ rest h t control os (u + k) w s

-- a bound for the steps up to the next part that is entered
abbrev pub weight : Control → List Open → ℕ
weight (Enter part) frames = 2 * length frames
weight (Give c) frames = 2 * length frames + 1
weight (Halted stop room) frames = 2 * length frames

-- how a run ends; a completion other than a value that is thrown ends it with a value, and that of a script is undefined
abbrev pub outcome_of : Completion → Outcome
outcome_of (Normal v) = Gives v
outcome_of (ThrownCompletion v) = Thrown v
outcome_of (Returned v) = Gives v
outcome_of Broken = Gives Undefined
outcome_of Continued = Gives Undefined
outcome_of (Referred r) = Gives Undefined
outcome_of (Method f this) = Gives Undefined

-- how a run ends that stops: with the fault or the limit
abbrev pub stop_outcome : Stop → Outcome
stop_outcome (AtFault fault) = Fault fault
stop_outcome (AtLimit limit) = Limit limit

-- what `resume` answers where the run stands so, and whether its fuel reaches further
abbrev pub turned_of : Control → Bool → Turned
turned_of (Enter part) true = More
turned_of (Enter part) false = Done (Limit Fuel)
turned_of (Give c) more = Done (outcome_of c)
turned_of (Halted stop room) more = Done (stop_outcome stop)

-- the outcome of a run that is at its end, how many nodes and functions are open there, where the depth is at most
-- `depth`, the units left, and the world and the host then
abbrev pub end_of : {S : Type 0} → ℕ → Answer S → Option (Outcome × ℕ × ℕ × World × S)
end_of depth (Completes c u w s) = Some (outcome_of c, 0, u, w, s)
end_of depth (Stops stop room u w s) = Some (stop_outcome stop, depth - room, u, w, s)
end_of depth (Cuts room w s) = None

-- of k units more than n, how many the fuel reaches
abbrev pub further : ℕ → ℕ → ℕ → ℕ
further fuel n k = min (n + k) fuel - min n fuel

-- the run ends within n units with this outcome and with so much open as the machine says, and the units that it did not
-- need were not counted; with k units more it ends alike, and needs none of them
abbrev pub Ends : {S : Type 0} → Calling S → Table → Standing → World → S → ℕ → Standing → World → S → Outcome → Type 0
Ends h t m w s n m' w' s' outcome =
    (u : ℕ)
    × ((k : ℕ) → end_of m.depth (left h t m w s (n + k)) ≡ Some (outcome, open_depth m', u + further m.fuel n k, w', s'))
    × (m'.spent + u ≡ m.spent + min n m.fuel)

-- what a machine, a world and a host are after n units: after More they are those of the run cut after exactly these
-- units, with so much of the depth open, and what is left is what was left, later; after Done they are those of its end.
-- Of want of memory nothing is said
abbrev pub Resumes : {S : Type 0} → Calling S → Table → Standing → World → S → ℕ → Standing → World → S → Turned → Type 0
Resumes h t m w s n m' w' s' More =
    ((room : ℕ) × (left h t m w s n ≡ Cuts room w' s') × (open_depth m' ≡ m.depth - room)) × ((k : ℕ) → left h t m' w' s' k ≡ left h t m w s (n + k)) × (m'.spent ≡ m.spent + n)
Resumes h t m w s n m' w' s' (Done (Gives v)) = Ends h t m w s n m' w' s' (Gives v)
Resumes h t m w s n m' w' s' (Done (Thrown v)) = Ends h t m w s n m' w' s' (Thrown v)
Resumes h t m w s n m' w' s' (Done (Fault fault)) = Ends h t m w s n m' w' s' (Fault fault)
Resumes h t m w s n m' w' s' (Done (Limit limit)) = Ends h t m w s n m' w' s' (Limit limit)
Resumes h t m w s n m' w' s' (Done Memory) = Unit {0}

-- the run goes on with what an open part does next, for which this row stands, and inside which so much depth is left
abbrev pub GoesOn : Table → Row → ℕ → World → Control → List Open → Type 0
GoesOn t row room w control frames =
    (at : Part) × (next : Next) × (as_row t at next [] w ≡ row) × (room ≡ at.room - 1) × (control ≡ control_of at next) × (frames ≡ frame_of at next [])

-- the run gives a completion to its only frame, where so much depth is left, and this row is what remains there
abbrev pub GivesToFrame : Table → Row → ℕ → World → Control → List Open → Type 0
GivesToFrame t row room w control frames = (c : Completion) × (o : Open) × (t.rest o c w ≡ row) × (room_in o.frame ≡ room) × (control ≡ Give c) × (frames ≡ o ∷ [])

-- a run for which so much depth is left stands at the beginning of this row, in one of these two ways
abbrev pub StandsAt : Table → Row → ℕ → World → Control → List Open → Type 0
StandsAt t row room w control frames = GoesOn t row room w control frames ⊎ GivesToFrame t row room w control frames

-- the machine stands at the beginning of a run of this row with so much fuel, of which nothing is spent
abbrev pub Begins : Table → Row → ℕ → World → Standing → Type 0
Begins t row fuel w m = StandsAt t row m.depth w m.control m.frames × (m.fuel ≡ fuel) × (m.spent ≡ 0)
