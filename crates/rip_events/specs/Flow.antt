-- The flow of an event along the document (DOM Level 2 Events 1.2): the stations that it passes, fixed before it begins,
-- and at each the listeners that it calls.
use Rattle.std.specs.Prelude.{ℕ, suc, Bool, true, false, if◌then◌else◌, Option, None, Some, List, [], ◌∷◌, ◌++◌, length, map, reverse}
use Rattle.rip_base.specs.declared.value.Span.{Span}
use Rattle.rip_values.specs.Pool.{Texts}
use Rattle.rip_dom.specs.Tree.{Tree, parent_of, way_up}
use Rattle.rip_events.specs.declared.station.Phase.{Phase}
use Rattle.rip_events.specs.declared.station.Phase.TheVariants.{Capturing, AtTarget, Bubbling}
use Rattle.rip_events.specs.declared.station.Station.{Station}
use Rattle.rip_events.specs.declared.station.Place.{Place}
use Rattle.rip_events.specs.declared.listener.Wanted.{Wanted}
use Rattle.rip_events.specs.Listed.{Listed, listener_at, first_between}

-- the number of a phase: 1, 2 and 3 (DOM Level 2 Events 1.4)
abbrev pub number_of : Phase → ℕ
number_of Capturing = 1
number_of AtTarget = 2
number_of Bubbling = 3

-- the nodes above this one: its parent, and so on upwards
abbrev pub above : Tree → ℕ → List ℕ
above t n = way_up (length t.nodes) t (parent_of t n)

-- stations at these nodes, in this phase
abbrev pub in_phase : Phase → List ℕ → List Station
in_phase phase nodes = map (λ n. record { node = n; phase = phase }) nodes

-- up again, where the event bubbles
abbrev pub bubbling : Bool → Tree → ℕ → List Station
bubbling bubbles t target = if bubbles then in_phase Bubbling (above t target) else []

-- from the document down to the target's parent, the target, and up again
abbrev pub stations : Tree → ℕ → Bool → List Station
stations t target bubbles = (reverse (in_phase Capturing (above t target)) ++ record { node = target; phase = AtTarget } ∷ []) ++ bubbling bubbles t target

-- a flow under way: the most nodes of a document, and the text of the type; the station at hand, or none before the first;
-- the stations ahead; the number from which on listeners are still to be called at the one at hand, and the count of
-- listeners that there were when it was reached
pub record Course : Type 0 where
  pub nodes : ℕ
  pub kind : Span
  pub here : Option Station
  pub ahead : List Station
  pub next : ℕ
  pub mark : ℕ

-- the flow before its first station
abbrev pub begun : Tree → Span → ℕ → Bool → Course → Course
begun t kind target bubbles c = record c { kind = kind; here = None; ahead = stations t target bubbles; next = 0; mark = 0 }

-- in the capturing phase the listeners for it are called, at the target and above it in the last phase the others
abbrev pub is_capturing : Phase → Bool
is_capturing Capturing = true
is_capturing AtTarget = false
is_capturing Bubbling = false

-- what is sought among listeners at a station
abbrev pub wanted_at : Span → Station → Wanted
wanted_at kind s = record { node = s.node; kind = kind; function = None; capture = is_capturing s.phase }

-- at a station, the first listener that is to be called of those from the one number up to the other, without this one
abbrev pub called_at : Texts → Span → Listed → ℕ → ℕ → Station → Option ℕ
called_at pool kind l from mark s = first_between pool (wanted_at kind s) from mark l

-- a station with the listener that is called there
abbrev pub with_station : Station → Option ℕ → Option (Station × ℕ)
with_station s None = None
with_station s (Some n) = Some (s, n)

-- the same at the station at hand, if there is one
abbrev pub called_here : Texts → Span → Listed → ℕ → ℕ → Option Station → Option (Station × ℕ)
called_here pool kind l from mark None = None
called_here pool kind l from mark (Some s) = with_station s (called_at pool kind l from mark s)

-- a station at which a listener is called, that listener's number, and the stations behind it
pub record Arrival : Type 0 where
  pub station : Station
  pub listener : ℕ
  pub behind : List Station

-- at this station, where a listener is called there, and else at one behind it
abbrev pub here_or_behind : Station → List Station → Option ℕ → Option Arrival → Option Arrival
here_or_behind s ss None later = later
here_or_behind s ss (Some n) later = Some (record { station = s; listener = n; behind = ss })

-- the first of these stations at which a listener is called: each takes those that are registered now
abbrev pub next_arrival : Texts → Span → Listed → List Station → Option Arrival
next_arrival pool kind l [] = None
next_arrival pool kind l (s ∷ ss) = here_or_behind s ss (called_at pool kind l 0 (length l.registered) s) (next_arrival pool kind l ss)

-- the call of the listener of this number at this station
abbrev pub call_at : Listed → Station → ℕ → Place
call_at l s n = record { node = s.node; phase = s.phase; function = (listener_at l.registered n).function; listener = n }

-- no station is at hand or ahead
abbrev pub ended : Course → Course
ended c = record c { here = None; ahead = []; next = 0; mark = 0 }

-- the flow goes on at a station that was ahead, or is over
abbrev pub goes_on : Listed → Course → Option Arrival → Option Place × Course
goes_on l c None = (None, ended c)
goes_on l c (Some a) = (Some (call_at l a.station a.listener), record c { here = Some a.station; ahead = a.behind; next = suc a.listener; mark = length l.registered })

-- the stations that a flow may still reach: a stopped one reaches none
abbrev pub in_reach : Bool → List Station → List Station
in_reach stopped ahead = if stopped then [] else ahead

-- a listener is called at the station at hand, or the flow goes on
abbrev pub here_or_ahead : Texts → Listed → Bool → Course → Option (Station × ℕ) → Option Place × Course
here_or_ahead pool l stopped c (Some found) = (Some (call_at l found.0 found.1), record c { next = suc found.1 })
here_or_ahead pool l stopped c None = goes_on l c (next_arrival pool c.kind l (in_reach stopped c.ahead))

-- the next call of the flow, and the flow behind it: at the station at hand, or, where it was not stopped, at the first
-- one ahead at which a listener is called
abbrev pub next_call : Texts → Listed → Bool → Course → Option Place × Course
next_call pool l stopped c = here_or_ahead pool l stopped c (called_here pool c.kind l c.next c.mark c.here)
