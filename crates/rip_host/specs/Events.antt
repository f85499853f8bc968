-- The events of a session.
use Rattle.std.specs.Prelude.{ℕ, ◌<◌, ◌≤◌, ◌==◌, false, if◌then◌else◌, Option, None, List, [], ◌∷◌, find, length, slice_index_or}
use Rattle.rip_host.specs.declared.events.Event.{Event}

-- the events that were dispatched, in the order of their objects, and the most that there may be
pub record Occurred : Type 0 where
  pub limit : ℕ
  pub events : List Event

-- what is told of a place that is no event's
abbrev pub no_event : Event
no_event = record { object = 0; kind = record { start = 0; count = 0 }; target = 0; at = None; stopped = false; prevented = false }

abbrev pub event_at : List Event → ℕ → Event
event_at events i = slice_index_or events i no_event

-- the event that this object is
abbrev pub event_of : List Event → ℕ → Option Event
event_of events object = find (λ e. e.object == object) events

-- the events with this one in place of that of the same object
abbrev pub replaced : Event → List Event → List Event
replaced x [] = []
replaced x (e ∷ es) = if e.object == x.object then (x ∷ es) else (e ∷ replaced x es)

-- each event has a greater object than those before it
abbrev pub IsAscending : List Event → Type 0
IsAscending events = (i j : ℕ) → i < j → j < length events → (event_at events i).object < (event_at events j).object

-- the events before this place have lesser objects, those from there on have not
pub record IsSplitAt (events : List Event) (object place : ℕ) : Type 0 where
  pub before : (i : ℕ) → i < place → (event_at events i).object < object
  pub from : (i : ℕ) → place ≤ i → i < length events → object ≤ (event_at events i).object
