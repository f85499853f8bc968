-- The flow of an event as a plan (DOM Level 2 Events 1.2): along the stations that are fixed when it begins, at each the
-- listeners that were registered when it was reached, each if it stands at its turn. A run is one listener, with the
-- current node as `this` and the event as its argument; however it ends, the flow goes on, unless it was stopped.
use Rattle.std.specs.Prelude.{ℕ, zero, suc, ◌+◌, ◌-◌, ◌^◌, Bool, false, if◌then◌else◌, Option, None, Some, List, [], ◌∷◌, ◌++◌, length}
use Rattle.rip_base.specs.declared.value.Limit.TheVariants.{Cells}
use Rattle.rip_base.specs.declared.value.Span.{Span}
use Rattle.rip_base.specs.declared.value.Value.TheVariants.{Object}
use Rattle.rip_values.specs.Pool.{Texts}
use Rattle.rip_heap.specs.declared.class.Class.TheVariants.{Event as EventClass}
use Rattle.rip_heap.specs.Objects.{new_of}
use Rattle.rip_heap.specs.World.{World}
use Rattle.rip_events.specs.declared.station.Station.{Station}
use Rattle.rip_events.specs.declared.station.Place.{Place}
use Rattle.rip_events.specs.Flow.{Course, stations, wanted_at}
use Rattle.rip_events.specs.Listed.{Listed, fits, listener_at}
use Rattle.rip_eval_rows.specs.declared.close.Close.TheVariants.{Stopped}
use Rattle.rip_eval_rows.specs.declared.completion.Stop.TheVariants.{Limit as AtLimit}
use Rattle.rip_eval_rows.specs.Plan.{Plan, Over, Runs}
use Rattle.rip_eval_rows.specs.Started.{CallOf}
use Rattle.rip_nodes.specs.Answers.{node_value}
use Rattle.rip_host.specs.declared.browser.Browser.{Browser}
use Rattle.rip_host.specs.declared.events.Event.{Event}
use Rattle.rip_host.specs.EventMembers.{bubbles}
use Rattle.rip_host.specs.Events.{event_of, replaced}

-- THE EVENT

-- an event before its flow
abbrev pub new_event : ℕ → Span → ℕ → Event
new_event object kind target = record { object = object; kind = kind; target = target; at = None; stopped = false; prevented = false }

-- the browser with an event more
abbrev pub with_event : Browser → Event → Browser
with_event s e = record s { events = record s.events { events = s.events.events ++ e ∷ [] } }

abbrev pub opened_by : Browser → Span → ℕ → Option (ℕ × World) → Option (ℕ × World × Browser)
opened_by s kind target None = None
opened_by s kind target (Some made) = Some (made.0, made.1, with_event s (new_event made.0 kind target))

-- the object of a new event of this type, with the world and the browser after it; none where its cell would pass the limit
abbrev pub event_opened : World → Browser → Span → ℕ → Option (ℕ × World × Browser)
event_opened w s kind target = opened_by s kind target (new_of w EventClass)

abbrev pub moved_to : Option Station → Event → Event
moved_to at e = record e { at = at }

abbrev pub with_events : Browser → Option Event → Browser
with_events s None = s
with_events s (Some e) = record s { events = record s.events { events = replaced e s.events.events } }

abbrev pub changed_by : (Event → Event) → Browser → Option Event → Browser
changed_by f s None = s
changed_by f s (Some e) = with_events s (Some (f e))

-- the browser with this event changed; an object that is no event changes nothing
abbrev pub event_changed : (Event → Event) → ℕ → Browser → Browser
event_changed f object s = changed_by f s (event_of s.events.events object)

-- the flow of the event is at this station, or over
abbrev pub reached : ℕ → Option Station → Browser → Browser
reached object at s = event_changed (moved_to at) object s

abbrev pub is_stopped_event : Option Event → Bool
is_stopped_event None = false
is_stopped_event (Some e) = e.stopped

-- the flow of the event was stopped
abbrev pub is_stopped : Browser → ℕ → Bool
is_stopped s object = is_stopped_event (event_of s.events.events object)

abbrev pub is_prevented_event : Option Event → Bool
is_prevented_event None = false
is_prevented_event (Some e) = e.prevented

-- what the event would have done was prevented
abbrev pub is_prevented : Browser → ℕ → Bool
is_prevented s object = is_prevented_event (event_of s.events.events object)

-- THE PLAN

-- the function of the listener of this number, where it stands and is called at this station
abbrev pub standing : Texts → Span → Listed → Station → ℕ → Option ℕ
standing pool kind l at n = if fits pool (wanted_at kind at) l n then Some (listener_at l.registered n).function else None

-- the listener is called, and then the plan goes on; where there is none, it goes on at once
abbrev pub called : ℕ → ℕ → Station → Option ℕ → (World → Browser → Plan Browser) → World → Browser → Plan Browser
called item event at None go w s = go w s
called item event at (Some f) go w s =
    Runs item (CallOf f (node_value at.node) (Object event ∷ [])) w (reached event (Some at) s) go

-- at a station, so many listeners from this number on are called, each if it stands at its turn
abbrev pub calls_at : ℕ → ℕ → Span → Station → ℕ → ℕ → (World → Browser → Plan Browser) → World → Browser → Plan Browser
calls_at item event kind at zero n go w s = go w s
calls_at item event kind at (suc k) n go w s =
    called item event at (standing w.pool kind s.listeners at n) (calls_at item event kind at k (suc n) go) w s

-- a flow that is over: the event is nowhere, and what comes after the flow is done
abbrev pub over : ℕ → (World → Browser → Plan Browser) → World → Browser → Plan Browser
over event done w s = done w (reached event None s)

abbrev pub unless_stopped : {A : Type 0} → Bool → A → A → A
unless_stopped stopped ended further = if stopped then ended else further

-- along these stations, and then what comes after the flow; a flow that was stopped goes to no further station
abbrev pub along : ℕ → ℕ → Span → List Station → (World → Browser → Plan Browser) → World → Browser → Plan Browser
along item event kind [] done w s = over event done w s
along item event kind (at ∷ ahead) done w s =
    unless_stopped (is_stopped s event) (over event done w s)
    (calls_at item event kind at (length s.listeners.registered) 0 (along item event kind ahead done) w s)

abbrev pub flow_of : ℕ → Span → ℕ → (ℕ → World → Browser → Plan Browser) → World → Browser → Option (ℕ × World × Browser) → Plan Browser
flow_of item kind target done w s None = Over (Stopped item (AtLimit Cells)) w s
flow_of item kind target done w s (Some opened) =
    along item opened.0 kind (stations opened.2.dom target (bubbles opened.1.pool kind)) (done opened.0) opened.1 opened.2

-- the flow of an event of this type from its target on, and then what comes after it, of the event's object
abbrev pub flow : ℕ → Span → ℕ → (ℕ → World → Browser → Plan Browser) → World → Browser → Plan Browser
flow item kind target done w s = flow_of item kind target done w s (event_opened w s kind target)

-- A FLOW UNDER WAY

-- what is left at the station at hand
abbrev pub left_here : ℕ → ℕ → Span → ℕ → ℕ → Option Station → (World → Browser → Plan Browser) → World → Browser → Plan Browser
left_here item event kind next mark None go w s = go w s
left_here item event kind next mark (Some at) go w s = calls_at item event kind at (mark - next) next go w s

-- what is left of a flow: at the station at hand, and then along those ahead
abbrev pub flow_left : ℕ → ℕ → Course → (World → Browser → Plan Browser) → World → Browser → Plan Browser
flow_left item event c done w s =
    left_here item event c.kind c.next c.mark c.here (along item event c.kind c.ahead done) w s

-- what is left of a flow that calls this next: the call, and then what is left behind it; or what comes after the flow
abbrev pub flow_ahead : ℕ → ℕ → Course → Option Place → (World → Browser → Plan Browser) → World → Browser → Plan Browser
flow_ahead item event c None done w s = done w s
flow_ahead item event c (Some p) done w s =
    Runs item (CallOf p.function (node_value p.node) (Object event ∷ [])) w s (flow_left item event c done)

-- at each of these stations so many calls at most
abbrev pub room_of : ℕ → List Station → ℕ
room_of most [] = 0
room_of most (at ∷ ahead) = most + room_of most ahead

-- a bound of the calls that are left of a flow: each station ahead takes fewer listeners than 2^64
abbrev pub flow_steps : Course → ℕ
flow_steps c = room_of (2 ^ 64) c.ahead + (c.mark - c.next)
