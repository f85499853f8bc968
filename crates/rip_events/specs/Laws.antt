-- Laws of flows, in words that no step uses: what the calls of a whole flow are, whatever is done to the document and to
-- the listeners between them.
use Rattle.std.specs.Prelude.{◌≡◌, ℕ, ◌<◌, ◌≤◌, ◌⊎◌, Bool, true, false, Option, None, Some, List, [], ◌∷◌, ◌++◌, length, All, AllPairs}
use Rattle.rip_base.specs.declared.value.Span.{Span}
use Rattle.rip_values.specs.Pool.{Texts}
use Rattle.rip_dom.specs.Tree.{Tree}
use Rattle.rip_events.specs.declared.station.Station.{Station}
use Rattle.rip_events.specs.declared.station.Place.{Place}
use Rattle.rip_events.specs.Listed.{Listed, listener_at, stands_at, is_wanted, fits}
use Rattle.rip_events.specs.Flow.{Course, begun, next_call, wanted_at, number_of}

-- what a flow finds where it goes on: the texts, the listeners, and whether it was stopped
pub record Moment : Type 0 where
  pub pool : Texts
  pub listeners : Listed
  pub stopped : Bool

-- a call that a flow made, where it went on at this moment; and how many stations were ahead of it then, which tells
-- the stations of a flow apart
pub record Called : Type 0 where
  pub at : Moment
  pub call : Place
  pub ahead : ℕ

-- a call that is made, if there is one, before the others
abbrev pub with_call : Moment → Option Place → Course → List Called → List Called
with_call m None c calls = calls
with_call m (Some p) c calls = record { at = m; call = p; ahead = length c.ahead } ∷ calls

-- the next call at a moment, and the flow behind it
abbrev pub go_on : Moment → Course → Option Place × Course
go_on m c = next_call m.pool m.listeners m.stopped c

-- the calls of a flow that goes on at each of these moments
abbrev pub calls_of : Course → List Moment → List Called
calls_of c [] = []
calls_of c (m ∷ ms) = with_call m (go_on m c).0 (go_on m c).1 (calls_of (go_on m c).1 ms)

-- the station of a call
abbrev pub station_of : Place → Station
station_of p = record { node = p.node; phase = p.phase }

-- the one call is of an earlier station than the other, or of an earlier listener at the same one
abbrev pub IsBefore : Called → Called → Type 0
IsBefore x y =
    (y.ahead < x.ahead)
    ⊎ ((y.ahead ≡ x.ahead) × (station_of x.call ≡ station_of y.call) × (x.call.listener < y.call.listener))

-- the stations come in their order, and at each its listeners in the order of registration: so each listener is called
-- at most once at a station
abbrev pub CallsAreInOrder : Type 0
CallsAreInOrder =
    (t : Tree) (kind : Span) (target : ℕ) (bubbles : Bool) (c : Course) (ms : List Moment)
    → AllPairs IsBefore (calls_of (begun t kind target bubbles c) ms)

-- the phases come in their order: 1, 2, 3
abbrev pub PhasesAreInOrder : Type 0
PhasesAreInOrder =
    (t : Tree) (kind : Span) (target : ℕ) (bubbles : Bool) (c : Course) (ms : List Moment)
    → AllPairs (λ (x y : Called). number_of x.call.phase ≤ number_of y.call.phase) (calls_of (begun t kind target bubbles c) ms)

-- the listener that is called stands when it is called, and it is one of the node, the phase and the type; its function
-- is the one that is called
pub record Stands (kind : Span) (x : Called) : Type 0 where
  pub stands : stands_at x.at.listeners.standing x.call.listener ≡ true
  pub wanted : is_wanted x.at.pool (wanted_at kind (station_of x.call)) (listener_at x.at.listeners.registered x.call.listener) ≡ true
  pub function : x.call.function ≡ (listener_at x.at.listeners.registered x.call.listener).function

-- a listener that was removed before its turn is not called
abbrev pub RemovedAreNotCalled : Type 0
RemovedAreNotCalled =
    (t : Tree) (kind : Span) (target : ℕ) (bubbles : Bool) (c : Course) (ms : List Moment)
    → All (Stands kind) (calls_of (begun t kind target bubbles c) ms)

-- how many listeners were registered up to a moment
abbrev pub registrations : Moment → ℕ
registrations m = length m.listeners.registered

-- of two calls at one station the later one is of a listener that was registered before the earlier one
abbrev pub IsOld : Called → Called → Type 0
IsOld x y = y.ahead ≡ x.ahead → y.call.listener < registrations x.at

-- a listener that is registered while a flow is at a station is not called at this visit of the station
abbrev pub AddedAreNotCalled : Type 0
AddedAreNotCalled =
    (t : Tree) (kind : Span) (target : ℕ) (bubbles : Bool) (c : Course) (ms : List Moment)
    → AllPairs (λ (m n : Moment). registrations m ≤ registrations n) ms
    → AllPairs IsOld (calls_of (begun t kind target bubbles c) ms)

-- a flow under way that was stopped goes on at the station at hand alone
abbrev pub StoppedGoNoFurther : Type 0
StoppedGoNoFurther =
    (c : Course) (ms : List Moment) → All (λ (m : Moment). m.stopped ≡ true) ms
    → All (λ (x : Called). Some (station_of x.call) ≡ c.here) (calls_of c ms)

-- the flow calls a listener next, of which and of the flow behind it this is so
abbrev pub CallsNext : Moment → Course → (Place → Course → Type 0) → Type 0
CallsNext m c P = (p : Place) × (((go_on m c).0 ≡ Some p) × P p (go_on m c).1)

-- the next call is not behind this listener at the station with these stations behind it: it is at an earlier station,
-- or at this one and of this listener or an earlier one
abbrev pub IsNotPast : List Station → ℕ → Place → Course → Type 0
IsNotPast behind n p d = (length behind < length d.ahead) ⊎ ((d.ahead ≡ behind) × (p.listener ≤ n))

-- no listener is left out: one that was there when the station at hand was reached, stands and has not had its turn, is
-- called next, or one before it is; and so is one that stands at a station ahead, unless the flow was stopped
abbrev pub NoneIsLeftOut : Type 0
NoneIsLeftOut =
    (m : Moment) (c : Course) (s : Station) (n : ℕ) → fits m.pool (wanted_at c.kind s) m.listeners n ≡ true
    → (c.here ≡ Some s → c.next ≤ n → n < c.mark → CallsNext m c (IsNotPast c.ahead n))
    × ((before behind : List Station) → c.ahead ≡ before ++ s ∷ behind → m.stopped ≡ false → n < registrations m
    → CallsNext m c (IsNotPast behind n))
