-- A browser still fits when one of its events is changed, or is new.
use Rattle.std.proofs.Common.{◌≡◌, ℕ, zero, suc, ◌+◌, ◌<◌, inl, inr, Bool, true, false, Option, None, Some, List, [], ◌∷◌, length, get_or, refl, sym, ap, ◌∙◌, subst, arith, rules, ◌-◌}
use Rattle.std.specs.Prelude.{All, IfSome, ◌==◌, ◌&&◌}
use Rattle.std.proofs.lemmas.Bool.{cases_Bool, cases_lt, cond-true, cond-false, eqb-true}
use Rattle.std.proofs.lemmas.List.{get_or_past}
use Rattle.std.proofs.lemmas.Option.{none-some, same_Some}
use Rattle.rip_base.specs.declared.value.Span.{Span}
use Rattle.rip_values.specs.Pool.{Texts}
use Rattle.rip_heap.specs.World.{World, first_node, first_object}
use Rattle.rip_events.specs.declared.station.Station.{Station}
use Rattle.rip_events.specs.declared.station.Place.{Place}
use Rattle.rip_events.specs.declared.listener.Listener.{Listener}
use Rattle.rip_events.specs.Flow.{Arrival, Course, called_at, called_here, goes_on, here_or_ahead, here_or_behind, in_reach, next_arrival, next_call, wanted_at, with_station}
use Rattle.rip_events.specs.Listed.{Listed, first_number, fits, listener_at, no_listener}
use Rattle.rip_host.specs.declared.browser.Browser.{Browser}
use Rattle.rip_host.specs.declared.events.Event.{Event}
use Rattle.rip_host.specs.Events.{event_of, replaced}
use Rattle.rip_host.specs.Flow.{changed_by, moved_to, reached, with_events}
use Rattle.rip_host.specs.Visit.{AreNodes, Fits}

-- LISTS

all-at : (P : Event → Type 0) (x : Event) (xs : List Event) → P x → All P xs → (k : ℕ) (d : Event) → k < length (x ∷ xs) → P (get_or (x ∷ xs) k d)
all-at P x xs px a zero d h = px
all-at P x xs px a (suc k) d h = let l : suc k < suc (length xs) = h in a k d (omega (arith, l))

all-head : (P : Event → Type 0) (x : Event) (xs : List Event) → All P (x ∷ xs) → P x
all-head P x xs a = a 0 x (omega arith)

all-tail : (P : Event → Type 0) (x : Event) (xs : List Event) → All P (x ∷ xs) → All P xs
all-tail P x xs a = λ k d h. let l : suc k < suc (length xs) = omega (arith, h) in a (suc k) d l

all-replaced : (P : Event → Type 0) (x : Event) (events : List Event) → P x → All P events → All P (replaced x events)
all-replaced P x [] px a = a
all-replaced P x (e ∷ es) px a =
    elim (cases_Bool (e.object == x.object)) [
      | inl t ↦ subst (All P) (sym (cond-true (e.object == x.object) (x ∷ es) (e ∷ replaced x es) t)) (all-at P x es px (all-tail P e es a))
      | inr f ↦
          subst (All P) (sym (cond-false (e.object == x.object) (x ∷ es) (e ∷ replaced x es) f))
          (all-at P e (replaced x es) (all-head P e es a) (all-replaced P x es px (all-tail P e es a)))
    ]

found-in : (P : Event → Type 0) (events : List Event) (object : ℕ) (e : Event) → event_of events object ≡ Some e → All P events → P e
found-in P [] object e h a = absurd (none-some e h)
found-in P (x ∷ xs) object e h a =
    elim (cases_Bool (x.object == object)) [
      | inl t ↦ subst P (same_Some x e (sym (cond-true (x.object == object) (Some x) (event_of xs object) t) ∙ h)) (all-head P x xs a)
      | inr f ↦ found-in P xs object e (sym (cond-false (x.object == object) (Some x) (event_of xs object) f) ∙ h) (all-tail P x xs a)
    ]

length-replaced : (x : Event) (events : List Event) → length (replaced x events) ≡ length events
length-replaced x [] = refl
length-replaced x (e ∷ es) =
    elim (cases_Bool (e.object == x.object)) [
      | inl t ↦ ap length (cond-true (e.object == x.object) (x ∷ es) (e ∷ replaced x es) t)
      | inr f ↦ ap length (cond-false (e.object == x.object) (x ∷ es) (e ∷ replaced x es) f) ∙ ap suc (length-replaced x es)
    ]

-- CHANGED EVENTS

pub fits-event : (s : Browser) (w : World) (x : Event) → Fits s w → x.object < first_object + length w.objects → AreNodes x → Fits (with_events s (Some x)) w
fits-event s w x f made nodes = record {
  nodes = f.nodes;
  body = f.body;
  class = f.class;
  class_stands = f.class_stands;
  form_room = f.form_room;
  listener_room = f.listener_room;
  listener_nodes = f.listener_nodes;
  listeners_charged = f.listeners_charged;
  event_room = f.event_room;
  events_charged = let n = length-replaced x s.events.events in omega (arith, n, f.events_charged);
  events_made = all-replaced (λ e. e.object < first_object + length w.objects) x s.events.events made f.events_made;
  event_nodes = all-replaced AreNodes x s.events.events nodes f.event_nodes;
  listeners_on_nodes = f.listeners_on_nodes;
  callbacks = f.callbacks;
  reply_callbacks = f.reply_callbacks;
}

pub event-made : (s : Browser) (w : World) (object : ℕ) (e : Event) → Fits s w → event_of s.events.events object ≡ Some e → e.object < first_object + length w.objects
event-made s w object e f h = found-in (λ x. x.object < first_object + length w.objects) s.events.events object e h f.events_made

pub event-nodes : (s : Browser) (w : World) (object : ℕ) (e : Event) → Fits s w → event_of s.events.events object ≡ Some e → AreNodes e
event-nodes s w object e f h = found-in AreNodes s.events.events object e h f.event_nodes

fits-moved : (s : Browser) (w : World) (object : ℕ) (at : Option Station) (o : Option Event) → event_of s.events.events object ≡ o → Fits s w → IfSome at (λ x. x.node < first_node) → Fits (changed_by (moved_to at) s o) w
fits-moved s w object at None h f n = f
fits-moved s w object at (Some e) h f n = fits-event s w (moved_to at e) f (event-made s w object e f h) ((event-nodes s w object e f h).0, n)

pub fits-reached : (s r : Browser) (w : World) (object : ℕ) (at : Option Station) → r ≡ reached object at s → Fits s w → IfSome at (λ x. x.node < first_node) → Fits r w
fits-reached s r w object at e f n =
    let P : Browser → Type 0 = λ b. Fits b w in
    subst P (sym e) (fits-moved s w object at (event_of s.events.events object) refl f n)

-- THE NODE OF A CALL

first-passes : (k n m : ℕ) (test : ℕ → Bool) → first_number k n test ≡ Some m → test m ≡ true
first-passes zero n m test e = absurd (none-some m e)
first-passes (suc k) n m test e =
    elim (cases_Bool (test n)) [
      | inl t ↦ subst (λ j. test j ≡ true) (same_Some n m (sym (cond-true (test n) (Some n) (first_number k (suc n) test) t) ∙ e)) t
      | inr f ↦ first-passes k (suc n) m test (sym (cond-false (test n) (Some n) (first_number k (suc n) test) f) ∙ e)
    ]

true-not-false : true ≡ false → ⊥
true-not-false e = search rules

and-left : (a b : Bool) → (a && b) ≡ true → a ≡ true
and-left true b e = refl
and-left false b e = e

and-right : (a b : Bool) → (a && b) ≡ true → b ≡ true
and-right true b e = e
and-right false b e = absurd (true-not-false (sym e))

listener-node : (l : Listed) (n : ℕ) → All (λ x. x.node < first_node) l.registered → (listener_at l.registered n).node < first_node
listener-node l n a =
    elim (cases_lt n (length l.registered)) [
      | inl below ↦ a n no_listener below
      | inr past ↦ let e : (listener_at l.registered n).node ≡ 0 = ap (λ (x : Listener). x.node) (get_or_past l.registered n no_listener past) in omega (arith, e)
    ]

-- a station at which a listener is called is on a node
called-node : (pool : Texts) (kind : Span) (l : Listed) (from mark : ℕ) (at : Station) (m : ℕ) → All (λ x. x.node < first_node) l.registered → called_at pool kind l from mark at ≡ Some m → at.node < first_node
called-node pool kind l from mark at m a e =
    let passes = first-passes (mark - from) from m (fits pool (wanted_at kind at) l) e in
    let same : (listener_at l.registered m).node ≡ at.node = eqb-true (listener_at l.registered m).node at.node (and-left _ _ (and-right _ _ passes)) in
    let node = listener-node l m a in
    omega (arith, same, node)

-- a call that is next is on a node
abbrev pub IsBelow : Option Place → Type 0
IsBelow r = IfSome r (λ p. p.node < first_node)

at-below : (pool : Texts) (kind : Span) (l : Listed) (from mark : ℕ) (at : Station) (o : Option ℕ) → All (λ x. x.node < first_node) l.registered → called_at pool kind l from mark at ≡ o
    → IfSome (with_station at o) (λ f. f.0.node < first_node)
at-below pool kind l from mark at None a e = tt
at-below pool kind l from mark at (Some m) a e = called-node pool kind l from mark at m a e

here-below : (pool : Texts) (kind : Span) (l : Listed) (from mark : ℕ) (here : Option Station) → All (λ x. x.node < first_node) l.registered → IfSome (called_here pool kind l from mark here) (λ f. f.0.node < first_node)
here-below pool kind l from mark None a = tt
here-below pool kind l from mark (Some at) a = at-below pool kind l from mark at (called_at pool kind l from mark at) a refl

first-below : (pool : Texts) (kind : Span) (l : Listed) (at : Station) (ahead : List Station) (o : Option ℕ) (later : Option Arrival) → All (λ x. x.node < first_node) l.registered
    → called_at pool kind l 0 (length l.registered) at ≡ o → IfSome later (λ r. r.station.node < first_node) → IfSome (here_or_behind at ahead o later) (λ r. r.station.node < first_node)
first-below pool kind l at ahead None later a e h = h
first-below pool kind l at ahead (Some m) later a e h = called-node pool kind l 0 (length l.registered) at m a e

arrival-below : (pool : Texts) (kind : Span) (l : Listed) (ahead : List Station) → All (λ x. x.node < first_node) l.registered → IfSome (next_arrival pool kind l ahead) (λ r. r.station.node < first_node)
arrival-below pool kind l [] a = tt
arrival-below pool kind l (at ∷ ahead) a =
    first-below pool kind l at ahead (called_at pool kind l 0 (length l.registered) at) (next_arrival pool kind l ahead) a refl (arrival-below pool kind l ahead a)

goes-below : (l : Listed) (c : Course) (o : Option Arrival) → IfSome o (λ r. r.station.node < first_node) → IsBelow (goes_on l c o).0
goes-below l c None h = tt
goes-below l c (Some r) h = h

next-by : (pool : Texts) (l : Listed) (stopped : Bool) (c : Course) (o : Option (Station × ℕ)) → All (λ x. x.node < first_node) l.registered → IfSome o (λ f. f.0.node < first_node) → IsBelow (here_or_ahead pool l stopped c o).0
next-by pool l stopped c None a h = goes-below l c (next_arrival pool c.kind l (in_reach stopped c.ahead)) (arrival-below pool c.kind l (in_reach stopped c.ahead) a)
next-by pool l stopped c (Some f) a h = h

next-below : (pool : Texts) (l : Listed) (stopped : Bool) (c : Course) → All (λ x. x.node < first_node) l.registered → IsBelow (next_call pool l stopped c).0
next-below pool l stopped c a = next-by pool l stopped c (called_here pool c.kind l c.next c.mark c.here) a (here-below pool c.kind l c.next c.mark c.here a)

pub place-below : (pool : Texts) (l : Listed) (stopped : Bool) (c d : Course) (p : Place) → All (λ x. x.node < first_node) l.registered → (Some p, d) ≡ next_call pool l stopped c → p.node < first_node
place-below pool l stopped c d p a e =
    let same : next_call pool l stopped c ≡ (Some p, d) = sym e in
    subst IsBelow (ap (λ r. r.0) same) (next-below pool l stopped c a)
