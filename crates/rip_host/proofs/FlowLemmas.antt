-- What is left of a flow begins with the cursor's next call.
use Rattle.std.proofs.Common.{◌≡◌, ℕ, zero, suc, ◌+◌, ◌-◌, ◌<◌, ◌≤◌, inl, inr, Bool, true, false, Option, None, Some, Err, List, [], ◌∷◌, length, refl, sym, ap, ◌∙◌, subst, arith}
use Rattle.std.specs.Prelude.{IfSome}
use Rattle.std.proofs.lemmas.Bool.{cases_Bool, cond-true, cond-false}
use Rattle.std.proofs.lemmas.Option.{none-some, same_Some}
use Rattle.rip_base.specs.declared.value.Limit.TheVariants.{Cells}
use Rattle.rip_base.specs.declared.value.Refused.{Refused}
use Rattle.rip_base.specs.declared.value.Refused.TheVariants.{Limit as At, Memory}
use Rattle.rip_base.specs.declared.value.Span.{Span}
use Rattle.rip_base.specs.declared.value.Value.TheVariants.{Object}
use Rattle.rip_values.specs.Pool.{Texts}
use Rattle.rip_heap.specs.World.{World}
use Rattle.rip_events.specs.declared.station.Station.{Station}
use Rattle.rip_events.specs.declared.station.Place.{Place}
use Rattle.rip_events.specs.Flow.{Arrival, Course, begun, stations, called_at, called_here, goes_on, here_or_ahead, here_or_behind, in_reach, next_arrival, next_call, wanted_at, with_station}
use Rattle.rip_events.specs.Listed.{Listed, first_number, fits, listener_at}
use Rattle.rip_eval_rows.specs.declared.close.Close.TheVariants.{Stopped}
use Rattle.rip_eval_rows.specs.declared.completion.Stop.TheVariants.{Limit as AtLimit}
use Rattle.rip_eval_rows.specs.Plan.{Plan, Over, Runs}
use Rattle.rip_eval_rows.specs.Started.{CallOf}
use Rattle.rip_nodes.specs.Answers.{node_value}
use Rattle.rip_host.specs.declared.browser.Browser.{Browser}
use Rattle.rip_host.specs.EventMembers.{bubbles}
use Rattle.rip_host.specs.Opening.{IsLimit, Opens}
use Rattle.rip_host.specs.Flow.{along, called, calls_at, event_opened, flow, flow_of, flow_ahead, flow_left, is_stopped, left_here, over, reached, room_of, standing}

-- a plan in a world and a browser
abbrev pub Going : Type 0
Going = World → Browser → Plan Browser

-- the run of the listener of this number at a station, and what comes behind it
abbrev pub calling : ℕ → ℕ → Station → Listed → ℕ → Going → World → Browser → Plan Browser
calling item event at l n go w s =
    Runs item (CallOf (listener_at l.registered n).function (node_value at.node) (Object event ∷ [])) w (reached event (Some at) s) go

-- ONE STATION

called-some : (item event : ℕ) (kind : Span) (at : Station) (n : ℕ) (go : Going) (w : World) (s : Browser) → fits w.pool (wanted_at kind at) s.listeners n ≡ true
    → called item event at (standing w.pool kind s.listeners at n) go w s ≡ calling item event at s.listeners n go w s
called-some item event kind at n go w s e =
    ap (λ o. called item event at o go w s) (cond-true (fits w.pool (wanted_at kind at) s.listeners n) (Some (listener_at s.listeners.registered n).function) None e)

called-none : (item event : ℕ) (kind : Span) (at : Station) (n : ℕ) (go : Going) (w : World) (s : Browser) → fits w.pool (wanted_at kind at) s.listeners n ≡ false
    → called item event at (standing w.pool kind s.listeners at n) go w s ≡ go w s
called-none item event kind at n go w s e =
    ap (λ o. called item event at o go w s) (cond-false (fits w.pool (wanted_at kind at) s.listeners n) (Some (listener_at s.listeners.registered n).function) None e)

-- none of the k listeners from n on is called
calls-none : (item event : ℕ) (kind : Span) (at : Station) (k n : ℕ) (go : Going) (w : World) (s : Browser) → first_number k n (fits w.pool (wanted_at kind at) s.listeners) ≡ None
    → calls_at item event kind at k n go w s ≡ go w s
calls-none item event kind at zero n go w s e = refl
calls-none item event kind at (suc k) n go w s e =
    let test = fits w.pool (wanted_at kind at) s.listeners in
    elim (cases_Bool (test n)) [
      | inl t ↦ absurd (none-some n (sym e ∙ cond-true (test n) (Some n) (first_number k (suc n) test) t))
      | inr f ↦
          called-none item event kind at n (calls_at item event kind at k (suc n) go) w s f
          ∙ calls-none item event kind at k (suc n) go w s (sym (cond-false (test n) (Some n) (first_number k (suc n) test) f) ∙ e)
    ]

-- of the listeners from n up to the mark, this one is called first
calls-first : (item event : ℕ) (kind : Span) (at : Station) (k mark n m : ℕ) (go : Going) (w : World) (s : Browser) → k ≡ mark - n → first_number k n (fits w.pool (wanted_at kind at) s.listeners) ≡ Some m
    → calls_at item event kind at k n go w s ≡ calling item event at s.listeners m (calls_at item event kind at (mark - suc m) (suc m) go) w s
calls-first item event kind at zero mark n m go w s h e = absurd (none-some m e)
calls-first item event kind at (suc k) mark n m go w s h e =
    let test = fits w.pool (wanted_at kind at) s.listeners in
    let next : k ≡ mark - suc n = omega (arith, h) in
    elim (cases_Bool (test n)) [
      | inl t ↦
          let here : n ≡ m = same_Some n m (sym (cond-true (test n) (Some n) (first_number k (suc n) test) t) ∙ e) in
          called-some item event kind at n (calls_at item event kind at k (suc n) go) w s t
          ∙ ap (λ j. calling item event at s.listeners n (calls_at item event kind at j (suc n) go) w s) next
          ∙ ap (λ j. calling item event at s.listeners j (calls_at item event kind at (mark - suc j) (suc j) go) w s) here
      | inr f ↦
          called-none item event kind at n (calls_at item event kind at k (suc n) go) w s f
          ∙ calls-first item event kind at k mark (suc n) m go w s next (sym (cond-false (test n) (Some n) (first_number k (suc n) test) f) ∙ e)
    ]

-- THE STATIONS AHEAD

length-less-none : (n : ℕ) → n ≡ n - 0
length-less-none n = omega arith

-- what is done along the stations ahead, as the first at which a listener is called has it
abbrev pub arrived : ℕ → ℕ → Span → Going → World → Browser → Option Arrival → Plan Browser
arrived item event kind done w s None = over event done w s
arrived item event kind done w s (Some a) =
    calling item event a.station s.listeners a.listener
    (calls_at item event kind a.station (length s.listeners.registered - suc a.listener) (suc a.listener) (along item event kind a.behind done)) w s

along-by : (item event : ℕ) (kind : Span) (at : Station) (ahead : List Station) (done : Going) (w : World) (s : Browser) (o : Option ℕ)
    → called_at w.pool kind s.listeners 0 (length s.listeners.registered) at ≡ o
    → along item event kind ahead done w s ≡ arrived item event kind done w s (next_arrival w.pool kind s.listeners ahead)
    → calls_at item event kind at (length s.listeners.registered) 0 (along item event kind ahead done) w s
    ≡ arrived item event kind done w s (here_or_behind at ahead o (next_arrival w.pool kind s.listeners ahead))
along-by item event kind at ahead done w s None e rest =
    let test = fits w.pool (wanted_at kind at) s.listeners in
    calls-none item event kind at (length s.listeners.registered) 0 (along item event kind ahead done) w s
    (ap (λ k. first_number k 0 test) (length-less-none (length s.listeners.registered)) ∙ e) ∙ rest
along-by item event kind at ahead done w s (Some m) e rest =
    let test = fits w.pool (wanted_at kind at) s.listeners in
    calls-first item event kind at (length s.listeners.registered) (length s.listeners.registered) 0 m (along item event kind ahead done) w s
    (length-less-none (length s.listeners.registered)) (ap (λ k. first_number k 0 test) (length-less-none (length s.listeners.registered)) ∙ e)

-- a flow that was not stopped goes to the first station ahead at which a listener is called
along-arrives : (item event : ℕ) (kind : Span) (ahead : List Station) (done : Going) (w : World) (s : Browser) → is_stopped s event ≡ false
    → along item event kind ahead done w s ≡ arrived item event kind done w s (next_arrival w.pool kind s.listeners ahead)
along-arrives item event kind [] done w s f = refl
along-arrives item event kind (at ∷ ahead) done w s f =
    cond-false (is_stopped s event) (over event done w s) (calls_at item event kind at (length s.listeners.registered) 0 (along item event kind ahead done) w s) f
    ∙ along-by item event kind at ahead done w s (called_at w.pool kind s.listeners 0 (length s.listeners.registered) at) refl (along-arrives item event kind ahead done w s f)

-- a flow that was stopped goes to none
along-stopped : (item event : ℕ) (kind : Span) (ahead : List Station) (done : Going) (w : World) (s : Browser) → is_stopped s event ≡ true → along item event kind ahead done w s ≡ over event done w s
along-stopped item event kind [] done w s t = refl
along-stopped item event kind (at ∷ ahead) done w s t =
    cond-true (is_stopped s event) (over event done w s) (calls_at item event kind at (length s.listeners.registered) 0 (along item event kind ahead done) w s) t

-- THE NEXT CALL

-- the browser once the next call is known: the event is at its station, or nowhere
abbrev pub station_of : Option Place → Option Station
station_of None = None
station_of (Some p) = Some (record { node = p.node; phase = p.phase })

-- what is left, with the next call made
abbrev pub with_next : ℕ → ℕ → Going → World → Browser → Option Place × Course → Plan Browser
with_next item event done w s next = flow_ahead item event next.1 next.0 done w (reached event (station_of next.0) s)

ahead-goes : (item event : ℕ) (c : Course) (done : Going) (w : World) (s : Browser) (o : Option Arrival) → arrived item event c.kind done w s o ≡ with_next item event done w s (goes_on s.listeners c o)
ahead-goes item event c done w s None = refl
ahead-goes item event c done w s (Some a) = refl

along-goes : (item event : ℕ) (c : Course) (done : Going) (w : World) (s : Browser) (b : Bool) → is_stopped s event ≡ b
    → along item event c.kind c.ahead done w s ≡ with_next item event done w s (goes_on s.listeners c (next_arrival w.pool c.kind s.listeners (in_reach b c.ahead)))
along-goes item event c done w s true e = along-stopped item event c.kind c.ahead done w s e
along-goes item event c done w s false e =
    along-arrives item event c.kind c.ahead done w s e ∙ ahead-goes item event c done w s (next_arrival w.pool c.kind s.listeners c.ahead)

left-by : (item event : ℕ) (c : Course) (at : Station) (done : Going) (w : World) (s : Browser) (o : Option ℕ) → called_at w.pool c.kind s.listeners c.next c.mark at ≡ o
    → calls_at item event c.kind at (c.mark - c.next) c.next (along item event c.kind c.ahead done) w s
    ≡ with_next item event done w s (here_or_ahead w.pool s.listeners (is_stopped s event) (record c { here = Some at }) (with_station at o))
left-by item event c at done w s None e =
    calls-none item event c.kind at (c.mark - c.next) c.next (along item event c.kind c.ahead done) w s e
    ∙ along-goes item event (record c { here = Some at }) done w s (is_stopped s event) refl
left-by item event c at done w s (Some m) e =
    calls-first item event c.kind at (c.mark - c.next) c.mark c.next m (along item event c.kind c.ahead done) w s refl e

left-at : (item event : ℕ) (c : Course) (done : Going) (w : World) (s : Browser) (here : Option Station)
    → left_here item event c.kind c.next c.mark here (along item event c.kind c.ahead done) w s
    ≡ with_next item event done w s (here_or_ahead w.pool s.listeners (is_stopped s event) (record c { here = here }) (called_here w.pool c.kind s.listeners c.next c.mark here))
left-at item event c done w s None = along-goes item event (record c { here = None }) done w s (is_stopped s event) refl
left-at item event c done w s (Some at) = left-by item event c at done w s (called_at w.pool c.kind s.listeners c.next c.mark at) refl

-- what is left of a flow is its next call, and then what is left behind it
pub flow-next : (item event : ℕ) (c : Course) (done : Going) (w : World) (s : Browser)
    → flow_left item event c done w s ≡ with_next item event done w s (next_call w.pool s.listeners (is_stopped s event) c)
flow-next item event c done w s = left-at item event c done w s c.here

-- what is left of a flow is what its next call leaves, in the browser once that call is known
pub next-plan : (item event : ℕ) (c d : Course) (done : Going) (w : World) (s r : Browser) (next : Option Place) (stopped : Bool)
    → stopped ≡ is_stopped s event → (next, d) ≡ next_call w.pool s.listeners stopped c → r ≡ reached event (station_of next) s
    → flow_left item event c done w s ≡ flow_ahead item event d next done w r
next-plan item event c d done w s r next stopped b e f =
    flow-next item event c done w s
    ∙ ap (λ t. with_next item event done w s (next_call w.pool s.listeners t c)) (sym b)
    ∙ ap (with_next item event done w s) (sym e)
    ∙ ap (λ q. flow_ahead item event d next done w q) (sym f)

-- FEWER CALLS ARE LEFT

first-within : (k n m : ℕ) (test : ℕ → Bool) → first_number k n test ≡ Some m → (n ≤ m) × (m < n + k)
first-within zero n m test e = absurd (none-some m e)
first-within (suc k) n m test e =
    elim (cases_Bool (test n)) [
      | inl t ↦ let same : n ≡ m = same_Some n m (sym (cond-true (test n) (Some n) (first_number k (suc n) test) t) ∙ e) in (omega (arith, same), omega (arith, same))
      | inr f ↦ let h = first-within k (suc n) m test (sym (cond-false (test n) (Some n) (first_number k (suc n) test) f) ∙ e) in (omega (arith, h.0), omega (arith, h.1))
    ]

-- the stations behind the one at which a listener is called have room for fewer
first-shorter : (most : ℕ) (at : Station) (ahead : List Station) (o : Option ℕ) (later : Option Arrival) → IfSome later (λ a. room_of most a.behind + most ≤ room_of most ahead)
    → IfSome (here_or_behind at ahead o later) (λ a. room_of most a.behind + most ≤ most + room_of most ahead)
first-shorter most at ahead None None h = tt
first-shorter most at ahead None (Some a) h = let g : room_of most a.behind + most ≤ room_of most ahead = h in omega (arith, g)
first-shorter most at ahead (Some m) later h = omega arith

arrival-shorter : (most : ℕ) (pool : Texts) (kind : Span) (l : Listed) (ahead : List Station) → IfSome (next_arrival pool kind l ahead) (λ a. room_of most a.behind + most ≤ room_of most ahead)
arrival-shorter most pool kind l [] = tt
arrival-shorter most pool kind l (at ∷ ahead) =
    first-shorter most at ahead (called_at pool kind l 0 (length l.registered) at) (next_arrival pool kind l ahead) (arrival-shorter most pool kind l ahead)

-- how many calls are left at most, where each station has room for so many
abbrev pub steps_with : ℕ → Course → ℕ
steps_with most c = room_of most c.ahead + (c.mark - c.next)

room-in_reach : (most : ℕ) (stopped : Bool) (ahead : List Station) → room_of most (in_reach stopped ahead) ≤ room_of most ahead
room-in_reach most true ahead = omega arith
room-in_reach most false ahead = omega arith

goes-fewer : (most : ℕ) (l : Listed) (c : Course) (o : Option Arrival) → length l.registered < most → IfSome o (λ a. room_of most a.behind + most ≤ room_of most c.ahead)
    → IfSome (goes_on l c o).0 (λ _. steps_with most (goes_on l c o).1 < steps_with most c)
goes-fewer most l c None h k = tt
goes-fewer most l c (Some a) h k = let g : room_of most a.behind + most ≤ room_of most c.ahead = k in omega (arith, h, g)

reach-shorter : (most : ℕ) (stopped : Bool) (ahead : List Station) (o : Option Arrival) → IfSome o (λ a. room_of most a.behind + most ≤ room_of most (in_reach stopped ahead)) → IfSome o (λ a. room_of most a.behind + most ≤ room_of most ahead)
reach-shorter most stopped ahead None h = tt
reach-shorter most stopped ahead (Some a) h = let g : room_of most a.behind + most ≤ room_of most (in_reach stopped ahead) = h in let r = room-in_reach most stopped ahead in omega (arith, g, r)

at-fewer : (most : ℕ) (pool : Texts) (l : Listed) (stopped : Bool) (c : Course) (at : Station) (o : Option ℕ) → called_at pool c.kind l c.next c.mark at ≡ o → length l.registered < most
    → IfSome (here_or_ahead pool l stopped c (with_station at o)).0 (λ _. steps_with most (here_or_ahead pool l stopped c (with_station at o)).1 < steps_with most c)
at-fewer most pool l stopped c at None e h =
    goes-fewer most l c (next_arrival pool c.kind l (in_reach stopped c.ahead)) h
    (reach-shorter most stopped c.ahead (next_arrival pool c.kind l (in_reach stopped c.ahead)) (arrival-shorter most pool c.kind l (in_reach stopped c.ahead)))
at-fewer most pool l stopped c at (Some m) e h =
    let w = first-within (c.mark - c.next) c.next m (fits pool (wanted_at c.kind at) l) e in
    omega (arith, w.0, w.1)

next-fewer-at : (most : ℕ) (pool : Texts) (l : Listed) (stopped : Bool) (c : Course) (here : Option Station) → length l.registered < most
    → IfSome (here_or_ahead pool l stopped c (called_here pool c.kind l c.next c.mark here)).0 (λ _. steps_with most (here_or_ahead pool l stopped c (called_here pool c.kind l c.next c.mark here)).1 < steps_with most c)
next-fewer-at most pool l stopped c None h =
    goes-fewer most l c (next_arrival pool c.kind l (in_reach stopped c.ahead)) h
    (reach-shorter most stopped c.ahead (next_arrival pool c.kind l (in_reach stopped c.ahead)) (arrival-shorter most pool c.kind l (in_reach stopped c.ahead)))
next-fewer-at most pool l stopped c (Some at) h = at-fewer most pool l stopped c at (called_at pool c.kind l c.next c.mark at) refl h

pub next-fewer : (most : ℕ) (pool : Texts) (l : Listed) (stopped : Bool) (c d : Course) (p : Place) → length l.registered < most → (Some p, d) ≡ next_call pool l stopped c → steps_with most d < steps_with most c
next-fewer most pool l stopped c d p h e =
    let P : Option Place × Course → Type 0 = λ n. IfSome n.0 (λ _. steps_with most n.1 < steps_with most c) in
    let f : P (next_call pool l stopped c) = next-fewer-at most pool l stopped c c.here h in
    subst P (sym e) f

-- THE ROOM STAYS

goes-room : (l : Listed) (c : Course) (o : Option Arrival) → (goes_on l c o).1.nodes ≡ c.nodes
goes-room l c None = refl
goes-room l c (Some a) = refl

here-room : (pool : Texts) (l : Listed) (stopped : Bool) (c : Course) (found : Option (Station × ℕ)) → (here_or_ahead pool l stopped c found).1.nodes ≡ c.nodes
here-room pool l stopped c None = goes-room l c (next_arrival pool c.kind l (in_reach stopped c.ahead))
here-room pool l stopped c (Some found) = refl

pub next-room : (pool : Texts) (l : Listed) (stopped : Bool) (c d : Course) (next : Option Place) → (next, d) ≡ next_call pool l stopped c → d.nodes ≡ c.nodes
next-room pool l stopped c d next e =
    ap (λ (n : Option Place × Course). n.1.nodes) e ∙ here-room pool l stopped c (called_here pool c.kind l c.next c.mark c.here)
