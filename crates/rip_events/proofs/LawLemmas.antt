-- The laws of flows: what one step of a flow keeps, and by induction all of its calls.
use Rattle.std.proofs.Common.{◌≡◌, ℕ, zero, suc, ◌-◌, ◌<◌, ◌≤◌, ◌⊎◌, inl, inr, Bool, true, false, List, [], ◌∷◌, ◌++◌, length, reverse, Option, None, Some, refl, sym, ap, ◌∙◌, subst, arith}
use mathlib.Core.List.{reverse_aux}
use Rattle.std.specs.Prelude.{All, AllPairs}
use Rattle.std.specs.List.{AllByRecursion as Each}
use Rattle.std.proofs.lemmas.List.Elements.{All-from_recursion, All-head, All-tail}
use Rattle.std.proofs.lemmas.Option.{none-some, same_Some}
use Rattle.std.proofs.lemmas.Bool.{cases_Bool, and_parts, true≢false}
use Rattle.rip_base.specs.declared.value.Span.{Span}
use Rattle.rip_values.specs.Pool.{Texts}
use Rattle.rip_dom.specs.Tree.{Tree}
use Rattle.rip_events.specs.declared.station.Phase.{Phase}
use Rattle.rip_events.specs.declared.station.Phase.TheVariants.{Capturing, AtTarget, Bubbling}
use Rattle.rip_events.specs.declared.station.Station.{Station}
use Rattle.rip_events.specs.declared.station.Place.{Place}
use Rattle.rip_events.specs.Listed.{Listed, listener_at, stands_at, is_wanted, fits}
use Rattle.rip_events.specs.Flow.{Course, Arrival, begun, above, in_phase, bubbling, stations, wanted_at, number_of, called_at, called_here, with_station, here_or_behind, here_or_ahead, goes_on, in_reach, next_arrival}
use Rattle.rip_events.specs.Laws.{Moment, Called, with_call, go_on, calls_of, station_of, IsBefore, Stands, registrations, IsOld, CallsAreInOrder, PhasesAreInOrder, RemovedAreNotCalled, AddedAreNotCalled, StoppedGoNoFurther}
use Rattle.rip_events.proofs.Chains.{within}

-- LISTS

weaker : {X : Type 0} (P Q : X → Type 0) → ((x : X) → P x → Q x) → (xs : List X) → Each P xs → Each Q xs
weaker P Q f [] h = h
weaker P Q f (x ∷ xs) h = (f x h.0, weaker P Q f xs h.1)

both : {X : Type 0} (P : X → Type 0) (xs ys : List X) → Each P xs → Each P ys → Each P (xs ++ ys)
both P [] ys h g = g
both P (x ∷ xs) ys h g = (h.0, both P xs ys h.1 g)

each : {X : Type 0} (P : X → Type 0) (xs : List X) → All P xs → Each P xs
each P [] h = tt
each P (x ∷ xs) h = (All-head P x xs h, each P xs (All-tail P x xs h))

-- of each two items, the earlier one first
abbrev Pairs : {X : Type 0} → (X → X → Type 0) → List X → Type 0
Pairs R [] = Unit {0}
Pairs R (x ∷ xs) = Each (R x) xs × Pairs R xs

pairs : {X : Type 0} (R : X → X → Type 0) (xs : List X) → Pairs R xs → AllPairs R xs
pairs R [] p i j d h k = absurd (omega (arith, k))
pairs R (x ∷ xs) p i zero d h k = absurd (omega (arith, h))
pairs R (x ∷ xs) p zero (suc j) d h k = All-from_recursion (R x) xs p.0 j d (omega (arith, k))
pairs R (x ∷ xs) p (suc i) (suc j) d h k = pairs R xs p.1 i j d (omega (arith, h)) (omega (arith, k))

by-recursion : {X : Type 0} (R : X → X → Type 0) (xs : List X) → AllPairs R xs → Pairs R xs
by-recursion R [] p = tt
by-recursion R (x ∷ xs) p = (each (R x) xs (λ k d h. p 0 (suc k) d (omega arith) (omega (arith, h))), by-recursion R xs (λ i j d h k. p (suc i) (suc j) d (omega (arith, h)) (omega (arith, k))))

-- ONE STEP

-- this station and those behind it are among the stations
abbrev IsAmong : List Station → Station → List Station → Type 0
IsAmong [] s rest = ⊥
IsAmong (t ∷ ts) s rest = ((s ≡ t) × (rest ≡ ts)) ⊎ IsAmong ts s rest

among-fewer : (ts rest : List Station) (s : Station) → IsAmong ts s rest → length rest < length ts
among-fewer [] rest s h = absurd h
among-fewer (t ∷ ts) rest s (inl h) = let e : length rest ≡ length ts = ap length h.1 in omega (arith, e)
among-fewer (t ∷ ts) rest s (inr h) = let f = among-fewer ts rest s h in omega (arith, f)

among-each : (P : Station → Type 0) (ts rest : List Station) (s : Station) → IsAmong ts s rest → Each P ts → P s × Each P rest
among-each P [] rest s h e = absurd h
among-each P (t ∷ ts) rest s (inl h) e = (subst P (sym h.0) e.0, subst (Each P) (sym h.1) e.1)
among-each P (t ∷ ts) rest s (inr h) e = among-each P ts rest s h e.1

among-pairs : (R : Station → Station → Type 0) (ts rest : List Station) (s : Station) → IsAmong ts s rest → Pairs R ts → Pairs R (s ∷ rest)
among-pairs R [] rest s h p = absurd h
among-pairs R (t ∷ ts) rest s (inl h) p = subst (λ x. Pairs R (x ∷ rest)) (sym h.0) (subst (λ xs. Pairs R (t ∷ xs)) (sym h.1) p)
among-pairs R (t ∷ ts) rest s (inr h) p = among-pairs R ts rest s h p.1

-- an arrival is at a station that is among these, of a listener that is called there
record Arrives (pool : Texts) (kind : Span) (l : Listed) (ss : List Station) (a : Arrival) : Type 0 where
  among : IsAmong ss a.station a.behind
  fits-there : fits pool (wanted_at kind a.station) l a.listener ≡ true
  old : a.listener < length l.registered

abbrev ArrivesIf : Texts → Span → Listed → List Station → Option Arrival → Type 0
ArrivesIf pool kind l ss None = Unit {0}
ArrivesIf pool kind l ss (Some a) = Arrives pool kind l ss a

arrives : (pool : Texts) (kind : Span) (l : Listed) (ss : List Station) → ArrivesIf pool kind l ss (next_arrival pool kind l ss)
arrives pool kind l [] = tt
arrives pool kind l (s ∷ ss) = by (called_at pool kind l 0 (length l.registered) s) refl (next_arrival pool kind l ss) (arrives pool kind l ss)
  where
    by : (o : Option ℕ) → called_at pool kind l 0 (length l.registered) s ≡ o → (later : Option Arrival) → ArrivesIf pool kind l ss later → ArrivesIf pool kind l (s ∷ ss) (here_or_behind s ss o later)
    by None e None h = tt
    by None e (Some a) h = record { among = inr h.among; fits-there = h.fits-there; old = h.old }
    by (Some n) e later h =
        let w = within (length l.registered - 0) 0 n (fits pool (wanted_at kind s) l) e in
        record { among = inl (refl, refl); fits-there = w.2; old = omega (arith, w.1) }

-- what a step of a flow keeps: the flow stays at its station, or comes to one that was ahead
record Stays (c : Course) (d : Course) (n : ℕ) : Type 0 where
  ahead : d.ahead ≡ c.ahead
  here : d.here ≡ c.here
  mark : d.mark ≡ c.mark
  later : c.next ≤ n

record Comes (c : Course) (d : Course) (s : Station) (count : ℕ) : Type 0 where
  among : IsAmong c.ahead s d.ahead
  mark : d.mark ≡ count

record Steps (m : Moment) (c : Course) (p : Place) (d : Course) : Type 0 where
  on : Stays c d p.listener ⊎ (Comes c d (station_of p) (registrations m) × (m.stopped ≡ false))
  kind : d.kind ≡ c.kind
  here : d.here ≡ Some (station_of p)
  next : d.next ≡ suc p.listener
  old : p.listener < d.mark
  fits-there : fits m.pool (wanted_at c.kind (station_of p)) m.listeners p.listener ≡ true
  function : p.function ≡ (listener_at m.listeners.registered p.listener).function

abbrev StepsIf : Moment → Course → Option Place → Course → Type 0
StepsIf m c None d = (d.here ≡ None) × (d.ahead ≡ [])
StepsIf m c (Some p) d = Steps m c p d

steps : (m : Moment) (c : Course) → StepsIf m c (go_on m c).0 (go_on m c).1
steps m c = first c.here refl
  where
    ahead-by : (a : Option Arrival) → ArrivesIf m.pool c.kind m.listeners (in_reach m.stopped c.ahead) a → StepsIf m c (goes_on m.listeners c a).0 (goes_on m.listeners c a).1
    ahead-by None h = (refl, refl)
    ahead-by (Some a) h = record {
      on = reached (cases_Bool m.stopped);
      kind = refl;
      here = refl;
      next = refl;
      old = h.old;
      fits-there = h.fits-there;
      function = refl;
    }
      where
        reached : (m.stopped ≡ true) ⊎ (m.stopped ≡ false) → Stays c (goes_on m.listeners c (Some a)).1 a.listener ⊎ (Comes c (goes_on m.listeners c (Some a)).1 a.station (registrations m) × (m.stopped ≡ false))
        reached (inl t) = absurd (subst (λ b. IsAmong (in_reach b c.ahead) a.station a.behind) t h.among)
        reached (inr t) = inr (record { among = subst (λ b. IsAmong (in_reach b c.ahead) a.station a.behind) t h.among; mark = refl }, t)

    on-ahead : called_here m.pool c.kind m.listeners c.next c.mark c.here ≡ None → StepsIf m c (go_on m c).0 (go_on m c).1
    on-ahead e = subst (λ o. StepsIf m c (here_or_ahead m.pool m.listeners m.stopped c o).0 (here_or_ahead m.pool m.listeners m.stopped c o).1) (sym e)
        (ahead-by (next_arrival m.pool c.kind m.listeners (in_reach m.stopped c.ahead)) (arrives m.pool c.kind m.listeners (in_reach m.stopped c.ahead)))

    at-hand : (s : Station) → c.here ≡ Some s → (o : Option ℕ) → called_at m.pool c.kind m.listeners c.next c.mark s ≡ o → StepsIf m c (go_on m c).0 (go_on m c).1
    at-hand s h None e = on-ahead (ap (called_here m.pool c.kind m.listeners c.next c.mark) h ∙ ap (with_station s) e)
    at-hand s h (Some n) e =
        let is : called_here m.pool c.kind m.listeners c.next c.mark c.here ≡ Some (s, n) = ap (called_here m.pool c.kind m.listeners c.next c.mark) h ∙ ap (with_station s) e in
        let w = within (c.mark - c.next) c.next n (fits m.pool (wanted_at c.kind s) m.listeners) e in
        subst (λ o. StepsIf m c (here_or_ahead m.pool m.listeners m.stopped c o).0 (here_or_ahead m.pool m.listeners m.stopped c o).1) (sym is) (record {
          on = inl (record { ahead = refl; here = refl; mark = refl; later = w.0 });
          kind = refl;
          here = h;
          next = refl;
          old = omega (arith, w.0, w.1);
          fits-there = w.2;
          function = refl;
        })

    first : (here : Option Station) → c.here ≡ here → StepsIf m c (go_on m c).0 (go_on m c).1
    first None h = on-ahead (ap (called_here m.pool c.kind m.listeners c.next c.mark) h)
    first (Some s) h = at-hand s h (called_at m.pool c.kind m.listeners c.next c.mark s) refl

-- ALL CALLS

-- a call that comes behind what a flow has called so far
abbrev IsBehind : Course → Called → Type 0
IsBehind c y =
    (y.ahead < length c.ahead) ⊎ ((y.ahead ≡ length c.ahead) × (c.here ≡ Some (station_of y.call)) × (c.next ≤ y.call.listener) × (y.call.listener < c.mark))

-- nothing comes behind a flow that is over
over : (d : Course) (y : Called) → d.here ≡ None → d.ahead ≡ [] → IsBehind d y → ⊥
over d y h a (inl g) = let z : length d.ahead ≡ 0 = ap length a in omega (arith, g, z)
over d y h a (inr g) = none-some (station_of y.call) (sym h ∙ g.1)

behind-step : (m : Moment) (c d : Course) (p : Place) (y : Called) → Steps m c p d → IsBehind d y → IsBehind c y
behind-step m c d p y s = by s.on
  where
    by : Stays c d p.listener ⊎ (Comes c d (station_of p) (registrations m) × (m.stopped ≡ false)) → IsBehind d y → IsBehind c y
    by (inl t) (inl g) = let e : length d.ahead ≡ length c.ahead = ap length t.ahead in inl (omega (arith, g, e))
    by (inl t) (inr g) = let e : length d.ahead ≡ length c.ahead = ap length t.ahead in inr (g.0 ∙ e, sym t.here ∙ g.1, omega (arith, t.later, s.next, g.2), omega (arith, t.mark, g.3))
    by (inr t) (inl g) = let f = among-fewer c.ahead d.ahead (station_of p) t.0.among in inl (omega (arith, g, f))
    by (inr t) (inr g) = let f = among-fewer c.ahead d.ahead (station_of p) t.0.among in inl (omega (arith, g.0, f))

behind-this : (m : Moment) (c d : Course) (p : Place) → Steps m c p d → IsBehind c (record { at = m; call = p; ahead = length d.ahead })
behind-this m c d p s = by s.on
  where
    by : Stays c d p.listener ⊎ (Comes c d (station_of p) (registrations m) × (m.stopped ≡ false)) → IsBehind c (record { at = m; call = p; ahead = length d.ahead })
    by (inl t) = inr (ap length t.ahead, sym t.here ∙ s.here, t.later, omega (arith, t.mark, s.old))
    by (inr t) = inl (among-fewer c.ahead d.ahead (station_of p) t.0.among)

all-behind : (ms : List Moment) (c : Course) → Each (IsBehind c) (calls_of c ms)
all-behind [] c = tt
all-behind (m ∷ ms) c = by (go_on m c).0 (go_on m c).1 (steps m c) (all-behind ms (go_on m c).1)
  where
    by : (o : Option Place) (d : Course) → StepsIf m c o d → Each (IsBehind d) (calls_of d ms) → Each (IsBehind c) (with_call m o d (calls_of d ms))
    by None d s e = weaker (IsBehind d) (IsBehind c) (λ y g. absurd (over d y s.0 s.1 g)) (calls_of d ms) e
    by (Some p) d s e = (behind-this m c d p s, weaker (IsBehind d) (IsBehind c) (λ y g. behind-step m c d p y s g) (calls_of d ms) e)

before : (m : Moment) (c d : Course) (p : Place) (y : Called) → Steps m c p d → IsBehind d y → IsBefore (record { at = m; call = p; ahead = length d.ahead }) y
before m c d p y s (inl g) = inl g
before m c d p y s (inr g) = inr (g.0, same_Some (station_of p) (station_of y.call) (sym s.here ∙ g.1), omega (arith, s.next, g.2))

in-order : (ms : List Moment) (c : Course) → Pairs IsBefore (calls_of c ms)
in-order [] c = tt
in-order (m ∷ ms) c = by (go_on m c).0 (go_on m c).1 (steps m c) (all-behind ms (go_on m c).1) (in-order ms (go_on m c).1)
  where
    by : (o : Option Place) (d : Course) → StepsIf m c o d → Each (IsBehind d) (calls_of d ms) → Pairs IsBefore (calls_of d ms) → Pairs IsBefore (with_call m o d (calls_of d ms))
    by None d s e p = p
    by (Some q) d s e p = (weaker (IsBehind d) (IsBefore (record { at = m; call = q; ahead = length d.ahead })) (λ y g. before m c d q y s g) (calls_of d ms) e, p)

pub calls-in-order : CallsAreInOrder
calls-in-order t kind target bubbles c ms = pairs IsBefore (calls_of (begun t kind target bubbles c) ms) (in-order ms (begun t kind target bubbles c))

-- each call is of a listener that stands
stand : (ms : List Moment) (c : Course) (kind : Span) → c.kind ≡ kind → Each (Stands kind) (calls_of c ms)
stand [] c kind k = tt
stand (m ∷ ms) c kind k = by (λ d e. stand ms d kind (e ∙ k)) (go_on m c).0 (go_on m c).1 (steps m c)
  where
    none : (d : Course) → (d.here ≡ None) × (d.ahead ≡ []) → Each (Stands kind) (calls_of d ms)
    none d s = weaker (IsBehind d) (Stands kind) (λ y g. absurd (over d y s.0 s.1 g)) (calls_of d ms) (all-behind ms d)

    by : ((d : Course) → d.kind ≡ c.kind → Each (Stands kind) (calls_of d ms)) → (o : Option Place) (d : Course) → StepsIf m c o d → Each (Stands kind) (with_call m o d (calls_of d ms))
    by rest None d s = none d s
    by rest (Some p) d s =
        let f = and_parts (stands_at m.listeners.standing p.listener) (is_wanted m.pool (wanted_at c.kind (station_of p)) (listener_at m.listeners.registered p.listener)) s.fits-there in
        (record { stands = f.0; wanted = subst (λ k. is_wanted m.pool (wanted_at k (station_of p)) (listener_at m.listeners.registered p.listener) ≡ true) k f.1; function = s.function }, rest d s.kind)

pub removed-not-called : RemovedAreNotCalled
removed-not-called t kind target bubbles c ms = All-from_recursion (Stands kind) (calls_of (begun t kind target bubbles c) ms) (stand ms (begun t kind target bubbles c) kind refl)

-- each call at a station is of a listener that was there when the station was reached
abbrev IsFewer : Moment → Moment → Type 0
IsFewer m n = registrations m ≤ registrations n

olds : (ms : List Moment) (c : Course) → Each (λ (m : Moment). c.mark ≤ registrations m) ms → Pairs IsFewer ms → Pairs IsOld (calls_of c ms)
olds [] c h f = tt
olds (m ∷ ms) c h f = by (λ d k. olds ms d (weaker (IsFewer m) (λ (n : Moment). d.mark ≤ registrations n) (λ n g. omega (arith, g, k)) ms f.0) f.1) (go_on m c).0 (go_on m c).1 (steps m c) (all-behind ms (go_on m c).1)
  where
    mark-fits : (d : Course) (p : Place) → Steps m c p d → d.mark ≤ registrations m
    mark-fits d p s = on s.on
      where
        on : Stays c d p.listener ⊎ (Comes c d (station_of p) (registrations m) × (m.stopped ≡ false)) → d.mark ≤ registrations m
        on (inl t) = omega (arith, t.mark, h.0)
        on (inr t) = omega (arith, t.0.mark)

    old-there : (d : Course) (p : Place) (y : Called) → Steps m c p d → IsBehind d y → IsOld (record { at = m; call = p; ahead = length d.ahead }) y
    old-there d p y s (inl g) e = absurd (omega (arith, g, e))
    old-there d p y s (inr g) e = let k = mark-fits d p s in omega (arith, g.3, k)

    by : ((d : Course) → d.mark ≤ registrations m → Pairs IsOld (calls_of d ms)) → (o : Option Place) (d : Course) → StepsIf m c o d → Each (IsBehind d) (calls_of d ms) → Pairs IsOld (with_call m o d (calls_of d ms))
    by rest None d s e = nothing (calls_of d ms) (weaker (IsBehind d) (λ y. ⊥) (λ y g. over d y s.0 s.1 g) (calls_of d ms) e)
      where
        nothing : (ys : List Called) → Each (λ (y : Called). ⊥) ys → Pairs IsOld ys
        nothing [] e = tt
        nothing (y ∷ ys) e = absurd e.0
    by rest (Some p) d s e = (weaker (IsBehind d) (IsOld (record { at = m; call = p; ahead = length d.ahead })) (λ y g. old-there d p y s g) (calls_of d ms) e, rest d (mark-fits d p s))

pub added-not-called : AddedAreNotCalled
added-not-called t kind target bubbles c ms f =
    let b = begun t kind target bubbles c in
    let none : Each (λ (m : Moment). 0 ≤ registrations m) ms = each (λ (m : Moment). 0 ≤ registrations m) ms (λ k d h. omega arith) in
    pairs IsOld (calls_of b ms) (olds ms b none (by-recursion IsFewer ms f))

-- a stopped flow stays at its station
stay : (ms : List Moment) (c : Course) → Each (λ (m : Moment). m.stopped ≡ true) ms → Each (λ (x : Called). Some (station_of x.call) ≡ c.here) (calls_of c ms)
stay [] c h = tt
stay (m ∷ ms) c h = by (go_on m c).0 (go_on m c).1 (steps m c) (all-behind ms (go_on m c).1) (stay ms (go_on m c).1 h.1)
  where
    here-is : (d : Course) (p : Place) → Steps m c p d → d.here ≡ c.here
    here-is d p s = on s.on
      where
        on : Stays c d p.listener ⊎ (Comes c d (station_of p) (registrations m) × (m.stopped ≡ false)) → d.here ≡ c.here
        on (inl t) = t.here
        on (inr t) = absurd (true≢false (sym h.0 ∙ t.1))

    by : (o : Option Place) (d : Course) → StepsIf m c o d → Each (IsBehind d) (calls_of d ms) → Each (λ (x : Called). Some (station_of x.call) ≡ d.here) (calls_of d ms) → Each (λ (x : Called). Some (station_of x.call) ≡ c.here) (with_call m o d (calls_of d ms))
    by None d s e r = weaker (IsBehind d) (λ (x : Called). Some (station_of x.call) ≡ c.here) (λ y g. absurd (over d y s.0 s.1 g)) (calls_of d ms) e
    by (Some p) d s e r = (sym s.here ∙ here-is d p s, weaker (λ (x : Called). Some (station_of x.call) ≡ d.here) (λ (x : Called). Some (station_of x.call) ≡ c.here) (λ y g. g ∙ here-is d p s) (calls_of d ms) r)

pub stopped-stay : StoppedGoNoFurther
stopped-stay c ms h = All-from_recursion (λ (x : Called). Some (station_of x.call) ≡ c.here) (calls_of c ms) (stay ms c (each (λ (m : Moment). m.stopped ≡ true) ms h))

-- PHASES

abbrev IsNotLater : Station → Station → Type 0
IsNotLater s t = number_of s.phase ≤ number_of t.phase

abbrev IsInPhase : ℕ → Station → Type 0
IsInPhase k s = number_of s.phase ≡ k

all-in : (phase : Phase) (ns : List ℕ) → Each (IsInPhase (number_of phase)) (in_phase phase ns)
all-in phase [] = tt
all-in phase (n ∷ ns) = (refl, all-in phase ns)

turned : (P : Station → Type 0) (xs done : List Station) → Each P xs → Each P done → Each P (reverse_aux xs done)
turned P [] done h d = d
turned P (x ∷ xs) done h d = turned P xs (x ∷ done) h.1 (h.0, d)

reversed : (P : Station → Type 0) (xs : List Station) → Each P xs → Each P (reverse xs)
reversed P xs h = turned P xs [] h tt

one-phase : (k : ℕ) (xs : List Station) → Each (IsInPhase k) xs → Pairs IsNotLater xs
one-phase k [] h = tt
one-phase k (x ∷ xs) h = (weaker (IsInPhase k) (IsNotLater x) (λ y g. let a = h.0 in omega (arith, a, g)) xs h.1, one-phase k xs h.1)

-- all of the first are of a lower number, all of the second of a higher one
joined : (k : ℕ) (xs ys : List Station) → Each (λ (s : Station). number_of s.phase ≤ k) xs → Each (λ (s : Station). k ≤ number_of s.phase) ys → Pairs IsNotLater xs → Pairs IsNotLater ys → Pairs IsNotLater (xs ++ ys)
joined k [] ys a b p q = q
joined k (x ∷ xs) ys a b p q = (
  both (IsNotLater x) xs ys p.0 (weaker (λ (s : Station). k ≤ number_of s.phase) (IsNotLater x) (λ y g. let h = a.0 in omega (arith, h, g)) ys b),
  joined k xs ys a.1 b p.1 q,
)

stations-in-order : (t : Tree) (target : ℕ) (bubbles : Bool) → Pairs IsNotLater (stations t target bubbles)
stations-in-order t target bubbles = joined 2 (down ++ here) (bubbling bubbles t target) low (high bubbles) first (up bubbles)
  where
    down : List Station
    down = reverse (in_phase Capturing (above t target))

    here : List Station
    here = record { node = target; phase = AtTarget } ∷ []

    down-in : Each (IsInPhase 1) down
    down-in = reversed (IsInPhase 1) (in_phase Capturing (above t target)) (all-in Capturing (above t target))

    low : Each (λ (s : Station). number_of s.phase ≤ 2) (down ++ here)
    low = both (λ (s : Station). number_of s.phase ≤ 2) down here (weaker (IsInPhase 1) (λ (s : Station). number_of s.phase ≤ 2) (λ s g. omega (arith, g)) down down-in) (omega arith, tt)

    high : (b : Bool) → Each (λ (s : Station). 2 ≤ number_of s.phase) (bubbling b t target)
    high true = weaker (IsInPhase 3) (λ (s : Station). 2 ≤ number_of s.phase) (λ s g. omega (arith, g)) (in_phase Bubbling (above t target)) (all-in Bubbling (above t target))
    high false = tt

    first : Pairs IsNotLater (down ++ here)
    first = joined 1 down here (weaker (IsInPhase 1) (λ (s : Station). number_of s.phase ≤ 1) (λ s g. omega (arith, g)) down down-in) (omega arith, tt) (one-phase 1 down down-in) (tt, tt)

    up : (b : Bool) → Pairs IsNotLater (bubbling b t target)
    up true = one-phase 3 (in_phase Bubbling (above t target)) (all-in Bubbling (above t target))
    up false = tt

-- the station at hand, and those ahead
abbrev left_of : Option Station → List Station → List Station
left_of None ss = ss
left_of (Some s) ss = s ∷ ss

abbrev IsNotSooner : ℕ → Called → Type 0
IsNotSooner k y = k ≤ number_of y.call.phase

abbrev InPhases : Called → Called → Type 0
InPhases x y = number_of x.call.phase ≤ number_of y.call.phase

left-step : (P : Station → Type 0) (m : Moment) (c d : Course) (p : Place) → Steps m c p d → Each P (left_of c.here c.ahead) → Each P (left_of d.here d.ahead)
left-step P m c d p s h = by s.on
  where
    dropped : (o : Option Station) → Each P (left_of o c.ahead) → Each P c.ahead
    dropped None h = h
    dropped (Some s) h = h.1

    by : Stays c d p.listener ⊎ (Comes c d (station_of p) (registrations m) × (m.stopped ≡ false)) → Each P (left_of d.here d.ahead)
    by (inl t) = subst (λ o. Each P (left_of o d.ahead)) (sym t.here) (subst (λ xs. Each P (left_of c.here xs)) (sym t.ahead) h)
    by (inr t) = subst (λ o. Each P (left_of o d.ahead)) (sym s.here) (among-each P c.ahead d.ahead (station_of p) t.0.among (dropped c.here h))

order-step : (m : Moment) (c d : Course) (p : Place) → Steps m c p d → Pairs IsNotLater (left_of c.here c.ahead) → Pairs IsNotLater (left_of d.here d.ahead)
order-step m c d p s h = by s.on
  where
    dropped : (o : Option Station) → Pairs IsNotLater (left_of o c.ahead) → Pairs IsNotLater c.ahead
    dropped None h = h
    dropped (Some s) h = h.1

    by : Stays c d p.listener ⊎ (Comes c d (station_of p) (registrations m) × (m.stopped ≡ false)) → Pairs IsNotLater (left_of d.here d.ahead)
    by (inl t) = subst (λ o. Pairs IsNotLater (left_of o d.ahead)) (sym t.here) (subst (λ xs. Pairs IsNotLater (left_of c.here xs)) (sym t.ahead) h)
    by (inr t) = subst (λ o. Pairs IsNotLater (left_of o d.ahead)) (sym s.here) (among-pairs IsNotLater c.ahead d.ahead (station_of p) t.0.among (dropped c.here h))

-- each call is at one of the stations that are left
on-left : (P : Station → Type 0) (ms : List Moment) (c : Course) → Each P (left_of c.here c.ahead) → Each (λ (y : Called). P (station_of y.call)) (calls_of c ms)
on-left P [] c h = tt
on-left P (m ∷ ms) c h = by (λ d l. on-left P ms d l) (go_on m c).0 (go_on m c).1 (steps m c) (all-behind ms (go_on m c).1)
  where
    head-of : (o : Option Station) (xs : List Station) (s : Station) → o ≡ Some s → Each P (left_of o xs) → P s
    head-of None xs s e h = absurd (none-some s e)
    head-of (Some t) xs s e h = subst P (same_Some t s e) h.0

    by : ((d : Course) → Each P (left_of d.here d.ahead) → Each (λ (y : Called). P (station_of y.call)) (calls_of d ms)) → (o : Option Place) (d : Course) → StepsIf m c o d → Each (IsBehind d) (calls_of d ms)
        → Each (λ (y : Called). P (station_of y.call)) (with_call m o d (calls_of d ms))
    by rest None d s e = weaker (IsBehind d) (λ (y : Called). P (station_of y.call)) (λ y g. absurd (over d y s.0 s.1 g)) (calls_of d ms) e
    by rest (Some p) d s e = let l = left-step P m c d p s h in (head-of d.here d.ahead (station_of p) s.here l, rest d l)

phases : (ms : List Moment) (c : Course) → Pairs IsNotLater (left_of c.here c.ahead) → Pairs InPhases (calls_of c ms)
phases [] c h = tt
phases (m ∷ ms) c h = by (λ d o. phases ms d o) (go_on m c).0 (go_on m c).1 (steps m c) (all-behind ms (go_on m c).1)
  where
    bound : (o : Option Station) (xs : List Station) (s : Station) → o ≡ Some s → Pairs IsNotLater (left_of o xs) → Each (IsNotLater s) (left_of o xs)
    bound None xs s e h = absurd (none-some s e)
    bound (Some t) xs s e h = let k : number_of s.phase ≡ number_of t.phase = ap (λ (u : Station). number_of u.phase) (sym (same_Some t s e)) in
        (omega (arith, k), weaker (IsNotLater t) (IsNotLater s) (λ y g. omega (arith, k, g)) xs h.0)

    by : ((d : Course) → Pairs IsNotLater (left_of d.here d.ahead) → Pairs InPhases (calls_of d ms)) → (o : Option Place) (d : Course) → StepsIf m c o d → Each (IsBehind d) (calls_of d ms) → Pairs InPhases (with_call m o d (calls_of d ms))
    by rest None d s e = nothing (calls_of d ms) (weaker (IsBehind d) (λ y. ⊥) (λ y g. over d y s.0 s.1 g) (calls_of d ms) e)
      where
        nothing : (ys : List Called) → Each (λ (y : Called). ⊥) ys → Pairs InPhases ys
        nothing [] e = tt
        nothing (y ∷ ys) e = absurd e.0
    by rest (Some p) d s e = let o = order-step m c d p s h in (on-left (IsNotLater (station_of p)) ms d (bound d.here d.ahead (station_of p) s.here o), rest d o)

pub phases-in-order : PhasesAreInOrder
phases-in-order t kind target bubbles c ms = let b = begun t kind target bubbles c in pairs InPhases (calls_of b ms) (phases ms b (stations-in-order t target bubbles))
