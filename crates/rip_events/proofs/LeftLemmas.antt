-- No listener that stands is left out of a flow.
use Rattle.std.proofs.Common.{◌≡◌, ℕ, zero, suc, ◌+◌, ◌-◌, ◌<◌, ◌≤◌, ◌⊎◌, inl, inr, Bool, true, false, List, [], ◌∷◌, ◌++◌, length, Option, None, Some, refl, sym, ap, ◌∙◌, arith, length-append}
use Rattle.std.proofs.lemmas.Bool.{cases_Bool, cases_eq, cond-true, cond-false, true≢false}
use Rattle.rip_base.specs.declared.value.Span.{Span}
use Rattle.rip_values.specs.Pool.{Texts}
use Rattle.rip_events.specs.declared.station.Station.{Station}
use Rattle.rip_events.specs.Listed.{Listed, fits, first_number}
use Rattle.rip_events.specs.Flow.{Course, Arrival, wanted_at, called_at, called_here, with_station, here_or_behind, here_or_ahead, goes_on, in_reach, next_arrival, call_at}
use Rattle.rip_events.specs.Laws.{Moment, go_on, registrations, CallsNext, IsNotPast, NoneIsLeftOut}

-- the first that passes is not behind one that does
first-before : (k from n : ℕ) (Q : ℕ → Bool) → Q n ≡ true → from ≤ n → n < from + k → (m : ℕ) × ((first_number k from Q ≡ Some m) × (m ≤ n))
first-before zero from n Q q a b = absurd (omega (arith, a, b))
first-before (suc k) from n Q q a b = by (cases_Bool (Q from)) (cases_eq from n) (λ l. first-before k (suc from) n Q q l (omega (arith, b)))
  where
    by : (Q from ≡ true) ⊎ (Q from ≡ false) → (from ≡ n) ⊎ (from ≡ n → ⊥) → (suc from ≤ n → (m : ℕ) × ((first_number k (suc from) Q ≡ Some m) × (m ≤ n)))
        → (m : ℕ) × ((first_number (suc k) from Q ≡ Some m) × (m ≤ n))
    by (inl t) e later = (from, (cond-true (Q from) (Some from) (first_number k (suc from) Q) t, a))
    by (inr t) (inl e) later = absurd (true≢false (sym q ∙ ap Q (sym e) ∙ t))
    by (inr t) (inr e) later = let r = later (omega (arith, a, e)) in (r.0, (cond-false (Q from) (Some from) (first_number k (suc from) Q) t ∙ r.1.0, r.1.1))

-- what a flow does where a listener is called at the station at hand
at-hand : (m : Moment) (c : Course) (s : Station) (n : ℕ) → called_here m.pool c.kind m.listeners c.next c.mark c.here ≡ Some (s, n)
    → ((go_on m c).0 ≡ Some (call_at m.listeners s n)) × ((go_on m c).1 ≡ record c { next = suc n })
at-hand m c s n e = let r = ap (here_or_ahead m.pool m.listeners m.stopped c) e in (ap (λ x. x.0) r, ap (λ x. x.1) r)

ahead-of : (m : Moment) (c : Course) (a : Arrival) → called_here m.pool c.kind m.listeners c.next c.mark c.here ≡ None → next_arrival m.pool c.kind m.listeners (in_reach m.stopped c.ahead) ≡ Some a
    → ((go_on m c).0 ≡ Some (call_at m.listeners a.station a.listener)) × ((go_on m c).1.ahead ≡ a.behind)
ahead-of m c a e f = let r = ap (here_or_ahead m.pool m.listeners m.stopped c) e ∙ ap (goes_on m.listeners c) f in (ap (λ x. x.0) r, ap (λ x. x.1.ahead) r)

-- the first arrival is not behind a station at which a listener is called
arrival-before : (pool : Texts) (kind : Span) (l : Listed) (before behind : List Station) (s : Station) (n : ℕ) → fits pool (wanted_at kind s) l n ≡ true → n < length l.registered
    → (a : Arrival) × ((next_arrival pool kind l (before ++ s ∷ behind) ≡ Some a) × ((length behind < length a.behind) ⊎ ((a.behind ≡ behind) × (a.listener ≤ n))))
arrival-before pool kind l [] behind s n q h =
    let r = first-before (length l.registered - 0) 0 n (fits pool (wanted_at kind s) l) q (omega arith) (omega (arith, h)) in
    (record { station = s; listener = r.0; behind = behind }, (ap (λ o. here_or_behind s behind o (next_arrival pool kind l behind)) r.1.0, inr (refl, r.1.1)))
arrival-before pool kind l (t ∷ ts) behind s n q h = by (called_at pool kind l 0 (length l.registered) t) refl (arrival-before pool kind l ts behind s n q h)
  where
    rest : List Station
    rest = ts ++ s ∷ behind

    by : (o : Option ℕ) → called_at pool kind l 0 (length l.registered) t ≡ o → (a : Arrival) × ((next_arrival pool kind l rest ≡ Some a) × ((length behind < length a.behind) ⊎ ((a.behind ≡ behind) × (a.listener ≤ n))))
        → (a : Arrival) × ((here_or_behind t rest (called_at pool kind l 0 (length l.registered) t) (next_arrival pool kind l rest) ≡ Some a) × ((length behind < length a.behind) ⊎ ((a.behind ≡ behind) × (a.listener ≤ n))))
    by None e r = (r.0, (ap (λ o. here_or_behind t rest o (next_arrival pool kind l rest)) e ∙ r.1.0, r.1.1))
    by (Some k) e r = (record { station = t; listener = k; behind = rest }, (ap (λ o. here_or_behind t rest o (next_arrival pool kind l rest)) e, inl (let size = length-append ts (s ∷ behind) in omega (arith, size))))

left-here : (m : Moment) (c : Course) (s : Station) (n : ℕ) → fits m.pool (wanted_at c.kind s) m.listeners n ≡ true → c.here ≡ Some s → c.next ≤ n → n < c.mark → CallsNext m c (IsNotPast c.ahead n)
left-here m c s n q h a b =
    let r = first-before (c.mark - c.next) c.next n (fits m.pool (wanted_at c.kind s) m.listeners) q a (omega (arith, a, b)) in
    let g = at-hand m c s r.0 (ap (called_here m.pool c.kind m.listeners c.next c.mark) h ∙ ap (with_station s) r.1.0) in
    (call_at m.listeners s r.0, (g.0, inr (ap (λ (d : Course). d.ahead) g.1, r.1.1)))

left-ahead : (m : Moment) (c : Course) (s : Station) (n : ℕ) (before behind : List Station) → fits m.pool (wanted_at c.kind s) m.listeners n ≡ true → c.ahead ≡ before ++ s ∷ behind → m.stopped ≡ false → n < registrations m
    → CallsNext m c (IsNotPast behind n)
left-ahead m c s n before behind q e f h = by (called_here m.pool c.kind m.listeners c.next c.mark c.here) refl (arrival-before m.pool c.kind m.listeners before behind s n q h)
  where
    by : (o : Option (Station × ℕ)) → called_here m.pool c.kind m.listeners c.next c.mark c.here ≡ o
        → (a : Arrival) × ((next_arrival m.pool c.kind m.listeners (before ++ s ∷ behind) ≡ Some a) × ((length behind < length a.behind) ⊎ ((a.behind ≡ behind) × (a.listener ≤ n))))
        → CallsNext m c (IsNotPast behind n)
    by (Some w) g r =
        let k = at-hand m c w.0 w.1 g in
        let size : length (go_on m c).1.ahead ≡ length before + suc (length behind) = ap (λ (d : Course). length d.ahead) k.1 ∙ ap length e ∙ length-append before (s ∷ behind) in
        (call_at m.listeners w.0 w.1, (k.0, inl (omega (arith, size))))
    by None g r =
        let reach : next_arrival m.pool c.kind m.listeners (in_reach m.stopped c.ahead) ≡ Some r.0 =
        ap (λ b. next_arrival m.pool c.kind m.listeners (in_reach b c.ahead)) f ∙ ap (next_arrival m.pool c.kind m.listeners) e ∙ r.1.0 in
        let k = ahead-of m c r.0 g reach in
        (call_at m.listeners r.0.station r.0.listener, (k.0, past k.1 r.1.1))
      where
        past : (go_on m c).1.ahead ≡ r.0.behind → (length behind < length r.0.behind) ⊎ ((r.0.behind ≡ behind) × (r.0.listener ≤ n)) → IsNotPast behind n (call_at m.listeners r.0.station r.0.listener) (go_on m c).1
        past k (inl x) = let size : length (go_on m c).1.ahead ≡ length r.0.behind = ap length k in inl (omega (arith, x, size))
        past k (inr x) = inr (k ∙ x.0, x.1)

pub none-left-out : NoneIsLeftOut
none-left-out m c s n q = (λ h a b. left-here m c s n q h a b, λ before behind e f h. left-ahead m c s n before behind q e f h)
