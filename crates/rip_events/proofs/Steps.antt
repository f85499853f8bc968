-- A flow on its way along its stations.
use Rattle.std.proofs.Common.{◌≡◌, ℕ, suc, ◌+◌, ◌-◌, ◌<◌, ◌≤◌, Bool, false, leb, List, ◌∷◌, length, get_or, drop, Option, None, Some, sym, ap, ◌∙◌, arith}
use Rattle.std.specs.Prelude.{slice_get}
use Rattle.std.proofs.lemmas.Bool.{cond-false, lt-leb}
use Rattle.std.proofs.lemmas.List.{drop_more, drop_all}
use Rattle.rip_base.specs.declared.value.Span.{Span}
use Rattle.rip_values.specs.Pool.{Texts}
use Rattle.rip_events.specs.declared.station.Station.{Station}
use Rattle.rip_events.specs.declared.station.Place.{Place}
use Rattle.rip_events.specs.Listed.{Listed}
use Rattle.rip_events.specs.Flow.{Course, called_at, called_here, call_at, here_or_behind, here_or_ahead, goes_on, in_reach, next_arrival, next_call}
use Rattle.rip_events.specs.Reached.{last_of, arrival_at}

here : (pool : Texts) (kind : Span) (l : Listed) (S : List Station) (s : Station) (i : ℕ) (o : Option ℕ) → i < length S → s ≡ get_or S i s → o ≡ called_at pool kind l 0 (length l.registered) s
    → next_arrival pool kind l (drop i S) ≡ here_or_behind s (drop (i + 1) S) o (next_arrival pool kind l (drop (i + 1) S))
here pool kind l S s i o h r e =
    ap (next_arrival pool kind l) (drop_more S i s h) ∙ ap (λ y. next_arrival pool kind l (y ∷ drop (i + 1) S)) (sym r)
    ∙ ap (λ o. here_or_behind s (drop (i + 1) S) o (next_arrival pool kind l (drop (i + 1) S))) (sym e)

pub arrives : (pool : Texts) (kind : Span) (l : Listed) (S : List Station) (s : Station) (i n : ℕ) (o : Option ℕ) → i < length S → s ≡ get_or S i s → o ≡ called_at pool kind l 0 (length l.registered) s → o ≡ Some n
    → next_arrival pool kind l (drop i S) ≡ Some (arrival_at S i s n)
arrives pool kind l S s i n o h r e q =
    let k : i + 1 ≡ suc i = omega arith in
    here pool kind l S s i o h r e ∙ ap (λ o. here_or_behind s (drop (i + 1) S) o (next_arrival pool kind l (drop (i + 1) S))) q ∙ ap (λ k. Some (record { station = s; listener = n; behind = drop k S })) k

pub passes : (pool : Texts) (kind : Span) (l : Listed) (S : List Station) (s : Station) (i : ℕ) (o : Option ℕ) → i < length S → s ≡ get_or S i s → o ≡ called_at pool kind l 0 (length l.registered) s → o ≡ None
    → next_arrival pool kind l (drop i S) ≡ next_arrival pool kind l (drop (i + 1) S)
passes pool kind l S s i o h r e q = here pool kind l S s i o h r e ∙ ap (λ o. here_or_behind s (drop (i + 1) S) o (next_arrival pool kind l (drop (i + 1) S))) q

pub none-arrives : (pool : Texts) (kind : Span) (l : Listed) (S : List Station) (i : ℕ) → length S ≤ i → next_arrival pool kind l (drop i S) ≡ None
none-arrives pool kind l S i h = ap (next_arrival pool kind l) (drop_all i S h)

-- the call at a station that was ahead, and the flow behind it
pub goes : (pool : Texts) (l : Listed) (stopped : Bool) (c : Course) (S : List Station) (reached i n count : ℕ) (s : Station) → called_here pool c.kind l c.next c.mark c.here ≡ None → stopped ≡ false → c.ahead ≡ drop reached S
    → next_arrival pool c.kind l (drop reached S) ≡ Some (arrival_at S i s n) → slice_get S i ≡ Some s → count ≡ length l.registered
    → (Some (call_at l s n), record c { here = last_of S (i + 1); ahead = drop (i + 1) S; next = n + 1; mark = count }) ≡ next_call pool l stopped c
goes pool l stopped c S reached i n count s h f a e g m =
    ap (λ (o : Option Station). made o (i + 1) (n + 1) count) here-is ∙ ap (λ k. made (Some s) k (n + 1) count) one-i ∙ ap (λ k. made (Some s) (suc i) k count) one-n ∙ ap (made (Some s) (suc i) (suc n)) m
    ∙ sym (ap (here_or_ahead pool l stopped c) h ∙ ap (λ b. goes_on l c (next_arrival pool c.kind l (in_reach b c.ahead))) f ∙ ap (λ r. goes_on l c (next_arrival pool c.kind l r)) a ∙ ap (goes_on l c) e)
  where
    made : Option Station → ℕ → ℕ → ℕ → Option Place × Course
    made o k j w = (Some (call_at l s n), record c { here = o; ahead = drop k S; next = j; mark = w })

    one-i : i + 1 ≡ suc i
    one-i = omega arith

    one-n : n + 1 ≡ suc n
    one-n = omega arith

    back : i + 1 - 1 ≡ i
    back = omega arith

    here-is : last_of S (i + 1) ≡ Some s
    here-is = cond-false (leb (i + 1) 0) None (slice_get S (i + 1 - 1)) (lt-leb (i + 1) 0 (omega arith)) ∙ ap (slice_get S) back ∙ g
