-- Each request of a connection is handled in the first turn in which it may be, along a run.
use Rattle.std.proofs.Common.{◌≡◌, ◌≢◌, inl, inr, ⊎_elim, ℕ, ◌+◌, ◌<◌, ◌≤◌, Bool, true, false, cond, not, ◌&&◌, ◌||◌, eqb, leb, List, [], ◌∷◌, ◌++◌, length, map, drop, Option, Some, None, refl, sym, ap, ◌∙◌, subst, arith, append-nil, append_assoc, length-append, length-drop}
use Rattle.std.specs.Prelude.{is_some}
use Rattle.std.specs.List.{AllByRecursion, filter}
use Rattle.std.proofs.lemmas.Bool.{true≢false, false≢true, and_parts, cases_lt, eq-eqb, eqb-true, eqb-false, or_parts}
use Rattle.rip_http.specs.Stream.{waits, IsNext, all_fed, fed}
use Rattle.rip_outer.specs.declared.connections.TraceKnock.{TraceKnock}
use Rattle.rip_outer.specs.declared.connections.TraceKnock.TheVariants.{Opened, Bytes, Gone, Quiet}
use Rattle.rip_history.specs.Answering.{decided_owed}
use Rattle.rip_history.specs.Connections.{Connection, Connections, Owed, after_answer, after_knock, changed, is_there, most_connections, overflows, owing, without}
use Rattle.rip_history.specs.Handlings.{Answered, at_once, when_done, AreHandled, IsFree, MayBeHandled, Request}
use Rattle.rip_history.specs.Run.{Advance, AreHandledSo, AreQuiet, Arrived, Coming, Handling, IsFirst, IsQuiet, IsTurn, Site, State, after_advance, after_advances, after_arrived, after_handling, after_handlings, after_turn, answered_or_owed, answered_there, decided, first_state, front_of, handled_at, knocked_at, message, progress_there, refused, taken}
use Rattle.rip_history.specs.Runs.{AreTurns}
use Rattle.rip_history.specs.declared.sessions.Progress.{Progress}
use Rattle.rip_history.specs.declared.sessions.Progress.TheVariants.{Busy, Finished}
use Rattle.rip_law_history.proofs.WholeMadeLemmas.{all-maps}
use Rattle.rip_law_server.specs.Turned.{Turned, TurnsAreLeast, answered_behind, answered_from, come_turn, owes, size_behind, size_by, sizes_on, turned_from, turned_in}
use Rattle.rip_law_server.proofs.Coming.{IsLater, IsOwed, come_reached, come_within, comes_first, done_free, free_mono, front_fits, later_free, later_lower, owed_free, owed_so, total, total_more, waits_not}
use Rattle.rip_law_server.proofs.Owing.{all_changed, all_push, all_without}

-- ---- the connections that are there

-- the number of one is below that of the next to be opened; and of this one, an answer is owed on it or not, and its unread
-- bytes are such
record Stands (c opened : ℕ) (waiting : Bool) (P : List ℕ → Type 0) (d : Connection) : Type 0 where
  below : d.number < opened
  owed : d.number ≡ c → is_some d.owed ≡ waiting
  unread : d.number ≡ c → P d.unread

abbrev AllStand : ℕ → ℕ → Bool → (List ℕ → Type 0) → List Connection → Type 0
AllStand c opened waiting P cs = AllByRecursion (Stands c opened waiting P) cs

stand_so : (c opened : ℕ) (waiting : Bool) (P Q : List ℕ → Type 0) → ((bytes : List ℕ) → P bytes → Q bytes) → (cs : List Connection)
    → AllStand c opened waiting P cs → AllStand c opened waiting Q cs
stand_so c opened waiting P Q go cs all =
    all-maps (Stands c opened waiting P) (Stands c opened waiting Q)
    (λ d s. record { below = s.below; owed = s.owed; unread = λ is. go d.unread (s.unread is) }) cs all

stand_above : (c opened : ℕ) (waiting : Bool) (P : List ℕ → Type 0) (cs : List Connection)
    → AllStand c opened waiting P cs → AllStand c (opened + 1) waiting P cs
stand_above c opened waiting P cs all =
    all-maps (Stands c opened waiting P) (Stands c (opened + 1) waiting P)
    (λ d s. record { below = (let lt = s.below in omega (arith, lt)); owed = s.owed; unread = s.unread }) cs all

owed_own : (c opened : ℕ) (waiting : Bool) (P : List ℕ → Type 0) (e : ℕ) (o : Option Owed) (cs : List Connection) → e ≡ c
    → AllStand c opened waiting P cs → AllStand c opened (is_some o) P (changed e (λ (d : Connection). record d { owed = o }) cs)
owed_own c opened waiting P e o cs same all =
    all_changed (Stands c opened waiting P) (Stands c opened (is_some o) P) e (λ (d : Connection). record d { owed = o })
    (λ d s own. record { below = s.below; owed = λ is. refl; unread = s.unread })
    (λ d s other. record { below = s.below; owed = λ is. absurd (other (is ∙ sym same)); unread = s.unread }) cs all

owed_other : (c opened : ℕ) (waiting : Bool) (P : List ℕ → Type 0) (e : ℕ) (o : Option Owed) (cs : List Connection) → (e ≡ c → ⊥)
    → AllStand c opened waiting P cs → AllStand c opened waiting P (changed e (λ (d : Connection). record d { owed = o }) cs)
owed_other c opened waiting P e o cs differs all =
    all_changed (Stands c opened waiting P) (Stands c opened waiting P) e (λ (d : Connection). record d { owed = o })
    (λ d s own. record { below = s.below; owed = λ is. absurd (differs (sym own ∙ is)); unread = s.unread })
    (λ d s other. s) cs all

read_own : (c opened : ℕ) (waiting : Bool) (P Q : List ℕ → Type 0) (e : ℕ) (f : List ℕ → List ℕ) (cs : List Connection) → e ≡ c
    → ((bytes : List ℕ) → P bytes → Q (f bytes))
    → AllStand c opened waiting P cs → AllStand c opened waiting Q (changed e (λ (d : Connection). record d { unread = f d.unread }) cs)
read_own c opened waiting P Q e f cs same go all =
    all_changed (Stands c opened waiting P) (Stands c opened waiting Q) e (λ (d : Connection). record d { unread = f d.unread })
    (λ d s own. record { below = s.below; owed = s.owed; unread = λ is. go d.unread (s.unread is) })
    (λ d s other. record { below = s.below; owed = s.owed; unread = λ is. absurd (other (is ∙ sym same)) }) cs all

read_other : (c opened : ℕ) (waiting : Bool) (P : List ℕ → Type 0) (e : ℕ) (f : List ℕ → List ℕ) (cs : List Connection) → (e ≡ c → ⊥)
    → AllStand c opened waiting P cs → AllStand c opened waiting P (changed e (λ (d : Connection). record d { unread = f d.unread }) cs)
read_other c opened waiting P e f cs differs all =
    all_changed (Stands c opened waiting P) (Stands c opened waiting P) e (λ (d : Connection). record d { unread = f d.unread })
    (λ d s own. record { below = s.below; owed = s.owed; unread = λ is. absurd (differs (sym own ∙ is)) })
    (λ d s other. s) cs all

-- one that is there no more
gone_own : (c opened : ℕ) (waiting : Bool) (P Q : List ℕ → Type 0) (e : ℕ) (cs : List Connection) → e ≡ c
    → AllStand c opened waiting P cs → AllStand c opened waiting Q (without e cs)
gone_own c opened waiting P Q e [] same all = tt
gone_own c opened waiting P Q e (d ∷ cs) same all = by (eqb d.number e) refl (gone_own c opened waiting P Q e cs same all.1)
  where
    by : (b : Bool) → eqb d.number e ≡ b → AllStand c opened waiting Q (without e cs)
        → AllStand c opened waiting Q (cond (not b) (d ∷ filter (λ (x : Connection). not (eqb x.number e)) cs) (filter (λ (x : Connection). not (eqb x.number e)) cs))
    by true is rest = rest
    by false is rest =
        let s = all.0 in (
          record { below = s.below; owed = s.owed; unread = λ own. absurd (eqb-false d.number e is (own ∙ sym same)) },
          rest,
        )

-- an answer is owed, or none is
owes_true : (c opened : ℕ) (waiting : Bool) (P : List ℕ → Type 0) (cs : List Connection) → AllStand c opened waiting P cs → owes c cs ≡ true → waiting ≡ true
owes_true c opened waiting P [] all is = absurd (false≢true is)
owes_true c opened waiting P (d ∷ cs) all is = by (eqb d.number c && is_some d.owed) refl is (owes_true c opened waiting P cs all.1)
  where
    by : (b : Bool) → (eqb d.number c && is_some d.owed) ≡ b → (b || owes c cs) ≡ true → (owes c cs ≡ true → waiting ≡ true) → waiting ≡ true
    by true e h rest =
        let both = and_parts (eqb d.number c) (is_some d.owed) e in
        let s = all.0 in
        sym (s.owed (eqb-true d.number c both.0)) ∙ both.1
    by false e h rest = rest h

owes_false : (c opened : ℕ) (waiting : Bool) (P : List ℕ → Type 0) (cs : List Connection) → AllStand c opened waiting P cs → owes c cs ≡ false
    → AllStand c opened false P cs
owes_false c opened waiting P [] all is = tt
owes_false c opened waiting P (d ∷ cs) all is =
    let both = or_parts (eqb d.number c && is_some d.owed) (owes c cs) is in
    let s = all.0 in (
      record {
        below = s.below;
        owed = λ own. sym (ap (λ (b : Bool). b && is_some d.owed) (eq-eqb d.number c own)) ∙ both.0;
        unread = s.unread;
      },
      owes_false c opened waiting P cs all.1 both.1,
    )

owes_so : (c opened : ℕ) (waiting : Bool) (P : List ℕ → Type 0) (cs : List Connection) (b : Bool) → owes c cs ≡ b → AllStand c opened waiting P cs
    → AllStand c opened b P cs
owes_so c opened waiting P cs true e all = subst (λ (x : Bool). AllStand c opened x P cs) (owes_true c opened waiting P cs all e) all
owes_so c opened waiting P cs false e all = owes_false c opened waiting P cs all e

there_below : (c opened : ℕ) (waiting : Bool) (P : List ℕ → Type 0) (cs : List Connection) → AllStand c opened waiting P cs → is_there c cs ≡ true → c < opened
there_below c opened waiting P [] all is = absurd (false≢true is)
there_below c opened waiting P (d ∷ cs) all is = by (eqb d.number c) refl is (there_below c opened waiting P cs all.1)
  where
    by : (b : Bool) → eqb d.number c ≡ b → (b || is_there c cs) ≡ true → (is_there c cs ≡ true → c < opened) → c < opened
    by true e h rest = (let s = all.0 in let lt = s.below in let same = eqb-true d.number c e in omega (arith, lt, same))
    by false e h rest = rest h

-- what is known of all connections that are there, and of one that was not opened
record Held (c : ℕ) (waiting : Bool) (P : List ℕ → Type 0) (Fresh : Type 0) (k : Connections) : Type 0 where
  each : AllStand c k.opened waiting P k.there
  fresh : k.opened ≤ c → Fresh

-- ---- what is known before a turn, and behind its knock

-- so many bytes came, of which so many were handled; and where the request before was answered before this turn, no more of
-- them is a request
record IsAt (u size sum : ℕ) (before : Option (ℕ × Request)) (unread : List ℕ) : Type 0 where
  whole : sum ≡ size + length unread
  quiet : IsFree before u → IsNext unread waits

-- so many have come now; and what stands at the front had not come by the turn before, where it might have been handled
record IsHere (u size sum now : ℕ) (before : Option (ℕ × Request)) (unread : List ℕ) : Type 0 where
  whole : now ≡ size + length unread
  least : IsFree before u → (n : ℕ) (a : Arrived) → IsNext unread (front_of n a) → sum < size + n

record IsFresh (now size : ℕ) (before : Option (ℕ × Request)) (waiting : Bool) : Type 0 where
  came : now ≡ 0
  handled : size ≡ 0
  first : before ≡ None
  free : waiting ≡ false

here_more : (u size sum : ℕ) (before : Option (ℕ × Request)) (unread piece : List ℕ) → IsAt u size sum before unread
    → IsHere u size sum (sum + length piece) before (unread ++ piece)
here_more u size sum before unread piece s = record {
  whole = (let e = s.whole in let l = length-append unread piece in omega (arith, e, l));
  least = λ free n a next.
      ⊎_elim
      (λ (short : length unread < n). (let e = s.whole in omega (arith, e, short)))
      (λ (fits : n ≤ length unread). absurd (waits_not unread n a (s.quiet free) (comes_first unread piece n a next fits)))
      (cases_lt (length unread) n);
}

here_same : (u size sum : ℕ) (before : Option (ℕ × Request)) (unread : List ℕ) → IsAt u size sum before unread
    → IsHere u size sum (sum + 0) before unread
here_same u size sum before unread s =
    subst (λ (bytes : List ℕ). IsHere u size sum (sum + 0) before bytes) (append-nil unread) (here_more u size sum before unread [] s)

abbrev Before : ℕ → ℕ → ℕ → ℕ → Option (ℕ × Request) → Bool → Connections → Type 0
Before c u size sum before waiting k = Held c waiting (IsAt u size sum before) (IsFresh sum size before waiting) k

abbrev Here : ℕ → ℕ → ℕ → ℕ → ℕ → Option (ℕ × Request) → Bool → Connections → Type 0
Here c u size sum now before waiting k = Held c waiting (IsHere u size sum now before) (IsFresh now size before waiting) k

-- ---- a knock

same_here : (c u size sum : ℕ) (before : Option (ℕ × Request)) (waiting : Bool) (k : Connections) → Before c u size sum before waiting k
    → Here c u size sum (sum + 0) before waiting k
same_here c u size sum before waiting k b = record {
  each = stand_so c k.opened waiting (IsAt u size sum before) (IsHere u size sum (sum + 0) before) (λ bytes s. here_same u size sum before bytes s) k.there b.each;
  fresh = λ le.
      let f = b.fresh le in
      record { came = (let e = f.came in omega (arith, e)); handled = f.handled; first = f.first; free = f.free };
}

without_here : (c u size sum : ℕ) (before : Option (ℕ × Request)) (waiting : Bool) (d : ℕ) (k : Connections) → Before c u size sum before waiting k
    → Here c u size sum (sum + 0) before waiting (record k { there = without d k.there })
without_here c u size sum before waiting d k b =
    let h = same_here c u size sum before waiting k b in
    record { each = all_without (Stands c k.opened waiting (IsHere u size sum (sum + 0) before)) d k.there h.each; fresh = h.fresh }

opened_here : (c u size sum : ℕ) (before : Option (ℕ × Request)) (waiting : Bool) (d : ℕ) (k : Connections) (next full : Bool) → eqb d k.opened ≡ next
    → Before c u size sum before waiting k
    → Here c u size sum (sum + 0) before waiting (cond (not next) k (cond full (record k { opened = k.opened + 1 })
    (record { opened = k.opened + 1; there = k.there ++ record { number = d; unread = []; owed = None } ∷ [] })))
opened_here c u size sum before waiting d k false full e b = same_here c u size sum before waiting k b
opened_here c u size sum before waiting d k true true e b =
    let h = same_here c u size sum before waiting k b in
    record { each = stand_above c k.opened waiting (IsHere u size sum (sum + 0) before) k.there h.each; fresh = λ le. h.fresh (omega (arith, le)) }
opened_here c u size sum before waiting d k true false e b =
    let h = same_here c u size sum before waiting k b in
    let next : d ≡ k.opened = eqb-true d k.opened e in
    record {
      each = all_push (Stands c (k.opened + 1) waiting (IsHere u size sum (sum + 0) before)) k.there (record { number = d; unread = []; owed = None })
          (stand_above c k.opened waiting (IsHere u size sum (sum + 0) before) k.there h.each)
          (record {
            below = omega (arith, next);
            owed = λ is. (let same : d ≡ c = is in let f = b.fresh (omega (arith, same, next)) in sym f.free);
            unread = λ is.
                let same : d ≡ c = is in
                let f = b.fresh (omega (arith, same, next)) in
                here_same u size sum before [] (record { whole = (let x = f.came in let y = f.handled in omega (arith, x, y)); quiet = λ free. refl });
          });
      fresh = λ le. h.fresh (omega (arith, le));
    }

bytes_here : (c u size sum : ℕ) (before : Option (ℕ × Request)) (waiting : Bool) (d : ℕ) (piece : List ℕ) (k : Connections) (mine there over : Bool)
    → eqb d c ≡ mine → is_there d k.there ≡ there → Before c u size sum before waiting k
    → Here c u size sum (sum + length (all_fed (cond (mine && (there && not over)) (fed piece ∷ []) []))) before waiting
    (cond (not there) k (cond over (record k { there = without d k.there })
    (record k { there = changed d (λ (x : Connection). record x { unread = x.unread ++ piece }) k.there })))
bytes_here c u size sum before waiting d piece k true false over e t b = same_here c u size sum before waiting k b
bytes_here c u size sum before waiting d piece k false false over e t b = same_here c u size sum before waiting k b
bytes_here c u size sum before waiting d piece k true true true e t b = without_here c u size sum before waiting d k b
bytes_here c u size sum before waiting d piece k false true true e t b = without_here c u size sum before waiting d k b
bytes_here c u size sum before waiting d piece k false true false e t b =
    let h = same_here c u size sum before waiting k b in
    record {
      each = read_other c k.opened waiting (IsHere u size sum (sum + 0) before) d (λ (bytes : List ℕ). bytes ++ piece) k.there (eqb-false d c e) h.each;
      fresh = h.fresh;
    }
bytes_here c u size sum before waiting d piece k true true false e t b =
    let same : d ≡ c = eqb-true d c e in
    let lt : c < k.opened = there_below c k.opened waiting (IsAt u size sum before) k.there b.each (ap (λ (n : ℕ). is_there n k.there) (sym same) ∙ t) in
    record {
      each = read_own c k.opened waiting (IsAt u size sum before) (IsHere u size sum (sum + length (piece ++ [])) before) d (λ (bytes : List ℕ). bytes ++ piece) k.there same
          (λ bytes s.
          subst (λ (n : ℕ). IsHere u size sum (sum + n) before (bytes ++ piece)) (ap length (sym (append-nil piece))) (here_more u size sum before bytes piece s))
          b.each;
      fresh = λ le. absurd (omega (arith, le, lt));
    }

knock_here : (c u size sum : ℕ) (before : Option (ℕ × Request)) (waiting : Bool) (knock : Option TraceKnock) (k : Connections) → Before c u size sum before waiting k
    → Here c u size sum (sum + size_by c knock k) before waiting (after_knock knock k)
knock_here c u size sum before waiting None k b = same_here c u size sum before waiting k b
knock_here c u size sum before waiting (Some (Opened d)) k b =
    opened_here c u size sum before waiting d k (eqb d k.opened) (leb most_connections (length k.there)) refl b
knock_here c u size sum before waiting (Some (Bytes d piece)) k b =
    bytes_here c u size sum before waiting d piece k (eqb d c) (is_there d k.there) (overflows d piece k) refl refl b
knock_here c u size sum before waiting (Some (Gone d)) k b = without_here c u size sum before waiting d k b
knock_here c u size sum before waiting (Some Quiet) k b = same_here c u size sum before waiting k b

-- ---- answers

answered_other : (c opened : ℕ) (waiting : Bool) (P : List ℕ → Type 0) (e : ℕ) (gone close : Bool) (cs : List Connection) → (e ≡ c → ⊥)
    → AllStand c opened waiting P cs → AllStand c opened waiting P (after_answer gone close e cs)
answered_other c opened waiting P e true close cs differs all = all_without (Stands c opened waiting P) e cs all
answered_other c opened waiting P e false true cs differs all = all_without (Stands c opened waiting P) e cs all
answered_other c opened waiting P e false false cs differs all = owed_other c opened waiting P e None cs differs all

-- an answer is owed as before, or no more
abbrev Answers : ℕ → ℕ → Bool → (List ℕ → Type 0) → List Connection → Type 0
Answers c opened waiting P cs = (now : Bool) × (now ≡ true → waiting ≡ true) × AllStand c opened now P cs

answered_any : (c opened : ℕ) (waiting : Bool) (P : List ℕ → Type 0) (e : ℕ) (gone close : Bool) (cs : List Connection)
    → AllStand c opened waiting P cs → Answers c opened waiting P (after_answer gone close e cs)
answered_any c opened waiting P e true close cs all = (waiting, λ is. is, all_without (Stands c opened waiting P) e cs all)
answered_any c opened waiting P e false true cs all = (waiting, λ is. is, all_without (Stands c opened waiting P) e cs all)
answered_any c opened waiting P e false false cs all = by (eqb e c) refl
  where
    by : (b : Bool) → eqb e c ≡ b → Answers c opened waiting P (changed e (λ (d : Connection). record d { owed = None }) cs)
    by true is = (false, λ none. absurd (false≢true none), owed_own c opened waiting P e None cs (eqb-true e c is) all)
    by false is = (waiting, λ same. same, owed_other c opened waiting P e None cs (eqb-false e c is) all)

progress_any : (c opened : ℕ) (waiting : Bool) (P : List ℕ → Type 0) (gone : Bool) (n : ℕ) (p : Progress) (cs : List Connection)
    → AllStand c opened waiting P cs → Answers c opened waiting P (progress_there gone n p cs)
progress_any c opened waiting P gone n Busy cs all = (waiting, λ is. is, all)
progress_any c opened waiting P gone n (Finished how) cs all = by (owing n cs)
  where
    by : (o : Option (ℕ × Bool)) → Answers c opened waiting P (answered_there gone o cs)
    by None = (waiting, λ is. is, all)
    by (Some (e, close)) = answered_any c opened waiting P e gone close cs all

-- ---- a request

-- what stands at the front of the connection of a request
record IsFront (c opened : ℕ) (waiting : Bool) (P : List ℕ → Type 0) (h : Handling) : Type 0 where
  below : c < opened
  free : waiting ≡ false
  bytes : List ℕ
  are : P bytes
  next : IsNext bytes (front_of h.size h.arrived)

first_front : (c opened : ℕ) (waiting : Bool) (P : List ℕ → Type 0) (h : Handling) (cs : List Connection) → h.connection ≡ c → IsFirst cs h
    → AllStand c opened waiting P cs → IsFront c opened waiting P h
first_front c opened waiting P h [] same first all = absurd first
first_front c opened waiting P h (d ∷ cs) same (inl p) all =
    let s = all.0 in
    let is : d.number ≡ c = p.connection ∙ same in
    record {
      below = (let lt = s.below in omega (arith, lt, is));
      free = sym (s.owed is) ∙ ap (λ (o : Option Owed). is_some o) p.free;
      bytes = d.unread;
      are = s.unread is;
      next = p.next;
    }
first_front c opened waiting P h (d ∷ cs) same (inr (quiet, more)) all = first_front c opened waiting P h cs same more all.1

-- that of another connection changes nothing
decided_other : (c opened : ℕ) (waiting : Bool) (P : List ℕ → Type 0) (e : ℕ) (gone close : Bool) (o : Option ℕ) (cs : List Connection) → (e ≡ c → ⊥)
    → AllStand c opened waiting P cs → AllStand c opened waiting P (answered_or_owed e gone close o cs)
decided_other c opened waiting P e gone close None cs differs all = answered_other c opened waiting P e gone close cs differs all
decided_other c opened waiting P e gone close (Some n) cs differs all = owed_other c opened waiting P e (Some (record { session = n; close = close })) cs differs all

arrived_other : (site : Site) (c turn moment e size : ℕ) (gone : Bool) (s : State) (a : Arrived) (waiting : Bool) (P : List ℕ → Type 0) (Fresh : Type 0) → (e ≡ c → ⊥)
    → Held c waiting P Fresh s.connections → Held c waiting P Fresh (let x = after_arrived site turn moment e size gone s a in x.connections)
arrived_other site c turn moment e size gone s (refused r) waiting P Fresh differs h =
    let k = s.connections in
    record { each = answered_other c k.opened waiting P e gone true k.there differs h.each; fresh = h.fresh }
arrived_other site c turn moment e size gone s (message m x) waiting P Fresh differs h =
    let k = s.connections in
    record {
      each = decided_other c k.opened waiting P e gone m.close (decided_owed (decided site.limit s.history x)) (taken e size k.there) differs
          (read_other c k.opened waiting P e (λ (bytes : List ℕ). drop size bytes) k.there differs h.each);
      fresh = h.fresh;
    }

-- one of its own is taken
abbrev SomeStand : ℕ → ℕ → (List ℕ → Type 0) → List Connection → Type 0
SomeStand c opened P cs = (now : Bool) × AllStand c opened now P cs

refused_own : (c opened : ℕ) (waiting : Bool) (P Q : List ℕ → Type 0) (e : ℕ) (gone : Bool) (cs : List Connection) → e ≡ c
    → AllStand c opened waiting P cs → SomeStand c opened Q (after_answer gone true e cs)
refused_own c opened waiting P Q e true cs same all = (waiting, gone_own c opened waiting P Q e cs same all)
refused_own c opened waiting P Q e false cs same all = (waiting, gone_own c opened waiting P Q e cs same all)

decided_own : (c opened : ℕ) (waiting : Bool) (P : List ℕ → Type 0) (e : ℕ) (gone close : Bool) (o : Option ℕ) (cs : List Connection) → e ≡ c
    → AllStand c opened waiting P cs → SomeStand c opened P (answered_or_owed e gone close o cs)
decided_own c opened waiting P e gone close None cs same all = (let a = answered_any c opened waiting P e gone close cs all in (a.0, a.2))
decided_own c opened waiting P e gone close (Some n) cs same all = (true, owed_own c opened waiting P e (Some (record { session = n; close = close })) cs same all)

arrived_own : (site : Site) (c turn moment e size : ℕ) (gone : Bool) (s : State) (a : Arrived) (waiting : Bool) (P Q : List ℕ → Type 0) → e ≡ c
    → ((bytes : List ℕ) → P bytes → Q (drop size bytes))
    → (let k = s.connections in AllStand c k.opened waiting P k.there)
    → (let x = after_arrived site turn moment e size gone s a in let k = x.connections in SomeStand c k.opened Q k.there)
arrived_own site c turn moment e size gone s (refused r) waiting P Q same go all =
    let k = s.connections in refused_own c k.opened waiting P Q e gone k.there same all
arrived_own site c turn moment e size gone s (message m x) waiting P Q same go all =
    let k = s.connections in
    decided_own c k.opened waiting Q e gone m.close (decided_owed (decided site.limit s.history x)) (taken e size k.there) same
    (read_own c k.opened waiting P Q e (λ (bytes : List ℕ). drop size bytes) k.there same go all)

opened_same : (site : Site) (turn moment e size : ℕ) (gone : Bool) (s : State) (a : Arrived)
    → (let x = after_arrived site turn moment e size gone s a in let k = x.connections in k.opened) ≡ (let k = s.connections in k.opened)
opened_same site turn moment e size gone s (refused r) = refl
opened_same site turn moment e size gone s (message m x) = refl

-- ---- the requests of a turn

-- these are handled in the first turns in which they may be
abbrev AreTurned : Option (ℕ × Request) → List Turned → Type 0
AreTurned before xs = AreHandled before (map (λ (x : Turned). x.request) xs) (map (λ (x : Turned). x.turn) xs)

-- the last of them, or the one before
abbrev last_of : Option (ℕ × Request) → List Turned → Option (ℕ × Request)
last_of before [] = before
last_of before (x ∷ xs) = last_of (Some (x.turn, x.request)) xs

turned_join : (before : Option (ℕ × Request)) (xs ys : List Turned) → AreTurned before xs → AreTurned (last_of before xs) ys → AreTurned before (xs ++ ys)
turned_join before [] ys p q = q
turned_join before (x ∷ xs) ys p q = (p.0, p.1, turned_join (Some (x.turn, x.request)) xs ys p.2 q)

-- an answer to the request before is owed, to be given so, or it is answered before the turn behind this one
record Owing (u : ℕ) (before : Option (ℕ × Request)) (waiting : Bool) (owed : Answered) : Type 0 where
  free : waiting ≡ false → IsFree before (u + 1)
  due : waiting ≡ true → IsOwed before owed

record Handed (c u sum now : ℕ) (owed : Answered) (before : Option (ℕ × Request)) (xs : List Turned) (size : ℕ) (k : Connections) : Type 0 where
  turned : AreTurned before xs
  waiting : Bool
  here : Here c u size sum now (last_of before xs) waiting k
  stands : Owing u (last_of before xs) waiting owed

-- behind a request of the turn
behind_free : (u came : ℕ) (b : Bool) (owed : Answered) → IsLater (u + 1) owed → IsFree (Some (u + 1, record { came = came; answered = cond b owed at_once })) u → ⊥
behind_free u came true owed later f = later_free u (u + 1) owed (later_lower u (u + 1) owed (omega arith) later) f
behind_free u came false owed later f = (let le : u + 1 ≤ u = f in omega (arith, le))

behind_owing : (u came : ℕ) (b : Bool) (owed : Answered) → Owing u (Some (u + 1, record { came = came; answered = cond b owed at_once })) b owed
behind_owing u came true owed = record { free = λ e. absurd (true≢false e); due = λ e. refl }
behind_owing u came false owed = record { free = λ e. (let le : u + 1 ≤ u + 1 = omega arith in le); due = λ e. absurd (false≢true e) }

-- what the moments of bytes say of a turn: what has come by the one before is no more than came up to it, and what is no
-- more than came up to this one has come by it
record Comes (came : ℕ → ℕ) (u sum now : ℕ) : Type 0 where
  within : (n : ℕ) → came n ≤ u → n ≤ sum
  reached : (n : ℕ) → n ≤ now → came n ≤ u + 1

-- a request of the connection is handled in the first turn in which it may be
request_least : (c u size sum now : ℕ) (came : ℕ → ℕ) (before : Option (ℕ × Request)) (waiting : Bool) (owed : Answered) (h : Handling) (opened : ℕ) (a : Answered)
    → Comes came u sum now → Owing u before waiting owed → IsFront c opened waiting (IsHere u size sum now before) h
    → MayBeHandled before (record { came = came (size + h.size); answered = a }) (u + 1)
    × ((v : ℕ) → MayBeHandled before (record { came = came (size + h.size); answered = a }) v → u + 1 ≤ v)
request_least c u size sum now came before waiting owed h opened a comes o f =
    let here = f.are in
    let whole = here.whole in
    let fits = front_fits f.bytes h.size h.arrived f.next in (
      record { came = comes.reached (size + h.size) (omega (arith, whole, fits)); free = o.free f.free },
      λ v may.
          ⊎_elim
          (λ (early : v < u + 1).
          let by_then : came (size + h.size) ≤ v = may.came in
          let short = here.least (free_mono before v u (omega (arith, early)) may.free) h.size h.arrived f.next in
          let long = comes.within (size + h.size) (omega (arith, by_then, early)) in
          absurd (omega (arith, short, long)))
          (λ (late : u + 1 ≤ v). late)
          (cases_lt v (u + 1)),
    )

handed : (site : Site) (c u moment sum now : ℕ) (came : ℕ → ℕ) (owed : Answered) → Comes came u sum now → IsLater (u + 1) owed
    → (size : ℕ) (before : Option (ℕ × Request)) (waiting : Bool) (s : State) (hs : List Handling) → AreHandledSo site (u + 1) moment s hs
    → Here c u size sum now before waiting s.connections → Owing u before waiting owed
    → Handed c u sum now owed before (turned_in site c came (u + 1) moment owed size s hs) (size_behind c size hs) (let x = after_handlings site (u + 1) moment s hs in x.connections)
handed site c u moment sum now came owed comes later size before waiting s [] is here o = record { turned = refl; waiting = waiting; here = here; stands = o }
handed site c u moment sum now came owed comes later size before waiting s (h ∷ hs) is here o =
    by (eqb h.connection c) refl
    (λ more last w behind p. handed site c u moment sum now came owed comes later more last w (after_handling site (u + 1) moment s h) hs is.1 behind p)
  where
    next : State
    next = after_handling site (u + 1) moment s h

    end : Connections
    end = (let x = after_handlings site (u + 1) moment next hs in x.connections)

    owes_next : Bool
    owes_next = owes c (let k = next.connections in k.there)

    r : Request
    r = record { came = came (size + h.size); answered = answered_behind c owed next }

    by : (b : Bool) → eqb h.connection c ≡ b
        → ((more : ℕ) (last : Option (ℕ × Request)) (w : Bool) → Here c u more sum now last w next.connections → Owing u last w owed
        → Handed c u sum now owed last (turned_in site c came (u + 1) moment owed more next hs) (size_behind c more hs) end)
        → Handed c u sum now owed before
        (cond b (record { turn = u + 1; request = r } ∷ turned_in site c came (u + 1) moment owed (size + h.size) next hs) (turned_in site c came (u + 1) moment owed size next hs))
        (size_behind c (cond b (size + h.size) size) hs) end
    by true e rest =
        let k = s.connections in
        let f = first_front c k.opened waiting (IsHere u size sum now before) h k.there (eqb-true h.connection c e) is.0 here.each in
        let own = f.are in
        let whole = own.whole in
        let fits = front_fits f.bytes h.size h.arrived f.next in
        let least = request_least c u size sum now came before waiting owed h k.opened (answered_behind c owed next) comes o f in
        let go : (bytes : List ℕ) → IsHere u size sum now before bytes → IsHere u (size + h.size) sum now (Some (u + 1, r)) (drop h.size bytes) = λ bytes t. record {
          whole = (let x = t.whole in let l = length-drop h.size bytes in omega (arith, x, l, whole, fits));
          least = λ free. absurd (behind_free u (came (size + h.size)) owes_next owed later free);
        } in
        let stand = arrived_own site c (u + 1) moment h.connection h.size h.gone s h.arrived waiting (IsHere u size sum now before) (IsHere u (size + h.size) sum now (Some (u + 1, r)))
        (eqb-true h.connection c e) go here.each in
        let there = next.connections in
        let lt = f.below in
        let same = opened_same site (u + 1) moment h.connection h.size h.gone s h.arrived in
        let more : Here c u (size + h.size) sum now (Some (u + 1, r)) owes_next next.connections = record {
          each = owes_so c there.opened stand.0 (IsHere u (size + h.size) sum now (Some (u + 1, r))) there.there owes_next refl stand.1;
          fresh = λ le. absurd (omega (arith, le, lt, same));
        } in
        let t = rest (size + h.size) (Some (u + 1, r)) owes_next more (behind_owing u (came (size + h.size)) owes_next owed) in
        record { turned = (least.0, least.1, t.turned); waiting = t.waiting; here = t.here; stands = t.stands }
    by false e rest =
        rest size before waiting
        (arrived_other site c (u + 1) moment h.connection h.size h.gone s h.arrived waiting (IsHere u size sum now before) (IsFresh now size before waiting) (eqb-false h.connection c e) here) o

-- ---- the sessions of a turn

some_is : (o : Option Owed) → o ≢ None → is_some o ≡ true
some_is None h = absurd (h refl)
some_is (Some x) h = refl

-- no connection has anything to handle
quiet_at : (c u size sum now : ℕ) (before : Option (ℕ × Request)) (waiting : Bool) (opened : ℕ) (cs : List Connection) → (waiting ≡ true → IsFree before (u + 1) → ⊥)
    → AllStand c opened waiting (IsHere u size sum now before) cs → AreQuiet cs → AllStand c opened waiting (IsAt (u + 1) size now before) cs
quiet_at c u size sum now before waiting opened [] held all quiet = tt
quiet_at c u size sum now before waiting opened (d ∷ cs) held all quiet =
    let s = all.0 in (
      record {
        below = s.below;
        owed = s.owed;
        unread = λ is. (let x = s.unread is in record { whole = x.whole; quiet = λ free. by quiet.0 (s.owed is) free });
      },
      quiet_at c u size sum now before waiting opened cs held all.1 quiet.1,
    )
  where
    by : IsQuiet d → is_some d.owed ≡ waiting → IsFree before (u + 1) → IsNext d.unread waits
    by (inl owed) same free = absurd (held (sym same ∙ some_is d.owed owed) free)
    by (inr next) same free = next

-- sessions go on
advances_held : (c turn : ℕ) (P : List ℕ → Type 0) (Fresh : Type 0) (waiting : Bool) (s : State) (rest : List Advance) → Held c waiting P Fresh s.connections
    → (now : Bool) × (now ≡ true → waiting ≡ true) × Held c now P Fresh (let x = after_advances turn s rest in x.connections)
advances_held c turn P Fresh waiting s [] h = (waiting, λ is. is, h)
advances_held c turn P Fresh waiting s (a ∷ rest) h =
    let k = s.connections in
    let one = progress_any c k.opened waiting P a.gone a.session a.progress k.there h.each in
    let more = advances_held c turn P Fresh one.0 (after_advance turn s a) rest (record { each = one.2; fresh = h.fresh }) in
    (more.0, λ is. one.1 (more.1 is), more.2)

-- ---- a turn

answered_later : (site : Site) (c turn : ℕ) (s : State) (ts : List Coming) → IsLater turn (answered_from site c turn s ts)
answered_later site c turn s [] = tt
answered_later site c turn s (t ∷ ts) = by (owes c (let k = (after_turn site turn t s).connections in k.there)) (answered_later site c (turn + 1) (after_turn site turn t s) ts)
  where
    by : (b : Bool) → IsLater (turn + 1) (answered_from site c (turn + 1) (after_turn site turn t s) ts)
        → IsLater turn (cond b (answered_from site c (turn + 1) (after_turn site turn t s) ts) (when_done turn))
    by true more = later_lower turn (turn + 1) (answered_from site c (turn + 1) (after_turn site turn t s) ts) (omega arith) more
    by false more = (let le : turn ≤ turn = omega arith in le)

-- what is owed as a turn ends, and when that is answered
ends_owing : (u : ℕ) (before : Option (ℕ × Request)) (waiting b : Bool) (owed next : Answered) → Owing u before waiting owed → owed ≡ cond b next (when_done (u + 1))
    → (b ≡ true → waiting ≡ true) → Owing (u + 1) before b next
ends_owing u before waiting true owed next o e keeps = record {
  free = λ is. absurd (true≢false is);
  due = λ is. owed_so before owed next (o.due (keeps refl)) e;
}
ends_owing u before waiting false owed next o e keeps = record {
  free = λ is. by waiting refl;
  due = λ is. absurd (false≢true is);
}
  where
    by : (w : Bool) → waiting ≡ w → IsFree before (u + 1 + 1)
    by true is = done_free (u + 1) before owed (o.due is) e
    by false is = free_mono before (u + 1) (u + 1 + 1) (omega arith) (o.free is)

none_kept : (waiting b : Bool) → (b ≡ true → waiting ≡ true) → waiting ≡ false → b ≡ false
none_kept waiting true keeps e = absurd (false≢true (sym e ∙ keeps refl))
none_kept waiting false keeps e = refl

record TurnTurned (site : Site) (c u size sum : ℕ) (came : ℕ → ℕ) (before : Option (ℕ × Request)) (s : State) (t : Coming) (ts : List Coming) : Type 0 where
  turned : AreTurned before (turned_in site c came (u + 1) t.moment (answered_from site c (u + 1) s (t ∷ ts)) size (knocked_at t s) t.handlings)
  waiting : Bool
  held : Before c (u + 1) (size_behind c size t.handlings) (sum + size_by c t.knock s.connections)
      (last_of before (turned_in site c came (u + 1) t.moment (answered_from site c (u + 1) s (t ∷ ts)) size (knocked_at t s) t.handlings)) waiting
      (let x = after_turn site (u + 1) t s in x.connections)
  stands : Owing (u + 1) (last_of before (turned_in site c came (u + 1) t.moment (answered_from site c (u + 1) s (t ∷ ts)) size (knocked_at t s) t.handlings)) waiting
      (answered_from site c (u + 1 + 1) (after_turn site (u + 1) t s) ts)

turn_turned : (site : Site) (c u size sum : ℕ) (came : ℕ → ℕ) (before : Option (ℕ × Request)) (waiting : Bool) (s : State) (t : Coming) (ts : List Coming)
    → IsTurn site (u + 1) s t → Comes came u sum (sum + size_by c t.knock s.connections) → Before c u size sum before waiting s.connections
    → Owing u before waiting (answered_from site c (u + 1) s (t ∷ ts)) → TurnTurned site c u size sum came before s t ts
turn_turned site c u size sum came before waiting s t ts is comes b o =
    let owed = answered_from site c (u + 1) s (t ∷ ts) in
    let late = answered_later site c (u + 1) s (t ∷ ts) in
    let now = sum + size_by c t.knock s.connections in
    let h = handed site c u t.moment sum now came owed comes late size before waiting (knocked_at t s) t.handlings is.handled
    (knock_here c u size sum before waiting t.knock s.connections b) o in
    let xs = turned_in site c came (u + 1) t.moment owed size (knocked_at t s) t.handlings in
    let k = (handled_at site (u + 1) t s).connections in
    let here = h.here in
    let stands = h.stands in
    let behind = size_behind c size t.handlings in
    let at : Held c h.waiting (IsAt (u + 1) behind now (last_of before xs)) (IsFresh now behind (last_of before xs) h.waiting) k = record {
      each = quiet_at c u behind sum now (last_of before xs) h.waiting k.opened k.there (λ w free. owed_free (u + 1) (last_of before xs) owed late (stands.due w) free) here.each is.all;
      fresh = here.fresh;
    } in
    let e = advances_held c (u + 1) (IsAt (u + 1) behind now (last_of before xs)) (IsFresh now behind (last_of before xs) h.waiting) h.waiting (handled_at site (u + 1) t s) t.advances at in
    let end = (after_turn site (u + 1) t s).connections in
    let held = e.2 in
    let left = owes c end.there in
    let keeps : left ≡ true → h.waiting ≡ true = λ w. e.1 (owes_true c end.opened e.0 (IsAt (u + 1) behind now (last_of before xs)) end.there held.each w) in
    record {
      turned = h.turned;
      waiting = left;
      held = record {
        each = owes_so c end.opened e.0 (IsAt (u + 1) behind now (last_of before xs)) end.there left refl held.each;
        fresh = λ le.
            let f = held.fresh le in
            record { came = f.came; handled = f.handled; first = f.first; free = none_kept h.waiting left keeps f.free };
      };
      stands = ends_owing u (last_of before xs) h.waiting left owed (answered_from site c (u + 1 + 1) (after_turn site (u + 1) t s) ts) stands refl keeps;
    }

-- ---- turns, runs

turns_turned : (site : Site) (c u size : ℕ) (all past : List ℕ) (before : Option (ℕ × Request)) (waiting : Bool) (s : State) (ts : List Coming)
    → AreTurns site (u + 1) s ts → length past ≡ u → all ≡ past ++ sizes_on site c (u + 1) s ts
    → Before c u size (total past) before waiting s.connections → Owing u before waiting (answered_from site c (u + 1) s ts)
    → AreTurned before (turned_from site c (λ n. come_turn 1 n all) (u + 1) size s ts)
turns_turned site c u size all past before waiting s [] is count e b o = refl
turns_turned site c u size all past before waiting s (t ∷ ts) is count e b o =
    let came : ℕ → ℕ = λ n. come_turn 1 n all in
    let n = size_by c t.knock s.connections in
    let next = after_turn site (u + 1) t s in
    let others = sizes_on site c (u + 1 + 1) next ts in
    let comes : Comes came u (total past) (total past + n) = record {
      within = λ size le.
          let at : come_turn 1 size (past ++ n ∷ others) ≤ u = subst (λ (xs : List ℕ). come_turn 1 size xs ≤ u) e le in
          come_within 1 size past (n ∷ others) (omega (arith, at, count));
      reached = λ size le.
          let at : come_turn 1 size (past ++ n ∷ others) ≤ 1 + length past = come_reached 1 size n past others le in
          subst (λ (xs : List ℕ). come_turn 1 size xs ≤ u + 1) (sym e) (omega (arith, at, count));
    } in
    let f = turn_turned site c u size (total past) came before waiting s t ts is.0 comes b o in
    let owed = answered_from site c (u + 1) s (t ∷ ts) in
    let xs = turned_in site c came (u + 1) t.moment owed size (knocked_at t s) t.handlings in
    let behind = size_behind c size t.handlings in
    turned_join before xs (turned_from site c came (u + 1 + 1) behind next ts) f.turned
    (turns_turned site c (u + 1) behind all (past ++ n ∷ []) (last_of before xs) f.waiting next ts is.1
    (length-append past (n ∷ []) ∙ ap (λ (m : ℕ). m + 1) count)
    (e ∙ sym (append_assoc past (n ∷ []) others))
    (subst (λ (m : ℕ). Before c (u + 1) behind m (last_of before xs) f.waiting next.connections) (sym (total_more past n)) f.held)
    f.stands)

pub turns_are_least : TurnsAreLeast
turns_are_least site ts c turns =
    turns_turned site c 0 0 (sizes_on site c 1 first_state ts) [] None false first_state ts turns refl refl
    (record { each = tt; fresh = λ le. record { came = refl; handled = refl; first = refl; free = refl } })
    (record { free = λ e. tt; due = λ e. absurd (false≢true e) })
