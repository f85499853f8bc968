-- The requests that are to come on connections, along a run.
use Rattle.std.proofs.Common.{◌≡◌, inl, inr, ℕ, ◌+◌, ◌-◌, ◌≤◌, ◌<◌, Bool, true, false, cond, not, eqb, ltb, leb, List, [], ◌∷◌, ◌++◌, length, drop, Option, Some, None, refl, sym, ap, ◌∙◌, subst, arith, append_assoc, length-append}
use Rattle.std.specs.List.{filter}
use Rattle.std.proofs.lemmas.Bool.{eqb-true, eqb-false, eq-eqb, ne_eqb, ltb-true, ltb-false, or_parts}
use Rattle.rip_outer.specs.declared.connections.TraceKnock.{TraceKnock}
use Rattle.rip_outer.specs.declared.connections.TraceKnock.TheVariants.{Opened, Bytes, Gone, Quiet}
use Rattle.rip_http.specs.Stream.{refuses, takes, IsNext}
use Rattle.rip_history.specs.Answering.{decided_owed}
use Rattle.rip_history.specs.Connections.{Connection, Connections, Owed, is_there, without, changed, owing, most_connections, overflows, after_knock, after_answer}
use Rattle.rip_history.specs.Run.{Site, State, first_state, Arrived, refused, message, Handling, front_of, IsFirst, taken, answered_or_owed, decided, after_arrived, after_handling, after_handlings, AreHandledSo, Advance, answered_there, progress_there, after_advance, after_advances, Coming, knocked_at, handled_at, after_turn}
use Rattle.rip_history.specs.Runs.{AreTurns}
use Rattle.rip_history.specs.declared.sessions.Progress.{Progress}
use Rattle.rip_history.specs.declared.sessions.Progress.TheVariants.{Busy, Finished}
use Rattle.rip_law_server.specs.Asked.{bytes_on, bytes_opened, next_behind, knocked, knocks_of, AreAsked, byte_count, AskNoMore, RequestsAreAsked}
use Rattle.rip_law_server.specs.Ending.{requests_in}
use Rattle.rip_law_server.proofs.Fronts.{AskAtMost, bytes_ask, taken_asks, refused_asks, requests_ask}

-- ---- connections that are there

-- a connection whose number is of these: its bytes and those that come ask at most n, of at most so many with the others
record Waits1 (low next : ℕ) (d : Connection) (ks : List TraceKnock) (n rest total : ℕ) : Type 0 where
  above : low ≤ d.number
  below : d.number < next
  asks : AskAtMost (d.unread ++ bytes_on d.number ks) n
  count : n + rest ≤ total

-- connections by number, none of which is below the first of these numbers, and each is below the second: with these knocks
-- to come they ask at most so many requests
abbrev Waits : ℕ → ℕ → List Connection → List TraceKnock → ℕ → Type 0
Waits low next [] ks total = Unit {0}
Waits low next (d ∷ cs) ks total = (n rest : ℕ) × Waits1 low next d ks n rest total × Waits (d.number + 1) next cs ks rest

more : (low low' next next' total total' : ℕ) (cs : List Connection) (ks : List TraceKnock) → low' ≤ low → next ≤ next' → total ≤ total'
    → Waits low next cs ks total → Waits low' next' cs ks total'
more low low' next next' total total' [] ks l x t w = tt
more low low' next next' total total' (d ∷ cs) ks l x t (n, rest, one, w) = (
  n,
  rest,
  record { above = omega (arith, l, one.above); below = omega (arith, x, one.below); asks = one.asks; count = omega (arith, t, one.count) },
  more (d.number + 1) (d.number + 1) next next' rest rest cs ks (omega arith) x (omega arith) w,
)

-- knocks that bring no bytes
same-knocks : (low next total : ℕ) (cs : List Connection) (ks js : List TraceKnock) → ((c : ℕ) → bytes_on c ks ≡ bytes_on c js)
    → Waits low next cs ks total → Waits low next cs js total
same-knocks low next total [] ks js e w = tt
same-knocks low next total (d ∷ cs) ks js e (n, rest, one, w) = (
  n,
  rest,
  record {
    above = one.above;
    below = one.below;
    asks = subst (λ (t : List ℕ). AskAtMost (d.unread ++ t) n) (e d.number) one.asks;
    count = one.count;
  },
  same-knocks (d.number + 1) next rest cs ks js e w,
)

-- some are forgotten
kept : (low next total : ℕ) (test : Connection → Bool) (cs : List Connection) (ks : List TraceKnock) → Waits low next cs ks total
    → Waits low next (filter test cs) ks total
kept low next total test [] ks w = tt
kept low next total test (d ∷ cs) ks (n, rest, one, w) = by (test d) (kept (d.number + 1) next rest test cs ks w)
  where
    by : (b : Bool) → Waits (d.number + 1) next (filter test cs) ks rest → Waits low next (cond b (d ∷ filter test cs) (filter test cs)) ks total
    by true behind = (n, rest, one, behind)
    by false behind = more (d.number + 1) low next next rest total (filter test cs) ks (omega (arith, one.above)) (omega arith) (omega (arith, one.count)) behind

-- an answer is owed, or not any more
owed : (low next total c : ℕ) (o : Option Owed) (cs : List Connection) (ks : List TraceKnock) → Waits low next cs ks total
    → Waits low next (changed c (λ (d : Connection). record d { owed = o }) cs) ks total
owed low next total c o [] ks w = tt
owed low next total c o (d ∷ cs) ks (n, rest, one, w) = by (eqb d.number c) (owed (d.number + 1) next rest c o cs ks w)
  where
    by : (b : Bool) → Waits (d.number + 1) next (changed c (λ (x : Connection). record x { owed = o }) cs) ks rest
        → Waits low next (cond b (record d { owed = o }) d ∷ changed c (λ (x : Connection). record x { owed = o }) cs) ks total
    by true behind = (n, rest, record { above = one.above; below = one.below; asks = one.asks; count = one.count }, behind)
    by false behind = (n, rest, one, behind)

answered : (low next total c : ℕ) (gone close : Bool) (cs : List Connection) (ks : List TraceKnock) → Waits low next cs ks total
    → Waits low next (after_answer gone close c cs) ks total
answered low next total c true close cs ks w = kept low next total (λ (d : Connection). not (eqb d.number c)) cs ks w
answered low next total c false true cs ks w = kept low next total (λ (d : Connection). not (eqb d.number c)) cs ks w
answered low next total c false false cs ks w = owed low next total c None cs ks w

-- ---- a piece comes

not-there : (c : ℕ) (d : Connection) (cs : List Connection) → is_there c (d ∷ cs) ≡ false → (eqb d.number c ≡ false) × (is_there c cs ≡ false)
not-there c d cs h = or_parts (eqb d.number c) (is_there c cs) h

-- of another connection
other-piece : (n c : ℕ) (piece : List ℕ) (ks : List TraceKnock) → eqb n c ≡ false → bytes_on n (Bytes c piece ∷ ks) ≡ bytes_on n ks
other-piece n c piece ks e = ap (λ (b : Bool). cond b (piece ++ bytes_on n ks) (bytes_on n ks)) e

own-piece : (n c : ℕ) (piece : List ℕ) (ks : List TraceKnock) → eqb n c ≡ true → bytes_on n (Bytes c piece ∷ ks) ≡ piece ++ bytes_on n ks
own-piece n c piece ks e = ap (λ (b : Bool). cond b (piece ++ bytes_on n ks) (bytes_on n ks)) e

absent-piece : (low next total c : ℕ) (piece : List ℕ) (cs : List Connection) (ks : List TraceKnock) → is_there c cs ≡ false
    → Waits low next cs (Bytes c piece ∷ ks) total → Waits low next cs ks total
absent-piece low next total c piece [] ks h w = tt
absent-piece low next total c piece (d ∷ cs) ks h (n, rest, one, w) = (
  n,
  rest,
  record {
    above = one.above;
    below = one.below;
    asks = subst (λ (t : List ℕ). AskAtMost (d.unread ++ t) n) (other-piece d.number c piece ks (not-there c d cs h).0) one.asks;
    count = one.count;
  },
  absent-piece (d.number + 1) next rest c piece cs ks (not-there c d cs h).1 w,
)

-- its connection is shut for it
shut-piece : (low next total c : ℕ) (piece : List ℕ) (cs : List Connection) (ks : List TraceKnock) → Waits low next cs (Bytes c piece ∷ ks) total
    → Waits low next (without c cs) ks total
shut-piece low next total c piece [] ks w = tt
shut-piece low next total c piece (d ∷ cs) ks (n, rest, one, w) = by (eqb d.number c) refl (shut-piece (d.number + 1) next rest c piece cs ks w)
  where
    by : (b : Bool) → eqb d.number c ≡ b → Waits (d.number + 1) next (without c cs) ks rest → Waits low next (cond (not b) (d ∷ without c cs) (without c cs)) ks total
    by true e behind = more (d.number + 1) low next next rest total (without c cs) ks (omega (arith, one.above)) (omega arith) (omega (arith, one.count)) behind
    by false e behind = (
      n,
      rest,
      record {
        above = one.above;
        below = one.below;
        asks = subst (λ (t : List ℕ). AskAtMost (d.unread ++ t) n) (other-piece d.number c piece ks e) one.asks;
        count = one.count;
      },
      behind,
    )

-- it is fed
fed-piece : (low next total c : ℕ) (piece : List ℕ) (cs : List Connection) (ks : List TraceKnock) → Waits low next cs (Bytes c piece ∷ ks) total
    → Waits low next (changed c (λ (d : Connection). record d { unread = d.unread ++ piece }) cs) ks total
fed-piece low next total c piece [] ks w = tt
fed-piece low next total c piece (d ∷ cs) ks (n, rest, one, w) = by (eqb d.number c) refl (fed-piece (d.number + 1) next rest c piece cs ks w)
  where
    by : (b : Bool) → eqb d.number c ≡ b → Waits (d.number + 1) next (changed c (λ (x : Connection). record x { unread = x.unread ++ piece }) cs) ks rest
        → Waits low next (cond b (record d { unread = d.unread ++ piece }) d ∷ changed c (λ (x : Connection). record x { unread = x.unread ++ piece }) cs) ks total
    by true e behind = (
      n,
      rest,
      record {
        above = one.above;
        below = one.below;
        asks = subst (λ (t : List ℕ). AskAtMost t n)
            (ap (λ (t : List ℕ). d.unread ++ t) (own-piece d.number c piece ks e) ∙ sym (append_assoc d.unread piece (bytes_on d.number ks))) one.asks;
        count = one.count;
      },
      behind,
    )
    by false e behind = (
      n,
      rest,
      record {
        above = one.above;
        below = one.below;
        asks = subst (λ (t : List ℕ). AskAtMost (d.unread ++ t) n) (other-piece d.number c piece ks e) one.asks;
        count = one.count;
      },
      behind,
    )

piece-comes : (next total c : ℕ) (piece : List ℕ) (k : Connections) (ks : List TraceKnock) (there over : Bool) → is_there c k.there ≡ there
    → Waits 0 next k.there (Bytes c piece ∷ ks) total
    → (let x = cond (not there) k (cond over (record k { there = without c k.there })
    (record k { there = changed c (λ (d : Connection). record d { unread = d.unread ++ piece }) k.there })) in Waits 0 next x.there ks total)
piece-comes next total c piece k ks false over e w = absent-piece 0 next total c piece k.there ks e w
piece-comes next total c piece k ks true true e w = shut-piece 0 next total c piece k.there ks w
piece-comes next total c piece k ks true false e w = fed-piece 0 next total c piece k.there ks w

-- ---- a connection is opened

push : (low next total n : ℕ) (cs : List Connection) (ks : List TraceKnock) → low ≤ next → AskAtMost (bytes_on next ks) n → Waits low next cs ks total
    → Waits low (next + 1) (cs ++ record { number = next; unread = []; owed = None } ∷ []) ks (total + n)
push low next total n [] ks le asks w = (n, 0, record { above = le; below = omega arith; asks = asks; count = omega arith }, tt)
push low next total n (d ∷ cs) ks le asks (k, rest, one, w) = (
  k,
  rest + n,
  record { above = one.above; below = omega (arith, one.below); asks = one.asks; count = omega (arith, one.count) },
  push (d.number + 1) next rest n cs ks (omega (arith, one.below)) asks w,
)

-- ---- a request is handled

-- the others are numbered from there on
first-above : (low next total : ℕ) (cs : List Connection) (ks : List TraceKnock) (h : Handling) → IsFirst cs h → Waits low next cs ks total → low ≤ h.connection
first-above low next total [] ks h first w = absurd first
first-above low next total (d ∷ cs) ks h (inl p) (n, rest, one, w) = omega (arith, one.above, p.connection)
first-above low next total (d ∷ cs) ks h (inr (quiet, first)) (n, rest, one, w) =
    let le : d.number + 1 ≤ h.connection = first-above (d.number + 1) next rest cs ks h first w in
    omega (arith, one.above, le)

-- those above a number are not changed with it
untouched : (low next total c size : ℕ) (cs : List Connection) (ks : List TraceKnock) → c < low → Waits low next cs ks total
    → Waits low next (taken c size cs) ks total
untouched low next total c size [] ks lt w = tt
untouched low next total c size (d ∷ cs) ks lt (n, rest, one, w) =
    subst (λ (b : Bool). Waits low next (cond b (record d { unread = drop size d.unread }) d ∷ taken c size cs) ks total)
    (sym (ne_eqb d.number c (λ e. omega (arith, e, lt, one.above))))
    (n, rest, one, untouched (d.number + 1) next rest c size cs ks (omega (arith, lt, one.above)) w)

-- one fewer waits
record OneFewer (low next total : ℕ) (cs : List Connection) (ks : List TraceKnock) : Type 0 where
  left : ℕ
  count : left + 1 ≤ total
  waits_on : Waits low next cs ks left

message-taken : (low next total c size : ℕ) (m : _) (cs : List Connection) (ks : List TraceKnock) (h : Handling) → h.connection ≡ c → front_of h.size h.arrived ≡ takes size m
    → IsFirst cs h → Waits low next cs ks total → OneFewer low next total (taken c size cs) ks
message-taken low next total c size m [] ks h same front first w = absurd first
message-taken low next total c size m (d ∷ cs) ks h same front (inl p) (n, rest, one, w) =
    let own : d.number ≡ c = p.connection ∙ same in
    let less = taken_asks d.unread (bytes_on d.number ks) n size m (subst (IsNext d.unread) front p.next) one.asks in
    let behind = untouched (d.number + 1) next rest c size cs ks (omega (arith, own)) w in
    record {
      left = n - 1 + rest;
      count = omega (arith, less.0, one.count);
      waits_on = subst (λ (b : Bool). Waits low next (cond b (record d { unread = drop size d.unread }) d ∷ taken c size cs) ks (n - 1 + rest)) (sym (eq-eqb d.number c own))
          (n - 1, rest, record { above = one.above; below = one.below; asks = less.1; count = omega arith }, behind);
    }
message-taken low next total c size m (d ∷ cs) ks h same front (inr (quiet, first)) (n, rest, one, w) =
    let above : d.number + 1 ≤ h.connection = first-above (d.number + 1) next rest cs ks h first w in
    let f = message-taken (d.number + 1) next rest c size m cs ks h same front first w in
    record {
      left = n + f.left;
      count = omega (arith, f.count, one.count);
      waits_on = subst (λ (b : Bool). Waits low next (cond b (record d { unread = drop size d.unread }) d ∷ taken c size cs) ks (n + f.left))
          (sym (ne_eqb d.number c (λ e. omega (arith, e, same, above))))
          (n, f.left, record { above = one.above; below = one.below; asks = one.asks; count = omega arith }, f.waits_on);
    }

head-refused : (low next total c k : ℕ) (r : _) (cs : List Connection) (ks : List TraceKnock) (h : Handling) → h.connection ≡ c → front_of h.size h.arrived ≡ refuses k r
    → IsFirst cs h → Waits low next cs ks total → OneFewer low next total (without c cs) ks
head-refused low next total c k r [] ks h same front first w = absurd first
head-refused low next total c k r (d ∷ cs) ks h same front (inl p) (n, rest, one, w) =
    let own : d.number ≡ c = p.connection ∙ same in
    let some : 1 ≤ n = refused_asks d.unread (bytes_on d.number ks) n k r (subst (IsNext d.unread) front p.next) one.asks in
    let behind = kept (d.number + 1) next rest (λ (x : Connection). not (eqb x.number c)) cs ks w in
    record {
      left = rest;
      count = omega (arith, some, one.count);
      waits_on = subst (λ (b : Bool). Waits low next (cond (not b) (d ∷ without c cs) (without c cs)) ks rest) (sym (eq-eqb d.number c own))
          (more (d.number + 1) low next next rest rest (without c cs) ks (omega (arith, one.above)) (omega arith) (omega arith) behind);
    }
head-refused low next total c k r (d ∷ cs) ks h same front (inr (quiet, first)) (n, rest, one, w) =
    let above : d.number + 1 ≤ h.connection = first-above (d.number + 1) next rest cs ks h first w in
    let f = head-refused (d.number + 1) next rest c k r cs ks h same front first w in
    record {
      left = n + f.left;
      count = omega (arith, f.count, one.count);
      waits_on = subst (λ (b : Bool). Waits low next (cond (not b) (d ∷ without c cs) (without c cs)) ks (n + f.left))
          (sym (ne_eqb d.number c (λ e. omega (arith, e, same, above))))
          (n, f.left, record { above = one.above; below = one.below; asks = one.asks; count = omega arith }, f.waits_on);
    }

-- ---- what knocks will open

abbrev pub Opens : ℕ → List TraceKnock → ℕ → Type 0
Opens next [] total = Unit {0}
Opens next (Opened c ∷ ks) total =
    (n others : ℕ) × AskAtMost (bytes_opened c next ks) n × (n + others ≤ total) × Opens (next_behind c next) ks others
Opens next (Bytes c piece ∷ ks) total = Opens next ks total
Opens next (Gone c ∷ ks) total = Opens next ks total
Opens next (Quiet ∷ ks) total = Opens next ks total

asked_opens : (next total : ℕ) (ks : List TraceKnock) → AreAsked next ks total → Opens next ks total
asked_opens next total [] a = tt
asked_opens next total (Opened c ∷ ks) (sent, last, others, requests, count, a) =
    (_, others, requests_ask (bytes_opened c next ks) sent last requests, omega (arith, count), asked_opens (next_behind c next) others ks a)
asked_opens next total (Bytes c piece ∷ ks) a = asked_opens next total ks a
asked_opens next total (Gone c ∷ ks) a = asked_opens next total ks a
asked_opens next total (Quiet ∷ ks) a = asked_opens next total ks a

-- the bytes for connections whose numbers are not below this one
abbrev bytes_from : ℕ → List TraceKnock → ℕ
bytes_from next [] = 0
bytes_from next (Opened c ∷ ks) = bytes_from next ks
bytes_from next (Bytes c piece ∷ ks) = cond (ltb c next) 0 (length piece) + bytes_from next ks
bytes_from next (Gone c ∷ ks) = bytes_from next ks
bytes_from next (Quiet ∷ ks) = bytes_from next ks

from-piece : (c next more rest own : ℕ) (a b e : Bool) → ltb c next ≡ a → ltb c (next + 1) ≡ b → eqb next c ≡ e → (piece bytes : List ℕ)
    → more ≡ length bytes + rest → cond a 0 (length piece) + more ≡ length (cond e (piece ++ bytes) bytes) + (cond b 0 (length piece) + rest)
from-piece c next more rest own true true true x y z piece bytes h =
    absurd (omega (arith, ltb-true c next x, eqb-true next c z))
from-piece c next more rest own true true false x y z piece bytes h = omega (arith, h)
from-piece c next more rest own true false e x y z piece bytes h =
    absurd (omega (arith, ltb-true c next x, ltb-false c (next + 1) y))
from-piece c next more rest own false true true x y z piece bytes h = omega (arith, h, length-append piece bytes)
from-piece c next more rest own false true false x y z piece bytes h =
    absurd (omega (arith, ltb-false c next x, ltb-true c (next + 1) y, eqb-false next c z))
from-piece c next more rest own false false true x y z piece bytes h =
    absurd (omega (arith, ltb-false c (next + 1) y, eqb-true next c z))
from-piece c next more rest own false false false x y z piece bytes h = omega (arith, h)

from-next : (next : ℕ) (ks : List TraceKnock) → bytes_from next ks ≡ length (bytes_on next ks) + bytes_from (next + 1) ks
from-next next [] = refl
from-next next (Opened c ∷ ks) = from-next next ks
from-next next (Bytes c piece ∷ ks) =
    from-piece c next (bytes_from next ks) (bytes_from (next + 1) ks) 0 (ltb c next) (ltb c (next + 1)) (eqb next c) refl refl refl piece (bytes_on next ks) (from-next next ks)
from-next next (Gone c ∷ ks) = from-next next ks
from-next next (Quiet ∷ ks) = from-next next ks

from-zero : (ks : List TraceKnock) → bytes_from 0 ks ≤ byte_count ks
from-zero [] = omega arith
from-zero (Opened c ∷ ks) = from-zero ks
from-zero (Bytes c piece ∷ ks) = by (ltb c 0) (from-zero ks)
  where
    by : (b : Bool) → bytes_from 0 ks ≤ byte_count ks → cond b 0 (length piece) + bytes_from 0 ks ≤ length piece + byte_count ks
    by true le = omega (arith, le)
    by false le = omega (arith, le)
from-zero (Gone c ∷ ks) = from-zero ks
from-zero (Quiet ∷ ks) = from-zero ks

bytes-open : (next total : ℕ) (ks : List TraceKnock) → bytes_from next ks ≤ total → Opens next ks total
bytes-open next total [] le = tt
bytes-open next total (Opened c ∷ ks) le =
    by (eqb c next) refl (bytes-open next total ks le) (bytes-open (next + 1) (bytes_from (next + 1) ks) ks (omega arith))
  where
    by : (b : Bool) → eqb c next ≡ b → Opens next ks total → Opens (next + 1) ks (bytes_from (next + 1) ks)
        → (n others : ℕ) × AskAtMost (cond b (bytes_on c ks) []) n × (n + others ≤ total) × Opens (cond b (next + 1) next) ks others
    by true e here behind =
        let own : c ≡ next = eqb-true c next e in (
          length (bytes_on c ks),
          bytes_from (next + 1) ks,
          bytes_ask (bytes_on c ks),
          omega (arith, le, from-next next ks, ap (λ (n : ℕ). length (bytes_on n ks)) own),
          behind,
        )
    by false e here behind = (0, total, bytes_ask [], omega arith, here)
bytes-open next total (Bytes c piece ∷ ks) le = bytes-open next total ks (omega (arith, le))
bytes-open next total (Gone c ∷ ks) le = bytes-open next total ks le
bytes-open next total (Quiet ∷ ks) le = bytes-open next total ks le

-- what is no more than a bound
pub bound_opens : (total : ℕ) (ks : List TraceKnock) → AskNoMore ks total → Opens 0 ks total
bound_opens total ks (inl asked) = asked_opens 0 total ks asked
bound_opens total ks (inr few) =
    (let le : bytes_from 0 ks ≤ byte_count ks = from-zero ks in bytes-open 0 total ks (omega (arith, le, few)))

-- ---- a turn

-- the connections that are there, and those that knocks will open, ask at most so many requests
record Asks (k : Connections) (ks : List TraceKnock) (total : ℕ) : Type 0 where
  there : ℕ
  later : ℕ
  waits_there : Waits 0 k.opened k.there ks there
  opens_later : Opens k.opened ks later
  count : there + later ≤ total

opened-asks : (c : ℕ) (k : Connections) (ks : List TraceKnock) (total : ℕ) (next full : Bool) → eqb c k.opened ≡ next → Asks k (Opened c ∷ ks) total
    → Asks (cond (not next) k (cond full (record k { opened = k.opened + 1 })
    (record { opened = k.opened + 1; there = k.there ++ record { number = c; unread = []; owed = None } ∷ [] }))) ks total
opened-asks c k ks total false full e a =
    let (n, others, asks, count, opens) = a.opens_later in
    record {
      there = a.there;
      later = others;
      waits_there = same-knocks 0 k.opened a.there k.there (Opened c ∷ ks) ks (λ x. refl) a.waits_there;
      opens_later = subst (λ (b : Bool). Opens (cond b (k.opened + 1) k.opened) ks others) e opens;
      count = omega (arith, a.count, count);
    }
opened-asks c k ks total true true e a =
    let (n, others, asks, count, opens) = a.opens_later in
    record {
      there = a.there;
      later = others;
      waits_there = more 0 0 k.opened (k.opened + 1) a.there a.there k.there ks (omega arith) (omega arith) (omega arith)
          (same-knocks 0 k.opened a.there k.there (Opened c ∷ ks) ks (λ x. refl) a.waits_there);
      opens_later = subst (λ (b : Bool). Opens (cond b (k.opened + 1) k.opened) ks others) e opens;
      count = omega (arith, a.count, count);
    }
opened-asks c k ks total true false e a =
    let (n, others, asks, count, opens) = a.opens_later in
    let own : c ≡ k.opened = eqb-true c k.opened e in
    let bytes : AskAtMost (bytes_on k.opened ks) n =
    subst (λ (x : ℕ). AskAtMost (bytes_on x ks) n) own (subst (λ (b : Bool). AskAtMost (cond b (bytes_on c ks) []) n) e asks) in
    record {
      there = a.there + n;
      later = others;
      waits_there = subst (λ (x : ℕ). Waits 0 (k.opened + 1) (k.there ++ record { number = x; unread = []; owed = None } ∷ []) ks (a.there + n)) (sym own)
          (push 0 k.opened a.there n k.there ks (omega arith) bytes
          (same-knocks 0 k.opened a.there k.there (Opened c ∷ ks) ks (λ x. refl) a.waits_there));
      opens_later = subst (λ (b : Bool). Opens (cond b (k.opened + 1) k.opened) ks others) e opens;
      count = omega (arith, a.count, count);
    }

piece-opened : (c : ℕ) (piece : List ℕ) (k : Connections) (there over : Bool)
    → (let x = cond (not there) k (cond over (record k { there = without c k.there })
    (record k { there = changed c (λ (d : Connection). record d { unread = d.unread ++ piece }) k.there })) in x.opened) ≡ k.opened
piece-opened c piece k false over = refl
piece-opened c piece k true true = refl
piece-opened c piece k true false = refl

-- after a knock
knock-asks : (knock : Option TraceKnock) (k : Connections) (ks : List TraceKnock) (total : ℕ) → Asks k (knocked knock ++ ks) total → Asks (after_knock knock k) ks total
knock-asks None k ks total a = a
knock-asks (Some (Opened c)) k ks total a = opened-asks c k ks total (eqb c k.opened) (leb most_connections (length k.there)) refl a
knock-asks (Some (Bytes c piece)) k ks total a =
    let there = is_there c k.there in
    let over = overflows c piece k in
    let same = piece-opened c piece k there over in
    record {
      there = a.there;
      later = a.later;
      waits_there = subst (λ (n : ℕ). Waits 0 n (let x = after_knock (Some (Bytes c piece)) k in x.there) ks a.there) (sym same)
          (piece-comes k.opened a.there c piece k ks there over refl a.waits_there);
      opens_later = subst (λ (n : ℕ). Opens n ks a.later) (sym same) a.opens_later;
      count = a.count;
    }
knock-asks (Some (Gone c)) k ks total a = record {
  there = a.there;
  later = a.later;
  waits_there = kept 0 k.opened a.there (λ (d : Connection). not (eqb d.number c)) k.there ks
      (same-knocks 0 k.opened a.there k.there (Gone c ∷ ks) ks (λ x. refl) a.waits_there);
  opens_later = a.opens_later;
  count = a.count;
}
knock-asks (Some Quiet) k ks total a = record {
  there = a.there;
  later = a.later;
  waits_there = same-knocks 0 k.opened a.there k.there (Quiet ∷ ks) ks (λ x. refl) a.waits_there;
  opens_later = a.opens_later;
  count = a.count;
}

decided-waits : (low next total c : ℕ) (gone close : Bool) (o : Option ℕ) (cs : List Connection) (ks : List TraceKnock) → Waits low next cs ks total
    → Waits low next (answered_or_owed c gone close o cs) ks total
decided-waits low next total c gone close None cs ks w = answered low next total c gone close cs ks w
decided-waits low next total c gone close (Some n) cs ks w = owed low next total c (Some (record { session = n; close = close })) cs ks w

refused-answer : (c : ℕ) (gone : Bool) (cs : List Connection) → after_answer gone true c cs ≡ without c cs
refused-answer c true cs = refl
refused-answer c false cs = refl

-- a request is handled: one fewer is asked
record Handled (k : Connections) (ks : List TraceKnock) (total : ℕ) : Type 0 where
  left : ℕ
  count : left + 1 ≤ total
  asks : Asks k ks left

arrived-asks : (site : Site) (turn moment c size : ℕ) (gone : Bool) (s : State) (a : Arrived) (h : Handling) (ks : List TraceKnock) (total : ℕ) → h.connection ≡ c
    → front_of h.size h.arrived ≡ front_of size a → IsFirst (let k = s.connections in k.there) h → Asks s.connections ks total
    → Handled (let x = after_arrived site turn moment c size gone s a in x.connections) ks total
arrived-asks site turn moment c size gone s (refused r) h ks total same front first a =
    let k = s.connections in
    let f = head-refused 0 k.opened a.there c size r k.there ks h same front first a.waits_there in
    record {
      left = f.left + a.later;
      count = omega (arith, f.count, a.count);
      asks = record {
        there = f.left;
        later = a.later;
        waits_there = subst (λ (cs : List Connection). Waits 0 k.opened cs ks f.left) (sym (refused-answer c gone k.there)) f.waits_on;
        opens_later = a.opens_later;
        count = omega arith;
      };
    }
arrived-asks site turn moment c size gone s (message m x) h ks total same front first a =
    let k = s.connections in
    let f = message-taken 0 k.opened a.there c size m k.there ks h same front first a.waits_there in
    record {
      left = f.left + a.later;
      count = omega (arith, f.count, a.count);
      asks = record {
        there = f.left;
        later = a.later;
        waits_there = decided-waits 0 k.opened f.left c gone m.close (decided_owed (decided site.limit s.history x)) (taken c size k.there) ks f.waits_on;
        opens_later = a.opens_later;
        count = omega arith;
      };
    }

-- after requests are handled there are fewer by as many
record AllHandled (k : Connections) (ks : List TraceKnock) (total many : ℕ) : Type 0 where
  left : ℕ
  count : left + many ≤ total
  asks : Asks k ks left

handled-asks : (site : Site) (turn moment : ℕ) (s : State) (hs : List Handling) (ks : List TraceKnock) (total : ℕ) → AreHandledSo site turn moment s hs
    → Asks s.connections ks total → AllHandled (let x = after_handlings site turn moment s hs in x.connections) ks total (length hs)
handled-asks site turn moment s [] ks total so a = record { left = total; count = omega arith; asks = a }
handled-asks site turn moment s (h ∷ hs) ks total so a =
    let first = arrived-asks site turn moment h.connection h.size h.gone s h.arrived h ks total refl refl so.0 a in
    let others = handled-asks site turn moment (after_handling site turn moment s h) hs ks first.left so.1 first.asks in
    record { left = others.left; count = omega (arith, others.count, first.count); asks = others.asks }

there-waits : (low next total : ℕ) (gone : Bool) (o : Option (ℕ × Bool)) (cs : List Connection) (ks : List TraceKnock) → Waits low next cs ks total
    → Waits low next (answered_there gone o cs) ks total
there-waits low next total gone None cs ks w = w
there-waits low next total gone (Some (c, close)) cs ks w = answered low next total c gone close cs ks w

progress-waits : (low next total : ℕ) (gone : Bool) (n : ℕ) (p : Progress) (cs : List Connection) (ks : List TraceKnock) → Waits low next cs ks total
    → Waits low next (progress_there gone n p cs) ks total
progress-waits low next total gone n Busy cs ks w = w
progress-waits low next total gone n (Finished how) cs ks w = there-waits low next total gone (owing n cs) cs ks w

advanced-asks : (turn : ℕ) (s : State) (rest : List Advance) (ks : List TraceKnock) (total : ℕ) → Asks s.connections ks total
    → Asks (let x = after_advances turn s rest in x.connections) ks total
advanced-asks turn s [] ks total a = a
advanced-asks turn s (v ∷ rest) ks total a =
    let k = s.connections in
    advanced-asks turn (after_advance turn s v) rest ks total (record {
      there = a.there;
      later = a.later;
      waits_there = progress-waits 0 k.opened a.there v.gone v.session v.progress k.there ks a.waits_there;
      opens_later = a.opens_later;
      count = a.count;
    })

-- ---- a run

turns-ask : (site : Site) (turn : ℕ) (s : State) (ts : List Coming) (total : ℕ) → AreTurns site turn s ts → Asks s.connections (knocks_of ts) total → requests_in ts ≤ total
turns-ask site turn s [] total are a = omega arith
turns-ask site turn s (t ∷ ts) total are a =
    let ks = knocks_of ts in
    let x = handled_at site turn t s in
    let f = handled-asks site turn t.moment (knocked_at t s) t.handlings ks total (let is = are.0 in is.handled) (knock-asks t.knock s.connections ks total a) in
    let rest : requests_in ts ≤ f.left = turns-ask site (turn + 1) (after_turn site turn t s) ts f.left are.1 (advanced-asks turn x t.advances ks f.left f.asks) in
    omega (arith, rest, f.count)

pub opens_bound : (site : Site) (ts : List Coming) (total : ℕ) → AreTurns site 1 first_state ts → Opens 0 (knocks_of ts) total → requests_in ts ≤ total
opens_bound site ts total are opens =
    turns-ask site 1 first_state ts total are (record { there = 0; later = total; waits_there = tt; opens_later = opens; count = omega arith })

pub requests_are_asked : RequestsAreAsked
requests_are_asked site ts total are asked = opens_bound site ts total are (bound_opens total (knocks_of ts) asked)
