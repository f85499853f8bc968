-- What came is handled to the end: each request more wants memory, and its answer finds the connection gone.
use Rattle.std.proofs.Common.{◌≡◌, inl, inr, ℕ, zero, suc, ◌+◌, ◌≤◌, ◌<◌, Bool, true, false, cond, not, eqb, List, [], ◌∷◌, ◌++◌, drop, length, Option, Some, None, refl, sym, ap, ◌∙◌, subst, arith, append_assoc}
use Rattle.std.specs.Prelude.{is_some}
use Rattle.std.specs.List.{cons_option}
use Rattle.std.proofs.lemmas.Bool.{true≢false, eq-eqb}
use Rattle.rip_http.specs.Stream.{IsNext, Next, refuses, takes, waits}
use Rattle.rip_http.specs.declared.request.Message.{Message}
use Rattle.rip_http.specs.declared.request.RefusedHead.{RefusedHead}
use Rattle.rip_history.specs.Connections.{Act, Connection, Owed, without}
use Rattle.rip_history.specs.Course.{Handled, HandledDraw}
use Rattle.rip_history.specs.Requests.{early, page}
use Rattle.rip_history.specs.Run.{AreHandledSo, AreQuiet, Arrived, Handling, IsFirst, IsQuiet, Site, State, after_arrived, after_handling, after_handlings, asked_in, asked_of, handling_acts, handlings_acts, message, refused, taken}
use Rattle.rip_law_server.proofs.GoingDeciding.{next_of}

-- a head that is refused, or a request for the page that wants memory, found on a connection that is gone
abbrev lost_refusal : ℕ → ℕ → RefusedHead → Handling
lost_refusal c n r = record { connection = c; size = n; arrived = refused r; gone = true }

abbrev lost_request : ℕ → ℕ → Message → Handling
lost_request c n m = record {
  connection = c;
  size = n;
  arrived = message m (record { asked = page; drawn = record { id = 0; seed = 0 }; lack = early });
  gone = true;
}

data First (cs : List Connection) : Type 0 where
  quiet : AreQuiet cs → First cs
  refusal : (c n : ℕ) (r : RefusedHead) → IsFirst cs (lost_refusal c n r) → First cs
  request : (c n : ℕ) (m : Message) → IsFirst cs (lost_request c n m) → First cs

-- ---- the first that has something to handle

behind-quiet : (c : Connection) (cs : List Connection) → IsQuiet c → First cs → First (c ∷ cs)
behind-quiet c cs q (quiet all) = quiet (q, all)
behind-quiet c cs q (refusal d n r f) = refusal d n r (inr (q, f))
behind-quiet c cs q (request d n m f) = request d n m (inr (q, f))

by-next : (c : Connection) (cs : List Connection) → c.owed ≡ None → (next : Next) → IsNext c.unread next → First cs → First (c ∷ cs)
by-next c cs free waits is rest = behind-quiet c cs (inr is) rest
by-next c cs free (refuses n r) is rest = refusal c.number n r (inl record { connection = refl; free = free; next = is; asked = tt })
by-next c cs free (takes n m) is rest = request c.number n m (inl record { connection = refl; free = free; next = is; asked = inl refl })

by-owed : (c : Connection) (cs : List Connection) (o : Option Owed) → c.owed ≡ o → First cs → First (c ∷ cs)
by-owed c cs None e rest = let next = next_of c.unread in by-next c cs e next.0 next.1 rest
by-owed c cs (Some o) e rest = behind-quiet c cs (inl (λ none. true≢false (ap (λ (x : Option Owed). is_some x) (sym e ∙ none)))) rest

first-of : (cs : List Connection) → First cs
first-of [] = quiet tt
first-of (c ∷ cs) = by-owed c cs c.owed refl (first-of cs)

-- ---- one connection less

fewer : (c : ℕ) (cs : List Connection) → length (without c cs) ≤ length cs
fewer c [] = omega arith
fewer c (d ∷ cs) = by (eqb d.number c) (fewer c cs)
  where
    by : (b : Bool) → length (without c cs) ≤ length cs → length (cond (not b) (d ∷ without c cs) (without c cs)) ≤ suc (length cs)
    by true le = omega (arith, le)
    by false le = omega (arith, le)

less : (cs : List Connection) (h : Handling) → IsFirst cs h → length (without h.connection cs) < length cs
less [] h f = absurd f
less (d ∷ cs) h (inl at) =
    let le = fewer h.connection cs in
    subst (λ (b : Bool). length (cond (not b) (d ∷ without h.connection cs) (without h.connection cs)) < suc (length cs))
    (sym (eq-eqb d.number h.connection at.connection)) (omega (arith, le))
less (d ∷ cs) h (inr (q, f)) = by (eqb d.number h.connection) (less cs h f)
  where
    by : (b : Bool) → length (without h.connection cs) < length cs
        → length (cond (not b) (d ∷ without h.connection cs) (without h.connection cs)) < suc (length cs)
    by true lt = omega (arith, lt)
    by false lt = omega (arith, lt)

same-step : (c n : ℕ) (d : Connection) (b : Bool) (xs ys : List Connection) → length xs ≡ length ys
    → (let e = cond b (record d { unread = drop n d.unread }) d in length (cond (not (eqb e.number c)) (e ∷ xs) xs))
    ≡ length (cond (not (eqb d.number c)) (d ∷ ys) ys)
same-step c n d b xs ys same = by b (eqb d.number c)
  where
    other : Bool → Connection
    other b = cond b (record d { unread = drop n d.unread }) d

    number : (b : Bool) → (let e = other b in e.number) ≡ d.number
    number true = refl
    number false = refl

    count : (b t : Bool) → length (cond (not t) (other b ∷ xs) xs) ≡ length (cond (not t) (d ∷ ys) ys)
    count b true = same
    count b false = ap suc same

    by : (b t : Bool) → length (cond (not (eqb (let e = other b in e.number) c)) (other b ∷ xs) xs) ≡ length (cond (not (eqb d.number c)) (d ∷ ys) ys)
    by b t = ap (λ (k : ℕ). length (cond (not (eqb k c)) (other b ∷ xs) xs)) (number b) ∙ count b (eqb d.number c)

same-count : (c n : ℕ) (cs : List Connection) → length (without c (taken c n cs)) ≡ length (without c cs)
same-count c n [] = refl
same-count c n (d ∷ cs) = same-step c n d (eqb d.number c) (without c (taken c n cs)) (without c cs) (same-count c n cs)

-- ---- to the end

pub record Finishes (site : Site) (turn moment : ℕ) (s : State) : Type 0 where
  pub handlings : List Handling
  pub handled : AreHandledSo site turn moment s handlings
  pub quiet : AreQuiet (let x = after_handlings site turn moment s handlings in let k = x.connections in k.there)
  pub draws : (words : List ℕ) → HandledDraw site.limit turn moment s.history (asked_in handlings) words words

finish-step : (site : Site) (turn moment : ℕ) (s : State) → First (let k = s.connections in k.there)
    → ((x : State) → length (let k = x.connections in k.there) < length (let k = s.connections in k.there) → Finishes site turn moment x)
    → Finishes site turn moment s
finish-step site turn moment s (quiet q) go = record { handlings = []; handled = tt; quiet = q; draws = λ words. refl }
finish-step site turn moment s (refusal c n r f) go =
    let h = lost_refusal c n r in
    let g = go (after_handling site turn moment s h) (less (let k = s.connections in k.there) h f) in
    record { handlings = h ∷ g.handlings; handled = (f, g.handled); quiet = g.quiet; draws = g.draws }
finish-step site turn moment s (request c n m f) go =
    let h = lost_request c n m in
    let cs = (let k = s.connections in k.there) in
    let g = go (after_handling site turn moment s h) (subst (λ (count : ℕ). count < length cs) (sym (same-count c n cs)) (less cs h f)) in
    record { handlings = h ∷ g.handlings; handled = (f, g.handled); quiet = g.quiet; draws = λ words. (words, refl, g.draws words) }

pub finishes : (site : Site) (turn moment fuel : ℕ) (s : State) → length (let k = s.connections in k.there) ≤ fuel → Finishes site turn moment s
finishes site turn moment zero s le =
    finish-step site turn moment s (first-of (let k = s.connections in k.there)) (λ x lt. absurd (omega (arith, le, lt)))
finishes site turn moment (suc fuel) s le =
    finish-step site turn moment s (first-of (let k = s.connections in k.there)) (λ x lt. finishes site turn moment fuel x (omega (arith, le, lt)))

-- ---- more requests behind others

pub handled-join : (site : Site) (turn moment : ℕ) (s : State) (hs more : List Handling) → AreHandledSo site turn moment s hs
    → AreHandledSo site turn moment (after_handlings site turn moment s hs) more → AreHandledSo site turn moment s (hs ++ more)
handled-join site turn moment s [] more a b = b
handled-join site turn moment s (h ∷ hs) more a b = (a.0, handled-join site turn moment (after_handling site turn moment s h) hs more a.1 b)

pub after-join : (site : Site) (turn moment : ℕ) (s : State) (hs more : List Handling)
    → after_handlings site turn moment s (hs ++ more) ≡ after_handlings site turn moment (after_handlings site turn moment s hs) more
after-join site turn moment s [] more = refl
after-join site turn moment s (h ∷ hs) more = after-join site turn moment (after_handling site turn moment s h) hs more

pub acts-join : (site : Site) (turn moment : ℕ) (s : State) (hs more : List Handling)
    → handlings_acts site turn moment s (hs ++ more)
    ≡ handlings_acts site turn moment s hs ++ handlings_acts site turn moment (after_handlings site turn moment s hs) more
acts-join site turn moment s [] more = refl
acts-join site turn moment s (h ∷ hs) more =
    let x = after_handling site turn moment s h in
    ap (λ (acts : List Act). handling_acts site turn moment s h ++ acts) (acts-join site turn moment x hs more)
    ∙ sym (append_assoc (handling_acts site turn moment s h) (handlings_acts site turn moment x hs)
    (handlings_acts site turn moment (after_handlings site turn moment x hs) more))

draw-step : (site : Site) (turn moment c size : ℕ) (gone : Bool) (s : State) (a : Arrived) (xs ys : List Handled) (words left last : List ℕ)
    → HandledDraw site.limit turn moment s.history (cons_option (asked_of a) xs) words left
    → ((ws : List ℕ) → HandledDraw site.limit turn moment (let x = after_arrived site turn moment c size gone s a in x.history) xs ws left
    → HandledDraw site.limit turn moment (let x = after_arrived site turn moment c size gone s a in x.history) ys ws last)
    → HandledDraw site.limit turn moment s.history (cons_option (asked_of a) ys) words last
draw-step site turn moment c size gone s (refused r) xs ys words left last e go = go words e
draw-step site turn moment c size gone s (message m x) xs ys words left last (behind, d, rest) go = (behind, d, go behind rest)

pub draws-join : (site : Site) (turn moment : ℕ) (s : State) (hs more : List Handling) (words left last : List ℕ)
    → HandledDraw site.limit turn moment s.history (asked_in hs) words left
    → HandledDraw site.limit turn moment (let x = after_handlings site turn moment s hs in x.history) (asked_in more) left last
    → HandledDraw site.limit turn moment s.history (asked_in (hs ++ more)) words last
draws-join site turn moment s [] more words left last e d =
    subst (λ (ws : List ℕ). HandledDraw site.limit turn moment s.history (asked_in more) ws last) (sym e) d
draws-join site turn moment s (h ∷ hs) more words left last e d =
    draw-step site turn moment h.connection h.size h.gone s h.arrived (asked_in hs) (asked_in (hs ++ more)) words left last e
    (λ ws rest. draws-join site turn moment (after_handling site turn moment s h) hs more ws left last rest d)
