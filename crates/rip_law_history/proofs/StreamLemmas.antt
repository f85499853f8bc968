-- The bytes of a connection through the turns of a run.
use Rattle.std.proofs.Common.{◌≡◌, inl, inr, ℕ, zero, suc, ◌+◌, ◌≤◌, Bool, true, false, cond, not, ◌&&◌, ◌||◌, eqb, leb, List, [], ◌∷◌, ◌++◌, length, drop, Option, Some, None, refl, sym, ap, ◌∙◌, subst, arith, append-nil, append_assoc}
use Rattle.std.specs.List.{AllByRecursion, filter}
use Rattle.std.proofs.lemmas.Bool.{false≢true, eqb-true, eq-eqb, ne_eqb, or_parts, or_from}
use Rattle.std.proofs.lemmas.List.Folds.{list_any-append}
use Rattle.rip_http.proofs.StreamLemmas.{cuts}
use Rattle.rip_http.specs.Stream.{waits, takes, IsNext, Deed, fed, took, Does}
use Rattle.rip_http.specs.declared.request.Message.{Message}
use Rattle.rip_outer.specs.declared.connections.TraceKnock.{TraceKnock}
use Rattle.rip_outer.specs.declared.connections.TraceKnock.TheVariants.{Opened, Bytes, Gone, Quiet}
use Rattle.rip_history.specs.Answering.{decided_owed}
use Rattle.rip_history.specs.Connections.{Connection, Connections, Owed, is_there, unread_of, without, changed, owing, most_connections, after_opened, overflows, after_knock, after_answer}
use Rattle.rip_history.specs.Run.{Site, State, first_state, Arrived, refused, message, Handling, IsQuiet, AreQuiet, front_of, IsFirst, taken, answered_or_owed, decided, after_arrived, after_handling, after_handlings, AreHandledSo, Advance, answered_there, progress_there, after_advance, after_advances, Coming, knocked_at, handled_at, after_turn, IsTurn}
use Rattle.rip_history.specs.Runs.{after_turns, AreTurns}
use Rattle.rip_history.specs.declared.sessions.Progress.{Progress}
use Rattle.rip_history.specs.declared.sessions.Progress.TheVariants.{Busy, Finished}
use Rattle.rip_law_history.specs.Streams.{fed_by, took_by, taken_on, deeds_on, StreamsAreHandled, deeds_up_to, IsServed, NothingIsLeft}
use Rattle.rip_law_history.proofs.WholeMadeLemmas.{all-join}

does-join : (u : List ℕ) (ds es : List Deed) (v w : List ℕ) → Does u ds v → Does v es w → Does u (ds ++ es) w
does-join u [] es v w p q = subst (λ (x : List ℕ). Does x es w) (sym p) q
does-join u (fed piece ∷ ds) es v w p q = does-join (u ++ piece) ds es v w p q
does-join u (took s ∷ ds) es v w p q = (p.0, does-join (drop s.size u) ds es v w p.1 q)

-- each of the connections with this number has these bytes that are not taken
abbrev HasLeft : ℕ → List ℕ → Connection → Type 0
HasLeft c rest d = eqb d.number c ≡ true → d.unread ≡ rest

abbrev AllHave : ℕ → List ℕ → List Connection → Type 0
AllHave c rest cs = AllByRecursion (HasLeft c rest) cs

-- what was done with a connection left these bytes, which those that are there have; nothing was done with one that was not
-- opened, and it is not there
record Follows (c : ℕ) (k : Connections) (ds : List Deed) : Type 0 where
  left : List ℕ
  does : Does [] ds left
  each : AllHave c left k.there
  fresh : k.opened ≤ c → (left ≡ []) × (is_there c k.there ≡ false)

-- ---- lists of connections

keep-all : (P : Connection → Type 0) (test : Connection → Bool) (cs : List Connection) → AllByRecursion P cs → AllByRecursion P (filter test cs)
keep-all P test [] h = tt
keep-all P test (d ∷ cs) h = by (test d) (keep-all P test cs h.1)
  where
    by : (b : Bool) → AllByRecursion P (filter test cs) → AllByRecursion P (cond b (d ∷ filter test cs) (filter test cs))
    by true r = (h.0, r)
    by false r = r

keep-absent : (c : ℕ) (test : Connection → Bool) (cs : List Connection) → is_there c cs ≡ false → is_there c (filter test cs) ≡ false
keep-absent c test [] h = refl
keep-absent c test (d ∷ cs) h =
    let both = or_parts (eqb d.number c) (is_there c cs) h in
    by (test d) both.0 (keep-absent c test cs both.1)
  where
    by : (b : Bool) → eqb d.number c ≡ false → is_there c (filter test cs) ≡ false → is_there c (cond b (d ∷ filter test cs) (filter test cs)) ≡ false
    by true e r = or_from (eqb d.number c) (is_there c (filter test cs)) e r
    by false e r = r

change-one : (P Q : Connection → Type 0) (f : Connection → Connection) (d : Connection) (b : Bool) → (b ≡ true → P d → Q (f d)) → (b ≡ false → P d → Q d) → P d
    → Q (cond b (f d) d)
change-one P Q f d true hit miss p = hit refl p
change-one P Q f d false hit miss p = miss refl p

change-all : (P Q : Connection → Type 0) (c : ℕ) (f : Connection → Connection)
    → ((d : Connection) → eqb d.number c ≡ true → P d → Q (f d)) → ((d : Connection) → eqb d.number c ≡ false → P d → Q d)
    → (cs : List Connection) → AllByRecursion P cs → AllByRecursion Q (changed c f cs)
change-all P Q c f hit miss [] h = tt
change-all P Q c f hit miss (d ∷ cs) h = (change-one P Q f d (eqb d.number c) (hit d) (miss d) h.0, change-all P Q c f hit miss cs h.1)

change-absent : (c e : ℕ) (f : Connection → Connection) → ((d : Connection) → (let x = f d in x.number) ≡ d.number) → (cs : List Connection)
    → is_there c (changed e f cs) ≡ is_there c cs
change-absent c e f same [] = refl
change-absent c e f same (d ∷ cs) =
    (λ i. eqb (number (eqb d.number e) i) c || change-absent c e f same cs i)
  where
    number : (b : Bool) → (let x = cond b (f d) d in x.number) ≡ d.number
    number true = same d
    number false = refl

-- ---- steps that leave the bytes as they are

-- such lists of connections
record Leaves (c : ℕ) (old new : List Connection) : Type 0 where
  each : (rest : List ℕ) → AllHave c rest old → AllHave c rest new
  absent : is_there c old ≡ false → is_there c new ≡ false

leaves-without : (c e : ℕ) (cs : List Connection) → Leaves c cs (without e cs)
leaves-without c e cs = record {
  each = λ rest h. keep-all (HasLeft c rest) (λ (d : Connection). not (eqb d.number e)) cs h;
  absent = λ h. keep-absent c (λ (d : Connection). not (eqb d.number e)) cs h;
}

leaves-owed : (c e : ℕ) (o : Option Owed) (cs : List Connection) → Leaves c cs (changed e (λ (d : Connection). record d { owed = o }) cs)
leaves-owed c e o cs = record {
  each = λ rest h. change-all (HasLeft c rest) (HasLeft c rest) e (λ (d : Connection). record d { owed = o }) (λ d same p. p) (λ d other p. p) cs h;
  absent = λ h. change-absent c e (λ (d : Connection). record d { owed = o }) (λ d. refl) cs ∙ h;
}

leaves-answer : (c e : ℕ) (gone close : Bool) (cs : List Connection) → Leaves c cs (after_answer gone close e cs)
leaves-answer c e true close cs = leaves-without c e cs
leaves-answer c e false true cs = leaves-without c e cs
leaves-answer c e false false cs = leaves-owed c e None cs

leaves-decided : (c e : ℕ) (gone close : Bool) (o : Option ℕ) (cs : List Connection) → Leaves c cs (answered_or_owed e gone close o cs)
leaves-decided c e gone close None cs = leaves-answer c e gone close cs
leaves-decided c e gone close (Some n) cs = leaves-owed c e (Some (record { session = n; close = close })) cs

leaves-none : (c : ℕ) (cs : List Connection) → Leaves c cs cs
leaves-none c cs = record { each = λ rest h. h; absent = λ h. h }

leaves-answered : (c : ℕ) (gone : Bool) (o : Option (ℕ × Bool)) (cs : List Connection) → Leaves c cs (answered_there gone o cs)
leaves-answered c gone None cs = leaves-none c cs
leaves-answered c gone (Some (e, close)) cs = leaves-answer c e gone close cs

leaves-progress : (c : ℕ) (gone : Bool) (n : ℕ) (p : Progress) (cs : List Connection) → Leaves c cs (progress_there gone n p cs)
leaves-progress c gone n Busy cs = leaves-none c cs
leaves-progress c gone n (Finished how) cs = leaves-answered c gone (owing n cs) cs

left-so : (c : ℕ) (k : Connections) (cs : List Connection) (ds : List Deed) → Leaves c k.there cs → Follows c k ds → Follows c (record k { there = cs }) ds
left-so c k cs ds l f = record {
  left = f.left;
  does = f.does;
  each = l.each f.left f.each;
  fresh = λ le. ((f.fresh le).0, l.absent (f.fresh le).1);
}

same-deeds : (c : ℕ) (k : Connections) (ds : List Deed) → Follows c k ds → Follows c k (ds ++ [])
same-deeds c k ds f = subst (λ (es : List Deed). Follows c k es) (sym (append-nil ds)) f

-- ---- a knock

opened-follows : (c d : ℕ) (k : Connections) (ds : List Deed) (next full : Bool) → eqb d k.opened ≡ next → Follows c k ds
    → Follows c (cond (not next) k (cond full (record k { opened = k.opened + 1 })
    (record { opened = k.opened + 1; there = k.there ++ record { number = d; unread = []; owed = None } ∷ [] }))) ds
opened-follows c d k ds false full e f = f
opened-follows c d k ds true true e f = record {
  left = f.left;
  does = f.does;
  each = f.each;
  fresh = λ le. f.fresh (omega (arith, le));
}
opened-follows c d k ds true false e f = record {
  left = f.left;
  does = f.does;
  each = all-join (HasLeft c f.left) k.there (record { number = d; unread = []; owed = None } ∷ []) f.each
      ((λ same. sym (f.fresh (omega (arith, eqb-true d k.opened e, eqb-true d c same))).0), tt);
  fresh = λ le. (
    (f.fresh (omega (arith, le))).0,
    list_any-append (λ (x : Connection). eqb x.number c) k.there (record { number = d; unread = []; owed = None } ∷ [])
        ∙ or_from (is_there c k.there) (eqb d c || false) (f.fresh (omega (arith, le))).1
        (or_from (eqb d c) false (ne_eqb d c (λ same. omega (arith, same, eqb-true d k.opened e, le))) refl),
  );
}

fed-follows : (c d : ℕ) (piece : List ℕ) (k : Connections) (ds : List Deed) (here there over : Bool) → eqb d c ≡ here → is_there d k.there ≡ there → Follows c k ds
    → Follows c (cond (not there) k (cond over (record k { there = without d k.there })
    (record k { there = changed d (λ (x : Connection). record x { unread = x.unread ++ piece }) k.there })))
    (ds ++ cond (here && (there && not over)) (fed piece ∷ []) [])
fed-follows c d piece k ds true false over e t f = same-deeds c k ds f
fed-follows c d piece k ds false false over e t f = same-deeds c k ds f
fed-follows c d piece k ds true true true e t f = same-deeds c (record k { there = without d k.there }) ds (left-so c k (without d k.there) ds (leaves-without c d k.there) f)
fed-follows c d piece k ds false true true e t f = same-deeds c (record k { there = without d k.there }) ds (left-so c k (without d k.there) ds (leaves-without c d k.there) f)
fed-follows c d piece k ds true true false e t f =
    let more : Connection → Connection = λ x. record x { unread = x.unread ++ piece } in
    record {
      left = f.left ++ piece;
      does = does-join [] ds (fed piece ∷ []) f.left (f.left ++ piece) f.does refl;
      each = change-all (HasLeft c f.left) (HasLeft c (f.left ++ piece)) d more
          (λ x same p is. ap (λ (t : List ℕ). t ++ piece) (p is))
          (λ x other p is. absurd (false≢true (sym other ∙ eq-eqb x.number d (eqb-true x.number c is ∙ sym (eqb-true d c e)))))
          k.there f.each;
      fresh = λ le. absurd (false≢true (sym (f.fresh le).1 ∙ ap (λ (n : ℕ). is_there n k.there) (sym (eqb-true d c e)) ∙ t));
    }
fed-follows c d piece k ds false true false e t f =
    let more : Connection → Connection = λ x. record x { unread = x.unread ++ piece } in
    same-deeds c (record k { there = changed d more k.there }) ds record {
      left = f.left;
      does = f.does;
      each = change-all (HasLeft c f.left) (HasLeft c f.left) d more
          (λ x same p is. absurd (false≢true (sym e ∙ eq-eqb d c (sym (eqb-true x.number d same) ∙ eqb-true x.number c is))))
          (λ x other p. p) k.there f.each;
      fresh = λ le. ((f.fresh le).0, change-absent c d more (λ x. refl) k.there ∙ (f.fresh le).1);
    }

knock-follows : (c : ℕ) (knock : Option TraceKnock) (k : Connections) (ds : List Deed) → Follows c k ds
    → Follows c (after_knock knock k) (ds ++ fed_by c knock k)
knock-follows c None k ds f = same-deeds c k ds f
knock-follows c (Some (Opened d)) k ds f =
    same-deeds c (after_opened d k) ds (opened-follows c d k ds (eqb d k.opened) (leb most_connections (length k.there)) refl f)
knock-follows c (Some (Bytes d piece)) k ds f =
    fed-follows c d piece k ds (eqb d c) (is_there d k.there) (overflows d piece k) refl refl f
knock-follows c (Some (Gone d)) k ds f =
    same-deeds c (record k { there = without d k.there }) ds (left-so c k (without d k.there) ds (leaves-without c d k.there) f)
knock-follows c (Some Quiet) k ds f = same-deeds c k ds f

-- ---- a request

-- what the first connection with something to handle has
first-has : (c : ℕ) (rest : List ℕ) (cs : List Connection) (h : Handling) → IsFirst cs h → AllHave c rest cs → eqb h.connection c ≡ true
    → IsNext rest (front_of h.size h.arrived)
first-has c rest [] h first have same = absurd first
first-has c rest (d ∷ cs) h (inl p) have same =
    subst (λ (bytes : List ℕ). IsNext bytes (front_of h.size h.arrived)) (have.0 (ap (λ (n : ℕ). eqb n c) p.connection ∙ same)) p.next
first-has c rest (d ∷ cs) h (inr (quiet, more)) have same = first-has c rest cs h more have.1 same

abbrev nothing : List ℕ
nothing = []

abbrev no_deeds : List Deed
no_deeds = []

drop_none : (n : ℕ) → drop n nothing ≡ nothing
drop_none zero = refl
drop_none (suc n) = refl

-- a message is taken
taken-follows : (c e size : ℕ) (m : Message) (k : Connections) (ds : List Deed) (here : Bool) → eqb e c ≡ here
    → (eqb e c ≡ true → (rest : List ℕ) → AllHave c rest k.there → IsNext rest (takes size m))
    → Follows c k ds → Follows c (record k { there = taken e size k.there }) (ds ++ cond here (took (record { message = m; size = size }) ∷ []) [])
taken-follows c e size m k ds true is next f =
    let less : Connection → Connection = λ x. record x { unread = drop size x.unread } in
    record {
      left = drop size f.left;
      does = does-join [] ds (took (record { message = m; size = size }) ∷ []) f.left (drop size f.left) f.does (next is f.left f.each, refl);
      each = change-all (HasLeft c f.left) (HasLeft c (drop size f.left)) e less
          (λ x same p at. ap (drop size) (p at))
          (λ x other p at. absurd (false≢true (sym other ∙ eq-eqb x.number e (eqb-true x.number c at ∙ sym (eqb-true e c is)))))
          k.there f.each;
      fresh = λ le.
          (ap (drop size) (f.fresh le).0 ∙ drop_none size, change-absent c e less (λ x. refl) k.there ∙ (f.fresh le).1);
    }
taken-follows c e size m k ds false is next f =
    let less : Connection → Connection = λ x. record x { unread = drop size x.unread } in
    same-deeds c (record k { there = taken e size k.there }) ds record {
      left = f.left;
      does = f.does;
      each = change-all (HasLeft c f.left) (HasLeft c f.left) e less
          (λ x same p at. absurd (false≢true (sym is ∙ eq-eqb e c (sym (eqb-true x.number e same) ∙ eqb-true x.number c at))))
          (λ x other p. p) k.there f.each;
      fresh = λ le. ((f.fresh le).0, change-absent c e less (λ x. refl) k.there ∙ (f.fresh le).1);
    }

none-taken : (b : Bool) → cond b no_deeds no_deeds ≡ no_deeds
none-taken true = refl
none-taken false = refl

arrived-follows : (site : Site) (c turn moment e size : ℕ) (gone : Bool) (s : State) (a : Arrived) (ds : List Deed)
    → (eqb e c ≡ true → (rest : List ℕ) → AllHave c rest (let k = s.connections in k.there) → IsNext rest (front_of size a))
    → Follows c s.connections ds
    → Follows c (let x = after_arrived site turn moment e size gone s a in x.connections) (ds ++ cond (eqb e c) (took_by size a) [])
arrived-follows site c turn moment e size gone s (refused r) ds next f =
    let k = s.connections in
    let cs = after_answer gone true e k.there in
    subst (λ (es : List Deed). Follows c (record k { there = cs }) (ds ++ es)) (sym (none-taken (eqb e c)))
    (same-deeds c (record k { there = cs }) ds (left-so c k cs ds (leaves-answer c e gone true k.there) f))
arrived-follows site c turn moment e size gone s (message m x) ds next f =
    let k = s.connections in
    let t = record k { there = taken e size k.there } in
    let d = decided site.limit s.history x in
    left-so c t (answered_or_owed e gone m.close (decided_owed d) t.there) (ds ++ cond (eqb e c) (took (record { message = m; size = size }) ∷ []) [])
    (leaves-decided c e gone m.close (decided_owed d) t.there)
    (taken-follows c e size m k ds (eqb e c) refl next f)

handled-follows : (site : Site) (c turn moment : ℕ) (s : State) (hs : List Handling) (ds : List Deed) → AreHandledSo site turn moment s hs
    → Follows c s.connections ds
    → Follows c (let x = after_handlings site turn moment s hs in x.connections) (ds ++ taken_on c hs)
handled-follows site c turn moment s [] ds p f = same-deeds c s.connections ds f
handled-follows site c turn moment s (h ∷ hs) ds p f =
    let one = cond (eqb h.connection c) (took_by h.size h.arrived) [] in
    let next = after_handling site turn moment s h in
    let k = s.connections in
    subst (λ (es : List Deed). Follows c (let x = after_handlings site turn moment next hs in x.connections) es) (append_assoc ds one (taken_on c hs))
    (handled-follows site c turn moment next hs (ds ++ one) p.1
    (arrived-follows site c turn moment h.connection h.size h.gone s h.arrived ds
    (λ same rest have. first-has c rest k.there h p.0 have same) f))

-- ---- the sessions, turns, runs

advanced-follows : (c turn : ℕ) (s : State) (rest : List Advance) (ds : List Deed) → Follows c s.connections ds
    → Follows c (let x = after_advances turn s rest in x.connections) ds
advanced-follows c turn s [] ds f = f
advanced-follows c turn s (a ∷ rest) ds f =
    let k = s.connections in
    advanced-follows c turn (after_advance turn s a) rest ds
    (left-so c k (progress_there a.gone a.session a.progress k.there) ds (leaves-progress c a.gone a.session a.progress k.there) f)

turns-follow : (site : Site) (c turn : ℕ) (s : State) (ts : List Coming) (ds : List Deed) → AreTurns site turn s ts → Follows c s.connections ds
    → Follows c (let x = after_turns site turn s ts in x.connections) (ds ++ deeds_on site c turn s ts)
turns-follow site c turn s [] ds p f = same-deeds c s.connections ds f
turns-follow site c turn s (t ∷ ts) ds (here, rest) f =
    let fed = fed_by c t.knock s.connections in
    let took = taken_on c t.handlings in
    let next = after_turn site turn t s in
    subst (λ (es : List Deed). Follows c (let x = after_turns site (turn + 1) next ts in x.connections) es)
    (append_assoc ds (fed ++ took) (deeds_on site c (turn + 1) next ts))
    (turns-follow site c (turn + 1) next ts (ds ++ (fed ++ took)) rest
    (advanced-follows c turn (handled_at site turn t s) t.advances (ds ++ (fed ++ took))
    (subst (λ (es : List Deed). Follows c (let x = handled_at site turn t s in x.connections) es) (append_assoc ds fed took)
    (handled-follows site c turn t.moment (knocked_at t s) t.handlings (ds ++ fed) here.handled
    (knock-follows c t.knock s.connections ds f)))))

unread-is : (c : ℕ) (rest : List ℕ) (cs : List Connection) → AllHave c rest cs → is_there c cs ≡ true → rest ≡ unread_of c cs
unread-is c rest [] have there = absurd (false≢true there)
unread-is c rest (d ∷ cs) have there = by (eqb d.number c) refl there (unread-is c rest cs have.1)
  where
    by : (b : Bool) → eqb d.number c ≡ b → (b || is_there c cs) ≡ true → (is_there c cs ≡ true → rest ≡ unread_of c cs)
        → rest ≡ cond b d.unread (unread_of c cs)
    by true e t more = sym (have.0 e)
    by false e t more = more t

pub streams_are_handled : StreamsAreHandled
streams_are_handled site ts c turns =
    let k = (after_turns site 1 first_state ts).connections in
    let f = turns-follow site c 1 first_state ts [] turns (record { left = []; does = refl; each = tt; fresh = λ le. (refl, refl) }) in
    record { left = f.left; does = f.does; unread = λ there. unread-is c f.left k.there f.each there }

-- ---- nothing is left

-- at the point of a turn where no connection has anything to handle
follows-handled : (site : Site) (c : ℕ) (ts : List Coming) (t : Coming) → AreTurns site 1 first_state ts
    → IsTurn site (length ts + 1) (after_turns site 1 first_state ts) t
    → Follows c (let x = handled_at site (length ts + 1) t (after_turns site 1 first_state ts) in x.connections) (deeds_up_to site c ts t)
follows-handled site c ts t turns is =
    let s = after_turns site 1 first_state ts in
    let before = deeds_on site c 1 first_state ts in
    let fed = fed_by c t.knock s.connections in
    let took = taken_on c t.handlings in
    subst (λ (es : List Deed). Follows c (let x = handled_at site (length ts + 1) t s in x.connections) es) (append_assoc before fed took)
    (handled-follows site c (length ts + 1) t.moment (knocked_at t s) t.handlings (before ++ fed) is.handled
    (knock-follows c t.knock s.connections before
    (turns-follow site c 1 first_state ts [] turns (record { left = []; does = refl; each = tt; fresh = λ le. (refl, refl) }))))

served-all : (site : Site) (ts : List Coming) (t : Coming) (left : ℕ → List ℕ) (cs : List Connection)
    → ((c : ℕ) → Does [] (deeds_up_to site c ts t) (left c)) → ((c : ℕ) → AllHave c (left c) cs) → AreQuiet cs → AllByRecursion (IsServed site ts t) cs
served-all site ts t left [] does have quiet = tt
served-all site ts t left (d ∷ cs) does have quiet = (by quiet.0, served-all site ts t left cs does (λ c. (have c).1) quiet.1)
  where
    by : IsQuiet d → IsServed site ts t d
    by (inl owed) = inl owed
    by (inr next) =
        inr (cuts (deeds_up_to site d.number ts t) (left d.number) waits (does d.number)
        (subst (λ (bytes : List ℕ). IsNext bytes waits) ((have d.number).0 (eq-eqb d.number d.number refl)) next) tt)

pub nothing_is_left : NothingIsLeft
nothing_is_left site ts t turns is =
    let k = (handled_at site (length ts + 1) t (after_turns site 1 first_state ts)).connections in
    served-all site ts t (λ c. let f = follows-handled site c ts t turns is in f.left) k.there
    (λ c. let f = follows-handled site c ts t turns is in f.does) (λ c. let f = follows-handled site c ts t turns is in f.each) is.all
