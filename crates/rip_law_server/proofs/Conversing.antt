-- The answers of a connection along a run.
use Rattle.std.proofs.Common.{◌≡◌, ◌⊎◌, inl, inr, ℕ, ◌+◌, ◌<◌, ◌≤◌, Bool, true, false, cond, not, ◌&&◌, ◌||◌, eqb, leb, List, [], ◌∷◌, ◌++◌, length, Option, Some, None, refl, sym, ap, ◌∙◌, subst, arith, append-nil, append_assoc}
use Rattle.std.specs.List.{AllByRecursion, cons_option}
use Rattle.std.proofs.lemmas.Bool.{eq-eqb, eqb-true, eqb-false, ne_eqb, or_from, or_left, or_right}
use Rattle.std.proofs.lemmas.List.Folds.{list_any-append}
use Rattle.rip_http.specs.Answers.{answer_text}
use Rattle.rip_http.specs.Stream.{Deed, Sent, all_taken, fed, took}
use Rattle.rip_http.specs.declared.answer.HttpAnswer.{HttpAnswer}
use Rattle.rip_outer.specs.declared.connections.TraceKnock.{TraceKnock}
use Rattle.rip_outer.specs.declared.connections.TraceKnock.TheVariants.{Opened, Bytes, Gone, Quiet}
use Rattle.rip_log.specs.Entries.{Recorded, done}
use Rattle.rip_history.specs.Connections.{Act, Connection, Connections, Owed, after_answer, after_knock, all_put, answer_acts, changed, is_there, knock_acts, loses, most_connections, overflows, sent_in, shuts, without}
use Rattle.rip_history.specs.Requests.{Decision, answers, opens, admits, closes}
use Rattle.rip_history.specs.Run.{Arrived, Coming, Handling, Site, State, after_handling, after_turn, answered_or_owed, decided, knocked_at, message, refused}
use Rattle.rip_history.specs.Standings.{is_busy, standing_of}
use Rattle.rip_history.specs.declared.standing.Standing.{Standing}
use Rattle.rip_law_history.specs.Streams.{deeds_on, fed_by, taken_on, took_by}
use Rattle.rip_serve.proofs.TellLemmas.{sent-append}
use Rattle.rip_law_server.specs.Conversation.{AreAnswers, IsAnswerOf, IsAnswerTo, IsBatchAnswer, Received, is_loss, messages_of, received_from, received_in, sent_of, waits_for, was_lost}
use Rattle.rip_law_server.proofs.Owing.{all_changed, all_push, all_without}

-- ---- the messages of a connection are those that were taken

pub taken-join : (xs ys : List Deed) → all_taken (xs ++ ys) ≡ all_taken xs ++ all_taken ys
taken-join [] ys = refl
taken-join (fed piece ∷ xs) ys = taken-join xs ys
taken-join (took s ∷ xs) ys = ap (λ (t : List Sent). s ∷ t) (taken-join xs ys)

pub none-fed : (c : ℕ) (knock : Option TraceKnock) (k : Connections) → all_taken (fed_by c knock k) ≡ []
none-fed c None k = refl
none-fed c (Some (Opened d)) k = refl
none-fed c (Some (Bytes d piece)) k = by (eqb d c && (is_there d k.there && not (overflows d piece k)))
  where
    by : (b : Bool) → all_taken (cond b (fed piece ∷ []) []) ≡ []
    by true = refl
    by false = refl
none-fed c (Some (Gone d)) k = refl
none-fed c (Some Quiet) k = refl

pub messages-join : (xs ys : List Received) → messages_of (xs ++ ys) ≡ messages_of xs ++ messages_of ys
messages-join [] ys = refl
messages-join (x ∷ xs) ys = by (sent_of x.size x.arrived) (messages-join xs ys)
  where
    by : (o : Option Sent) → messages_of (xs ++ ys) ≡ messages_of xs ++ messages_of ys
        → cons_option o (messages_of (xs ++ ys)) ≡ cons_option o (messages_of xs) ++ messages_of ys
    by None e = e
    by (Some s) e = ap (λ (t : List Sent). s ∷ t) e

pub messages-one : (b : Bool) (r : Received) (rs : List Received) (ds : List Deed) → messages_of rs ≡ all_taken ds
    → messages_of (cond b (r ∷ []) [] ++ rs) ≡ all_taken (cond b (took_by r.size r.arrived) [] ++ ds)
messages-one false r rs ds e = e
messages-one true r rs ds e = by r.arrived
  where
    by : (a : Arrived) → cons_option (sent_of r.size a) (messages_of rs) ≡ all_taken (took_by r.size a ++ ds)
    by (refused head) = e
    by (message m x) = ap (λ (t : List Sent). record { message = m; size = r.size } ∷ t) e

pub messages-in : (site : Site) (c turn moment : ℕ) (s : State) (hs : List Handling) → messages_of (received_in site c turn moment s hs) ≡ all_taken (taken_on c hs)
messages-in site c turn moment s [] = refl
messages-in site c turn moment s (h ∷ hs) =
    let next = after_handling site turn moment s h in
    messages-one (eqb h.connection c) (record { before = s.history; size = h.size; arrived = h.arrived }) (received_in site c turn moment next hs) (taken_on c hs)
    (messages-in site c turn moment next hs)

pub messages-from : (site : Site) (c turn : ℕ) (s : State) (ts : List Coming) → messages_of (received_from site c turn s ts) ≡ all_taken (deeds_on site c turn s ts)
messages-from site c turn s [] = refl
messages-from site c turn s (t ∷ ts) =
    let next = after_turn site turn t s in
    let here = fed_by c t.knock s.connections in
    let took = taken_on c t.handlings in
    let more = deeds_on site c (turn + 1) next ts in
    messages-join (received_in site c turn t.moment (knocked_at t s) t.handlings) (received_from site c (turn + 1) next ts)
    ∙ (λ i. messages-in site c turn t.moment (knocked_at t s) t.handlings i ++ messages-from site c (turn + 1) next ts i)
    ∙ sym (taken-join (here ++ took) more ∙ ap (λ (x : List Sent). x ++ all_taken more) (taken-join here took ∙ ap (λ (x : List Sent). x ++ all_taken took) (none-fed c t.knock s.connections)))

-- ---- answers that are sent

pub sent-put : (c : ℕ) (es : List Recorded) (acts : List Act) → sent_in c (all_put es ++ acts) ≡ sent_in c acts
sent-put c [] acts = refl
sent-put c (e ∷ es) acts = sent-put c es acts

pub sent-own : (c : ℕ) (close : Bool) (bytes : List ℕ) → sent_in c (answer_acts false close c bytes) ≡ bytes
sent-own c true bytes = ap (λ (b : Bool). cond b (bytes ++ []) []) (eq-eqb c c refl) ∙ append-nil bytes
sent-own c false bytes = ap (λ (b : Bool). cond b (bytes ++ []) []) (eq-eqb c c refl) ∙ append-nil bytes

pub sent-other : (c e : ℕ) (gone close : Bool) (bytes : List ℕ) → (e ≡ c → ⊥) → sent_in c (answer_acts gone close e bytes) ≡ []
sent-other c e true close bytes other = refl
sent-other c e false true bytes other = ap (λ (b : Bool). cond b (bytes ++ []) []) (ne_eqb e c other)
sent-other c e false false bytes other = ap (λ (b : Bool). cond b (bytes ++ []) []) (ne_eqb e c other)

pub lost-more : (c : ℕ) (acts more : List Act) → was_lost c acts ≡ true → was_lost c (acts ++ more) ≡ true
lost-more c acts more is = list_any-append (is_loss c) acts more ∙ or_left (was_lost c acts) (was_lost c more) is

pub lost-own : (c : ℕ) (acts : List Act) (es : List Recorded) → was_lost c (acts ++ (all_put es ++ loses c ∷ [])) ≡ true
lost-own c acts es =
    list_any-append (is_loss c) acts (all_put es ++ loses c ∷ [])
    ∙ or_right (was_lost c acts) (was_lost c (all_put es ++ loses c ∷ []))
    (list_any-append (is_loss c) (all_put es) (loses c ∷ []) ∙ or_right (was_lost c (all_put es)) (was_lost c (loses c ∷ [])) (or_left (eqb c c) false (eq-eqb c c refl)))

-- they stay so, whatever comes to the history
pub answer-more : (site : Site) (h es before : List Recorded) (x : Arrived) (a : HttpAnswer) → IsAnswerTo site h before x a → IsAnswerTo site (h ++ es) before x a
answer-more site h es before (refused r) a is = is
answer-more site h es before (message m x) a is = by (decided site.limit before x) is
  where
    batch : (n number : ℕ) → IsBatchAnswer site.page h m.close n number a → IsBatchAnswer site.page (h ++ es) m.close n number a
    batch n number b = record {
      turn = b.turn;
      how = b.how;
      before = b.before;
      behind = b.behind ++ es;
      is = ap (λ (t : List Recorded). t ++ es) b.is ∙ append_assoc (b.before ++ done b.turn n number b.how ∷ []) b.behind es;
      first = b.first;
      answer = b.answer;
    }

    by : (d : Decision) → IsAnswerOf site h m.close d a → IsAnswerOf site (h ++ es) m.close d a
    by (answers code body) is = is
    by (opens n id seed) is = batch n 0 is
    by (admits n b) is = batch n b.number is
    by (closes n body) is = is

pub answers-more : (site : Site) (h es : List Recorded) (rs : List Received) (bytes : List ℕ) → AreAnswers site h rs bytes → AreAnswers site (h ++ es) rs bytes
answers-more site h es [] bytes are = are
answers-more site h es (r ∷ rs) bytes (a, rest, is, parts, more) = (a, rest, answer-more site h es r.before r.arrived a is, parts, answers-more site h es rs rest more)

-- one more
pub answers-push : (site : Site) (h : List Recorded) (rs : List Received) (bytes : List ℕ) (r : Received) (a : HttpAnswer) → AreAnswers site h rs bytes
    → IsAnswerTo site h r.before r.arrived a → AreAnswers site h (rs ++ r ∷ []) (bytes ++ answer_text a)
answers-push site h [] bytes r a none is = (a, [], is, ap (λ (t : List ℕ). t ++ answer_text a) none ∙ sym (append-nil (answer_text a)), refl)
answers-push site h (x ∷ rs) bytes r a (b, rest, own, parts, more) is = (
  b,
  rest ++ answer_text a,
  own,
  ap (λ (t : List ℕ). t ++ answer_text a) parts ∙ append_assoc (answer_text b) rest (answer_text a),
  answers-push site h rs rest r a more is,
)

-- ---- how a connection stands

abbrev pub OwedAt : ℕ → Option Owed → Connection → Type 0
OwedAt c o d = d.number ≡ c → d.owed ≡ o

abbrev pub AllOwedAt : ℕ → Option Owed → List Connection → Type 0
AllOwedAt c o cs = AllByRecursion (OwedAt c o) cs

-- the last batch of the session has this number, and is not done
pub record IsBusyWith (n number : ℕ) (h : List Recorded) : Type 0 where
  pub standing : Standing
  pub stands : standing_of n h ≡ Some standing
  pub busy : is_busy standing ≡ true
  pub last : standing.last ≡ number

-- a request is answered when that is done
pub record Waits (site : Site) (r : Received) (o : Owed) (number : ℕ) : Type 0 where
  pub gives : (h : List Recorded) (a : HttpAnswer) → IsBatchAnswer site.page h o.close o.session number a → IsAnswerTo site h r.before r.arrived a
  pub later : waits_for site r.before r.arrived ≡ true

pub record Pending (site : Site) (c : ℕ) (h : List Recorded) (next : ℕ) (cs : List Connection) (r : Received) : Type 0 where
  pub owed : Owed
  pub number : ℕ
  pub there : is_there c cs ≡ true
  pub below : c < next
  pub each : AllOwedAt c (Some owed) cs
  pub waits : Waits site r owed number
  pub busy : IsBusyWith owed.session number h

pub record Over (site : Site) (c next : ℕ) (cs : List Connection) (acts : List Act) (r : Received) : Type 0 where
  pub away : is_there c cs ≡ false
  pub below : c < next
  pub why : (waits_for site r.before r.arrived ≡ true) ⊎ (was_lost c acts ≡ true)

-- all requests are answered; or all but the last, whose answer is owed, or whose connection is there no more
pub data Stand (site : Site) (c : ℕ) (h : List Recorded) (next : ℕ) (cs : List Connection) (acts : List Act) : Type 0 where
  free : AllOwedAt c None cs → Stand site c h next cs acts
  pending : (r : Received) → Pending site c h next cs r → Stand site c h next cs acts
  over : (r : Received) → Over site c next cs acts r → Stand site c h next cs acts

abbrev pub left_of : {site : Site} {c : ℕ} {h : List Recorded} {next : ℕ} {cs : List Connection} {acts : List Act} → Stand site c h next cs acts → List Received
left_of (free f) = []
left_of (pending r p) = r ∷ []
left_of (over r o) = r ∷ []

pub record Conv (site : Site) (c : ℕ) (h : List Recorded) (next : ℕ) (cs : List Connection) (acts : List Act) (rs : List Received) : Type 0 where
  pub answered : List Received
  pub stand : Stand site c h next cs acts
  pub parts : rs ≡ answered ++ left_of stand
  pub sent : AreAnswers site h answered (sent_in c acts)

-- nothing more is sent on it
pub sent-none : (site : Site) (c : ℕ) (h es : List Recorded) (rs : List Received) (acts more : List Act) → sent_in c more ≡ [] → AreAnswers site h rs (sent_in c acts)
    → AreAnswers site (h ++ es) rs (sent_in c (acts ++ more))
sent-none site c h es rs acts more none are =
    subst (AreAnswers site (h ++ es) rs) (sym (sent-append c acts more ∙ ap (λ (t : List ℕ). sent_in c acts ++ t) none ∙ append-nil (sent_in c acts)))
    (answers-more site h es rs (sent_in c acts) are)

-- ---- lists of connections that change beside one

pub record Beside (c : ℕ) (old new : List Connection) : Type 0 where
  pub each : (o : Option Owed) → AllOwedAt c o old → AllOwedAt c o new
  pub there : is_there c new ≡ is_there c old

pub beside-none : (c : ℕ) (cs : List Connection) → Beside c cs cs
beside-none c cs = record { each = λ o all. all; there = refl }

pub beside-then : (c : ℕ) (xs ys zs : List Connection) → Beside c xs ys → Beside c ys zs → Beside c xs zs
beside-then c xs ys zs a b = record { each = λ o all. b.each o (a.each o all); there = b.there ∙ a.there }

pub there-without : (c e : ℕ) (cs : List Connection) → (e ≡ c → ⊥) → is_there c (without e cs) ≡ is_there c cs
there-without c e [] other = refl
there-without c e (d ∷ cs) other = by (eqb d.number e) refl (there-without c e cs other)
  where
    by : (b : Bool) → eqb d.number e ≡ b → is_there c (without e cs) ≡ is_there c cs
        → is_there c (cond (not b) (d ∷ without e cs) (without e cs)) ≡ (eqb d.number c || is_there c cs)
    by true is same =
        same ∙ sym (ap (λ (t : Bool). t || is_there c cs) (ne_eqb d.number c (λ own. other (sym (eqb-true d.number e is) ∙ own))))
    by false is same = ap (λ (t : Bool). eqb d.number c || t) same

pub away-without : (c : ℕ) (cs : List Connection) → is_there c (without c cs) ≡ false
away-without c [] = refl
away-without c (d ∷ cs) = by (eqb d.number c) refl (away-without c cs)
  where
    by : (b : Bool) → eqb d.number c ≡ b → is_there c (without c cs) ≡ false → is_there c (cond (not b) (d ∷ without c cs) (without c cs)) ≡ false
    by true is rest = rest
    by false is rest = or_from (eqb d.number c) (is_there c (without c cs)) is rest

pub there-changed : (c e : ℕ) (f : Connection → Connection) → ((d : Connection) → (let x = f d in x.number) ≡ d.number) → (cs : List Connection)
    → is_there c (changed e f cs) ≡ is_there c cs
there-changed c e f same [] = refl
there-changed c e f same (d ∷ cs) = (λ i. eqb (number (eqb d.number e) i) c || there-changed c e f same cs i)
  where
    number : (b : Bool) → (let x = cond b (f d) d in x.number) ≡ d.number
    number true = same d
    number false = refl

pub beside-without : (c e : ℕ) (cs : List Connection) → (e ≡ c → ⊥) → Beside c cs (without e cs)
beside-without c e cs other = record { each = λ o all. all_without (OwedAt c o) e cs all; there = there-without c e cs other }

pub beside-owed : (c e : ℕ) (o : Option Owed) (cs : List Connection) → (e ≡ c → ⊥) → Beside c cs (changed e (λ (d : Connection). record d { owed = o }) cs)
beside-owed c e o cs other = record {
  each = λ p all.
      all_changed (OwedAt c p) (OwedAt c p) e (λ (d : Connection). record d { owed = o }) (λ d at own is. absurd (other (sym own ∙ is))) (λ d at apart. at) cs all;
  there = there-changed c e (λ (d : Connection). record d { owed = o }) (λ d. refl) cs;
}

pub beside-read : (c e : ℕ) (f : List ℕ → List ℕ) (cs : List Connection) → Beside c cs (changed e (λ (d : Connection). record d { unread = f d.unread }) cs)
beside-read c e f cs = record {
  each = λ p all.
      all_changed (OwedAt c p) (OwedAt c p) e (λ (d : Connection). record d { unread = f d.unread }) (λ d at own. at) (λ d at apart. at) cs all;
  there = there-changed c e (λ (d : Connection). record d { unread = f d.unread }) (λ d. refl) cs;
}

pub beside-answer : (c e : ℕ) (gone close : Bool) (cs : List Connection) → (e ≡ c → ⊥) → Beside c cs (after_answer gone close e cs)
beside-answer c e true close cs other = beside-without c e cs other
beside-answer c e false true cs other = beside-without c e cs other
beside-answer c e false false cs other = beside-owed c e None cs other

pub beside-decided : (c e : ℕ) (gone close : Bool) (o : Option ℕ) (cs : List Connection) → (e ≡ c → ⊥) → Beside c cs (answered_or_owed e gone close o cs)
beside-decided c e gone close None cs other = beside-answer c e gone close cs other
beside-decided c e gone close (Some n) cs other = beside-owed c e (Some (record { session = n; close = close })) cs other

-- the batch for which an answer is owed is not done in this history either
abbrev pub Keeps : {site : Site} {c : ℕ} {h : List Recorded} {next : ℕ} {cs : List Connection} {acts : List Act} → List Recorded → Stand site c h next cs acts → Type 0
Keeps g (free f) = Unit {0}
Keeps g (pending r p) = IsBusyWith (let o = p.owed in o.session) p.number g
Keeps g (over r o) = Unit {0}

pub keeps-all : (site : Site) (c : ℕ) (h g : List Recorded) (next : ℕ) (cs : List Connection) (acts : List Act) → ((n number : ℕ) → IsBusyWith n number h → IsBusyWith n number g)
    → (st : Stand site c h next cs acts) → Keeps g st
keeps-all site c h g next cs acts go (free f) = tt
keeps-all site c h g next cs acts go (pending r p) = go (let o = p.owed in o.session) p.number p.busy
keeps-all site c h g next cs acts go (over r o) = tt

-- what is done beside it changes nothing of how it stands
pub conv-beside : (site : Site) (c : ℕ) (h es : List Recorded) (next next' : ℕ) (cs cs' : List Connection) (acts more : List Act) (answered rs : List Received)
    → next ≤ next' → Beside c cs cs' → sent_in c more ≡ [] → AreAnswers site h answered (sent_in c acts)
    → (st : Stand site c h next cs acts) → rs ≡ answered ++ left_of st → Keeps (h ++ es) st → Conv site c (h ++ es) next' cs' (acts ++ more) rs
conv-beside site c h es next next' cs cs' acts more answered rs le b none are (free f) e keeps = record {
  answered = answered;
  stand = free (b.each None f);
  parts = e;
  sent = sent-none site c h es answered acts more none are;
}
conv-beside site c h es next next' cs cs' acts more answered rs le b none are (pending r p) e keeps = record {
  answered = answered;
  stand = pending r record {
    owed = p.owed;
    number = p.number;
    there = b.there ∙ p.there;
    below = (let lt = p.below in omega (arith, lt, le));
    each = b.each (Some p.owed) p.each;
    waits = p.waits;
    busy = keeps;
  };
  parts = e;
  sent = sent-none site c h es answered acts more none are;
}
conv-beside site c h es next next' cs cs' acts more answered rs le b none are (over r o) e keeps = record {
  answered = answered;
  stand = over r record { away = b.there ∙ o.away; below = (let lt = o.below in omega (arith, lt, le)); why = why o.why };
  parts = e;
  sent = sent-none site c h es answered acts more none are;
}
  where
    why : (waits_for site r.before r.arrived ≡ true) ⊎ (was_lost c acts ≡ true)
        → (waits_for site r.before r.arrived ≡ true) ⊎ (was_lost c (acts ++ more) ≡ true)
    why (inl later) = inl later
    why (inr lost) = inr (lost-more c acts more lost)

-- so where the history is as it was
pub conv-still : (site : Site) (c : ℕ) (h : List Recorded) (next next' : ℕ) (cs cs' : List Connection) (acts more : List Act) (rs : List Received)
    → next ≤ next' → Beside c cs cs' → sent_in c more ≡ [] → Conv site c h next cs acts rs → Conv site c h next' cs' (acts ++ more) rs
conv-still site c h next next' cs cs' acts more rs le b none v =
    subst (λ (g : List Recorded). Conv site c g next' cs' (acts ++ more) rs) (append-nil h)
    (conv-beside site c h [] next next' cs cs' acts more v.answered rs le b none v.sent v.stand v.parts
    (keeps-all site c h (h ++ []) next cs acts (λ n number k. subst (IsBusyWith n number) (sym (append-nil h)) k) v.stand))

-- it is there no more
pub conv-gone : (site : Site) (c : ℕ) (h : List Recorded) (next : ℕ) (cs : List Connection) (acts more : List Act) (rs : List Received) → sent_in c more ≡ []
    → Conv site c h next cs acts rs → Conv site c h next (without c cs) (acts ++ more) rs
conv-gone site c h next cs acts more rs none v = by v.stand v.parts
  where
    sent : AreAnswers site h v.answered (sent_in c (acts ++ more))
    sent = subst (λ (g : List Recorded). AreAnswers site g v.answered (sent_in c (acts ++ more))) (append-nil h) (sent-none site c h [] v.answered acts more none v.sent)

    by : (st : Stand site c h next cs acts) → rs ≡ v.answered ++ left_of st → Conv site c h next (without c cs) (acts ++ more) rs
    by (free f) e = record { answered = v.answered; stand = free (all_without (OwedAt c None) c cs f); parts = e; sent = sent }
    by (pending r p) e = record {
      answered = v.answered;
      stand = over r record { away = away-without c cs; below = p.below; why = (let w = p.waits in inl w.later) };
      parts = e;
      sent = sent;
    }
    by (over r o) e = record {
      answered = v.answered;
      stand = over r record { away = away-without c cs; below = o.below; why = why o.why };
      parts = e;
      sent = sent;
    }
      where
        why : (waits_for site r.before r.arrived ≡ true) ⊎ (was_lost c acts ≡ true)
            → (waits_for site r.before r.arrived ≡ true) ⊎ (was_lost c (acts ++ more) ≡ true)
        why (inl later) = inl later
        why (inr lost) = inr (lost-more c acts more lost)

-- ---- a knock

pub conv-push : (site : Site) (c : ℕ) (h : List Recorded) (next : ℕ) (cs : List Connection) (acts more : List Act) (rs : List Received) (d : ℕ) → d ≡ next → sent_in c more ≡ []
    → Conv site c h next cs acts rs → Conv site c h (next + 1) (cs ++ record { number = d; unread = []; owed = None } ∷ []) (acts ++ more) rs
conv-push site c h next cs acts more rs d is none v = by v.stand v.parts
  where
    new : Connection
    new = record { number = d; unread = []; owed = None }

    beside : c < next → Beside c cs (cs ++ new ∷ [])
    beside lt = record {
      each = λ o all. all_push (OwedAt c o) cs new all (λ (own : d ≡ c). absurd (omega (arith, own, is, lt)));
      there = list_any-append (λ (x : Connection). eqb x.number c) cs (new ∷ [])
          ∙ ap (λ (t : Bool). is_there c cs || (t || false)) (ne_eqb d c (λ own. omega (arith, own, is, lt))) ∙ or-false (is_there c cs);
    }
      where
        or-false : (b : Bool) → (b || false) ≡ b
        or-false true = refl
        or-false false = refl

    by : (st : Stand site c h next cs acts) → rs ≡ v.answered ++ left_of st → Conv site c h (next + 1) (cs ++ new ∷ []) (acts ++ more) rs
    by (free f) e = record {
      answered = v.answered;
      stand = free (all_push (OwedAt c None) cs new f (λ own. refl));
      parts = e;
      sent = subst (λ (g : List Recorded). AreAnswers site g v.answered (sent_in c (acts ++ more))) (append-nil h) (sent-none site c h [] v.answered acts more none v.sent);
    }
    by (pending r p) e = conv-still site c h next (next + 1) cs (cs ++ new ∷ []) acts more rs (omega arith) (beside p.below) none v
    by (over r o) e = conv-still site c h next (next + 1) cs (cs ++ new ∷ []) acts more rs (omega arith) (beside o.below) none v

pub conv-knock : (site : Site) (c : ℕ) (h : List Recorded) (k : Connections) (acts : List Act) (rs : List Received) (knock : Option TraceKnock) → Conv site c h k.opened k.there acts rs
    → (let x = after_knock knock k in Conv site c h x.opened x.there (acts ++ knock_acts knock k) rs)
conv-knock site c h k acts rs None v = conv-still site c h k.opened k.opened k.there k.there acts [] rs (omega arith) (beside-none c k.there) refl v
conv-knock site c h k acts rs (Some Quiet) v = conv-still site c h k.opened k.opened k.there k.there acts [] rs (omega arith) (beside-none c k.there) refl v
conv-knock site c h k acts rs (Some (Gone d)) v = by (eqb d c) refl
  where
    by : (b : Bool) → eqb d c ≡ b → Conv site c h k.opened (without d k.there) (acts ++ []) rs
    by true own = subst (λ (e : ℕ). Conv site c h k.opened (without e k.there) (acts ++ []) rs) (sym (eqb-true d c own)) (conv-gone site c h k.opened k.there acts [] rs refl v)
    by false other = conv-still site c h k.opened k.opened k.there (without d k.there) acts [] rs (omega arith) (beside-without c d k.there (eqb-false d c other)) refl v
conv-knock site c h k acts rs (Some (Opened d)) v = by (eqb d k.opened) refl (leb most_connections (length k.there))
  where
    by : (b : Bool) → eqb d k.opened ≡ b → (full : Bool)
        → (let x = cond (not b) k (cond full (record k { opened = k.opened + 1 }) (record { opened = k.opened + 1; there = k.there ++ record { number = d; unread = []; owed = None } ∷ [] })) in
        Conv site c h x.opened x.there (acts ++ cond (b && full) (shuts d ∷ []) []) rs)
    by false is full = conv-still site c h k.opened k.opened k.there k.there acts [] rs (omega arith) (beside-none c k.there) refl v
    by true is true = conv-still site c h k.opened (k.opened + 1) k.there k.there acts (shuts d ∷ []) rs (omega arith) (beside-none c k.there) refl v
    by true is false = conv-push site c h k.opened k.there acts [] rs d (eqb-true d k.opened is) refl v
conv-knock site c h k acts rs (Some (Bytes d piece)) v = by (is_there d k.there) (overflows d piece k)
  where
    shut : (b : Bool) → eqb d c ≡ b → Conv site c h k.opened (without d k.there) (acts ++ shuts d ∷ []) rs
    shut true own = subst (λ (e : ℕ). Conv site c h k.opened (without e k.there) (acts ++ shuts d ∷ []) rs) (sym (eqb-true d c own)) (conv-gone site c h k.opened k.there acts (shuts d ∷ []) rs refl v)
    shut false other = conv-still site c h k.opened k.opened k.there (without d k.there) acts (shuts d ∷ []) rs (omega arith) (beside-without c d k.there (eqb-false d c other)) refl v

    by : (t u : Bool)
        → (let x = cond (not t) k (cond u (record k { there = without d k.there }) (record k { there = changed d (λ (x : Connection). record x { unread = x.unread ++ piece }) k.there })) in
        Conv site c h x.opened x.there (acts ++ cond (t && u) (shuts d ∷ []) []) rs)
    by false u = conv-still site c h k.opened k.opened k.there k.there acts [] rs (omega arith) (beside-none c k.there) refl v
    by true true = shut (eqb d c) refl
    by true false =
        conv-still site c h k.opened k.opened k.there (changed d (λ (x : Connection). record x { unread = x.unread ++ piece }) k.there) acts [] rs (omega arith)
        (beside-read c d (λ (u : List ℕ). u ++ piece) k.there) refl v

-- ---- an answer is given

-- the last request is answered, if the connection is still there
pub conv-answer : (site : Site) (c : ℕ) (h es put : List Recorded) (next : ℕ) (cs : List Connection) (acts : List Act) (answered rs : List Received) (r : Received) (a : HttpAnswer)
    (gone close : Bool) → c < next → AreAnswers site h answered (sent_in c acts) → rs ≡ answered ++ r ∷ [] → IsAnswerTo site (h ++ es) r.before r.arrived a
    → Conv site c (h ++ es) next (after_answer gone close c cs) (acts ++ (all_put put ++ answer_acts gone close c (answer_text a))) rs
conv-answer site c h es put next cs acts answered rs r a true close lt are parts is = record {
  answered = answered;
  stand = over r record { away = away-without c cs; below = lt; why = inr (lost-own c acts put) };
  parts = parts;
  sent = sent-none site c h es answered acts (all_put put ++ loses c ∷ []) (sent-put c put (loses c ∷ [])) are;
}
conv-answer site c h es put next cs acts answered rs r a false close lt are parts is = record {
  answered = answered ++ r ∷ [];
  stand = free (none-owed close);
  parts = parts ∙ sym (append-nil (answered ++ r ∷ []));
  sent = subst (AreAnswers site (h ++ es) (answered ++ r ∷ []))
      (sym (sent-append c acts (all_put put ++ answer_acts false close c (answer_text a))
      ∙ ap (λ (t : List ℕ). sent_in c acts ++ t) (sent-put c put (answer_acts false close c (answer_text a)) ∙ sent-own c close (answer_text a))))
      (answers-push site (h ++ es) answered (sent_in c acts) r a (answers-more site h es answered (sent_in c acts) are) is);
}
  where
    dropped : (xs : List Connection) → AllOwedAt c None (without c xs)
    dropped [] = tt
    dropped (d ∷ xs) = by (eqb d.number c) refl (dropped xs)
      where
        by : (b : Bool) → eqb d.number c ≡ b → AllOwedAt c None (without c xs) → AllOwedAt c None (cond (not b) (d ∷ without c xs) (without c xs))
        by true own rest = rest
        by false other rest = (λ own. absurd (eqb-false d.number c other own), rest)

    freed : (xs : List Connection) → AllOwedAt c None (changed c (λ (d : Connection). record d { owed = None }) xs)
    freed [] = tt
    freed (d ∷ xs) = (by (eqb d.number c) refl, freed xs)
      where
        by : (b : Bool) → eqb d.number c ≡ b → OwedAt c None (cond b (record d { owed = None }) d)
        by true own = λ is. refl
        by false other = λ is. absurd (eqb-false d.number c other is)

    none-owed : (t : Bool) → AllOwedAt c None (after_answer false t c cs)
    none-owed true = dropped cs
    none-owed false = freed cs
