-- Each request of a connection is answered, in order, along a run.
use Rattle.std.proofs.Common.{◌≡◌, inl, inr, ℕ, ◌+◌, ◌<◌, Bool, true, false, cond, ◌&&◌, ◌||◌, eqb, List, [], ◌∷◌, ◌++◌, length, drop, map, Option, Some, None, refl, sym, ap, ◌∙◌, subst, arith, append-nil, append_assoc}
use Rattle.std.specs.Prelude.{is_some, option_map}
use Rattle.std.specs.List.{list_any, zip}
use Rattle.std.proofs.lemmas.Bool.{true≢false, false≢true, eq-eqb, eqb-true, eqb-false, or_from, or_left, or_right}
use Rattle.std.proofs.lemmas.List.Folds.{list_any-append}
use Rattle.rip_http.specs.Answers.{answer_text}
use Rattle.rip_http.specs.Stream.{Sent, Splits, all_fed, all_taken}
use Rattle.rip_http.specs.declared.answer.HttpAnswer.{HttpAnswer}
use Rattle.rip_http.specs.declared.request.Message.{Message}
use Rattle.rip_http.proofs.StreamLemmas as http
use Rattle.rip_wire.specs.declared.ending.Ending.{Ending}
use Rattle.rip_log.specs.Entries.{Recorded, opened, admitted, closed, done}
use Rattle.rip_history.specs.Answering.{batch_answer, decided_answer, decided_owed, json_answer, refusal_answer}
use Rattle.rip_history.specs.Connections.{Act, Connection, Owed, after_answer, all_put, answer_acts, changed, is_there, knock_acts, owed_for, owing, sent_in}
use Rattle.rip_history.specs.Course.{Handled, decided_entries}
use Rattle.rip_history.specs.Parts.{Given, IsLawful, ends_batch, serves}
use Rattle.rip_history.specs.Requests.{Decision, answers, opens, admits, closes, identifiers_in}
use Rattle.rip_history.specs.Run.{Advance, AreAdvancedSo, AreHandledSo, Arrived, Coming, Handling, IsAdvance, IsFirst, IsTurn, Site, State, advance_acts, advance_entries, advances_acts, after_advance, after_advances, after_arrived, after_handling, after_handlings, after_turn, answered_acts, answered_or_owed, answered_there, arrived_acts, at_once_acts, busy_in, decided, done_entries, first_state, handled_at, handling_acts, handlings_acts, is_busy_in, knocked_at, message, progress_acts, progress_there, refused, stage_of, taken, turn_acts}
use Rattle.rip_history.specs.Runs.{AreTurns, after_turns, turns_acts}
use Rattle.rip_history.specs.Services.{Serving, served_entries, served_entry, servings_in}
use Rattle.rip_history.specs.Sessions.{Deed, deeds_in}
use Rattle.rip_history.specs.Stages.{Stage}
use Rattle.rip_history.specs.Standings.{standing_from, standing_of, when_admitted, when_closed, when_opened}
use Rattle.rip_history.specs.declared.sessions.Progress.{Progress}
use Rattle.rip_history.specs.declared.sessions.Progress.TheVariants.{Busy, Finished}
use Rattle.rip_history.specs.declared.standing.Standing.{Standing}
use Rattle.rip_history.proofs.DecisionLemmas.{admits_next}
use Rattle.rip_history.proofs.RequestLemmas.{admitted_is_ready, opened_is_new}
use Rattle.rip_history.proofs.StandingLemmas.{standings_follow}
use Rattle.rip_law_history.specs.Streams.{IsStream, deeds_on}
use Rattle.rip_law_history.proofs.AdvanceLemmas.{Midst, advance_fit, begin_midst}
use Rattle.rip_law_history.proofs.FitLemmas.{AllFit, Fits, handled_fit}
use Rattle.rip_law_history.proofs.StreamLemmas.{streams_are_handled}
use Rattle.rip_law_history.proofs.ViewLemmas.{Seen, seen, seen_join}
use Rattle.rip_law_history.proofs.WholeMadeLemmas.{RisesFrom, busy_rises}
use Rattle.rip_law_history.proofs.WholeRunLemmas.{run_fits}
use Rattle.rip_law_server.specs.Answered.{Asker, asker_behind, asker_in}
use Rattle.rip_law_server.specs.Conversation.{AreAnswers, IsAnswerOf, IsBatchAnswer, IsLeft, Received, RequestsAreAnswered, received_from, received_in, received_on}
use Rattle.rip_law_server.specs.Paced.{was_done}
use Rattle.rip_law_server.specs.Turned.{owes}
use Rattle.rip_law_server.proofs.Askers.{AllOwed, Goes, advance_owed, arrived_owes, begun_owed, busy_by, goes, gone_on, handled_owes, idle_by, other_same, stage_none, turn_owed}
use Rattle.rip_law_server.proofs.Conversing.{AllOwedAt, Conv, IsBusyWith, Keeps, OwedAt, Pending, Stand, beside-answer, beside-decided, beside-none, beside-read, beside-then, conv-answer, conv-beside, conv-knock, conv-still, free, keeps-all, left_of, messages-from, over, pending, sent-none, sent-other, sent-put, there-changed}
use Rattle.rip_law_server.proofs.Idle.{busy_undone}
use Rattle.rip_law_server.proofs.Owing.{AreGood, front_below, front_free, knock_owes, owing_is}
use Rattle.rip_law_server.proofs.PaceLemmas.{turn_fit}

-- how a connection stands in a state
abbrev Stands : Site → ℕ → State → List Act → List Received → Type 0
Stands site c s acts rs = (let k = s.connections in Conv site c s.history k.opened k.there acts rs)

acts-join : (site : Site) (c : ℕ) (s : State) (a b d : List Act) (rs : List Received) → Stands site c s ((a ++ b) ++ d) rs → Stands site c s (a ++ (b ++ d)) rs
acts-join site c s a b d rs v = subst (λ (acts : List Act). Stands site c s acts rs) (append_assoc a b d) v

heard-join : (site : Site) (c : ℕ) (s : State) (acts : List Act) (x y z : List Received) → Stands site c s acts ((x ++ y) ++ z) → Stands site c s acts (x ++ (y ++ z))
heard-join site c s acts x y z v = subst (λ (rs : List Received). Stands site c s acts rs) (append_assoc x y z) v

-- ---- the connection whose request is handled

first-there : (cs : List Connection) (h : Handling) → IsFirst cs h → is_there h.connection cs ≡ true
first-there [] h first = absurd first
first-there (d ∷ cs) h (inl p) = or_left (eqb d.number h.connection) (is_there h.connection cs) (eq-eqb d.number h.connection p.connection)
first-there (d ∷ cs) h (inr (quiet, first)) = or_right (eqb d.number h.connection) (is_there h.connection cs) (first-there cs h first)

first-free : (cs : List Connection) (h : Handling) → IsFirst cs h → (o : Owed) → AllOwedAt h.connection (Some o) cs → ⊥
first-free [] h first o all = first
first-free (d ∷ cs) h (inl p) o all = false≢true (ap (λ (x : Option Owed). is_some x) (sym p.free ∙ all.0 p.connection))
first-free (d ∷ cs) h (inr (quiet, first)) o all = first-free cs h first o all.1

owed-own : (c : ℕ) (o : Option Owed) (cs : List Connection) → AllOwedAt c o (changed c (λ (d : Connection). record d { owed = o }) cs)
owed-own c o [] = tt
owed-own c o (d ∷ cs) = (by (eqb d.number c) refl, owed-own c o cs)
  where
    by : (b : Bool) → eqb d.number c ≡ b → OwedAt c o (cond b (record d { owed = o }) d)
    by true own = λ is. refl
    by false other = λ is. absurd (eqb-false d.number c other is)

at-once-none : (c e : ℕ) (gone close : Bool) (o : Option HttpAnswer) → (e ≡ c → ⊥) → sent_in c (at_once_acts e gone close o) ≡ []
at-once-none c e gone close None other = refl
at-once-none c e gone close (Some a) other = sent-other c e gone close (answer_text a) other

module _ (site : Site) (lawful : IsLawful site.meaning) (u moment : ℕ) where
  -- a busy session is as busy as before, whatever is decided
  busy-decided : (s : State) (x : Handled) (d : Decision) (n number : ℕ) → decided site.limit s.history x ≡ d → AllFit site.meaning u s.history s.stages
      → IsBusyWith n number s.history → IsBusyWith n number (s.history ++ decided_entries (u + 1) moment d)
  busy-decided s x (answers code body) n number is fit b = subst (IsBusyWith n number) (sym (append-nil s.history)) b
  busy-decided s x (closes k body) n number is fit b = by (eqb k n) refl
    where
      e : Recorded
      e = closed (u + 1) k

      by : (t : Bool) → eqb k n ≡ t → IsBusyWith n number (s.history ++ e ∷ [])
      by true own = record {
        standing = when_closed b.standing;
        stands = standings_follow n s.history e
            ∙ ap (λ (t : Bool). cond t (option_map when_closed (standing_of n s.history)) (standing_of n s.history)) own ∙ ap (option_map when_closed) b.stands;
        busy = b.busy;
        last = b.last;
      }
      by false other = record {
        standing = b.standing;
        stands = standings_follow n s.history e
            ∙ ap (λ (t : Bool). cond t (option_map when_closed (standing_of n s.history)) (standing_of n s.history)) other ∙ b.stands;
        busy = b.busy;
        last = b.last;
      }
  busy-decided s x (opens k id seed) n number is fit b = by (eqb k n) refl
    where
      e : Recorded
      e = opened (u + 1) k id seed moment

      by : (t : Bool) → eqb k n ≡ t → IsBusyWith n number (s.history ++ e ∷ [])
      by true own =
          let new = opened_is_new site.limit s.history x.asked x.drawn x.lack k id seed is in
          let none : stage_of n s.stages ≡ None = stage_none s.stages n (omega (arith, eqb-true k n own, new.ordinal, fit.count)) in
          let absent = subst (λ (o : Option Stage). Fits site.meaning u (seen n s.history) o) none (fit.each n) in
          absurd (true≢false (ap (λ (o : Option Standing). is_some o) (sym b.stands ∙ absent.standing)))
      by false other = record {
        standing = b.standing;
        stands = standings_follow n s.history e ∙ ap (λ (t : Bool). cond t (Some when_opened) (standing_of n s.history)) other ∙ b.stands;
        busy = b.busy;
        last = b.last;
      }
  busy-decided s x (admits k c) n number is fit b = by (eqb k n) refl
    where
      e : Recorded
      e = admitted (u + 1) k c

      by : (t : Bool) → eqb k n ≡ t → IsBusyWith n number (s.history ++ e ∷ [])
      by true own =
          let ready = admitted_is_ready site.limit s.history x.asked x.drawn x.lack k c is in
          let standing = ready.standing in
          let next = (admits_next standing c.number).0 ready.admits in
          let stands : standing_of n s.history ≡ Some standing = subst (λ (j : ℕ). standing_of j s.history ≡ Some standing) (eqb-true k n own) ready.stands in
          absurd (true≢false (sym b.busy ∙ ap is_busy_in (sym b.stands ∙ stands) ∙ idle_by standing next.1))
      by false other = record {
        standing = b.standing;
        stands = standings_follow n s.history e
            ∙ ap (λ (t : Bool). cond t (option_map (when_admitted c.number) (standing_of n s.history)) (standing_of n s.history)) other ∙ b.stands;
        busy = b.busy;
        last = b.last;
      }

  -- ---- on the connection

  module _ (s : State) (c size : ℕ) (gone : Bool) (m : Message) (x : Handled) (acts : List Act) (answered rs : List Received) where
    abbrev links : List Connection
    links = (let k = s.connections in k.there)

    abbrev high : ℕ
    high = (let k = s.connections in k.opened)

    abbrev r : Received
    r = record { before = s.history; size = size; arrived = message m x }

    -- the answer is owed for the batch of this number
    owed-so : (n number : ℕ) (d : Decision) → decided site.limit s.history x ≡ d → decided_owed d ≡ Some n
        → ((h : List Recorded) (a : HttpAnswer) → IsBatchAnswer site.page h m.close n number a → IsAnswerOf site h m.close d a)
        → IsBusyWith n number (s.history ++ decided_entries (u + 1) moment d)
        → c < high → is_there c links ≡ true → AreAnswers site s.history answered (sent_in c acts) → rs ≡ answered ++ r ∷ []
        → Conv site c (s.history ++ decided_entries (u + 1) moment d) high (answered_or_owed c gone m.close (Some n) (taken c size links))
        (acts ++ (all_put (decided_entries (u + 1) moment d) ++ [])) rs
    owed-so n number d is later gives busy lt here are parts = record {
      answered = answered;
      stand = pending r record {
        owed = o;
        number = number;
        there = there-changed c c (λ (d : Connection). record d { owed = Some o }) (λ d. refl) (taken c size links)
            ∙ there-changed c c (λ (d : Connection). record d { unread = drop size d.unread }) (λ d. refl) links ∙ here;
        below = lt;
        each = owed-own c (Some o) (taken c size links);
        waits = record {
          gives = λ h a b. subst (λ (d : Decision). IsAnswerOf site h m.close d a) (sym is) (gives h a b);
          later = ap (λ (d : Decision). is_some (decided_owed d)) is ∙ ap (λ (p : Option ℕ). is_some p) later;
        };
        busy = busy;
      };
      parts = parts;
      sent = sent-none site c s.history (decided_entries (u + 1) moment d) answered acts (all_put (decided_entries (u + 1) moment d) ++ [])
          (sent-put c (decided_entries (u + 1) moment d) []) are;
    }
      where
        o : Owed
        o = record { session = n; close = m.close }

    message-own : (d : Decision) → decided site.limit s.history x ≡ d → c < high → is_there c links ≡ true → AreAnswers site s.history answered (sent_in c acts) → rs ≡ answered ++ r ∷ []
        → Conv site c (s.history ++ decided_entries (u + 1) moment d) high (answered_or_owed c gone m.close (decided_owed d) (taken c size links))
        (acts ++ (all_put (decided_entries (u + 1) moment d) ++ at_once_acts c gone m.close (decided_answer m.close d))) rs
    message-own (answers code body) is lt here are parts =
        conv-answer site c s.history [] [] high (taken c size links) acts answered rs r (json_answer code body m.close) gone m.close lt are parts
        (subst (λ (d : Decision). IsAnswerOf site (s.history ++ []) m.close d (json_answer code body m.close)) (sym is) refl)
    message-own (closes n body) is lt here are parts =
        let e = closed (u + 1) n in
        conv-answer site c s.history (e ∷ []) (e ∷ []) high (taken c size links) acts answered rs r (json_answer 200 body m.close) gone m.close lt are parts
        (subst (λ (d : Decision). IsAnswerOf site (s.history ++ e ∷ []) m.close d (json_answer 200 body m.close)) (sym is) refl)
    message-own (opens n id seed) is lt here are parts =
        owed-so n 0 (opens n id seed) is refl (λ h a b. b)
        record {
          standing = when_opened;
          stands = standings_follow n s.history (opened (u + 1) n id seed moment)
              ∙ ap (λ (t : Bool). cond t (Some when_opened) (standing_of n s.history)) (eq-eqb n n refl);
          busy = refl;
          last = refl;
        }
        lt here are parts
    message-own (admits n b) is lt here are parts =
        let ready = admitted_is_ready site.limit s.history x.asked x.drawn x.lack n b is in
        let standing = ready.standing in
        let after = (admits_next standing b.number).0 ready.admits in
        owed-so n b.number (admits n b) is refl (λ h a c. c)
        record {
          standing = when_admitted b.number standing;
          stands = standings_follow n s.history (admitted (u + 1) n b)
              ∙ ap (λ (t : Bool). cond t (option_map (when_admitted b.number) (standing_of n s.history)) (standing_of n s.history)) (eq-eqb n n refl)
              ∙ ap (option_map (when_admitted b.number)) ready.stands;
          busy = busy_by standing b.number after.1 after.2;
          last = refl;
        }
        lt here are parts

  arrived-own : (s : State) (c size : ℕ) (gone : Bool) (a : Arrived) (acts : List Act) (rs : List Received) → c < (let k = s.connections in k.opened)
      → is_there c (let k = s.connections in k.there) ≡ true → ((o : Owed) → AllOwedAt c (Some o) (let k = s.connections in k.there) → ⊥) → Stands site c s acts rs
      → Stands site c (after_arrived site (u + 1) moment c size gone s a) (acts ++ arrived_acts site (u + 1) moment c gone s a) (rs ++ record { before = s.history; size = size; arrived = a } ∷ [])
  arrived-own s c size gone a acts rs lt here none v = by v.stand v.parts
    where
      opens_next : ℕ
      opens_next = (let k = s.connections in k.opened)

      all : List Connection
      all = (let k = s.connections in k.there)

      arrived : (b : Arrived) → rs ≡ v.answered ++ []
          → Stands site c (after_arrived site (u + 1) moment c size gone s b) (acts ++ arrived_acts site (u + 1) moment c gone s b) (rs ++ record { before = s.history; size = size; arrived = b } ∷ [])
      arrived (refused head) e =
          let x : Received = record { before = s.history; size = size; arrived = refused head } in
          subst (λ (g : List Recorded). Conv site c g opens_next (after_answer gone true c all) (acts ++ answer_acts gone true c (answer_text (refusal_answer head))) (rs ++ x ∷ []))
          (append-nil s.history)
          (conv-answer site c s.history [] [] opens_next all acts v.answered (rs ++ x ∷ []) x (refusal_answer head) gone true lt v.sent
          (ap (λ (t : List Received). t ++ x ∷ []) (e ∙ append-nil v.answered)) refl)
      arrived (message m x) e =
          let y : Received = record { before = s.history; size = size; arrived = message m x } in
          message-own s c size gone m x acts v.answered (rs ++ y ∷ []) (decided site.limit s.history x) refl lt here v.sent
          (ap (λ (t : List Received). t ++ y ∷ []) (e ∙ append-nil v.answered))

      by : (st : Stand site c s.history opens_next all acts) → rs ≡ v.answered ++ left_of st
          → Stands site c (after_arrived site (u + 1) moment c size gone s a) (acts ++ arrived_acts site (u + 1) moment c gone s a) (rs ++ record { before = s.history; size = size; arrived = a } ∷ [])
      by (free f) e = arrived a e
      by (pending r p) e = absurd (none p.owed p.each)
      by (over r o) e = absurd (true≢false (sym here ∙ o.away))

  -- ---- on another

  arrived-other : (s : State) (c e size : ℕ) (gone : Bool) (a : Arrived) (acts : List Act) (rs : List Received) → (e ≡ c → ⊥) → AllFit site.meaning u s.history s.stages
      → Stands site c s acts rs
      → Stands site c (after_arrived site (u + 1) moment e size gone s a) (acts ++ arrived_acts site (u + 1) moment e gone s a) rs
  arrived-other s c e size gone (refused head) acts rs other fit v =
      let k = s.connections in
      conv-still site c s.history k.opened k.opened k.there (after_answer gone true e k.there) acts (answer_acts gone true e (answer_text (refusal_answer head))) rs (omega arith)
      (beside-answer c e gone true k.there other) (sent-other c e gone true (answer_text (refusal_answer head)) other) v
  arrived-other s c e size gone (message m x) acts rs other fit v =
      let k = s.connections in
      let d = decided site.limit s.history x in
      let es = decided_entries (u + 1) moment d in
      conv-beside site c s.history es k.opened k.opened k.there (answered_or_owed e gone m.close (decided_owed d) (taken e size k.there)) acts
      (all_put es ++ at_once_acts e gone m.close (decided_answer m.close d)) v.answered rs (omega arith)
      (beside-then c k.there (taken e size k.there) (answered_or_owed e gone m.close (decided_owed d) (taken e size k.there)) (beside-read c e (drop size) k.there)
      (beside-decided c e gone m.close (decided_owed d) (taken e size k.there) other))
      (sent-put c es (at_once_acts e gone m.close (decided_answer m.close d)) ∙ at-once-none c e gone m.close (decided_answer m.close d) other)
      v.sent v.stand v.parts
      (keeps-all site c s.history (s.history ++ es) k.opened k.there acts (λ n number b. busy-decided s x d n number refl fit b) v.stand)

  handled-one : (s : State) (c : ℕ) (h : Handling) (acts : List Act) (rs : List Received) → IsFirst (let k = s.connections in k.there) h
      → h.connection < (let k = s.connections in k.opened) → AllFit site.meaning u s.history s.stages → Stands site c s acts rs
      → Stands site c (after_handling site (u + 1) moment s h) (acts ++ handling_acts site (u + 1) moment s h)
      (rs ++ cond (eqb h.connection c) (record { before = s.history; size = h.size; arrived = h.arrived } ∷ []) [])
  handled-one s c h acts rs first lt fit v = by (eqb h.connection c) refl
    where
      r : Received
      r = record { before = s.history; size = h.size; arrived = h.arrived }

      own : (d : ℕ) → h.connection ≡ d → Stands site d s acts rs
          → Stands site d (after_handling site (u + 1) moment s h) (acts ++ handling_acts site (u + 1) moment s h) (rs ++ r ∷ [])
      own d is w =
          subst (λ (k : ℕ). Stands site k (after_handling site (u + 1) moment s h) (acts ++ handling_acts site (u + 1) moment s h) (rs ++ r ∷ [])) is
          (arrived-own s h.connection h.size h.gone h.arrived acts rs lt (first-there (let k = s.connections in k.there) h first)
          (first-free (let k = s.connections in k.there) h first) (subst (λ (k : ℕ). Stands site k s acts rs) (sym is) w))

      by : (b : Bool) → eqb h.connection c ≡ b
          → Stands site c (after_handling site (u + 1) moment s h) (acts ++ handling_acts site (u + 1) moment s h) (rs ++ cond b (r ∷ []) [])
      by true e = own c (eqb-true h.connection c e) v
      by false e =
          subst (λ (xs : List Received). Stands site c (after_handling site (u + 1) moment s h) (acts ++ handling_acts site (u + 1) moment s h) xs) (sym (append-nil rs))
          (arrived-other s c h.connection h.size h.gone h.arrived acts rs (eqb-false h.connection c e) fit v)

  handled-all : (c : ℕ) (askers : ℕ → Option Asker) (s : State) (hs : List Handling) (acts : List Act) (rs : List Received) → AreHandledSo site (u + 1) moment s hs
      → AllFit site.meaning u s.history s.stages → AllOwed askers s → Stands site c s acts rs
      → Stands site c (after_handlings site (u + 1) moment s hs) (acts ++ handlings_acts site (u + 1) moment s hs) (rs ++ received_in site c (u + 1) moment s hs)
  handled-all c askers s [] acts rs are fit w v =
      subst (λ (xs : List Received). Stands site c s (acts ++ []) xs) (sym (append-nil rs)) (subst (λ (xs : List Act). Stands site c s xs rs) (sym (append-nil acts)) v)
  handled-all c askers s (h ∷ hs) acts rs (first, more) fit w v =
      let k = s.connections in
      let next = after_handling site (u + 1) moment s h in
      let end = after_handlings site (u + 1) moment next hs in
      let here = handling_acts site (u + 1) moment s h in
      let r = cond (eqb h.connection c) (record { before = s.history; size = h.size; arrived = h.arrived } ∷ []) [] in
      let below : h.connection < k.opened = (let good = w 0 in front_below 0 (is_busy_in (standing_of 0 s.history)) (askers 0) k.opened k.there h first good.good) in
      let owed : AllOwed (λ n. asker_behind site s n h.connection h.arrived (askers n)) next =
      λ n. (let own = w n in
      let busy = is_busy_in (standing_of n s.history) in
      arrived_owes site lawful u moment n s h.connection h.size h.gone (askers n) h.arrived fit own (front_free n busy (askers n) k.opened k.there h first own.good)
      (front_below n busy (askers n) k.opened k.there h first own.good)) in
      heard-join site c end (acts ++ (here ++ handlings_acts site (u + 1) moment next hs)) rs r (received_in site c (u + 1) moment next hs)
      (acts-join site c end acts here (handlings_acts site (u + 1) moment next hs) ((rs ++ r) ++ received_in site c (u + 1) moment next hs)
      (handled-all c (λ n. asker_behind site s n h.connection h.arrived (askers n)) next hs (acts ++ here) (rs ++ r) more (handled_fit site lawful u moment s (h ∷ []) fit) owed
      (handled-one s c h acts rs first below fit v)))

-- ---- on which connection an answer is owed

one-number : (x y : ℕ × Bool) → Some x ≡ Some y → x.0 ≡ y.0
one-number x y e = (let same : x ≡ y = cc in ap (λ (p : ℕ × Bool). p.0) same)

owing-there : (n c : ℕ) (close : Bool) (cs : List Connection) → owing n cs ≡ Some (c, close) → is_there c cs ≡ true
owing-there n c close [] is = absurd (false≢true (ap (λ (x : Option (ℕ × Bool)). is_some x) is))
owing-there n c close (d ∷ cs) is = by d.owed is (owing-there n c close cs)
  where
    by : (o : Option Owed) → owed_for n d.number o (owing n cs) ≡ Some (c, close) → (owing n cs ≡ Some (c, close) → is_there c cs ≡ true)
        → (eqb d.number c || is_there c cs) ≡ true
    by None e rest = or_right (eqb d.number c) (is_there c cs) (rest e)
    by (Some o) e rest = at (eqb o.session n) e
      where
        at : (b : Bool) → cond b (Some (d.number, o.close)) (owing n cs) ≡ Some (c, close) → (eqb d.number c || is_there c cs) ≡ true
        at true f = or_left (eqb d.number c) (is_there c cs) (eq-eqb d.number c (one-number (d.number, o.close) (c, close) f))
        at false f = or_right (eqb d.number c) (is_there c cs) (rest f)

owing-at : (n c : ℕ) (close : Bool) (cs : List Connection) (o : Option Owed) → owing n cs ≡ Some (c, close) → AllOwedAt c o cs → (x : Owed) × (o ≡ Some x) × (x.session ≡ n)
owing-at n c close [] o is all = absurd (false≢true (ap (λ (x : Option (ℕ × Bool)). is_some x) is))
owing-at n c close (d ∷ cs) o is all = by d.owed refl is (λ rest. owing-at n c close cs o rest all.1)
  where
    by : (p : Option Owed) → d.owed ≡ p → owed_for n d.number p (owing n cs) ≡ Some (c, close)
        → (owing n cs ≡ Some (c, close) → (x : Owed) × (o ≡ Some x) × (x.session ≡ n)) → (x : Owed) × (o ≡ Some x) × (x.session ≡ n)
    by None e f rest = rest f
    by (Some p) e f rest = at (eqb p.session n) refl f
      where
        at : (b : Bool) → eqb p.session n ≡ b → cond b (Some (d.number, p.close)) (owing n cs) ≡ Some (c, close) → (x : Owed) × (o ≡ Some x) × (x.session ≡ n)
        at true own g = (p, sym (all.0 (one-number (d.number, p.close) (c, close) g)) ∙ e, eqb-true p.session n own)
        at false other g = rest g

asker-at : (n most c : ℕ) (o : Owed) (asker : Option Asker) (cs : List Connection) → AreGood n true asker most cs → AllOwedAt c (Some o) cs → is_there c cs ≡ true → o.session ≡ n
    → asker ≡ Some (record { connection = c; close = o.close })
asker-at n most c o asker [] good all here own = absurd (false≢true here)
asker-at n most c o asker (d ∷ cs) good all here own = by (eqb d.number c) refl here (λ rest. asker-at n most c o asker cs good.1 all.1 rest own)
  where
    by : (b : Bool) → eqb d.number c ≡ b → (b || is_there c cs) ≡ true → (is_there c cs ≡ true → asker ≡ Some (record { connection = c; close = o.close }))
        → asker ≡ Some (record { connection = c; close = o.close })
    by true is found go =
        let number = eqb-true d.number c is in
        let g = good.0 in
        (g.only o (all.0 number) own).1 ∙ ap (λ (k : ℕ). Some (record { connection = k; close = o.close })) number
    by false is found go = go found

-- ---- a session goes on

abbrev Ends : ℕ → Deed → Bool
Ends number d = eqb d.batch number && ends_batch d.fact

served-ends-none : (n number turn k : ℕ) (xs : List (Serving × Given)) → list_any (Ends number) (deeds_in n (map (served_entry turn k) xs)) ≡ false
served-ends-none n number turn k [] = refl
served-ends-none n number turn k ((a, g) ∷ xs) = by (eqb k n) (served-ends-none n number turn k xs)
  where
    no : (b : Bool) → (b && false) ≡ false
    no true = refl
    no false = refl

    rest : List Deed
    rest = deeds_in n (map (served_entry turn k) xs)

    by : (b : Bool) → list_any (Ends number) rest ≡ false
        → list_any (Ends number) (cond b (record { turn = turn; batch = a.batch; fact = serves a.number a.name a.args } ∷ rest) rest) ≡ false
    by true e = or_from (eqb a.batch number && false) (list_any (Ends number) rest) (no (eqb a.batch number)) e
    by false e = e

served-undone : (n number turn : ℕ) (h : List Recorded) (a : Advance) → was_done n number h ≡ false → was_done n number (h ++ served_entries turn a.session a.parts a.given) ≡ false
served-undone n number turn h a undone =
    let es = served_entries turn a.session a.parts a.given in
    ap (λ (v : Seen). list_any (Ends number) v.deeds) (seen_join n h es)
    ∙ list_any-append (Ends number) (deeds_in n h) (deeds_in n es)
    ∙ or_from (list_any (Ends number) (deeds_in n h)) (list_any (Ends number) (deeds_in n es)) undone (served-ends-none n number turn a.session (zip (servings_in a.parts) a.given))

one-standing : (a b : Standing) → Some a ≡ Some b → a ≡ b
one-standing a b e = cc

one-owed : (a b : Owed) → Some a ≡ Some b → a ≡ b
one-owed a b e = cc

module _ (site : Site) (turn c : ℕ) (askers : ℕ → Option Asker) (s : State) (a : Advance) (acts : List Act) (rs : List Received) (g : Goes askers s a)
    (undone : was_done a.session (length a.next.batches) s.history ≡ false) (w : AllOwed askers s) where
  abbrev n : ℕ
  n = a.session

  abbrev number : ℕ
  number = length a.next.batches

  abbrev es : List Recorded
  es = advance_entries turn a

  abbrev now : List Recorded
  now = s.history ++ es

  abbrev count : ℕ
  count = (let k = s.connections in k.opened)

  abbrev open_links : List Connection
  open_links = (let k = s.connections in k.there)

  busy-other : (j num : ℕ) → eqb n j ≡ false → IsBusyWith j num s.history → IsBusyWith j num now
  busy-other j num other b = record {
    standing = b.standing;
    stands = gone_on j turn s.history a ∙ other_same j turn n number a.progress (standing_of j s.history) other ∙ b.stands;
    busy = b.busy;
    last = b.last;
  }

  busy-still : a.progress ≡ Busy → (j num : ℕ) → IsBusyWith j num s.history → IsBusyWith j num now
  busy-still is j num b = record {
    standing = b.standing;
    stands = gone_on j turn s.history a ∙ ap (λ (p : Progress). standing_from j (standing_of j s.history) (done_entries turn n number p)) is ∙ b.stands;
    busy = b.busy;
    last = b.last;
  }

  -- the answer is none of this connection
  elsewhere : (how : Option Ending) (answered : List Received) → AreAnswers site s.history answered (sent_in c acts) → (st : Stand site c s.history count open_links acts)
      → rs ≡ answered ++ left_of st → Keeps now st → ((close : Bool) → owing n open_links ≡ Some (c, close) → ⊥) → (o : Option (ℕ × Bool)) → owing n open_links ≡ o
      → Conv site c now count (answered_there a.gone o open_links) (acts ++ (all_put es ++ answered_acts site a.gone o n number how now)) rs
  elsewhere how answered are st parts keeps none None is =
      conv-beside site c s.history es count count open_links open_links acts (all_put es ++ []) answered rs (omega arith) (beside-none c open_links) (sent-put c es []) are st parts keeps
  elsewhere how answered are st parts keeps none (Some (e, close)) is =
      let other : e ≡ c → ⊥ = λ same. none close (is ∙ ap (λ (k : ℕ). Some (k, close)) same) in
      let text = answer_text (batch_answer site.page n number how now close) in
      conv-beside site c s.history es count count open_links (after_answer a.gone close e open_links) acts (all_put es ++ answer_acts a.gone close e text) answered rs (omega arith)
      (beside-answer c e a.gone close open_links other) (sent-put c es (answer_acts a.gone close e text) ∙ sent-other c e a.gone close text other) are st parts keeps

  -- it is that of the last request of this one
  given-here : (how : Option Ending) → a.progress ≡ Finished how → (answered : List Received) → AreAnswers site s.history answered (sent_in c acts)
      → (r : Received) (p : Pending site c s.history count open_links r) → rs ≡ answered ++ r ∷ [] → n ≡ (let o = p.owed in o.session)
      → Conv site c now count (answered_there a.gone (owing n open_links) open_links) (acts ++ (all_put es ++ answered_acts site a.gone (owing n open_links) n number how now)) rs
  given-here how is answered are r p parts own =
      let o = p.owed in
      let b = p.busy in
      let x = p.waits in
      let good : AreGood n true (askers n) count open_links =
      (let good = w n in subst (λ (t : Bool). AreGood n t (askers n) count open_links) (ap is_busy_in g.stands ∙ g.busy) good.good) in
      let asked = asker-at n count c o (askers n) open_links good p.each p.there (sym own) in
      let owed : owing n open_links ≡ Some (c, o.close) =
      owing_is n count (record { connection = c; close = o.close }) open_links (subst (λ (k : Option Asker). AreGood n true k count open_links) asked good)
      ∙ ap (λ (t : Bool). cond t (Some (c, o.close)) None) p.there in
      let answer = batch_answer site.page n number how now o.close in
      let same : number ≡ p.number =
      g.last ∙ ap (λ (t : Standing). t.last) (one-standing g.standing b.standing (sym g.stands ∙ ap (λ (j : ℕ). standing_of j s.history) own ∙ b.stands)) ∙ b.last in
      let made = served_entries turn n a.parts a.given in
      let entries : now ≡ (s.history ++ made) ++ done turn n number how ∷ [] =
      ap (λ (q : Progress). s.history ++ (made ++ done_entries turn n number q)) is ∙ sym (append_assoc s.history made (done turn n number how ∷ [])) in
      let due : IsBatchAnswer site.page now o.close n number answer = record {
        turn = turn;
        how = how;
        before = s.history ++ made;
        behind = [];
        is = entries ∙ sym (append-nil ((s.history ++ made) ++ done turn n number how ∷ []));
        first = served-undone n number turn s.history a undone;
        answer = ap (λ (h : List Recorded). batch_answer site.page n number how h o.close) entries;
      } in
      let moved : IsBatchAnswer site.page now o.close o.session p.number answer =
      subst (λ (k : ℕ). IsBatchAnswer site.page now o.close o.session k answer) same (subst (λ (k : ℕ). IsBatchAnswer site.page now o.close k number answer) own due) in
      subst (λ (k : Option (ℕ × Bool)). Conv site c now count (answered_there a.gone k open_links) (acts ++ (all_put es ++ answered_acts site a.gone k n number how now)) rs) (sym owed)
      (conv-answer site c s.history es es count open_links acts answered rs r answer a.gone o.close p.below are parts (x.gives now answer moved))

  advanced-one : Stands site c s acts rs → Stands site c (after_advance turn s a) (acts ++ advance_acts site turn s a) rs
  advanced-one v = by a.progress refl
    where
      ended-by : (how : Option Ending) → a.progress ≡ Finished how → (st : Stand site c s.history count open_links acts) → rs ≡ v.answered ++ left_of st
          → Conv site c now count (answered_there a.gone (owing n open_links) open_links) (acts ++ (all_put es ++ answered_acts site a.gone (owing n open_links) n number how now)) rs
      ended-by how is (free f) e =
          elsewhere how v.answered v.sent (free f) e tt
          (λ close owed. (let x = owing-at n c close open_links None owed f in false≢true (ap (λ (o : Option Owed). is_some o) x.1))) (owing n open_links) refl
      ended-by how is (over r o) e =
          elsewhere how v.answered v.sent (over r o) e tt (λ close owed. true≢false (sym (owing-there n c close open_links owed) ∙ o.away)) (owing n open_links) refl
      ended-by how is (pending r p) e = session (eqb n (let o = p.owed in o.session)) refl
        where
          session : (b : Bool) → eqb n (let o = p.owed in o.session) ≡ b
              → Conv site c now count (answered_there a.gone (owing n open_links) open_links) (acts ++ (all_put es ++ answered_acts site a.gone (owing n open_links) n number how now)) rs
          session true own = given-here how is v.answered v.sent r p e (eqb-true n (let o = p.owed in o.session) own)
          session false other =
              elsewhere how v.answered v.sent (pending r p) e (busy-other (let o = p.owed in o.session) p.number other p.busy)
              (λ close owed.
              (let x = owing-at n c close open_links (Some p.owed) owed p.each in
              eqb-false n (let o = p.owed in o.session) other (sym x.2 ∙ ap (λ (o : Owed). o.session) (sym (one-owed p.owed x.0 x.1)))))
              (owing n open_links) refl

      by : (q : Progress) → a.progress ≡ q → Conv site c now count (progress_there a.gone n q open_links) (acts ++ (all_put es ++ progress_acts site a.gone n number q open_links now)) rs
      by Busy is =
          conv-beside site c s.history es count count open_links open_links acts (all_put es ++ []) v.answered rs (omega arith) (beside-none c open_links) (sent-put c es []) v.sent v.stand v.parts
          (keeps-all site c s.history now count open_links acts (busy-still is) v.stand)
      by (Finished how) is = ended-by how is v.stand v.parts

undone : (site : Site) (u moment : ℕ) (s : State) (a : Advance) (ns : List ℕ) → IsAdvance site moment s a → Midst site.meaning u s.history s.stages (a.session ∷ ns)
    → was_done a.session (length a.next.batches) s.history ≡ false
undone site u moment s a ns i f =
    let waits = f.waits a.session (or_left (eqb a.session a.session) _ (eq-eqb a.session a.session refl)) in
    let k = subst (λ (o : Option Stage). Fits site.meaning u (seen a.session s.history) o) i.stands waits.0 in
    let on = i.goes_on in
    subst (λ (j : ℕ). was_done a.session j s.history ≡ false) (sym (ap length on.batches)) (busy_undone site.meaning u a.session s.history i.stage k waits.1)

advanced-all : (site : Site) (u moment low c : ℕ) (askers : ℕ → Option Asker) (s : State) (ns : List ℕ) (rest : List Advance) (acts : List Act) (rs : List Received) → RisesFrom low ns
    → AreAdvancedSo site (u + 1) moment s ns rest → Midst site.meaning u s.history s.stages ns → AllOwed askers s → Stands site c s acts rs
    → Stands site c (after_advances (u + 1) s rest) (acts ++ advances_acts site (u + 1) s rest) rs
advanced-all site u moment low c askers s [] rest acts rs r e f w v =
    subst (λ (others : List Advance). Stands site c (after_advances (u + 1) s others) (acts ++ advances_acts site (u + 1) s others) rs) (sym e)
    (subst (λ (xs : List Act). Stands site c s xs rs) (sym (append-nil acts)) v)
advanced-all site u moment low c askers s (n ∷ ns) [] acts rs r e f w v = absurd e
advanced-all site u moment low c askers s (n ∷ ns) (a ∷ rest) acts rs r (same, i, more) f w v =
    let rises : RisesFrom a.session ns = subst (λ (k : ℕ). RisesFrom k ns) (sym same) r.1 in
    let midst = subst (λ (k : ℕ). Midst site.meaning u s.history s.stages (k ∷ ns)) (sym same) f in
    let g = goes site u moment askers s a ns i midst w in
    let next = after_advance (u + 1) s a in
    let here = advance_acts site (u + 1) s a in
    acts-join site c (after_advances (u + 1) next rest) acts here (advances_acts site (u + 1) next rest) rs
    (advanced-all site u moment a.session c askers next ns rest (acts ++ here) rs rises more (advance_fit site u moment s a ns i rises midst) (advance_owed (u + 1) askers s a g w)
    (advanced-one site (u + 1) c askers s a acts rs g (undone site u moment s a ns i midst) w v))

-- ---- turns

turned : (site : Site) → IsLawful site.meaning → (u c : ℕ) (askers : ℕ → Option Asker) (s : State) (t : Coming) (acts : List Act) (rs : List Received) → IsTurn site (u + 1) s t
    → AllFit site.meaning u s.history s.stages → AllOwed askers s → Stands site c s acts rs
    → Stands site c (after_turn site (u + 1) t s) (acts ++ turn_acts site (u + 1) t s) (rs ++ received_in site c (u + 1) t.moment (knocked_at t s) t.handlings)
turned site lawful u c askers s t acts rs is fit w v =
    let k = s.connections in
    let start = knocked_at t s in
    let x = handled_at site (u + 1) t s in
    let knock = knock_acts t.knock k in
    let here = handlings_acts site (u + 1) t.moment start t.handlings in
    let going = advances_acts site (u + 1) x t.advances in
    let heard = received_in site c (u + 1) t.moment start t.handlings in
    let knocked : AllOwed askers start = λ n. knock_owes n (is_busy_in (standing_of n s.history)) (askers n) t.knock k (w n) in
    let owed : AllOwed (λ n. asker_in site (u + 1) t.moment start t.handlings n (askers n)) x =
    λ n. handled_owes site lawful u t.moment n start t.handlings (askers n) is.handled fit (knocked n) in
    let one : Stands site c start (acts ++ knock) rs = conv-knock site c s.history k acts rs t.knock v in
    let two : Stands site c x ((acts ++ knock) ++ here) (rs ++ heard) = handled-all site lawful u t.moment c askers start t.handlings (acts ++ knock) rs is.handled fit knocked one in
    let three : Stands site c (after_turn site (u + 1) t s) (((acts ++ knock) ++ here) ++ going) (rs ++ heard) =
    advanced-all site u t.moment 0 c (λ n. asker_in site (u + 1) t.moment start t.handlings n (askers n)) x (busy_in x.history) t.advances ((acts ++ knock) ++ here) (rs ++ heard)
    (busy_rises (length (identifiers_in x.history)) x.history) is.advanced
    (begin_midst site.meaning u x.history x.stages (handled_fit site lawful u t.moment start t.handlings fit)) owed two in
    subst (λ (xs : List Act). Stands site c (after_turn site (u + 1) t s) xs (rs ++ heard))
    (ap (λ (xs : List Act). xs ++ going) (append_assoc acts knock here) ∙ append_assoc acts (knock ++ here) going) three

turned-all : (site : Site) → IsLawful site.meaning → (u c : ℕ) (askers : ℕ → Option Asker) (s : State) (ts : List Coming) (acts : List Act) (rs : List Received) → AreTurns site (u + 1) s ts
    → AllFit site.meaning u s.history s.stages → AllOwed askers s → Stands site c s acts rs
    → Stands site c (after_turns site (u + 1) s ts) (acts ++ turns_acts site (u + 1) s ts) (rs ++ received_from site c (u + 1) s ts)
turned-all site lawful u c askers s [] acts rs are fit w v =
    subst (λ (xs : List Received). Stands site c s (acts ++ []) xs) (sym (append-nil rs)) (subst (λ (xs : List Act). Stands site c s xs rs) (sym (append-nil acts)) v)
turned-all site lawful u c askers s (t ∷ ts) acts rs are fit w v =
    let next = after_turn site (u + 1) t s in
    let end = after_turns site (u + 1 + 1) next ts in
    let here = turn_acts site (u + 1) t s in
    let heard = received_in site c (u + 1) t.moment (knocked_at t s) t.handlings in
    let owed = turn_owed site lawful u askers s t are.0 fit w in
    heard-join site c end (acts ++ (here ++ turns_acts site (u + 1 + 1) next ts)) rs heard (received_from site c (u + 1 + 1) next ts)
    (acts-join site c end acts here (turns_acts site (u + 1 + 1) next ts) ((rs ++ heard) ++ received_from site c (u + 1 + 1) next ts)
    (turned-all site lawful (u + 1) c (λ n. asker_in site (u + 1) t.moment (knocked_at t s) t.handlings n (askers n)) next ts (acts ++ here) (rs ++ heard) are.1
    (turn_fit site lawful u s t are.0 fit) owed.1 (turned site lawful u c askers s t acts rs are.0 fit w v)))

-- ---- a run

owes-there : (c : ℕ) (o : Owed) (cs : List Connection) → is_there c cs ≡ true → AllOwedAt c (Some o) cs → owes c cs ≡ true
owes-there c o [] is all = is
owes-there c o (d ∷ cs) is all = by (eqb d.number c) refl is (λ rest. owes-there c o cs rest all.1)
  where
    by : (b : Bool) → eqb d.number c ≡ b → (b || is_there c cs) ≡ true → (is_there c cs ≡ true → owes c cs ≡ true) → ((b && is_some d.owed) || owes c cs) ≡ true
    by true own here rest = or_left (is_some d.owed) (owes c cs) (ap (λ (p : Option Owed). is_some p) (all.0 (eqb-true d.number c own)))
    by false other here rest = rest here

left-so : (site : Site) (c : ℕ) (h : List Recorded) (most : ℕ) (cs : List Connection) (acts : List Act) (st : Stand site c h most cs acts) → IsLeft site c cs acts (left_of st)
left-so site c h most cs acts (free f) = tt
left-so site c h most cs acts (pending r p) = inl (owes-there c p.owed cs p.there p.each, (let w = p.waits in w.later))
left-so site c h most cs acts (over r o) = inr (o.away, o.why)

pub requests_are_answered : RequestsAreAnswered
requests_are_answered site ts c lawful turns =
    let x = after_turns site 1 first_state ts in
    let k = x.connections in
    let acts = turns_acts site 1 first_state ts in
    let v : Stands site c x acts (received_on site c ts) =
    turned-all site lawful 0 c (λ n. None) first_state ts [] [] turns (run_fits site [] lawful tt) begun_owed record { answered = []; stand = free tt; parts = refl; sent = refl } in
    let handled : IsStream site ts c = streams_are_handled site ts c turns in
    let deeds = deeds_on site c 1 first_state ts in
    let splits : Splits (all_fed deeds) (all_taken deeds) handled.left =
    subst (λ (b : List ℕ). Splits b (all_taken deeds) handled.left) (append-nil (all_fed deeds))
    (subst (λ (l : List ℕ). Splits (all_fed deeds ++ []) (all_taken deeds) l) (append-nil handled.left) (http.stands deeds handled.left [] handled.does)) in
    record {
      unread = handled.left;
      spelled = subst (λ (sent : List Sent). Splits (all_fed deeds) sent handled.left) (sym (messages-from site c 1 first_state ts)) splits;
      answered = v.answered;
      left = left_of v.stand;
      parts = v.parts;
      sent = v.sent;
      last = left-so site c x.history k.opened k.there acts v.stand;
    }
