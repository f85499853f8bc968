-- Openings are answered with the page, or with how they ended their session.
use Rattle.std.proofs.Common.{◌≡◌, ℕ, zero, suc, ◌+◌, Bool, true, false, cond, eqb, List, [], ◌∷◌, ◌++◌, length, Option, Some, None, refl, sym, ap, ◌∙◌, subst}
use Rattle.std.specs.Prelude.{option_map}
use Rattle.std.specs.Int.{to_be_bytes, w128}
use Rattle.std.specs.List.{AllByRecursion}
use Rattle.std.proofs.lemmas.Bool.{eq-eqb, false≢true}
use Rattle.rip_http.specs.Answers as http
use Rattle.rip_http.specs.declared.answer.HttpAnswer.{HttpAnswer}
use Rattle.rip_http.specs.declared.answer.Opening.{Opening}
use Rattle.rip_wire.specs.Answers.{answer_text}
use Rattle.rip_wire.specs.Reasons.{reason_of}
use Rattle.rip_wire.specs.declared.ending.Ending.{Ending}
use Rattle.rip_log.specs.Entries.{Recorded, opened, admitted, served, done, closed, ended}
use Rattle.rip_history.specs.Answering.{batch_body, json_answer, opening_answer, opening_told}
use Rattle.rip_history.specs.Connections.{Act, Connection, all_put, answer_acts, is_there}
use Rattle.rip_history.specs.Requests.{identifiers_in}
use Rattle.rip_history.specs.Run.{Advance, AreAdvancedSo, Site, State, advance_acts, advance_entries, after_advance, busy_in, busy_up_to, first_state, handled_at, is_busy_in}
use Rattle.rip_history.specs.Runs.{after_turns}
use Rattle.rip_history.specs.Standings.{standing_from, standing_of, when_admitted, when_closed, when_done, when_opened}
use Rattle.rip_history.specs.declared.sessions.Progress.{Progress}
use Rattle.rip_history.specs.declared.standing.Standing.{Standing}
use Rattle.rip_law_history.proofs.WholeMadeLemmas.{all-join, all-maps}
use Rattle.rip_law_server.specs.Answered.{AreAnswered, Asker, answer_to, asker_of, progress_to}
use Rattle.rip_law_server.proofs.Askers.{askers_are_answered}
use Rattle.rip_law_server.specs.Opened.{AreWelcomed, IsWelcomed, OpenersAreAnswered, OpeningsAreAnswered, welcome_to}

-- ---- the answer

due : (page : List ℕ) (n number : ℕ) (how : Option Ending) (h : List Recorded) (close : Bool) → number ≡ 0
    → cond (eqb number 0) (opening_answer page n how h close) (json_answer 200 (batch_body n number how h) close) ≡ opening_answer page n how h close
due page n number how h close first =
    ap (λ (b : Bool). cond b (opening_answer page n how h close) (json_answer 200 (batch_body n number how h) close)) (eq-eqb number 0 first)

abbrev paged : List ℕ → Bool → Option Opening → HttpAnswer
paged page close x = record {
  code = 200;
  html = true;
  allow = None;
  opening = x;
  body = page;
  close = close;
  bare = false;
}

abbrev failed : Ending → Bool → Option Opening → HttpAnswer
failed e close x = record {
  code = 500;
  html = false;
  allow = None;
  opening = x;
  body = answer_text (record { number = 0; ended = Some (reason_of e); served = [] });
  close = close;
  bare = false;
}

pub openings_are_answered : OpeningsAreAnswered
openings_are_answered page n number None h close o first told = due page n number None h close first ∙ ap (paged page close) told
openings_are_answered page n number (Some e) h close o first told = due page n number (Some e) h close first ∙ ap (failed e close) told

-- ---- a session that stands was opened

abbrev IsThere : List Recorded → ℕ → Type 0
IsThere h n = (o : Opening) × (opening_told n h ≡ Some o)

unopened : (s : Standing) (b : Bool) (f : Standing → Standing) (n : ℕ) (h : List Recorded) → standing_from n (cond b (option_map f None) None) h ≡ Some s
    → standing_from n None h ≡ Some s
unopened s true f n h e = e
unopened s false f n h e = e

none-stands : (s : Standing) → ◌≡◌ {A = Option Standing} None (Some s) → ⊥
none-stands s e = cc

stands_told : (n : ℕ) (h : List Recorded) (s : Standing) → standing_of n h ≡ Some s → IsThere h n
stands_told n [] s e = absurd (none-stands s e)
stands_told n (opened turn session id seed time ∷ h) s e = by (eqb session n) refl (λ none. stands_told n h s none)
  where
    x : Opening
    x = record { id = to_be_bytes w128 id; seed = seed; time = time }

    by : (b : Bool) → eqb session n ≡ b → (standing_from n None h ≡ Some s → IsThere h n) → IsThere (opened turn session id seed time ∷ h) n
    by true own later = (x, ap (λ (b : Bool). cond b (Some x) (opening_told n h)) own)
    by false other later =
        let behind = later (subst (λ (b : Bool). standing_from n (cond b (Some when_opened) None) h ≡ Some s) other e) in
        (behind.0, ap (λ (b : Bool). cond b (Some x) (opening_told n h)) other ∙ behind.1)
stands_told n (admitted turn session batch ∷ h) s e = stands_told n h s (unopened s (eqb session n) (when_admitted batch.number) n h e)
stands_told n (served turn session batch number name args time reply ∷ h) s e = stands_told n h s e
stands_told n (done turn session batch how ∷ h) s e = stands_told n h s (unopened s (eqb session n) (when_done batch (option_map reason_of how)) n h e)
stands_told n (closed turn session ∷ h) s e = stands_told n h s (unopened s (eqb session n) when_closed n h e)
stands_told n (ended turn status ∷ h) s e = stands_told n h s e

busy_told : (n : ℕ) (h : List Recorded) → is_busy_in (standing_of n h) ≡ true → IsThere h n
busy_told n h busy = by (standing_of n h) refl busy
  where
    by : (o : Option Standing) → standing_of n h ≡ o → is_busy_in o ≡ true → IsThere h n
    by None is busy = absurd (false≢true busy)
    by (Some s) is busy = stands_told n h s is

-- so is each that goes on
all_told : (c : ℕ) (h : List Recorded) → AllByRecursion (IsThere h) (busy_up_to c h)
all_told zero h = tt
all_told (suc c) h =
    all-join (IsThere h) (busy_up_to c h) (cond (is_busy_in (standing_of (suc c) h)) (suc c ∷ []) []) (all_told c h)
    (last (is_busy_in (standing_of (suc c) h)) refl)
  where
    last : (b : Bool) → is_busy_in (standing_of (suc c) h) ≡ b → AllByRecursion (IsThere h) (cond b (suc c ∷ []) [])
    last true busy = (busy_told (suc c) h busy, tt)
    last false idle = tt

-- what it was opened with stays
opening-step : (t : Bool) (x o : Opening) (a b : Option Opening) → (a ≡ Some o → b ≡ Some o) → cond t (Some x) a ≡ Some o → cond t (Some x) b ≡ Some o
opening-step true x o a b f e = e
opening-step false x o a b f e = f e

opening_stays : (n : ℕ) (h es : List Recorded) (o : Opening) → opening_told n h ≡ Some o → opening_told n (h ++ es) ≡ Some o
opening_stays n [] es o e = absurd (cc)
opening_stays n (opened turn session id seed time ∷ h) es o e =
    opening-step (eqb session n) (record { id = to_be_bytes w128 id; seed = seed; time = time }) o (opening_told n h) (opening_told n (h ++ es))
    (opening_stays n h es o) e
opening_stays n (admitted turn session b ∷ h) es o e = opening_stays n h es o e
opening_stays n (served turn session batch number name args time reply ∷ h) es o e = opening_stays n h es o e
opening_stays n (done turn session batch how ∷ h) es o e = opening_stays n h es o e
opening_stays n (closed turn session ∷ h) es o e = opening_stays n h es o e
opening_stays n (ended turn status ∷ h) es o e = opening_stays n h es o e

-- ---- a turn

welcomed_to : (site : Site) (gone : Bool) (n number : ℕ) (how : Option Ending) (asker : Option Asker) (cs : List Connection) (h : List Recorded) (o : Opening)
    → number ≡ 0 → opening_told n h ≡ Some o → answer_to site gone n number how asker cs h ≡ welcome_to site gone o how asker cs
welcomed_to site gone n number how None cs h o first told = refl
welcomed_to site gone n number how (Some k) cs h o first told =
    ap (λ (a : HttpAnswer). cond (is_there k.connection cs) (answer_acts gone k.close k.connection (http.answer_text a)) [])
    (openings_are_answered site.page n number how h k.close o first told)

is_welcomed : (site : Site) (turn : ℕ) (asker : Option Asker) (s : State) (a : Advance) → IsThere s.history a.session
    → advance_acts site turn s a
    ≡ all_put (advance_entries turn a)
    ++ progress_to site a.gone a.session (length a.next.batches) a.progress asker s.connections.there (s.history ++ advance_entries turn a)
    → IsWelcomed site turn asker s a
is_welcomed site turn asker s a (o, told) acts how is first =
    let h = s.history ++ advance_entries turn a in
    let cs = s.connections.there in
    let es = all_put (advance_entries turn a) in (
      o,
      told,
      acts
          ∙ ap (λ (p : Progress). es ++ progress_to site a.gone a.session (length a.next.batches) p asker cs h) is
          ∙ ap (λ (xs : List Act). es ++ xs)
          (welcomed_to site a.gone a.session (length a.next.batches) how asker cs h o first (opening_stays a.session s.history (advance_entries turn a) o told)),
    )

are_welcomed : (site : Site) (turn moment : ℕ) (askers : ℕ → Option Asker) (s : State) (ns : List ℕ) (rest : List Advance)
    → AllByRecursion (IsThere s.history) ns → AreAdvancedSo site turn moment s ns rest → AreAnswered site turn askers s rest
    → AreWelcomed site turn askers s rest
are_welcomed site turn moment askers s [] rest all none answered = subst (AreWelcomed site turn askers s) (sym none) tt
are_welcomed site turn moment askers s (n ∷ ns) [] all none answered = absurd none
are_welcomed site turn moment askers s (n ∷ ns) (a ∷ rest) all (same, is, more) answered =
    let es = advance_entries turn a in
    let stay : AllByRecursion (IsThere (s.history ++ es)) ns =
    all-maps (IsThere s.history) (IsThere (s.history ++ es)) (λ k was. (was.0, opening_stays k s.history es was.0 was.1)) ns all.1 in (
      is_welcomed site turn (askers a.session) s a (subst (IsThere s.history) (sym same) all.0) answered.0,
      are_welcomed site turn moment askers (after_advance turn s a) ns rest stay more answered.1,
    )

pub openers_are_answered : OpenersAreAnswered
openers_are_answered site ts t lawful turns is =
    let x = handled_at site (length ts + 1) t (after_turns site 1 first_state ts) in
    are_welcomed site (length ts + 1) t.moment (asker_of site ts t) x (busy_in x.history) t.advances
    (all_told (length (identifiers_in x.history)) x.history) is.advanced (askers_are_answered site ts t lawful turns is)
