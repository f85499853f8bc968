-- Each batch that is done is answered where it was asked for, along a run.
use Rattle.std.proofs.Common.{◌≡◌, ◌≢◌, ℕ, zero, suc, ◌+◌, ◌<◌, Bool, true, false, cond, not, eqb, List, [], ◌∷◌, ◌++◌, length, map, Option, Some, None, refl, sym, ap, ◌∙◌, subst, arith, append-nil}
use Rattle.std.specs.Prelude.{is_some, option_map}
use Rattle.std.specs.List.{zip}
use Rattle.std.proofs.lemmas.Bool.{true≢false, false≢true, eqb-true, eqb-false, eq-eqb, ne_eqb, or_left}
use Rattle.std.proofs.lemmas.Option.{slice_get_past}
use Rattle.rip_http.specs.Answers.{answer_text}
use Rattle.rip_wire.specs.Reasons.{reason_of}
use Rattle.rip_wire.specs.declared.ending.Ending.{Ending}
use Rattle.rip_log.specs.Entries.{Recorded, opened, admitted, closed}
use Rattle.rip_history.specs.Answering.{batch_answer, decided_owed}
use Rattle.rip_history.specs.Connections.{Connection, all_put, answer_acts, is_there, owing}
use Rattle.rip_history.specs.Course.{Handled, decided_entries}
use Rattle.rip_history.specs.Parts.{Given, IsLawful}
use Rattle.rip_history.specs.Requests.{Decision, answers, opens, admits, closes, identifiers_in}
use Rattle.rip_history.specs.Run.{Advance, AreAdvancedSo, AreHandledSo, Arrived, Coming, Handling, IsAdvance, IsTurn, Site, State, advance_acts, advance_entries, after_advance, after_advances, after_arrived, after_handling, after_handlings, after_turn, answered_acts, answered_or_owed, busy_in, decided, done_entries, first_state, handled_at, is_busy_in, knocked_at, message, progress_acts, progress_there, refused, stage_of, taken}
use Rattle.rip_history.specs.Runs.{AreTurns, after_turns}
use Rattle.rip_history.specs.Services.{Serving, served_entry, servings_in}
use Rattle.rip_history.specs.Stages.{Stage}
use Rattle.rip_history.specs.Standings.{after_entry, has_done, is_busy, standing_from, standing_of, when_admitted, when_closed, when_done, when_opened}
use Rattle.rip_history.specs.declared.sessions.Progress.{Progress}
use Rattle.rip_history.specs.declared.sessions.Progress.TheVariants.{Busy, Finished}
use Rattle.rip_history.specs.declared.standing.Standing.{Standing}
use Rattle.rip_history.proofs.DecisionLemmas.{admits_next}
use Rattle.rip_history.proofs.RequestLemmas.{admitted_is_ready, opened_is_new}
use Rattle.rip_history.proofs.StandingLemmas.{standings_follow}
use Rattle.rip_law_history.proofs.AdvanceLemmas.{Midst, advance_fit, begin_midst}
use Rattle.rip_law_history.proofs.FitLemmas.{AllFit, Fits, handled_fit}
use Rattle.rip_law_history.proofs.WholeMadeLemmas.{RisesFrom, busy_rises}
use Rattle.rip_law_history.proofs.WholeRunLemmas.{run_fits}
use Rattle.rip_law_history.proofs.ViewLemmas.{seen, standing_join}
use Rattle.rip_law_server.specs.Answered.{AreAnswered, Asker, AskersAreAnswered, asker_behind, asker_by, asker_from, asker_in, progress_to}
use Rattle.rip_law_server.proofs.Owing.{AreGood, IsFree, Owes, answer_good, front_below, front_free, knock_owes, other_answered, other_good, own_answered, own_good, owing_is, taken_good}
use Rattle.rip_law_server.proofs.PaceLemmas.{turn_fit}

-- ---- how a session stands

-- the answers that are owed for a session in a state, where this is who asked
abbrev pub Owed : ℕ → Option Asker → State → Type 0
Owed n asker s = (let k = s.connections in Owes n (is_busy_in (standing_of n s.history)) asker k.opened k.there)

pub follows : (n : ℕ) (h : List Recorded) (e : Recorded) (o : Option Standing) → after_entry n (standing_of n h) e ≡ o → is_busy_in (standing_of n (h ++ e ∷ [])) ≡ is_busy_in o
follows n h e o is = ap is_busy_in (standings_follow n h e ∙ is)

pub busy_closed : (b : Bool) (s : Option Standing) → is_busy_in (cond b (option_map when_closed s) s) ≡ is_busy_in s
busy_closed true None = refl
busy_closed true (Some s) = refl
busy_closed false s = refl

-- an idle session
pub idle_by : (s : Standing) → s.done ≡ Some s.last → is_busy s ≡ false
idle_by s is_done = ap (λ (o : Option ℕ). not (has_done o s.last)) is_done ∙ ap not (eq-eqb s.last s.last refl)

-- to which the next batch is admitted
pub busy_by : (s : Standing) (number : ℕ) → s.done ≡ Some s.last → number ≡ s.last + 1 → is_busy (when_admitted number s) ≡ true
busy_by s number is_done next = ap (λ (o : Option ℕ). not (has_done o number)) is_done ∙ ap not (ne_eqb s.last number (λ e. omega (arith, e, next)))

pub stage_none : (stages : List Stage) (n : ℕ) → n ≡ length stages + 1 → stage_of n stages ≡ None
stage_none stages zero e = refl
stage_none stages (suc i) e = slice_get_past stages i (omega (arith, e))

-- ---- a request

module _ (site : Site) (lawful : IsLawful site.meaning) (u moment n : ℕ) where
  -- the state behind what is decided
  abbrev Behind : State → ℕ → ℕ → Bool → Bool → Option Asker → Decision → Type 0
  Behind s c size gone close asker d =
      (let k = s.connections in
      Owes n (is_busy_in (standing_of n (s.history ++ decided_entries (u + 1) moment d))) (asker_by n c close (decided_owed d) asker) k.opened
      (answered_or_owed c gone close (decided_owed d) (taken c size k.there)))

  -- the answer is given at once, and the session is as busy as before
  at_once : (s : State) (c size : ℕ) (gone close : Bool) (asker : Option Asker) (busy : Bool) → busy ≡ is_busy_in (standing_of n s.history) → Owed n asker s
      → IsFree (is_busy_in (standing_of n s.history)) asker c
      → (let k = s.connections in Owes n busy asker k.opened (answered_or_owed c gone close None (taken c size k.there)))
  at_once s c size gone close asker busy same w free =
      let k = s.connections in
      let b = is_busy_in (standing_of n s.history) in
      subst (λ (t : Bool). Owes n t asker k.opened (answered_or_owed c gone close None (taken c size k.there))) (sym same)
      record {
        good = answer_good n b asker k.opened gone close c (taken c size k.there) free (taken_good n b asker k.opened c size k.there w.good);
        asked = w.asked;
        known = w.known;
      }

  -- it is owed for another session
  for_other : (s : State) (c size j : ℕ) (gone close : Bool) (asker : Option Asker) (busy : Bool) → busy ≡ is_busy_in (standing_of n s.history) → (j ≡ n → ⊥) → Owed n asker s
      → IsFree (is_busy_in (standing_of n s.history)) asker c
      → (let k = s.connections in Owes n busy asker k.opened (answered_or_owed c gone close (Some j) (taken c size k.there)))
  for_other s c size j gone close asker busy same other w free =
      let k = s.connections in
      let b = is_busy_in (standing_of n s.history) in
      subst (λ (t : Bool). Owes n t asker k.opened (answered_or_owed c gone close (Some j) (taken c size k.there))) (sym same)
      record {
        good = other_good n b asker k.opened c j close (taken c size k.there) free other (taken_good n b asker k.opened c size k.there w.good);
        asked = w.asked;
        known = w.known;
      }

  -- it is owed for this one, which was idle and is busy now
  for_own : (s : State) (c size j : ℕ) (gone close : Bool) (asker : Option Asker) (busy : Bool) → busy ≡ true → is_busy_in (standing_of n s.history) ≡ false → j ≡ n → Owed n asker s
      → c < (let k = s.connections in k.opened)
      → (let k = s.connections in Owes n busy (Some (record { connection = c; close = close })) k.opened (answered_or_owed c gone close (Some j) (taken c size k.there)))
  for_own s c size j gone close asker busy now idle own w below =
      let k = s.connections in
      subst (λ (t : Bool). Owes n t (Some (record { connection = c; close = close })) k.opened (answered_or_owed c gone close (Some j) (taken c size k.there))) (sym now)
      (subst (λ (i : ℕ). Owes n true (Some (record { connection = c; close = close })) k.opened (answered_or_owed c gone close (Some i) (taken c size k.there))) (sym own)
      record {
        good =
            own_good n asker k.opened c close (taken c size k.there)
            (subst (λ (t : Bool). AreGood n t asker k.opened (taken c size k.there)) idle (taken_good n (is_busy_in (standing_of n s.history)) asker k.opened c size k.there w.good));
        asked = λ a is.
            let same : ◌≡◌ {A = Asker} (record { connection = c; close = close }) a = cc in
            subst (λ (i : ℕ). i < k.opened) (ap (λ (x : Asker). x.connection) same) below;
        known = λ b none. true≢false (ap (λ (o : Option Asker). is_some o) none);
      })

  decided_owes : (s : State) (x : Handled) (c size : ℕ) (gone close : Bool) (asker : Option Asker) (d : Decision) → decided site.limit s.history x ≡ d
      → AllFit site.meaning u s.history s.stages → Owed n asker s → IsFree (is_busy_in (standing_of n s.history)) asker c → c < (let k = s.connections in k.opened)
      → Behind s c size gone close asker d
  decided_owes s x c size gone close asker (answers code body) is fit w free below =
      at_once s c size gone close asker (is_busy_in (standing_of n (s.history ++ []))) (ap (λ (h : List Recorded). is_busy_in (standing_of n h)) (append-nil s.history)) w free
  decided_owes s x c size gone close asker (closes k body) is fit w free below =
      at_once s c size gone close asker (is_busy_in (standing_of n (s.history ++ closed (u + 1) k ∷ [])))
      (follows n s.history (closed (u + 1) k) _ refl ∙ busy_closed (eqb k n) (standing_of n s.history)) w free
  decided_owes s x c size gone close asker (opens k id seed) is fit w free below = by (eqb k n) refl
    where
      e : Recorded
      e = opened (u + 1) k id seed moment

      by : (b : Bool) → eqb k n ≡ b
          → (let m = s.connections in
          Owes n (is_busy_in (standing_of n (s.history ++ e ∷ []))) (cond b (Some (record { connection = c; close = close })) asker) m.opened
          (answered_or_owed c gone close (Some k) (taken c size m.there)))
      by true own =
          let new = opened_is_new site.limit s.history x.asked x.drawn x.lack k id seed is in
          let none : stage_of n s.stages ≡ None = stage_none s.stages n (omega (arith, eqb-true k n own, new.ordinal, fit.count)) in
          let absent = subst (λ (o : Option Stage). Fits site.meaning u (seen n s.history) o) none (fit.each n) in
          for_own s c size k gone close asker (is_busy_in (standing_of n (s.history ++ e ∷ [])))
          (follows n s.history e (Some when_opened) (ap (λ (b : Bool). cond b (Some when_opened) (standing_of n s.history)) own))
          (ap is_busy_in absent.standing) (eqb-true k n own) w below
      by false other =
          for_other s c size k gone close asker (is_busy_in (standing_of n (s.history ++ e ∷ [])))
          (follows n s.history e (standing_of n s.history) (ap (λ (b : Bool). cond b (Some when_opened) (standing_of n s.history)) other))
          (eqb-false k n other) w free
  decided_owes s x c size gone close asker (admits k b) is fit w free below = by (eqb k n) refl
    where
      e : Recorded
      e = admitted (u + 1) k b

      by : (t : Bool) → eqb k n ≡ t
          → (let m = s.connections in
          Owes n (is_busy_in (standing_of n (s.history ++ e ∷ []))) (cond t (Some (record { connection = c; close = close })) asker) m.opened
          (answered_or_owed c gone close (Some k) (taken c size m.there)))
      by true own =
          let ready = admitted_is_ready site.limit s.history x.asked x.drawn x.lack k b is in
          let standing = ready.standing in
          let next = (admits_next standing b.number).0 ready.admits in
          let stands : standing_of n s.history ≡ Some standing = subst (λ (j : ℕ). standing_of j s.history ≡ Some standing) (eqb-true k n own) ready.stands in
          for_own s c size k gone close asker (is_busy_in (standing_of n (s.history ++ e ∷ [])))
          (follows n s.history e (Some (when_admitted b.number standing))
          (ap (λ (t : Bool). cond t (option_map (when_admitted b.number) (standing_of n s.history)) (standing_of n s.history)) own ∙ ap (option_map (when_admitted b.number)) stands)
          ∙ busy_by standing b.number next.1 next.2)
          (ap is_busy_in stands ∙ idle_by standing next.1) (eqb-true k n own) w below
      by false other =
          for_other s c size k gone close asker (is_busy_in (standing_of n (s.history ++ e ∷ [])))
          (follows n s.history e (standing_of n s.history)
          (ap (λ (t : Bool). cond t (option_map (when_admitted b.number) (standing_of n s.history)) (standing_of n s.history)) other))
          (eqb-false k n other) w free

  pub arrived_owes : (s : State) (c size : ℕ) (gone : Bool) (asker : Option Asker) (a : Arrived)
      → AllFit site.meaning u s.history s.stages → Owed n asker s → IsFree (is_busy_in (standing_of n s.history)) asker c → c < (let k = s.connections in k.opened)
      → Owed n (asker_behind site s n c a asker) (after_arrived site (u + 1) moment c size gone s a)
  arrived_owes s c size gone asker (refused r) fit w free below =
      let k = s.connections in
      record {
        good = answer_good n (is_busy_in (standing_of n s.history)) asker k.opened gone true c k.there free w.good;
        asked = w.asked;
        known = w.known;
      }
  arrived_owes s c size gone asker (message m x) fit w free below =
      decided_owes s x c size gone m.close asker (decided site.limit s.history x) refl fit w free below

  pub handled_owes : (s : State) (hs : List Handling) (asker : Option Asker) → AreHandledSo site (u + 1) moment s hs
      → AllFit site.meaning u s.history s.stages → Owed n asker s → Owed n (asker_in site (u + 1) moment s hs n asker) (after_handlings site (u + 1) moment s hs)
  handled_owes s [] asker first fit w = w
  handled_owes s (h ∷ hs) asker (first, rest) fit w =
      let k = s.connections in
      let b = is_busy_in (standing_of n s.history) in
      handled_owes (after_handling site (u + 1) moment s h) hs (asker_behind site s n h.connection h.arrived asker) rest
      (handled_fit site lawful u moment s (h ∷ []) fit)
      (arrived_owes s h.connection h.size h.gone asker h.arrived fit w (front_free n b asker k.opened k.there h first w.good) (front_below n b asker k.opened k.there h first w.good))

-- ---- a session goes on

served_stay : (n turn k : ℕ) (s : Option Standing) (xs : List (Serving × Given)) (es : List Recorded)
    → standing_from n s (map (served_entry turn k) xs ++ es) ≡ standing_from n s es
served_stay n turn k s [] es = refl
served_stay n turn k s ((a, g) ∷ xs) es = served_stay n turn k s xs es

-- the standing of a session after one went on
pub gone_on : (n turn : ℕ) (h : List Recorded) (a : Advance)
    → standing_of n (h ++ advance_entries turn a) ≡ standing_from n (standing_of n h) (done_entries turn a.session (length a.next.batches) a.progress)
gone_on n turn h a =
    standing_join n None h (advance_entries turn a)
    ∙ served_stay n turn a.session (standing_of n h) (zip (servings_in a.parts) a.given) (done_entries turn a.session (length a.next.batches) a.progress)

-- another is as busy as before
pub other_same : (n turn j number : ℕ) (p : Progress) (s : Option Standing) → eqb j n ≡ false → standing_from n s (done_entries turn j number p) ≡ s
other_same n turn j number Busy s other = refl
other_same n turn j number (Finished how) s other = ap (λ (b : Bool). cond b (option_map (when_done number (option_map reason_of how)) s) s) other

advance_other : (n turn : ℕ) (asker : Option Asker) (s : State) (a : Advance) → eqb a.session n ≡ false → Owed n asker s → Owed n asker (after_advance turn s a)
advance_other n turn asker s a other w =
    let k = s.connections in
    let b = is_busy_in (standing_of n s.history) in
    let same : is_busy_in (standing_of n (s.history ++ advance_entries turn a)) ≡ b =
    ap is_busy_in (gone_on n turn s.history a ∙ other_same n turn a.session (length a.next.batches) a.progress (standing_of n s.history) other) in
    subst (λ (t : Bool). Owes n t asker k.opened (progress_there a.gone a.session a.progress k.there)) (sym same)
    record { good = by a.progress; asked = w.asked; known = w.known }
  where
    by : (p : Progress) → (let k = s.connections in AreGood n (is_busy_in (standing_of n s.history)) asker k.opened (progress_there a.gone a.session p k.there))
    by Busy = w.good
    by (Finished how) =
        let k = s.connections in
        other_answered n a.session (is_busy_in (standing_of n s.history)) asker k.opened a.gone k.there (eqb-false a.session n other) w.good

-- a session whose batch is done is idle
done_idle : (n turn number : ℕ) (how : Option Ending) (s : Standing) → number ≡ s.last → is_busy_in (standing_from n (Some s) (done_entries turn n number (Finished how))) ≡ false
done_idle n turn number how s last =
    ap (λ (b : Bool). is_busy_in (cond b (Some (when_done number (option_map reason_of how) s)) (Some s))) (eq-eqb n n refl)
    ∙ ap not (eq-eqb number s.last last)

advance_own : (turn : ℕ) (k : Asker) (s : State) (a : Advance) (standing : Standing) → standing_of a.session s.history ≡ Some standing → is_busy standing ≡ true
    → length a.next.batches ≡ standing.last → Owed a.session (Some k) s → Owed a.session (Some k) (after_advance turn s a)
advance_own turn k s a standing stands busy last w = by a.progress refl
  where
    n : ℕ
    n = a.session

    good : (let c = s.connections in AreGood n true (Some k) c.opened c.there)
    good = (let c = s.connections in subst (λ (t : Bool). AreGood n t (Some k) c.opened c.there) (ap is_busy_in stands ∙ busy) w.good)

    by : (p : Progress) → a.progress ≡ p → Owed n (Some k) (after_advance turn s a)
    by Busy is =
        let c = s.connections in
        let same : is_busy_in (standing_of n (s.history ++ advance_entries turn a)) ≡ true =
        ap is_busy_in (gone_on n turn s.history a ∙ ap (λ (p : Progress). standing_from n (standing_of n s.history) (done_entries turn n (length a.next.batches) p)) is ∙ stands) ∙ busy in
        subst (λ (p : Progress). Owes n (is_busy_in (standing_of n (s.history ++ advance_entries turn a))) (Some k) c.opened (progress_there a.gone n p c.there)) (sym is)
        (subst (λ (t : Bool). Owes n t (Some k) c.opened c.there) (sym same) record { good = good; asked = w.asked; known = λ b none. true≢false (ap (λ (o : Option Asker). is_some o) none) })
    by (Finished how) is =
        let c = s.connections in
        let same : is_busy_in (standing_of n (s.history ++ advance_entries turn a)) ≡ false =
        ap is_busy_in
        (gone_on n turn s.history a ∙ ap (λ (p : Progress). standing_from n (standing_of n s.history) (done_entries turn n (length a.next.batches) p)) is
        ∙ ap (λ (o : Option Standing). standing_from n o (done_entries turn n (length a.next.batches) (Finished how))) stands)
        ∙ done_idle n turn (length a.next.batches) how standing last in
        subst (λ (p : Progress). Owes n (is_busy_in (standing_of n (s.history ++ advance_entries turn a))) (Some k) c.opened (progress_there a.gone n p c.there)) (sym is)
        (subst (λ (t : Bool). Owes n t (Some k) c.opened (progress_there a.gone n (Finished how) c.there)) (sym same)
        record {
          good = own_answered n c.opened k a.gone c.there good;
          asked = w.asked;
          known = λ b none. true≢false (ap (λ (o : Option Asker). is_some o) none);
        })

-- what is done when a session goes on
acts_so : (site : Site) (turn : ℕ) (k : Asker) (s : State) (a : Advance) → is_busy_in (standing_of a.session s.history) ≡ true → Owed a.session (Some k) s
    → advance_acts site turn s a
    ≡ all_put (advance_entries turn a)
    ++ progress_to site a.gone a.session (length a.next.batches) a.progress (Some k) (let c = s.connections in c.there) (s.history ++ advance_entries turn a)
acts_so site turn k s a busy w = ap (λ acts. all_put (advance_entries turn a) ++ acts) (by a.progress)
  where
    h : List Recorded
    h = s.history ++ advance_entries turn a

    number : ℕ
    number = length a.next.batches

    there : List Connection
    there = (let c = s.connections in c.there)

    owed : owing a.session there ≡ cond (is_there k.connection there) (Some (k.connection, k.close)) None
    owed =
        let c = s.connections in
        owing_is a.session c.opened k there (subst (λ (t : Bool). AreGood a.session t (Some k) c.opened there) busy w.good)

    split : (how : Option Ending) (b : Bool)
        → answered_acts site a.gone (cond b (Some (k.connection, k.close)) None) a.session number how h
        ≡ cond b (answer_acts a.gone k.close k.connection (answer_text (batch_answer site.page a.session number how h k.close))) []
    split how true = refl
    split how false = refl

    by : (p : Progress) → progress_acts site a.gone a.session number p there h ≡ progress_to site a.gone a.session number p (Some k) there h
    by Busy = refl
    by (Finished how) = ap (λ (o : Option (ℕ × Bool)). answered_acts site a.gone o a.session number how h) owed ∙ split how (is_there k.connection there)

-- ---- all sessions

abbrev pub AllOwed : (ℕ → Option Asker) → State → Type 0
AllOwed askers s = (n : ℕ) → Owed n (askers n) s

-- what the session that goes on has: who asked, and how it stands
pub record Goes (askers : ℕ → Option Asker) (s : State) (a : Advance) : Type 0 where
  pub asker : Asker
  pub asked : askers a.session ≡ Some asker
  pub standing : Standing
  pub stands : standing_of a.session s.history ≡ Some standing
  pub busy : is_busy standing ≡ true
  pub last : length a.next.batches ≡ standing.last

pub goes : (site : Site) (u moment : ℕ) (askers : ℕ → Option Asker) (s : State) (a : Advance) (ns : List ℕ) → IsAdvance site moment s a
    → Midst site.meaning u s.history s.stages (a.session ∷ ns) → AllOwed askers s → Goes askers s a
goes site u moment askers s a ns i f w =
    let waits = f.waits a.session (or_left (eqb a.session a.session) _ (eq-eqb a.session a.session refl)) in
    let k = subst (λ (o : Option Stage). Fits site.meaning u (seen a.session s.history) o) i.stands waits.0 in
    let stands = k.stands in
    let g = i.goes_on in
    let known = w a.session in
    asked_by (askers a.session) refl known.known waits.1 k.standing k.is (ap length g.batches ∙ sym stands.number)
  where
    asked_by : (o : Option Asker) → askers a.session ≡ o → (is_busy_in (standing_of a.session s.history) ≡ true → askers a.session ≢ None) → is_busy_in (standing_of a.session s.history) ≡ true
        → (standing : Standing) → standing_of a.session s.history ≡ Some standing → length a.next.batches ≡ standing.last → Goes askers s a
    asked_by None is known busy standing stands last = absurd (known busy is)
    asked_by (Some k) is known busy standing stands last = record {
      asker = k;
      asked = is;
      standing = standing;
      stands = stands;
      busy = sym (ap is_busy_in stands) ∙ busy;
      last = last;
    }

pub advance_owed : (turn : ℕ) (askers : ℕ → Option Asker) (s : State) (a : Advance) → Goes askers s a → AllOwed askers s → AllOwed askers (after_advance turn s a)
advance_owed turn askers s a g w n = by (eqb a.session n) refl
  where
    by : (b : Bool) → eqb a.session n ≡ b → Owed n (askers n) (after_advance turn s a)
    by true own =
        subst (λ (j : ℕ). Owed j (askers j) (after_advance turn s a)) (eqb-true a.session n own)
        (subst (λ (o : Option Asker). Owed a.session o (after_advance turn s a)) (sym g.asked)
        (advance_own turn g.asker s a g.standing g.stands g.busy g.last (subst (λ (o : Option Asker). Owed a.session o s) g.asked (w a.session))))
    by false other = advance_other n turn (askers n) s a other (w n)

advances_owed : (site : Site) (u moment low : ℕ) (askers : ℕ → Option Asker) (s : State) (ns : List ℕ) (rest : List Advance) → RisesFrom low ns
    → AreAdvancedSo site (u + 1) moment s ns rest → Midst site.meaning u s.history s.stages ns → AllOwed askers s
    → AreAnswered site (u + 1) askers s rest × AllOwed askers (after_advances (u + 1) s rest)
advances_owed site u moment low askers s [] rest r e f w =
    (subst (λ (others : List Advance). AreAnswered site (u + 1) askers s others) (sym e) tt, subst (λ (others : List Advance). AllOwed askers (after_advances (u + 1) s others)) (sym e) w)
advances_owed site u moment low askers s (n ∷ ns) [] r e f w = absurd e
advances_owed site u moment low askers s (n ∷ ns) (a ∷ rest) r (same, i, more) f w =
    let rises : RisesFrom a.session ns = subst (λ (k : ℕ). RisesFrom k ns) (sym same) r.1 in
    let midst = subst (λ (k : ℕ). Midst site.meaning u s.history s.stages (k ∷ ns)) (sym same) f in
    let g = goes site u moment askers s a ns i midst w in
    let behind = advances_owed site u moment a.session askers (after_advance (u + 1) s a) ns rest rises more (advance_fit site u moment s a ns i rises midst) (advance_owed (u + 1) askers s a g w) in
    let own = subst (λ (o : Option Asker). Owed a.session o s) g.asked (w a.session) in
    let c = s.connections in
    let acts =
    acts_so site (u + 1) g.asker s a (ap is_busy_in g.stands ∙ g.busy) own
    ∙ ap (λ (o : Option Asker). all_put (advance_entries (u + 1) a) ++ progress_to site a.gone a.session (length a.next.batches) a.progress o c.there (s.history ++ advance_entries (u + 1) a)) (sym g.asked) in
    ((acts, behind.0), behind.1)

-- ---- turns

pub turn_owed : (site : Site) → IsLawful site.meaning → (u : ℕ) (askers : ℕ → Option Asker) (s : State) (t : Coming) → IsTurn site (u + 1) s t
    → AllFit site.meaning u s.history s.stages → AllOwed askers s
    → AreAnswered site (u + 1) (λ n. asker_in site (u + 1) t.moment (knocked_at t s) t.handlings n (askers n)) (handled_at site (u + 1) t s) t.advances
    × AllOwed (λ n. asker_in site (u + 1) t.moment (knocked_at t s) t.handlings n (askers n)) (after_turn site (u + 1) t s)
turn_owed site lawful u askers s t is fit w =
    let x = handled_at site (u + 1) t s in
    let handled = λ (n : ℕ).
    handled_owes site lawful u t.moment n (knocked_at t s) t.handlings (askers n) is.handled fit
    (knock_owes n (is_busy_in (standing_of n s.history)) (askers n) t.knock s.connections (w n)) in
    advances_owed site u t.moment 0 (λ n. asker_in site (u + 1) t.moment (knocked_at t s) t.handlings n (askers n)) x (busy_in x.history) t.advances
    (busy_rises (length (identifiers_in x.history)) x.history) is.advanced
    (begin_midst site.meaning u x.history x.stages (handled_fit site lawful u t.moment (knocked_at t s) t.handlings fit)) handled

turns_owed : (site : Site) → IsLawful site.meaning → (u : ℕ) (askers : ℕ → Option Asker) (s : State) (ts : List Coming) → AreTurns site (u + 1) s ts
    → AllFit site.meaning u s.history s.stages → AllOwed askers s → AllOwed (λ n. asker_from site (u + 1) s ts n (askers n)) (after_turns site (u + 1) s ts)
turns_owed site lawful u askers s [] turns fit w = w
turns_owed site lawful u askers s (t ∷ ts) turns fit w =
    let here = turn_owed site lawful u askers s t turns.0 fit w in
    turns_owed site lawful (u + 1) (λ n. asker_in site (u + 1) t.moment (knocked_at t s) t.handlings n (askers n)) (after_turn site (u + 1) t s) ts turns.1
    (turn_fit site lawful u s t turns.0 fit) here.1

pub begun_owed : AllOwed (λ n. None) first_state
begun_owed n = record {
  good = tt;
  asked = λ k is. absurd (false≢true (ap (λ (o : Option Asker). is_some o) is));
  known = λ busy. absurd (false≢true busy);
}

pub askers_are_answered : AskersAreAnswered
askers_are_answered site ts t lawful turns is =
    let w = turns_owed site lawful 0 (λ n. None) first_state ts turns (run_fits site [] lawful tt) begun_owed in
    let here = turn_owed site lawful (length ts) (λ n. asker_from site 1 first_state ts n None) (after_turns site 1 first_state ts) t is (run_fits site ts lawful turns) w in
    here.0
