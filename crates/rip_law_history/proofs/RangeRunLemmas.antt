-- Each run has a history in range.
use Rattle.std.proofs.Common.{◌≡◌, ◌⊎◌, inl, inr, ℕ, ◌+◌, ◌<◌, ◌≤◌, ◌^◌, Bool, true, false, cond, eqb, List, [], ◌∷◌, ◌++◌, length, Option, Some, None, refl, sym, ap, ◌∙◌, subst, arith, append-nil, append_assoc}
use Rattle.std.specs.Prelude.{option_map, IfSome}
use Rattle.std.specs.List.{AllByRecursion}
use Rattle.rip_wire.specs.Batches.{Contents, IsBatch}
use Rattle.rip_wire.specs.Reasons.{reason_of}
use Rattle.rip_log.specs.Entries.{Recorded, opened, admitted, served, done, closed, ended}
use Rattle.rip_log.specs.Histories.{IsHistory}
use Rattle.rip_log.specs.Ranges.{IsLong, IsShort, IsRecorded, IsStatus}
use Rattle.rip_history.specs.Course.{IsCourse, IsMadeIn, handled_entries}
use Rattle.rip_history.specs.Parts.{Meaning}
use Rattle.rip_history.specs.Run.{Site, State, first_state, stage_of, Coming, knocked_at, handled_at, asked_in}
use Rattle.rip_history.specs.Runs.{after_turns, StopsWith, over, spent}
use Rattle.rip_history.specs.Sessions.{opening_in, batches_in, deeds_in, IsSessionOf}
use Rattle.rip_history.specs.Stages.{Stage}
use Rattle.rip_history.specs.Standings.{when_opened, when_admitted, when_done, when_closed, standing_from}
use Rattle.rip_history.specs.declared.standing.Standing.{Standing}
use Rattle.rip_history.proofs.ComeLemmas.{all_right}
use Rattle.rip_history.proofs.CourseLemmas.{courses_count}
use Rattle.rip_law_history.specs.Legal.{made_in, course_turns, told_in, history_of}
use Rattle.rip_law_history.proofs.EndLemmas.{runs_put}
use Rattle.rip_law_history.proofs.EntryLemmas.{handled_history}
use Rattle.rip_law_history.proofs.FitLemmas.{Fits, AllFit, handled_fit}
use Rattle.rip_law_history.proofs.WholeMadeLemmas.{all-join, all-maps}
use Rattle.rip_law_history.proofs.WholeRunLemmas.{run_fits, runs_are_courses}
use Rattle.rip_law_history.proofs.ViewLemmas.{Seen, seen, seen_join}
use Rattle.rip_law_history.specs.Ranged.{RunsAreInRange, LogsAreInRange, BrokenRunsAreInRange}
use Rattle.rip_law_history.proofs.DecidedLemmas.{IsPlaced, ArePlaced, handled_placed, made_placed, turns_placed}
use Rattle.rip_law_history.proofs.RangeMadeLemmas.{IsDone, batches_range, counted_few, opened_short, session_done, deeds_did, all_recorded}

pub runs_are_in_range : RunsAreInRange
runs_are_in_range site ts lawful means replies few timed turns =
    all_recorded site.service [] h replies tt course.replies placed (deeds_did h (λ n. by n (opening_in n h) refl))
  where
    h : List Recorded
    h = history_of site ts

    course : IsCourse site.meaning site.service site.limit (told_in ts) (course_turns 1 ts) h
    course = runs_are_courses site ts lawful turns

    placed : ArePlaced h
    placed = turns_placed site 1 first_state ts (omega (arith, few)) timed turns tt

    counts : (n : ℕ) → length (batches_in n h) < 2 ^ 53
    counts n =
        let c = courses_count site.meaning site.service site.limit (told_in ts) (course_turns 1 ts) h course in
        let le : 1 + length (batches_in n h) ≤ 2 ^ 53 = counted_few 1 (batches_in n h) (batches_range n h placed) (c.batches n) (omega arith) in
        omega (arith, le)

    by : (n : ℕ) (o : Option (ℕ × ℕ)) → opening_in n h ≡ o → AllByRecursion (IsDone n) (deeds_in n h)
    by n None e = subst (AllByRecursion (IsDone n)) (sym (course.others n e)) tt
    by n (Some opening) e =
        session_done site.meaning (length (course_turns 1 ts)) n h means placed (opened_short n h opening placed e) (counts n) (course.sessions n opening e)

status-of : (site : Site) (most : Option ℕ) (ts : List Coming) (k : ℕ) → StopsWith site most ts k → IsStatus k
status-of site most ts k (over e m) = inl refl
status-of site most ts k (spent g m) = inr refl

pub logs_are_in_range : LogsAreInRange
logs_are_in_range site most ts k acts lawful means replies few timed run =
    subst IsHistory (sym (runs_put site most ts k acts run))
    (all-join IsRecorded (history_of site ts) (ended (length ts) k ∷ []) (runs_are_in_range site ts lawful means replies few timed run.turns)
    ((few, status-of site most ts k run.stops), tt))

-- ---- a run that breaks off

all_left : {A : Type 0} (P : A → Type 0) (xs ys : List A) → AllByRecursion P (xs ++ ys) → AllByRecursion P xs
all_left P [] ys all = tt
all_left P (x ∷ xs) ys all = (all.0, all_left P xs ys all.1)

-- the number of the last batch is that of one
small-step : (t : Bool) (o : Option Standing) (f : Standing → Standing) → ((s : Standing) → (f s).last < 2 ^ 53) → IfSome o (λ (s : Standing). s.last < 2 ^ 53)
    → IfSome (cond t (option_map f o) o) (λ (s : Standing). s.last < 2 ^ 53)
small-step true None f small k = tt
small-step true (Some s) f small k = small s
small-step false o f small k = k

keeps-step : (t : Bool) (o : Option Standing) (f : Standing → Standing) → ((s : Standing) → (f s).last ≡ s.last) → IfSome o (λ (s : Standing). s.last < 2 ^ 53)
    → IfSome (cond t (option_map f o) o) (λ (s : Standing). s.last < 2 ^ 53)
keeps-step true None f same k = tt
keeps-step true (Some s) f same k = subst (λ (n : ℕ). n < 2 ^ 53) (sym (same s)) k
keeps-step false o f same k = k

opens-step : (t : Bool) (o : Option Standing) → IfSome o (λ (s : Standing). s.last < 2 ^ 53) → IfSome (cond t (Some when_opened) o) (λ (s : Standing). s.last < 2 ^ 53)
opens-step true o k = omega arith
opens-step false o k = k

last-small : (n : ℕ) (o : Option Standing) (h : List Recorded) → ArePlaced h → IfSome o (λ (s : Standing). s.last < 2 ^ 53)
    → IfSome (standing_from n o h) (λ (s : Standing). s.last < 2 ^ 53)
last-small n o [] placed k = k
last-small n o (opened turn session id seed time ∷ h) placed k =
    last-small n (cond (eqb session n) (Some when_opened) o) h placed.1 (opens-step (eqb session n) o k)
last-small n o (admitted turn session b ∷ h) placed k =
    let range : IsBatch b = placed.0.2 in
    last-small n (cond (eqb session n) (option_map (when_admitted b.number) o) o) h placed.1
    (small-step (eqb session n) o (when_admitted b.number) (λ s. range.bounded) k)
last-small n o (served turn session number j name args time reply ∷ h) placed k = last-small n o h placed.1 k
last-small n o (done turn session number how ∷ h) placed k =
    last-small n (cond (eqb session n) (option_map (when_done number (option_map reason_of how)) o) o) h placed.1
    (keeps-step (eqb session n) o (when_done number (option_map reason_of how)) (λ s. refl) k)
last-small n o (closed turn session ∷ h) placed k =
    last-small n (cond (eqb session n) (option_map when_closed o) o) h placed.1 (keeps-step (eqb session n) o when_closed (λ s. refl) k)
last-small n o (ended turn status ∷ h) placed k = last-small n o h placed.1 k

-- so a session has no more batches
few-batches : (m : Meaning) (u n : ℕ) (h : List Recorded) (o : Option Stage) → ArePlaced h → Fits m u (seen n h) o → length (batches_in n h) < 2 ^ 53
few-batches m u n h None placed k = subst (λ (bs : List Contents). length bs < 2 ^ 53) (sym k.batches) (omega arith)
few-batches m u n h (Some st) placed k =
    let small : k.standing.last < 2 ^ 53 =
    subst (λ (o : Option Standing). IfSome o (λ (s : Standing). s.last < 2 ^ 53)) k.is (last-small n None h placed tt) in
    subst (λ (bs : List Contents). length bs < 2 ^ 53) (sym k.batches) (subst (λ (c : ℕ). c < 2 ^ 53) (let s = k.stands in s.number) small)

made-batches : (turn moment n : ℕ) (es : List Recorded) → AllByRecursion (IsMadeIn turn moment) es → batches_in n es ≡ []
made-batches turn moment n [] all = refl
made-batches turn moment n (opened t session id seed time ∷ es) all = absurd all.0
made-batches turn moment n (admitted t session b ∷ es) all = absurd all.0
made-batches turn moment n (served t session number k name args time reply ∷ es) all = made-batches turn moment n es all.1
made-batches turn moment n (done t session number how ∷ es) all = made-batches turn moment n es all.1
made-batches turn moment n (closed t session ∷ es) all = absurd all.0
made-batches turn moment n (ended t status ∷ es) all = absurd all.0

pub broken_runs_are_in_range : BrokenRunsAreInRange
broken_runs_are_in_range site ts t next lawful means replies few timed turns broken off =
    all_recorded site.service [] next replies tt off.replies placed (deeds_did next (λ n. by n (opening_in n next) refl))
  where
    u : ℕ
    u = length ts

    s : State
    s = after_turns site 1 first_state ts

    x : State
    x = handled_at site (u + 1) t s

    made : List Recorded
    made = made_in (u + 1) t.advances

    in_time : IsLong t.moment
    in_time = (all_right (λ (c : Coming). IsLong c.moment) ts (t ∷ []) timed).0

    before : ArePlaced s.history
    before =
        turns_placed site 1 first_state ts (omega (arith, few)) (all_left (λ (c : Coming). IsLong c.moment) ts (t ∷ []) timed) turns tt

    handled : ArePlaced x.history
    handled = handled_placed (u + 1) t.moment few in_time site (knocked_at t s) t.handlings t.words [] broken.handled broken.words before

    is : next ≡ x.history ++ made
    is = off.entries
        ∙ sym (append_assoc s.history (handled_entries site.limit (u + 1) t.moment s.history (asked_in t.handlings)) made)
        ∙ ap (λ (h : List Recorded). h ++ made) (sym (handled_history site (u + 1) t.moment (knocked_at t s) t.handlings))

    placed : ArePlaced next
    placed =
        subst ArePlaced (sym is)
        (all-join IsPlaced x.history made handled
        (all-maps (IsMadeIn (u + 1) t.moment) IsPlaced (made_placed (u + 1) t.moment few in_time) made off.made))

    fit : AllFit site.meaning u x.history x.stages
    fit = handled_fit site lawful u t.moment (knocked_at t s) t.handlings (run_fits site ts lawful turns)

    batches : (n : ℕ) → batches_in n next ≡ batches_in n x.history
    batches n =
        ap (batches_in n) is ∙ ap (λ (v : Seen). v.batches) (seen_join n x.history made)
        ∙ ap (λ (bs : List Contents). batches_in n x.history ++ bs) (made-batches (u + 1) t.moment n made off.made) ∙ append-nil (batches_in n x.history)

    counts : (n : ℕ) → length (batches_in n next) < 2 ^ 53
    counts n =
        subst (λ (bs : List Contents). length bs < 2 ^ 53) (sym (batches n))
        (few-batches site.meaning u n x.history (stage_of n x.stages) handled (fit.each n))

    by : (n : ℕ) (o : Option (ℕ × ℕ)) → opening_in n next ≡ o → AllByRecursion (IsDone n) (deeds_in n next)
    by n None e = subst (AllByRecursion (IsDone n)) (sym (off.others n e)) tt
    by n (Some opening) e = either (off.sessions n opening e)
      where
        short : IsShort n
        short = opened_short n next opening placed e

        either : IsSessionOf site.meaning u next n ⊎ IsSessionOf site.meaning (u + 1) next n → AllByRecursion (IsDone n) (deeds_in n next)
        either (inl k) = session_done site.meaning u n next means placed short (counts n) k
        either (inr k) = session_done site.meaning (u + 1) n next means placed short (counts n) k
