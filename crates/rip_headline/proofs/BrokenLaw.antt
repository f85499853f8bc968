-- The served calls of each session of a run that broke off.
use Rattle.std.proofs.Common.{◌≡◌, ◌⊎◌, inl, inr, ℕ, suc, ◌+◌, ◌≤◌, Bool, true, false, cond, List, [], ◌∷◌, ◌++◌, length, Option, None, Some, refl, sym, ap, subst, ◌∙◌, arith}
use Rattle.std.specs.List.{AllByRecursion}
use Rattle.rip_app.specs.App.{Loaded}
use Rattle.rip_log.specs.Entries.{Recorded, opened, admitted, served, done, closed, ended}
use Rattle.rip_history.specs.Course.{AreWithin, Handled, IsMadeIn, decided_entries, handled_entries, turn_entries, turn_of}
use Rattle.rip_history.specs.Parts.{Meaning, serves_call}
use Rattle.rip_history.specs.Requests.{Decision, answers, opens, admits, closes, decide}
use Rattle.rip_history.specs.Run.{Coming, Site, asked_in}
use Rattle.rip_history.specs.Sessions.{Deed, IsFrontOf, IsSessionOf, deeds_in, opening_in}
use Rattle.rip_history.proofs.CourseLemmas.{courses_are_in_order}
use Rattle.rip_law_history.specs.Broken.{BreaksOff}
use Rattle.rip_law_history.specs.Legal.{course_turn, course_turns, history_of, made_in, told_in}
use Rattle.rip_law_history.proofs.ViewLemmas.{Seen, seen_join}
use Rattle.rip_session.specs.Application.{meaning_of_app}
use Rattle.rip_headline.specs.Broken.{BrokenRunsServePrefixes}
use Rattle.rip_headline.specs.PrefixHistories.{ServesIn, calls_among, calls_in}
use Rattle.rip_headline.proofs.HistoryLaw.{session_serves}

-- ---- the calls of more entries

among_join : (xs ys : List Deed) → calls_among (xs ++ ys) ≡ calls_among xs ++ calls_among ys
among_join [] ys = refl
among_join (x ∷ xs) ys = by (serves_call x.fact) (among_join xs ys)
  where
    by : (b : Bool) → calls_among (xs ++ ys) ≡ calls_among xs ++ calls_among ys
        → cond b (x ∷ calls_among (xs ++ ys)) (calls_among (xs ++ ys)) ≡ cond b (x ∷ calls_among xs) (calls_among xs) ++ calls_among ys
    by true same = ap (λ (ds : List Deed). x ∷ ds) same
    by false same = same

calls_join : (n : ℕ) (h es : List Recorded) → calls_in n (h ++ es) ≡ calls_in n h ++ calls_in n es
calls_join n h es = ap (λ (v : Seen). calls_among v.deeds) (seen_join n h es) ∙ among_join (deeds_in n h) (deeds_in n es)

calls_front : (n : ℕ) (put behind next : List Recorded) → next ≡ put ++ behind → IsFrontOf (calls_in n put) (calls_in n next)
calls_front n put behind next e = (calls_in n behind, ap (calls_in n) e ∙ calls_join n put behind)

-- ---- the turns of its entries

-- the entries are of this turn
abbrev AreOf : ℕ → List Recorded → Type 0
AreOf turn es = AllByRecursion (λ (e : Recorded). turn_of e ≡ turn) es

of_join : (turn : ℕ) (xs ys : List Recorded) → AreOf turn xs → AreOf turn ys → AreOf turn (xs ++ ys)
of_join turn [] ys p q = q
of_join turn (x ∷ xs) ys p q = (p.0, of_join turn xs ys p.1 q)

of_decided : (turn moment : ℕ) (d : Decision) → AreOf turn (decided_entries turn moment d)
of_decided turn moment (answers code body) = tt
of_decided turn moment (opens n id seed) = (refl, tt)
of_decided turn moment (admits n b) = (refl, tt)
of_decided turn moment (closes n body) = (refl, tt)

of_handled : (limit turn moment : ℕ) (h : List Recorded) (xs : List Handled) → AreOf turn (handled_entries limit turn moment h xs)
of_handled limit turn moment h [] = tt
of_handled limit turn moment h (x ∷ xs) =
    let d = decide limit h x.asked x.drawn x.lack in
    of_join turn (decided_entries turn moment d) (handled_entries limit turn moment (h ++ decided_entries turn moment d) xs)
    (of_decided turn moment d) (of_handled limit turn moment (h ++ decided_entries turn moment d) xs)

made_of : (turn moment : ℕ) (e : Recorded) → IsMadeIn turn moment e → turn_of e ≡ turn
made_of turn moment (opened t session id seed time) p = absurd p
made_of turn moment (admitted t session b) p = absurd p
made_of turn moment (served t session number k name args time reply) p = p.0
made_of turn moment (done t session number how) p = p
made_of turn moment (closed t session) p = absurd p
made_of turn moment (ended t status) p = absurd p

all_made_of : (turn moment : ℕ) (es : List Recorded) → AllByRecursion (IsMadeIn turn moment) es → AreOf turn es
all_made_of turn moment [] p = tt
all_made_of turn moment (e ∷ es) p = (made_of turn moment e p.0, all_made_of turn moment es p.1)

of_within : (low turn : ℕ) (es : List Recorded) → low ≤ turn → AreOf turn es → AreWithin low turn es
of_within low turn [] le p = tt
of_within low turn (e ∷ es) le p =
    let own = p.0 in
    (omega (arith, le, own), omega (arith, own), of_within (turn_of e) turn es (omega (arith, own)) p.1)

-- entries of a turn behind those of earlier ones
within_more : (low high : ℕ) (h es : List Recorded) → low ≤ high + 1 → AreWithin low high h → AreOf (high + 1) es → AreWithin low (high + 1) (h ++ es)
within_more low high [] es le w p = of_within low (high + 1) es le p
within_more low high (e ∷ h) es le w p =
    let above = w.1 in
    (w.0, omega (arith, above), within_more (turn_of e) high h es (omega (arith, above)) w.2 p)

turns_count : (turn : ℕ) (ts : List Coming) → length (course_turns turn ts) ≡ length ts
turns_count turn [] = refl
turns_count turn (t ∷ ts) = ap suc (turns_count (turn + 1) ts)

broken_within : (site : Site) (last : ℕ) (h next : List Recorded) (t : Coming) → AreWithin 1 last h → BreaksOff site last h t next → AreWithin 1 (last + 1) next
broken_within site last h next t w b =
    let made : List Recorded = made_in (last + 1) t.advances in
    let decided : List Recorded = handled_entries site.limit (last + 1) t.moment h (asked_in t.handlings) in
    subst (λ (g : List Recorded). AreWithin 1 (last + 1) g) (sym b.entries)
    (within_more 1 last h (turn_entries site.limit (last + 1) h (course_turn (last + 1) t)) (omega arith) w
    (of_join (last + 1) decided made (of_handled site.limit (last + 1) t.moment h (asked_in t.handlings)) (all_made_of (last + 1) t.moment made b.made)))

-- ---- the law

serves_at : (app : Loaded) (m : Meaning) (last high : ℕ) (h : List Recorded) (n : ℕ) → m ≡ meaning_of_app app → AreWithin 1 high h → IsSessionOf m last h n
    → ServesIn app last h n (opening_in n h)
serves_at app m last high h n same within s = session_serves app last high h n within (subst (λ (x : Meaning). IsSessionOf x last h n) same s)

-- a session did what the meaning says up to a turn or to the next
either_serves : (app : Loaded) (m : Meaning) (last : ℕ) (h : List Recorded) (n : ℕ) → m ≡ meaning_of_app app → AreWithin 1 (last + 1) h
    → IsSessionOf m last h n ⊎ IsSessionOf m (last + 1) h n
    → ServesIn app last h n (opening_in n h) ⊎ ServesIn app (last + 1) h n (opening_in n h)
either_serves app m last h n same within (inl s) = inl (serves_at app m last (last + 1) h n same within s)
either_serves app m last h n same within (inr s) = inr (serves_at app m (last + 1) (last + 1) h n same within s)

broken_serves : (app : Loaded) (site : Site) (last : ℕ) (h next : List Recorded) (t : Coming) (n : ℕ) → site.meaning ≡ meaning_of_app app
    → AreWithin 1 last h → BreaksOff site last h t next
    → ServesIn app last next n (opening_in n next) ⊎ ServesIn app (last + 1) next n (opening_in n next)
broken_serves app site last h next t n same within b = by (opening_in n next) refl
  where
    by : (o : Option (ℕ × ℕ)) → opening_in n next ≡ o → ServesIn app last next n (opening_in n next) ⊎ ServesIn app (last + 1) next n (opening_in n next)
    by None e = inl (subst (ServesIn app last next n) (sym e) (ap calls_among (b.others n e)))
    by (Some opening) e = either_serves app site.meaning last next n same (broken_within site last h next t within b) (b.sessions n opening e)

pub broken_runs_serve : BrokenRunsServePrefixes
broken_runs_serve app site ts t put same run n =
    let within : AreWithin 1 (length (course_turns 1 ts)) (history_of site ts) =
    courses_are_in_order site.meaning site.service site.limit (told_in ts) (course_turns 1 ts) (history_of site ts) run.whole in
    record {
      served = broken_serves app site (length ts) (history_of site ts) run.next t n same
          (subst (λ (last : ℕ). AreWithin 1 last (history_of site ts)) (turns_count 1 ts) within) run.broken;
      front = calls_front n put run.behind run.next run.front;
    }
