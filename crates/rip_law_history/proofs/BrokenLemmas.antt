-- Runs that break off.
use Rattle.std.proofs.Common.{◌≡◌, ◌⊎◌, inl, inr, ℕ, ◌+◌, Bool, true, false, List, [], ◌∷◌, ◌++◌, length, Some, None, refl, sym, ap, ◌∙◌, subst}
use Rattle.std.specs.List.{AllByRecursion}
use Rattle.rip_log.specs.Entries.{Recorded}
use Rattle.rip_history.specs.Connections.{put_in}
use Rattle.rip_history.specs.Course.{IsMadeIn, AreBySession}
use Rattle.rip_history.specs.Parts.{IsLawful}
use Rattle.rip_history.specs.Requests.{identifiers_in}
use Rattle.rip_history.specs.Run.{Site, State, first_state, stage_of, busy_in, Advance, after_advance, after_advances, AreAdvancedSo, Coming, knocked_at, handled_at, after_turn, turn_acts}
use Rattle.rip_history.specs.Runs.{after_turns, turns_acts, IsAdvancedFirst, IsBrokenTurn}
use Rattle.rip_history.specs.Sessions.{opening_in, deeds_in, IsSessionOf}
use Rattle.rip_history.specs.Stages.{Stage}
use Rattle.rip_law_history.specs.Broken.{BreaksOff, BrokenRunsPut}
use Rattle.rip_law_history.specs.Legal.{made_in}
use Rattle.rip_law_history.proofs.AdvanceLemmas.{pending, Midst, begin_midst, advance_fit}
use Rattle.rip_law_history.proofs.EndLemmas.{put-join, turn-puts, turns-puts}
use Rattle.rip_law_history.proofs.EntryLemmas.{Replied, turn_history, turns_replied, handled_replied, advanced_replied}
use Rattle.rip_law_history.proofs.FitLemmas.{AllFit, handled_fit}
use Rattle.rip_law_history.proofs.WholeMadeLemmas.{RisesFrom, busy_rises, advanced_made, advanced_by_session}
use Rattle.rip_law_history.proofs.WholeRunLemmas.{run_fits, opened-session, unopened-session, runs_are_courses}

rises-front : (low : ℕ) (ns others : List ℕ) → RisesFrom low (ns ++ others) → RisesFrom low ns
rises-front low [] others r = tt
rises-front low (n ∷ ns) others r = (r.0, rises-front n ns others r.1)

-- the first of the busy sessions go on
advanced_midst : (site : Site) (u moment low : ℕ) (s : State) (ns others : List ℕ) (rest : List Advance) → RisesFrom low (ns ++ others)
    → AreAdvancedSo site (u + 1) moment s ns rest → Midst site.meaning u s.history s.stages (ns ++ others)
    → (let x = after_advances (u + 1) s rest in Midst site.meaning u x.history x.stages others)
advanced_midst site u moment low s [] others rest r e f =
    subst (λ (more : List Advance). let x = after_advances (u + 1) s more in Midst site.meaning u x.history x.stages others) (sym e) f
advanced_midst site u moment low s (n ∷ ns) others [] r e f = absurd e
advanced_midst site u moment low s (n ∷ ns) others (a ∷ rest) r (same, i, more) f =
    let rises : RisesFrom a.session (ns ++ others) = subst (λ (k : ℕ). RisesFrom k (ns ++ others)) (sym same) r.1 in
    advanced_midst site u moment a.session (after_advance (u + 1) s a) ns others rest rises more
    (advance_fit site u moment s a (ns ++ others) i rises
    (subst (λ (k : ℕ). Midst site.meaning u s.history s.stages (k ∷ (ns ++ others))) (sym same) f))

-- in the midst of a turn a session did what the meaning says up to this turn or the one before
either-turn : (site : Site) → IsLawful site.meaning → (u : ℕ) (h : List Recorded) (stages : List Stage) (ns : List ℕ) → Midst site.meaning u h stages ns
    → (n : ℕ) (opening : ℕ × ℕ) → opening_in n h ≡ Some opening → IsSessionOf site.meaning u h n ⊎ IsSessionOf site.meaning (u + 1) h n
either-turn site lawful u h stages ns f n opening is = by (pending n ns) refl
  where
    by : (b : Bool) → pending n ns ≡ b → IsSessionOf site.meaning u h n ⊎ IsSessionOf site.meaning (u + 1) h n
    by true e = inl (opened-session site.meaning lawful u h n opening is (stage_of n stages) (f.waits n e).0)
    by false e = inr (opened-session site.meaning lawful (u + 1) h n opening is (stage_of n stages) (f.over n e))

none-done : (site : Site) (u : ℕ) (h : List Recorded) (stages : List Stage) (ns : List ℕ) → Midst site.meaning u h stages ns
    → (n : ℕ) → opening_in n h ≡ None → deeds_in n h ≡ []
none-done site u h stages ns f n is = by (pending n ns) refl
  where
    by : (b : Bool) → pending n ns ≡ b → deeds_in n h ≡ []
    by true e = unopened-session site.meaning u h n is (stage_of n stages) (f.waits n e).0
    by false e = unopened-session site.meaning (u + 1) h n is (stage_of n stages) (f.over n e)

-- what is known where some of the busy sessions went on
pub record Midway (site : Site) (u moment : ℕ) (s : State) (advances : List Advance) : Type 0 where
  pub made : AllByRecursion (IsMadeIn (u + 1) moment) (made_in (u + 1) advances)
  pub ordered : AreBySession 0 (made_in (u + 1) advances)
  pub waiting : List ℕ
  pub midst : (let x = after_advances (u + 1) s advances in Midst site.meaning u x.history x.stages waiting)
  pub replied : Replied site (after_advances (u + 1) s advances)

midway-first : (site : Site) (u moment : ℕ) (s : State) (advances : List Advance) → AllFit site.meaning u s.history s.stages → Replied site s
    → IsAdvancedFirst site (u + 1) moment s advances → Midway site u moment s advances
midway-first site u moment s advances f r a =
    let all = busy_rises (length (identifiers_in s.history)) s.history in
    let rises : RisesFrom 0 (a.first ++ a.others) = subst (λ (ns : List ℕ). RisesFrom 0 ns) a.busy all in
    record {
      made = advanced_made site (u + 1) moment s a.first advances a.advanced;
      ordered = advanced_by_session site (u + 1) moment 0 s a.first advances (rises-front 0 a.first a.others rises) a.advanced;
      waiting = a.others;
      midst = advanced_midst site u moment 0 s a.first a.others advances rises a.advanced
          (subst (λ (ns : List ℕ). Midst site.meaning u s.history s.stages ns) a.busy (begin_midst site.meaning u s.history s.stages f));
      replied = advanced_replied site (u + 1) moment s a.first advances a.advanced r;
    }

midway-none : (site : Site) (u moment : ℕ) (s : State) (advances : List Advance) → AllFit site.meaning u s.history s.stages → Replied site s
    → advances ≡ [] → Midway site u moment s advances
midway-none site u moment s advances f r e = subst (λ (rest : List Advance). Midway site u moment s rest) (sym e) record {
  made = tt;
  ordered = tt;
  waiting = busy_in s.history;
  midst = begin_midst site.meaning u s.history s.stages f;
  replied = r;
}

midway : (site : Site) (u moment : ℕ) (s : State) (advances : List Advance) → AllFit site.meaning u s.history s.stages → Replied site s
    → (advances ≡ []) ⊎ IsAdvancedFirst site (u + 1) moment s advances → Midway site u moment s advances
midway site u moment s advances f r (inl e) = midway-none site u moment s advances f r e
midway site u moment s advances f r (inr a) = midway-first site u moment s advances f r a

breaks-off : (site : Site) → IsLawful site.meaning → (u : ℕ) (s : State) (t : Coming) → IsBrokenTurn site (u + 1) s t
    → AllFit site.meaning u s.history s.stages → Replied site s
    → BreaksOff site u s.history t (let x = after_turn site (u + 1) t s in x.history)
breaks-off site lawful u s t is f r =
    let x = handled_at site (u + 1) t s in
    let end = after_turn site (u + 1) t s in
    let k = midway site u t.moment x t.advances (handled_fit site lawful u t.moment (knocked_at t s) t.handlings f)
    (handled_replied site (u + 1) t.moment (knocked_at t s) t.handlings r) is.advanced in
    record {
      entries = turn_history site (u + 1) t s;
      made = k.made;
      ordered = k.ordered;
      words = is.words;
      sessions = either-turn site lawful u end.history end.stages k.waiting k.midst;
      others = none-done site u end.history end.stages k.waiting k.midst;
      replies = k.replied;
    }

pub broken_runs_put : BrokenRunsPut
broken_runs_put site ts t acts lawful b =
    let s = after_turns site 1 first_state ts in
    let before = turns_acts site 1 first_state ts in
    let now = turn_acts site (length ts + 1) t s in
    record {
      next = (after_turn site (length ts + 1) t s).history;
      whole = runs_are_courses site ts lawful b.turns;
      broken = breaks-off site lawful (length ts) s t b.last (run_fits site ts lawful b.turns) (turns_replied site 1 first_state ts b.turns tt);
      behind = put_in b.others;
      front = turn-puts site (length ts + 1) t s
          ∙ ap (λ (h : List Recorded). h ++ put_in now) (turns-puts site 1 first_state ts)
          ∙ sym (put-join before now) ∙ ap put_in b.front ∙ put-join acts b.others;
    }
