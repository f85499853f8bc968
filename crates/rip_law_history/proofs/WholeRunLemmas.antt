-- Each run is a course.
use Rattle.std.proofs.Common.{◌≡◌, ℕ, zero, suc, ◌+◌, List, [], ◌∷◌, length, map, Option, Some, None, refl, sym, ap, ◌∙◌, subst, arith}
use Rattle.rip_log.specs.Entries.{Recorded}
use Rattle.rip_history.specs.Course.{Turn}
use Rattle.rip_history.specs.Parts.{Meaning, IsLawful, Part, with_lack, MayLack}
use Rattle.rip_history.specs.Requests.{identifiers_in}
use Rattle.rip_history.specs.Run.{Site, State, first_state, stage_of, busy_in, Coming, knocked_at, handled_at, after_turn, IsTurn}
use Rattle.rip_history.specs.Runs.{after_turns, AreTurns}
use Rattle.rip_history.specs.Sessions.{opening_in, batches_in, turns_in, given_in, deeds_in, deeds_by, IsSessionOf}
use Rattle.rip_history.specs.Stages.{Stage}
use Rattle.rip_law_history.specs.Legal.{course_turns, history_of, RunsAreCourses}
use Rattle.rip_law_history.proofs.AdvanceLemmas.{begin_midst, advanced_fit}
use Rattle.rip_law_history.proofs.EntryLemmas.{turns_history, turns_draw, turns_replied}
use Rattle.rip_law_history.proofs.FitLemmas.{whole_of, Has, Fits, AllFit, none_some, handled_fit}
use Rattle.rip_law_history.proofs.WholeMadeLemmas.{busy_rises, turns_made}
use Rattle.rip_law_history.proofs.StandLemmas.{deeds_stand}
use Rattle.rip_law_history.proofs.ViewLemmas.{seen}

moments : (turn : ℕ) (ts : List Coming) → map (λ (t : Coming). t.moment) ts ≡ map (λ (t : Turn). t.moment) (course_turns turn ts)
moments turn [] = refl
moments turn (t ∷ ts) = ap (λ (ms : List ℕ). t.moment ∷ ms) (moments (turn + 1) ts)

turns-length : (turn : ℕ) (ts : List Coming) → length (course_turns turn ts) ≡ length ts
turns-length turn [] = refl
turns-length turn (t ∷ ts) = ap suc (turns-length (turn + 1) ts)

-- each session fits its stage as a run begins, and after each of its turns
first-fit : (m : Meaning) → AllFit m 0 [] []
first-fit m = record { count = refl; each = none }
  where
    none : (n : ℕ) → Fits m 0 (seen n []) (stage_of n [])
    none zero = record { opening = refl; batches = refl; turns = refl; given = refl; deeds = refl; standing = refl }
    none (suc i) = record { opening = refl; batches = refl; turns = refl; given = refl; deeds = refl; standing = refl }

turn-fit : (site : Site) → IsLawful site.meaning → (u : ℕ) (s : State) (t : Coming) → IsTurn site (u + 1) s t → AllFit site.meaning u s.history s.stages
    → (let x = after_turn site (u + 1) t s in AllFit site.meaning (u + 1) x.history x.stages)
turn-fit site lawful u s t is f =
    let x = handled_at site (u + 1) t s in
    advanced_fit site u t.moment 0 x (busy_in x.history) t.advances (busy_rises (length (identifiers_in x.history)) x.history) is.advanced
    (begin_midst site.meaning u x.history x.stages (handled_fit site lawful u t.moment (knocked_at t s) t.handlings f))

turns-fit : (site : Site) → IsLawful site.meaning → (u : ℕ) (s : State) (ts : List Coming) → AreTurns site (u + 1) s ts → AllFit site.meaning u s.history s.stages
    → (let x = after_turns site (u + 1) s ts in AllFit site.meaning (u + length ts) x.history x.stages)
turns-fit site lawful u s [] is f =
    subst (λ (w : ℕ). AllFit site.meaning w s.history s.stages) (omega arith) f
turns-fit site lawful u s (t ∷ ts) is f =
    let x = after_turns site (u + 1) s (t ∷ ts) in
    subst (λ (w : ℕ). AllFit site.meaning w x.history x.stages) (counts (length ts))
    (turns-fit site lawful (u + 1) (after_turn site (u + 1) t s) ts is.1 (turn-fit site lawful u s t is.0 f))
  where
    counts : (n : ℕ) → u + 1 + n ≡ u + suc n
    counts n = omega arith

-- a session that fits its stage is one of the history
is-session : (m : Meaning) → IsLawful m → (last : ℕ) (h : List Recorded) (n : ℕ) (st : Stage) → Has m last (seen n h) st → IsSessionOf m last h n
is-session m lawful last h n st k = record {
  seed = st.seed;
  time = st.time;
  lacking = st.lacking;
  opening = k.opening;
  may_lack = subst (λ (ps : List Part). MayLack st.lacking ps) (sym parts) (let x = k.stands in x.may);
  deeds =
      deeds_stand last (whole_of m st) st.lacking st.units (length st.batches) (turns_in n h) (deeds_in n h) k.standing k.stands
      (lawful.last st.seed st.time st.batches st.given)
      ∙ ap (λ (ps : List Part). deeds_by last (turns_in n h) (with_lack st.lacking ps)) (sym parts);
}
  where
    parts : m st.seed st.time (batches_in n h) (given_in n h) ≡ whole_of m st
    parts = (λ i. m st.seed st.time (k.batches i) (k.given i))

pub opened-session : (m : Meaning) → IsLawful m → (last : ℕ) (h : List Recorded) (n : ℕ) (opening : ℕ × ℕ) → opening_in n h ≡ Some opening
    → (o : Option Stage) → Fits m last (seen n h) o → IsSessionOf m last h n
opened-session m lawful last h n opening is None k = absurd (none_some opening (sym k.opening ∙ is))
opened-session m lawful last h n opening is (Some st) k = is-session m lawful last h n st k

pub unopened-session : (m : Meaning) (last : ℕ) (h : List Recorded) (n : ℕ) → opening_in n h ≡ None
    → (o : Option Stage) → Fits m last (seen n h) o → deeds_in n h ≡ []
unopened-session m last h n is None k = k.deeds
unopened-session m last h n is (Some st) k = absurd (none_some (st.seed, st.time) (sym is ∙ k.opening))

from-zero : (n : ℕ) → 0 + n ≡ n
from-zero n = omega arith

-- after any turns of a run each session fits its stage
pub run_fits : (site : Site) (ts : List Coming) → IsLawful site.meaning → AreTurns site 1 first_state ts
    → (let x = after_turns site 1 first_state ts in AllFit site.meaning (length ts) x.history x.stages)
run_fits site ts lawful turns =
    let end = after_turns site 1 first_state ts in
    subst (λ (w : ℕ). AllFit site.meaning w end.history end.stages) (from-zero (length ts))
    (turns-fit site lawful 0 first_state ts turns (first-fit site.meaning))

pub runs_are_courses : RunsAreCourses
runs_are_courses site ts lawful turns =
    let end = after_turns site 1 first_state ts in
    let fit : AllFit site.meaning (length ts) (history_of site ts) end.stages = run_fits site ts lawful turns in
    record {
      entries = turns_history site 1 first_state ts;
      made = turns_made site 1 first_state ts turns;
      moments = moments 1 ts;
      words = turns_draw site 1 first_state ts turns;
      sessions = λ n opening is.
          subst (λ (last : ℕ). IsSessionOf site.meaning last (history_of site ts) n) (sym (turns-length 1 ts))
          (opened-session site.meaning lawful (length ts) (history_of site ts) n opening is (stage_of n end.stages) (fit.each n));
      others = λ n is. unopened-session site.meaning (length ts) (history_of site ts) n is (stage_of n end.stages) (fit.each n);
      replies = turns_replied site 1 first_state ts turns tt;
    }
