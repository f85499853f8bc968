-- How far the sessions of a run went.
use Rattle.std.proofs.Common.{◌≡◌, ℕ, true, List, length, Option, Some, sym, ap, ◌∙◌, subst}
use Rattle.std.specs.Prelude.{unwrap_or}
use Rattle.rip_log.specs.Entries.{Recorded}
use Rattle.rip_history.specs.Parts.{Meaning}
use Rattle.rip_history.specs.Stages.{Stage}
use Rattle.rip_history.specs.Standings.{standing_of, is_busy}
use Rattle.rip_history.specs.declared.standing.Standing.{Standing}
use Rattle.rip_law_history.specs.Legal.{history_of}
use Rattle.rip_law_history.specs.Sliced.{GotUnits, IsStageOf, SessionsAreSliced}
use Rattle.rip_law_history.proofs.FitLemmas.{Has, Fits}
use Rattle.rip_law_history.proofs.WholeRunLemmas.{run_fits}
use Rattle.rip_law_history.proofs.ViewLemmas.{seen}

stage-is : (m : Meaning) (last : ℕ) (h : List Recorded) (n : ℕ) (st : Stage) → Has m last (seen n h) st → IsStageOf last h n st
stage-is m last h n st k = record {
  opening = k.opening;
  batches = k.batches;
  given = k.given;
  busy = got;
}
  where
    got : (s : Standing) → standing_of n h ≡ Some s → is_busy s ≡ true → GotUnits last h n st
    got s is working =
        let one : s ≡ k.standing = ap (λ (o : Option Standing). unwrap_or o s) (sym is ∙ k.is) in
        let x = k.stands in
        let units = x.spends (ap is_busy (sym one) ∙ working) in
        record { turn = units.a; admitted = units.admitted; units = units.spent }

pub sessions_are_sliced : SessionsAreSliced
sessions_are_sliced site ts n st lawful turns is =
    let fit = run_fits site ts lawful turns in
    stage-is site.meaning (length ts) (history_of site ts) n st
    (subst (λ (o : Option Stage). Fits site.meaning (length ts) (seen n (history_of site ts)) o) is (fit.each n))
