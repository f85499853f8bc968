-- What is put for a run is what is due.
use Rattle.std.proofs.Common.{◌≡◌, ℕ, List, Option, ap, sym, subst}
use Rattle.std.specs.Prelude.{Result}
use Rattle.rip_outer.specs.declared.writing.SinkError.{SinkError}
use Rattle.rip_tree.specs.Branches.{Plant}
use Rattle.rip_tree.specs.Program.{Code}
use Rattle.rip_script.specs.Evaluation.{IsEvaluated}
use Rattle.rip_script.specs.Given.{HasItsTree, IsRun, RefusesRun}
use Rattle.rip_script.specs.Report.{run_text}
use Rattle.rip_script.specs.Steps.{IsChecked, Puts, Settles, status_after}
use Rattle.rip_script.specs.declared.evaluate.Ended.{Ended}
use Rattle.rip_script.specs.declared.status.Status.{Status}
use Rattle.rip_script.specs.declared.status.Status.TheVariants.{Done}
use Rattle.rip_script.specs.declared.words.RunLimits.{RunLimits}
use Rattle.rip_script.proofs.Settling.{answer_settles}

is_run : (bytes : List ℕ) (limits : RunLimits) (tree : Plant) (code : Code) (ended : Ended)
    → HasItsTree bytes tree → IsChecked tree code → IsEvaluated limits code ended → IsRun bytes limits (run_text code ended)
is_run bytes limits tree code ended script checked evaluated = record {
  tree = tree;
  script = script;
  clean = checked.clean;
  ended = ended;
  evaluated = subst (λ p. IsEvaluated limits p ended) checked.made evaluated;
  text-is = ap (λ p. run_text p ended) checked.made;
}

-- the text of a run was put, or a front of it
pub run_settles : {A : Type 0} (bytes : List ℕ) (limits : RunLimits) (tree : Plant) (code : Code) (ended : Ended) (r : Result A SinkError) (status : Status) (old new : Option (List ℕ))
    → HasItsTree bytes tree → IsChecked tree code → IsEvaluated limits code ended → Puts r (run_text code ended) old new → status ≡ status_after r Done
    → Settles (λ text. IsRun bytes limits text) (RefusesRun bytes) status old new
run_settles bytes limits tree code ended r status old new script checked evaluated put is =
    subst (λ s. Settles (λ text. IsRun bytes limits text) (RefusesRun bytes) s old new) (sym is)
    (answer_settles (λ text. IsRun bytes limits text) (RefusesRun bytes) r (run_text code ended) old new (is_run bytes limits tree code ended script checked evaluated) put)
