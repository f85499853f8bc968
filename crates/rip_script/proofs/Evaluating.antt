-- How a run within limits ends.
use Rattle.std.proofs.Common.{◌≡◌, ℕ, ◌≤◌, Bool, true, false, inr, subst}
use Rattle.std.specs.Prelude.{Result, Ok}
use Rattle.rip_base.specs.declared.value.Refused.{Refused}
use Rattle.std.proofs.lemmas.Bool.{le-leb}
use Rattle.rip_heap.specs.World.{World}
use Rattle.rip_eval_rows.specs.Cut.{conclude}
use Rattle.rip_eval_rows.specs.Row.{Table}
use Rattle.rip_eval_rows.specs.Run.{Answer, Completes, Stops, Cuts, Calling}
use Rattle.rip_machine.specs.Law.{Resumes, Standing}
use Rattle.rip_eval_rows.specs.declared.outcome.Turned.{Turned}
use Rattle.rip_eval_rows.specs.declared.outcome.Turned.TheVariants.{More, Done}
use Rattle.rip_machine.specs.Law.{loaded}
use Rattle.rip_eval_language.specs.Table.{table}
use Rattle.rip_tree.specs.Program.{Code}
use Rattle.rip_script.specs.Evaluation.{IsEvaluated, empty_host, no_host, outcome_of}
use Rattle.rip_script.specs.Steps.{BeginsRun, IsOver}
use Rattle.rip_script.specs.declared.evaluate.End.{End}
use Rattle.rip_script.specs.declared.words.RunLimits.{RunLimits}

-- a run whose fuel is spent is not cut
not_cut : {S : Type 0} (spent : Bool) (answer : Answer S) (room : ℕ) (w : World) (s : S) → spent ≡ true → conclude spent answer ≡ Cuts room w s → ⊥
not_cut false answer room w s e h = cc
not_cut true (Completes c u x r) room w s e h = cc
not_cut true (Stops stop there u x r) room w s e h = cc
not_cut true (Cuts there x r) room w s e h = cc

-- a run that has all its fuel is over
pub over : {S : Type 0} (h : Calling S) (t : Table) (m : Standing) (w : World) (s : S) (n : ℕ) (m' : Standing) (w' : World) (s' : S) (turned : Turned)
    → m.fuel ≤ n → Resumes h t m w s n m' w' s' turned → IsOver turned
over h t m w s n m' w' s' More enough law = not_cut _ _ law.0.0 w' s' (le-leb m.fuel n enough) law.0.1
over h t m w s n m' w' s' (Done outcome) enough law = tt

-- a run that began and is over ran to its end
pub ran_to_end : (limits : RunLimits) (code : Code) (w w' : World) (m m' : Standing) (turned : Turned) (end : End) (spent fuel : ℕ) (began : Result (Unit {0}) Refused) (done : Unit {0})
    → BeginsRun limits code began w m → began ≡ Ok done → fuel ≡ limits.fuel
    → Resumes no_host (table (loaded code m)) m w empty_host fuel m' w' empty_host turned → turned ≡ Done (outcome_of end) → spent ≡ m'.spent
    → IsEvaluated limits code (record { end = end; spent = spent; heap = w' })
ran_to_end limits code w w' m m' turned end spent fuel began done begins ok all law over same = inr (inr (inr (record {
  w = w;
  begun = m;
  is_started = subst (λ r. BeginsRun limits code r w m) ok begins;
  last = m';
  resumes = subst (λ n. Resumes no_host (table (loaded code m)) m w empty_host n m' w' empty_host (Done (outcome_of end))) all
      (subst (Resumes no_host (table (loaded code m)) m w empty_host fuel m' w' empty_host) over law);
  spent = same;
})))
