-- What plans see of the machine.
use Rattle.std.specs.Prelude.{ℕ, ◌≤◌}
use Rattle.rip_eval_rows.specs.declared.completion.Stop.TheVariants.{Fault as AtFault, Limit as AtLimit}
use Rattle.rip_eval_rows.specs.declared.evaluator.Advance.{Advance}
use Rattle.rip_eval_rows.specs.declared.evaluator.Advance.TheVariants.{Passed, Broken, Memory as NoRoom}
use Rattle.rip_eval_rows.specs.Evaluation.{Evaluation, reached}
use Rattle.rip_eval_rows.specs.Run.{Calling}
use Rattle.rip_tree.specs.Program.{Code}
use Rattle.rip_eval_rows.specs.declared.outcome.Outcome.{Outcome}
use Rattle.rip_eval_rows.specs.declared.outcome.Outcome.TheVariants.{Value as Gives, Thrown, Fault, Limit, Memory}
use Rattle.rip_machine.specs.Law.{Standing, left, loaded, open_depth, values_of}
use Rattle.rip_machine.specs.Loading.{values_needed}
use Rattle.rip_machine.specs.Run.{run_from}
use Rattle.rip_eval_language.specs.Table.{table}

-- what the runs of a program mean, where the host answers this
abbrev pub evaluation : {S : Type 0} → Calling S → Code → Evaluation Standing S
evaluation h code = record {
  run = λ m start w s fuel k. reached m.depth (run_from h (loaded code m) m.depth start w s fuel k);
  left = λ m w s k. reached m.depth (left h (table (loaded code m)) m w s k);
  fuel = λ m. m.fuel;
  in_use = open_depth;
}

-- the memory of runs with so much fuel that a plan begins was taken before, and that of the run that goes on
pub record HasRoom (m : Standing) (fuel : ℕ) : Type 0 where
  pub runs : values_needed fuel ≤ m.value_room
  pub run : values_of m ≤ m.value_room

-- what an outcome is for a plan, after so many units
abbrev pub advance_of : Outcome → ℕ → Advance
advance_of (Gives v) used = Passed used
advance_of (Thrown v) used = Passed used
advance_of (Fault fault) used = Broken (AtFault fault) used
advance_of (Limit limit) used = Broken (AtLimit limit) used
advance_of Memory used = NoRoom
