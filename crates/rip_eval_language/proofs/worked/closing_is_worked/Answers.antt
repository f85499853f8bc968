use Rattle.std.proofs.Common.{refl}
use Rattle.rip_eval_rows.specs.Run.{run_to}
use Rattle.rip_eval_language.specs.Rows.Functions.{with_arguments, with_undefined}
use Rattle.rip_eval_language.specs.Rows.Names.{scope_up}
use Rattle.rip_eval_language.proofs.worked.closing_is_worked.Goals as goal

pub returns-clause-ends : goal.returns-clause-ends
unfolding run_to scope_up with_arguments with_undefined
returns-clause-ends c = refl

pub returns-clause-spent : goal.returns-clause-spent
unfolding run_to scope_up with_arguments with_undefined
returns-clause-spent c = refl

pub returns-clause-full : goal.returns-clause-full
unfolding run_to scope_up with_arguments with_undefined
returns-clause-full c = refl
