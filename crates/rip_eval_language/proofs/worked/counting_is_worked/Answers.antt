use Rattle.std.proofs.Common.{refl}
use Rattle.rip_eval_rows.specs.Run.{run_to}
use Rattle.rip_eval_language.specs.Rows.Names.{scope_up}
use Rattle.rip_eval_language.proofs.worked.counting_is_worked.Goals as goal

pub returns-clause-ends : goal.returns-clause-ends
unfolding run_to scope_up
returns-clause-ends c = refl

pub returns-clause-more : goal.returns-clause-more
unfolding run_to scope_up
returns-clause-more c = refl

pub returns-clause-spent : goal.returns-clause-spent
unfolding run_to scope_up
returns-clause-spent c = refl

pub returns-clause-eleven : goal.returns-clause-eleven
unfolding run_to scope_up
returns-clause-eleven c = refl

pub returns-clause-twelve : goal.returns-clause-twelve
unfolding run_to scope_up
returns-clause-twelve c = refl
