use Rattle.rip_early.proofs.Answering.{an_answer}
use Rattle.rip_early.proofs.Firsts.{not_clean, one_first}
use Rattle.rip_early.proofs.program.refusals_are_one.Goals as goal

pub returns-clause-some : goal.returns-clause-some
returns-clause-some c = an_answer

pub returns-clause-one : goal.returns-clause-one
returns-clause-one c = one_first

pub returns-clause-apart : goal.returns-clause-apart
returns-clause-apart c = not_clean
