use Rattle.rip_law_server.proofs.Askers.{askers_are_answered}
use Rattle.rip_law_server.proofs.PaceLemmas.{batches_are_answered}
use Rattle.rip_law_server.proofs.pace.laws.askers_are_answered.Goals as goal

pub returns-clause-there : goal.returns-clause-there
returns-clause-there c = askers_are_answered

pub returns-clause-answer : goal.returns-clause-answer
returns-clause-answer c = batches_are_answered
