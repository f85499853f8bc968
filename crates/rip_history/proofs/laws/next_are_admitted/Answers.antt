use Rattle.rip_history.proofs.DecisionLemmas.{admits_next, closes_idle}
use Rattle.rip_history.proofs.laws.next_are_admitted.Goals as goal

pub returns-clause-next : goal.returns-clause-next
returns-clause-next c = admits_next

pub returns-clause-idle : goal.returns-clause-idle
returns-clause-idle c = closes_idle
