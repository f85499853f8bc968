use Rattle.rip_history.proofs.HandlingLemmas.{turns_are_handled, handled_once}
use Rattle.rip_history.proofs.laws.requests_are_handled_once.Goals as goal

pub returns-clause-some : goal.returns-clause-some
returns-clause-some c = turns_are_handled

pub returns-clause-one : goal.returns-clause-one
returns-clause-one c = handled_once
