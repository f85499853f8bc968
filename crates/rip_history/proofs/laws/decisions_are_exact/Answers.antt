use Rattle.rip_history.proofs.RequestLemmas.{asked_is_one, admissions_are, openings_are}
use Rattle.rip_history.proofs.laws.decisions_are_exact.Goals as goal

pub returns-clause-asked : goal.returns-clause-asked
returns-clause-asked c = asked_is_one

pub returns-clause-admissions : goal.returns-clause-admissions
returns-clause-admissions c = admissions_are

pub returns-clause-openings : goal.returns-clause-openings
returns-clause-openings c = openings_are
