use Rattle.rip_headline.proofs.Applications.{applications_ask}
use Rattle.rip_headline.proofs.DueLemmas.{shorter_is_short}
use Rattle.rip_headline.proofs.isolation.shorter_runs_are_short.Goals as goal

pub returns-clause-due : goal.returns-clause-due
returns-clause-due c = shorter_is_short

pub returns-clause-applications : goal.returns-clause-applications
returns-clause-applications c = applications_ask
