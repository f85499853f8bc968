use Rattle.rip_headline.proofs.HistoryLaw.{histories_serve}
use Rattle.rip_headline.proofs.OneLemmas.{calls_are_one}
use Rattle.rip_headline.proofs.prefixes.laws.histories_serve_prefixes.Goals as goal

pub returns-clause-prefix : goal.returns-clause-prefix
returns-clause-prefix c = histories_serve

pub returns-clause-one : goal.returns-clause-one
returns-clause-one c = calls_are_one
