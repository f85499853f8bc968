use Rattle.rip_headline.proofs.HeadlineLemmas.{no_limit_is_passed, served_calls_match}
use Rattle.rip_headline.proofs.OneLemmas.{calls_are_one}
use Rattle.rip_headline.proofs.headline.served_calls_match.Goals as goal

pub returns-clause-served : goal.returns-clause-served
returns-clause-served c = served_calls_match

pub returns-clause-one : goal.returns-clause-one
returns-clause-one c = calls_are_one

pub returns-clause-limits : goal.returns-clause-limits
returns-clause-limits c = no_limit_is_passed
