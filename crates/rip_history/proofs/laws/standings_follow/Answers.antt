use Rattle.rip_history.proofs.StandingLemmas.{standings_follow, standings_are_own}
use Rattle.rip_history.proofs.laws.standings_follow.Goals as goal

pub returns-clause-follow : goal.returns-clause-follow
returns-clause-follow c = standings_follow

pub returns-clause-own : goal.returns-clause-own
returns-clause-own c = standings_are_own
