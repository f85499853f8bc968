use Rattle.rip_history.proofs.SessionLemmas.{sessions_are_alone}
use Rattle.rip_history.proofs.laws.sessions_are_alone.Goals as goal

pub returns : goal.returns
returns c = sessions_are_alone
