use Rattle.rip_law_server.proofs.Turned.{turns_are_least}
use Rattle.rip_law_server.proofs.pace.laws.requests_are_handled_first.Goals as goal

pub returns : goal.returns
returns c = turns_are_least
