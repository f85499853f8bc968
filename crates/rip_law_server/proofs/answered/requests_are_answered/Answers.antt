use Rattle.rip_law_server.proofs.Conversed.{requests_are_answered}
use Rattle.rip_law_server.proofs.answered.requests_are_answered.Goals as goal

pub returns : goal.returns
returns c = requests_are_answered
