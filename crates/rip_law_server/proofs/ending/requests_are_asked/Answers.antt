use Rattle.rip_law_server.proofs.Waiting.{requests_are_asked}
use Rattle.rip_law_server.proofs.ending.requests_are_asked.Goals as goal

pub returns : goal.returns
returns c = requests_are_asked
