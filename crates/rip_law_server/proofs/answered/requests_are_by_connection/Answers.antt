use Rattle.rip_law_server.proofs.Ordering.{turns_are_by_connection}
use Rattle.rip_law_server.proofs.answered.requests_are_by_connection.Goals as goal

pub returns : goal.returns
returns c = turns_are_by_connection
