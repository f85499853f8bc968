use Rattle.rip_law_server.proofs.Turns.{runs_come_to_end}
use Rattle.rip_law_server.proofs.ending.runs_come_to_their_end.Goals as goal

pub returns : goal.returns
returns c = runs_come_to_end
