use Rattle.rip_law_server.proofs.OnLemmas.{broken_runs_go_on}
use Rattle.rip_law_server.proofs.going.broken_runs_go_on.Goals as goal

pub returns : goal.returns
returns c = broken_runs_go_on
