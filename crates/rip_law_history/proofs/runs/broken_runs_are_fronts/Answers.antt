use Rattle.rip_law_history.proofs.BrokenLemmas.{broken_runs_put}
use Rattle.rip_law_history.proofs.runs.broken_runs_are_fronts.Goals as goal

pub returns : goal.returns
returns c = broken_runs_put
