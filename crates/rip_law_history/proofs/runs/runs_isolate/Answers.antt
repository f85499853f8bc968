use Rattle.rip_law_history.proofs.AloneLemmas.{runs_isolate}
use Rattle.rip_law_history.proofs.runs.runs_isolate.Goals as goal

pub returns : goal.returns
returns c = runs_isolate
