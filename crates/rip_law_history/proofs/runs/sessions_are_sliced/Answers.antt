use Rattle.rip_law_history.proofs.SliceLemmas.{sessions_are_sliced}
use Rattle.rip_law_history.proofs.runs.sessions_are_sliced.Goals as goal

pub returns : goal.returns
returns c = sessions_are_sliced
