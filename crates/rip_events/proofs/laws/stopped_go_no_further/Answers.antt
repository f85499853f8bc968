use Rattle.rip_events.proofs.LawLemmas.{stopped-stay}
use Rattle.rip_events.proofs.laws.stopped_go_no_further.Goals as goal

pub returns : goal.returns
returns c = stopped-stay
