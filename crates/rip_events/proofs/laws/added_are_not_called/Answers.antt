use Rattle.rip_events.proofs.LawLemmas.{added-not-called}
use Rattle.rip_events.proofs.laws.added_are_not_called.Goals as goal

pub returns : goal.returns
returns c = added-not-called
