use Rattle.rip_events.proofs.LawLemmas.{removed-not-called}
use Rattle.rip_events.proofs.laws.removed_are_not_called.Goals as goal

pub returns : goal.returns
returns c = removed-not-called
