use Rattle.rip_events.proofs.LawLemmas.{phases-in-order}
use Rattle.rip_events.proofs.laws.phases_are_in_order.Goals as goal

pub returns : goal.returns
returns c = phases-in-order
