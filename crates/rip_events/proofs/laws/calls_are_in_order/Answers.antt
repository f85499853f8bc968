use Rattle.rip_events.proofs.LawLemmas.{calls-in-order}
use Rattle.rip_events.proofs.laws.calls_are_in_order.Goals as goal

pub returns : goal.returns
returns c = calls-in-order
