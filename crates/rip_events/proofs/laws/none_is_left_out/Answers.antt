use Rattle.rip_events.proofs.LeftLemmas.{none-left-out}
use Rattle.rip_events.proofs.laws.none_is_left_out.Goals as goal

pub returns : goal.returns
returns c = none-left-out
