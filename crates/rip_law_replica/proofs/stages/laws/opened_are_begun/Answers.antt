use Rattle.rip_law_replica.proofs.Begun.{opened_begun}
use Rattle.rip_law_replica.proofs.stages.laws.opened_are_begun.Goals as goal

pub returns : goal.returns
returns g c = λ e doing may at seed time sound is. opened_begun e doing may at seed time sound is
