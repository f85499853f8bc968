use Rattle.rip_law_replica.proofs.Done.{busy_not_done, not_done_busy}
use Rattle.rip_law_replica.proofs.stages.laws.busy_are_not_done.Goals as goal

pub returns : goal.returns
returns g c = λ e doing may at st. (not_done_busy e doing may at st, busy_not_done e doing may at st)
