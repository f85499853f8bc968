use Rattle.rip_law_replica.proofs.Cut.{busy_cut}
use Rattle.rip_law_replica.proofs.Done.{not_done_busy}
use Rattle.rip_law_replica.proofs.stages.laws.busy_are_cut.Goals as goal

pub returns : goal.returns
returns g c = λ e doing may at st stands undone. busy_cut e doing may at st (not_done_busy e doing may at st stands undone)
