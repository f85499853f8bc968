use Rattle.rip_law_replica.proofs.Told.{truth_served}
use Rattle.rip_law_replica.proofs.truth.laws.truth_is_served.Goals as goal

pub returns : goal.returns
returns g c = truth_served _ _
