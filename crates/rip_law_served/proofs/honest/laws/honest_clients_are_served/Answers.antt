use Rattle.rip_law_served.proofs.AppItems.{honest_served}
use Rattle.rip_law_served.proofs.honest.laws.honest_clients_are_served.Goals as goal

pub returns : goal.returns
returns c = honest_served
