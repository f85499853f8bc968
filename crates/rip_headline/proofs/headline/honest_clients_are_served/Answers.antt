use Rattle.rip_headline.proofs.HeadlineLemmas.{honest_clients_are_served}
use Rattle.rip_headline.proofs.headline.honest_clients_are_served.Goals as goal

pub returns : goal.returns
returns c = honest_clients_are_served
