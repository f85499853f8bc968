use Rattle.rip_law_server.proofs.PaceLemmas.{paced_are_served}
use Rattle.rip_law_server.proofs.pace.laws.paced_clients_are_served.Goals as goal

pub returns : goal.returns
returns c = paced_are_served
