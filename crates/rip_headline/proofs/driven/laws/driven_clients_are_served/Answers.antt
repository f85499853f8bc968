use Rattle.rip_headline.proofs.DrivenLemmas.{driven_served}
use Rattle.rip_headline.proofs.driven.laws.driven_clients_are_served.Goals as goal

pub returns : goal.returns
returns c = driven_served
