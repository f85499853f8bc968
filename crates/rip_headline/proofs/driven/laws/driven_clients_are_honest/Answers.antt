use Rattle.rip_headline.proofs.DrivenLemmas.{driven_told}
use Rattle.rip_headline.proofs.driven.laws.driven_clients_are_honest.Goals as goal

pub returns : goal.returns
returns c = driven_told
