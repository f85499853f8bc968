use Rattle.rip_http.proofs.StreamLemmas.{stands}
use Rattle.rip_http.proofs.laws.taken_stands.Goals as goal

pub returns : goal.returns
returns c = stands
