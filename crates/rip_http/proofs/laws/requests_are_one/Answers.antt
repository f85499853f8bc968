use Rattle.rip_http.proofs.StreamLemmas.{requests_one}
use Rattle.rip_http.proofs.laws.requests_are_one.Goals as goal

pub returns : goal.returns
returns c = requests_one
