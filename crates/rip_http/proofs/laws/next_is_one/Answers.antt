use Rattle.rip_http.proofs.StreamLemmas.{next_one}
use Rattle.rip_http.proofs.laws.next_is_one.Goals as goal

pub returns : goal.returns
returns c = next_one
