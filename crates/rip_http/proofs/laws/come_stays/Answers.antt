use Rattle.rip_http.proofs.StreamLemmas.{come_stays}
use Rattle.rip_http.proofs.laws.come_stays.Goals as goal

pub returns : goal.returns
returns c = come_stays
