use Rattle.rip_http.proofs.StreamLemmas.{cuts}
use Rattle.rip_http.proofs.laws.cuts_do_not_matter.Goals as goal

pub returns : goal.returns
returns c = cuts
