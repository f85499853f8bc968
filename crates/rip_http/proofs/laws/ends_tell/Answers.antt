use Rattle.rip_http.proofs.StreamLemmas.{ends-tell}
use Rattle.rip_http.proofs.laws.ends_tell.Goals as goal

pub returns : goal.returns
returns c = ends-tell
