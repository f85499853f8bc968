use Rattle.rip_http.proofs.HeadEndLemmas.{head_end_is_found}
use Rattle.rip_http.proofs.laws.head_end_is_found.Goals as goal

pub returns : goal.returns
returns c = head_end_is_found
