use Rattle.rip_store.proofs.LawLemmas.{kept_is_found}
use Rattle.rip_store.proofs.laws.kept_is_found.Goals as goal

pub returns : goal.returns
returns c = kept_is_found
