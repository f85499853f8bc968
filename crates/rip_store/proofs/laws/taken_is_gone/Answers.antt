use Rattle.rip_store.proofs.LawLemmas.{taken_is_gone}
use Rattle.rip_store.proofs.laws.taken_is_gone.Goals as goal

pub returns : goal.returns
returns c = taken_is_gone
