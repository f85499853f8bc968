use Rattle.rip_store.proofs.LawLemmas.{store_stays}
use Rattle.rip_store.proofs.laws.store_stays.Goals as goal

pub returns : goal.returns
returns c = store_stays
