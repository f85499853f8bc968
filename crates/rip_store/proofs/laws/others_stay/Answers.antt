use Rattle.rip_store.proofs.LawLemmas.{others_stay}
use Rattle.rip_store.proofs.laws.others_stay.Goals as goal

pub returns : goal.returns
returns c = others_stay
