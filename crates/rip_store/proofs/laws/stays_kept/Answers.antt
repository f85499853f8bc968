use Rattle.rip_store.proofs.KeptLemmas.{stays_kept}
use Rattle.rip_store.proofs.laws.stays_kept.Goals as goal

pub returns : goal.returns
returns c = stays_kept
