use Rattle.rip_store.proofs.LawLemmas.{removed_is_absent}
use Rattle.rip_store.proofs.laws.removed_is_absent.Goals as goal

pub returns : goal.returns
returns c = removed_is_absent
