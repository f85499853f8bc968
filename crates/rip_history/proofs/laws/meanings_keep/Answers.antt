use Rattle.rip_history.proofs.KeepLemmas.{meanings_keep}
use Rattle.rip_history.proofs.laws.meanings_keep.Goals as goal

pub returns : goal.returns
returns c = meanings_keep
