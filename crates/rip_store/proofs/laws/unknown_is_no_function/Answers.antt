use Rattle.rip_store.proofs.ErrorLemmas.{unknown_is_no_function}
use Rattle.rip_store.proofs.laws.unknown_is_no_function.Goals as goal

pub returns : goal.returns
returns c = unknown_is_no_function
