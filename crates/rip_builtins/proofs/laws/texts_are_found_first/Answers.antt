use Rattle.rip_builtins.proofs.SearchLemmas.{first_place-first}
use Rattle.rip_builtins.proofs.laws.texts_are_found_first.Goals as goal

pub returns : goal.returns
returns c = first_place-first
