use Rattle.rip_forms.proofs.LawLemmas.{states-read}
use Rattle.rip_forms.proofs.laws.states_are_read.Goals as goal

pub returns : goal.returns
returns c = states-read
