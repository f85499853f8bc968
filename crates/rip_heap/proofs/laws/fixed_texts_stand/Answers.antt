use Rattle.rip_heap.proofs.FixedLemmas.{fixed_stands}
use Rattle.rip_heap.proofs.laws.fixed_texts_stand.Goals as goal

pub returns : goal.returns
returns c = fixed_stands
