use Rattle.rip_wire.proofs.TreeLemmas.{batch_text-one}
use Rattle.rip_wire.proofs.laws.texts_tell_batches.Goals as goal

pub returns : goal.returns
returns c = batch_text-one
