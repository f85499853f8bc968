use Rattle.rip_ops.proofs.ArrayLemmas.{written_read}
use Rattle.rip_ops.proofs.access.laws.written_elements_are_read.Goals as goal

pub returns : goal.returns
returns c = written_read
