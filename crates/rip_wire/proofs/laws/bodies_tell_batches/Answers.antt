use Rattle.rip_wire.proofs.LawLemmas.{body_tells, one_value}
use Rattle.rip_wire.proofs.laws.bodies_tell_batches.Goals as goal

pub returns-clause-batch : goal.returns-clause-batch
returns-clause-batch c = body_tells

pub returns-clause-value : goal.returns-clause-value
returns-clause-value c = one_value
