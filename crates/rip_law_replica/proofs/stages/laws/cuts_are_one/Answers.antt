use Rattle.rip_law_replica.proofs.OneCut.{cuts_one}
use Rattle.rip_law_replica.proofs.stages.laws.cuts_are_one.Goals as goal

pub returns : goal.returns
returns g c = λ d batches given units n m w x s r counts first second. cuts_one d batches given units n m w x s r counts first second
