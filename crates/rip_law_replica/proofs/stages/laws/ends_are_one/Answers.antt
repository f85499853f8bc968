use Rattle.rip_law_replica.proofs.OneEnd.{ends_one}
use Rattle.rip_law_replica.proofs.stages.laws.ends_are_one.Goals as goal

pub returns : goal.returns
returns g c = λ d batches given w x s r first second. ends_one d batches given w x s r first second
