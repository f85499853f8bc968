use Rattle.rip_law_replica.proofs.Lawful.{lawful}
use Rattle.rip_law_replica.proofs.stages.laws.meanings_are_lawful.Goals as goal

pub returns : goal.returns
returns g c = λ doing may shapes. lawful doing may shapes
