use Rattle.rip_law_replica.proofs.Admitted.{admitted_next}
use Rattle.rip_law_replica.proofs.stages.laws.admitted_are_next.Goals as goal

pub returns : goal.returns
returns g c = λ e doing may at to st b sound stands ok is. admitted_next e doing may at to st b sound stands ok is
