use Rattle.rip_law_replica.proofs.Done.{ended_has}
use Rattle.rip_law_replica.proofs.stages.laws.ended_are_left.Goals as goal

pub returns : goal.returns
returns g c = λ e doing may at st stands ended.
    let has = ended_has e doing may at st stands ended in
    (has.place, has.stands)
