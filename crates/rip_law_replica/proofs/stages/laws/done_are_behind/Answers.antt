use Rattle.rip_law_replica.proofs.Done.{done_idle}
use Rattle.rip_law_replica.proofs.stages.laws.done_are_behind.Goals as goal

pub returns : goal.returns
returns g c = λ e doing may at st stands done lives.
    let idle = done_idle e doing may at st stands done lives in
    (idle.place, record { cost = idle.cost; behind = idle.behind })
