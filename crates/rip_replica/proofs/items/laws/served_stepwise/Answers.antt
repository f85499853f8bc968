use Rattle.rip_replica.proofs.ServedLaws.{none_more, stepwise}
use Rattle.rip_replica.proofs.items.laws.served_stepwise.Goals as goal

pub returns : goal.returns
returns g c = λ made call items a. ((λ none. none_more call items a none), (λ x is served. stepwise made call items a x is served))
