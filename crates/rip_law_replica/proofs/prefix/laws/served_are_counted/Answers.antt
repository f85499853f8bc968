use Rattle.rip_law_replica.proofs.PrefixLemmas.{served_are_counted}
use Rattle.rip_law_replica.proofs.prefix.laws.served_are_counted.Goals as goal

pub returns : goal.returns
returns g c = λ rules d call tells reports counts bs gs. served_are_counted rules d call tells reports counts bs gs
