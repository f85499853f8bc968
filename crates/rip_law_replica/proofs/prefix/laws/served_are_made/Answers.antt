use Rattle.rip_law_replica.proofs.PrefixLemmas.{served_are_made}
use Rattle.rip_law_replica.proofs.prefix.laws.served_are_made.Goals as goal

pub returns : goal.returns
returns g c = λ rules d call tells reports bs gs. served_are_made rules d call tells reports bs gs
