use Rattle.rip_replica.proofs.ServedLaws.{one}
use Rattle.rip_replica.proofs.items.laws.served_is_one.Goals as goal

pub returns : goal.returns
returns g c = λ made reported n m a b. one made reported n m a b
