use Rattle.rip_replica.proofs.RunUnits.{of-lent, of-wants}
use Rattle.rip_replica.proofs.laws.runs_want.Goals as goal

pub returns : goal.returns
returns g c = λ h t depth room row s fuel u k. (of-lent h t depth room row s fuel u, of-wants h t depth room row s fuel u k)
