use Rattle.rip_law_served.proofs.CountLemmas.{sessions_count}
use Rattle.rip_law_served.proofs.served.laws.sessions_count.Goals as goal

pub returns : goal.returns
returns c = λ d over bs gs. sessions_count d over bs gs
