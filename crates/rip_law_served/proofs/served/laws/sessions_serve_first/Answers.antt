use Rattle.rip_law_served.proofs.CountLemmas.{sessions_first}
use Rattle.rip_law_served.proofs.served.laws.sessions_serve_first.Goals as goal

pub returns : goal.returns
returns c = λ d over bs gs. sessions_first d over bs gs
