use Rattle.rip_law_served.proofs.ServedLemmas.{sessions_serve}
use Rattle.rip_law_served.proofs.served.laws.sessions_serve_prefixes.Goals as goal

pub returns : goal.returns
returns c = λ d plan fact bs gs. sessions_serve d plan fact bs gs
