use Rattle.rip_law_server.proofs.MeantLemmas.{are_meant}
use Rattle.rip_law_server.proofs.requests.law.requests_are_meant.Goals as goal

pub returns : goal.returns
returns c = are_meant
