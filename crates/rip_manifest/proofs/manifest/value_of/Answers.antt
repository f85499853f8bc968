use Rattle.rip_data.proofs.ReadLemmas.{value_of-some}
use Rattle.rip_manifest.proofs.manifest.value_of.Goals as goal

pub returns-in-Ok-clause-found : goal.returns-in-Ok-clause-found
returns-in-Ok-clause-found c = value_of-some _ _ c.in-Ok.ensures.ok.0 c.in-Ok.ensures.ok.1
