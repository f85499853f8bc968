use Rattle.rip_manifest.proofs.VersionLemmas.{version_one_stands}
use Rattle.rip_manifest.proofs.law.memory_of_version_one_stands.Goals as goal

pub returns : goal.returns
returns c = version_one_stands
