use Rattle.rip_client.proofs.Fronts.{cut_same}
use Rattle.rip_client.proofs.cutting.laws.cut_is_one.Goals as goal

pub returns : goal.returns
returns c = cut_same
