use Rattle.rip_law_served.proofs.PartLemmas.{applications_in_range}
use Rattle.rip_law_served.proofs.ranges.laws.applications_mean_in_range.Goals as goal

pub returns : goal.returns
returns c = applications_in_range
