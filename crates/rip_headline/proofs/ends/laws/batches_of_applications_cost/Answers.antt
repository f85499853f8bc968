use Rattle.rip_headline.proofs.Costs.{applications_cost}
use Rattle.rip_headline.proofs.ends.laws.batches_of_applications_cost.Goals as goal

pub returns : goal.returns
returns c = applications_cost
