use Rattle.rip_gen.proofs.PlanLemmas.{plans}
use Rattle.rip_gen.proofs.laws.plans_are_in_range.Goals as goal

pub returns : goal.returns
returns c = plans
