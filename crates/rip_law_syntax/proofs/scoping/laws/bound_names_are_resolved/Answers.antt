use Rattle.rip_law_syntax.proofs.Bound.{bound_names}
use Rattle.rip_law_syntax.proofs.scoping.laws.bound_names_are_resolved.Goals as goal

pub returns : goal.returns
returns c = bound_names
