use Rattle.rip_law_syntax.proofs.Bound.{names_bound, own_names_bound}
use Rattle.rip_law_syntax.proofs.scoping.laws.names_are_bound_at_home.Goals as goal

pub returns-clause-around : goal.returns-clause-around
returns-clause-around c = names_bound

pub returns-clause-own : goal.returns-clause-own
returns-clause-own c = own_names_bound
