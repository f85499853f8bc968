use Rattle.rip_law_syntax.proofs.Offending.{offending_at, refused_at, one_offence, one_standing}
use Rattle.rip_law_syntax.proofs.page_refusals.laws.offending_tokens_are_refused.Goals as goal

pub returns-clause-offends : goal.returns-clause-offends
returns-clause-offends c = offending_at

pub returns-clause-refused : goal.returns-clause-refused
returns-clause-refused c = refused_at

pub returns-clause-one : goal.returns-clause-one
returns-clause-one c = one_offence

pub returns-clause-stands : goal.returns-clause-stands
returns-clause-stands c = one_standing
