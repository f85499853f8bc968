use Rattle.rip_grammar.proofs.Offending.{inserted_behind_name, offending_is_inserted}
use Rattle.rip_grammar.proofs.laws.semicolons_stand_before_offending.Goals as goal

pub returns-clause-inserted : goal.returns-clause-inserted
returns-clause-inserted c = inserted_behind_name

pub returns-clause-offending : goal.returns-clause-offending
returns-clause-offending c = offending_is_inserted
