use Rattle.rip_automaton.proofs.Inserting.{inserted_before_offending, ends_there, refused_on_its_line, goes_on_with_others, throw_takes_no_line_end}
use Rattle.rip_automaton.proofs.laws.semicolons_are_inserted.Goals as goal

pub returns-clause-inserted : goal.returns-clause-inserted
returns-clause-inserted c = inserted_before_offending

pub returns-clause-ends : goal.returns-clause-ends
returns-clause-ends c = ends_there

pub returns-clause-refused : goal.returns-clause-refused
returns-clause-refused c = refused_on_its_line

pub returns-clause-others : goal.returns-clause-others
returns-clause-others c = goes_on_with_others

pub returns-clause-throw : goal.returns-clause-throw
returns-clause-throw c = throw_takes_no_line_end
