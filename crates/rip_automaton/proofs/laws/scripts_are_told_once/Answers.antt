use Rattle.rip_automaton.proofs.Complete.{script, one_telling}
use Rattle.rip_automaton.proofs.Folding.{refused_begins_none}
use Rattle.rip_automaton.proofs.laws.scripts_are_told_once.Goals as goal

pub returns-clause-told : goal.returns-clause-told
returns-clause-told c = script

pub returns-clause-once : goal.returns-clause-once
returns-clause-once c = one_telling

pub returns-clause-refused : goal.returns-clause-refused
returns-clause-refused c = refused_begins_none
