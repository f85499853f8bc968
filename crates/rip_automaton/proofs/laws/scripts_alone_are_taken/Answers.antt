use Rattle.rip_automaton.proofs.Finished.{end_ends}
use Rattle.rip_automaton.proofs.Sound.{sound}
use Rattle.rip_automaton.proofs.Viable.{viable}
use Rattle.rip_automaton.proofs.laws.scripts_alone_are_taken.Goals as goal

pub returns-clause-script : goal.returns-clause-script
returns-clause-script c = sound

pub returns-clause-viable : goal.returns-clause-viable
returns-clause-viable c = viable

pub returns-clause-last : goal.returns-clause-last
returns-clause-last c = end_ends
