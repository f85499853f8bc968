use Rattle.rip_automaton.proofs.Continuing.{behind_name, behind_postfix}
use Rattle.rip_automaton.proofs.laws.continuing_words_are_taken.Goals as goal

pub returns-clause-name : goal.returns-clause-name
returns-clause-name c = behind_name

pub returns-clause-postfix : goal.returns-clause-postfix
returns-clause-postfix c = behind_postfix
