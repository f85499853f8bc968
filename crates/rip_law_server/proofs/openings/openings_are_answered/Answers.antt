use Rattle.rip_law_server.proofs.OpeningsLemmas.{openers_are_answered, openings_are_answered}
use Rattle.rip_law_server.proofs.openings.openings_are_answered.Goals as goal

pub returns-clause-there : goal.returns-clause-there
returns-clause-there c = openers_are_answered

pub returns-clause-answer : goal.returns-clause-answer
returns-clause-answer c = openings_are_answered
