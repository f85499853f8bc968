use Rattle.rip_lexer.proofs.Tables.{names_are_identifiers, marks_are_apart, reserved_are_apart}
use Rattle.rip_lexer.proofs.lexer.words_are_apart.Goals as goal

pub returns-clause-names : goal.returns-clause-names
returns-clause-names c = names_are_identifiers

pub returns-clause-marks : goal.returns-clause-marks
returns-clause-marks c = marks_are_apart

pub returns-clause-reserved : goal.returns-clause-reserved
returns-clause-reserved c = reserved_are_apart
