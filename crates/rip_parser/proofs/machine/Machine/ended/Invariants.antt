use Rattle.std.proofs.Common.{◌≡◌, length}
use Rattle.rip_automaton.specs.Statements.{ended}
use Rattle.rip_parser.proofs.machine.Machine.ended.Given as goal

abbrev pub invariant-forms : goal.invariant-forms
invariant-forms l = ended l.fn.self.stack l.fn.self.events l.lexeme ≡ ended l.self.stack l.self.events l.lexeme

abbrev pub decreases-forms : goal.decreases-forms
decreases-forms l = length l.self.stack
