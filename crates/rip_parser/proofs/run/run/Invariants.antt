use Rattle.std.proofs.Common.{◌≡◌, Some, take}
use Rattle.rip_automaton.specs.Machine.{begins, go}
use Rattle.rip_automaton.specs.States.{At}
use Rattle.rip_parser.proofs.run.run.Given as goal

abbrev pub invariant-loop-lexeme : goal.invariant-loop-lexeme
invariant-loop-lexeme l = go begins (take l.lexeme-index l.lexemes) ≡ Some (At l.machine.mode l.machine.stack l.machine.events)
