-- What comes of an open form where a statement in it has ended. No public clause cites this.
use Rattle.std.specs.Prelude.{◌≡◌, Option}
use Rattle.rip_grammar.specs.declared.word.Lexeme.{Lexeme}
use Rattle.rip_automaton.specs.States.{State}
use Rattle.rip_automaton.specs.Statements.{ended}
use Rattle.rip_parser.specs.declared.statements.Ending.{Ending}
use Rattle.rip_parser.specs.declared.statements.Ending.TheVariants as N
use Rattle.rip_parser.specs.Running.{Course, Takes}

-- the form has ended, and the statement has ended in what it stood in; or the lexeme was taken or refused
abbrev pub Ends : Ending → Course → Lexeme → Option State → Type 0
Ends N.On course t state = state ≡ ended course.stack course.events t
Ends (N.Done taken) course t state = Takes taken course state
