-- The machine that reads scripts: it takes one lexeme at a time, and keeps the open forms on a stack.
use Rattle.std.specs.Prelude.{List, [], ◌∷◌, Option, Some, None}
use Rattle.rip_grammar.specs.declared.word.Lexeme.{Lexeme}
use Rattle.rip_grammar.specs.declared.event.Event.{Event}
use Rattle.rip_automaton.specs.declared.frame.Frame.{Frame}
use Rattle.rip_automaton.specs.declared.frame.Frame.TheVariants as F
use Rattle.rip_automaton.specs.declared.mode.Mode.{Mode}
use Rattle.rip_automaton.specs.declared.mode.Mode.TheVariants as M
use Rattle.rip_automaton.specs.States.{State, At}
use Rattle.rip_automaton.specs.Operands.{operand, member, argument, element, key, entry_colon, function_name, declaration_name, open_parameters, first_parameter, parameter, after_parameter, open_body}
use Rattle.rip_automaton.specs.Statements.{start, ended, semicolon, clause, default_colon, open_block, open_catch, catch_name, close_catch}
use Rattle.rip_automaton.specs.Headers.{declarator_name, after_name, returning, throwing, open_header, open_switch, open_for, for_init, for_test, for_update}
use Rattle.rip_automaton.specs.Continuations.{after}

-- what the machine does with a lexeme, by what it wants
abbrev pub step : Mode → List Frame → List Event → Lexeme → Option State
step M.Operand st out t = operand st out t
step (M.After sh) st out t = after sh st out t
step M.Member st out t = member st out t
step M.Argument st out t = argument st out t
step M.Element st out t = element st out t
step M.Key st out t = key st out t
step M.EntryColon st out t = entry_colon st out t
step (M.FunctionName place) st out t = function_name place st out t
step (M.DeclarationName place) st out t = declaration_name place st out t
step M.OpenParameters st out t = open_parameters st out t
step M.FirstParameter st out t = first_parameter st out t
step M.Parameter st out t = parameter st out t
step M.AfterParameter st out t = after_parameter st out t
step M.OpenBody st out t = open_body st out t
step M.Statement st out t = start st out t
step M.Ended st out t = ended st out t
step M.Semicolon st out t = semicolon st out t
step M.DeclaratorName st out t = declarator_name st out t
step (M.AfterName n) st out t = after_name n st out t
step M.Returning st out t = returning st out t
step M.Throwing st out t = throwing st out t
step M.OpenHeader st out t = open_header st out t
step M.OpenSwitch st out t = open_switch st out t
step M.Clause st out t = clause st out t
step M.DefaultColon st out t = default_colon st out t
step M.OpenFor st out t = open_for st out t
step M.ForInit st out t = for_init st out t
step M.ForTest st out t = for_test st out t
step M.ForUpdate st out t = for_update st out t
step M.OpenBlock st out t = open_block st out t
step (M.OpenCatch place) st out t = open_catch place st out t
step (M.CatchName place) st out t = catch_name place st out t
step M.CloseCatch st out t = close_catch st out t
step M.Done st out t = None

-- one lexeme more
abbrev pub feed : Option State → Lexeme → Option State
feed None t = None
feed (Some (At mode st out)) t = step mode st out t

-- lexemes, from a state on
abbrev pub go : Option State → List Lexeme → Option State
go s [] = s
go s (t ∷ r) = go (feed s t) r

-- where the machine begins
abbrev pub begins : Option State
begins = Some (At M.Statement (F.Script ∷ []) [])
