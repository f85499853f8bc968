-- The machine where a statement is wanted, or has ended.
use Rattle.std.specs.Prelude.{ℕ, ◌+◌, Bool, true, false, List, ◌∷◌, Option, Some, None, cond}
use Rattle.rip_grammar.specs.declared.word.Word.{Word}
use Rattle.rip_grammar.specs.declared.word.Word.TheVariants as W
use Rattle.rip_grammar.specs.declared.word.Lexeme.{Lexeme}
use Rattle.rip_grammar.specs.declared.event.Head.TheVariants as H
use Rattle.rip_grammar.specs.declared.event.Event.{Event}
use Rattle.rip_grammar.specs.declared.event.Event.TheVariants as E
use Rattle.rip_automaton.specs.declared.frame.Owner.{Owner}
use Rattle.rip_automaton.specs.declared.frame.Owner.TheVariants as O
use Rattle.rip_automaton.specs.declared.frame.Header.TheVariants as C
use Rattle.rip_automaton.specs.declared.frame.VarRole.TheVariants as V
use Rattle.rip_automaton.specs.declared.frame.Frame.{Frame}
use Rattle.rip_automaton.specs.declared.frame.Frame.TheVariants as F
use Rattle.rip_automaton.specs.declared.mode.Mode.TheVariants as M
use Rattle.rip_automaton.specs.declared.mode.Shape.TheVariants as S
use Rattle.rip_grammar.specs.Words.{is_semicolon, is_else}
use Rattle.rip_grammar.specs.Semicolons.{continues_nothing, is_inserted}
use Rattle.rip_grammar.specs.Events.{node_at}
use Rattle.rip_automaton.specs.States.{State, At}
use Rattle.rip_automaton.specs.Operands.{operand}

-- a clause of a `switch` begins here, or the `switch` ends
abbrev pub clause_by : Word → ℕ → ℕ → Bool → List Frame → List Event → Lexeme → Option State
clause_by W.Case place count default st out t = Some (At M.Operand (F.Case t.start ∷ F.Switch place count default ∷ st) out)
clause_by W.Default place count true st out t = None
clause_by W.Default place count false st out t = Some (At M.DefaultColon (F.Default t.start 0 ∷ F.Switch place count true ∷ st) out)
clause_by W.CloseBrace place count default st out t = Some (At M.Ended st (node_at place H.Switch (1 + count) ∷ out))
clause_by _ place count default st out t = None

-- `case`, `default` or `}` is wanted
abbrev pub clause : List Frame → List Event → Lexeme → Option State
clause (F.Switch place count default ∷ st) out t = clause_by t.word place count default st out t
clause st out t = None

-- a clause has ended
abbrev pub clause_told : List Frame → List Event → Lexeme → Option State
clause_told (F.Switch place count default ∷ st) out t = clause (F.Switch place (count + 1) default ∷ st) out t
clause_told st out t = None

-- the statements of a clause end before this lexeme
abbrev pub clause_ends : List Frame → List Event → Lexeme → Option State
clause_ends (F.CaseBody place count ∷ st) out t = clause_told st (node_at place H.Case (1 + count) ∷ out) t
clause_ends (F.Default place count ∷ st) out t = clause_told st (node_at place H.Default count ∷ out) t
clause_ends st out t = None

-- a function with so many parameters and statements has ended
abbrev pub function_ends : Owner → ℕ → ℕ → List Frame → List Event → Option State
function_ends (O.Expression place name) parameters count st out = Some (At (M.After S.Plain) st (node_at place (H.Function name parameters) (parameters + count) ∷ out))
function_ends (O.Declaration place name) parameters count st out = Some (At M.Ended st (node_at place (H.Declaration name parameters) (parameters + count) ∷ out))

-- `}` ends a list of statements
abbrev pub brace_ends : List Frame → List Event → Lexeme → Option State
brace_ends (F.Block place count ∷ st) out t = Some (At M.Ended st (node_at place H.Block count ∷ out))
brace_ends (F.Body owner parameters count ∷ st) out t = function_ends owner parameters count st out
brace_ends st out t = clause_ends st out t

-- the end ends the script
abbrev pub script_ends : List Frame → List Event → Option State
script_ends (F.Script ∷ st) out = Some (At M.Done st out)
script_ends st out = None

-- a function declaration begins, in a script or a body
abbrev pub declaration_begins : List Frame → List Event → Lexeme → Option State
declaration_begins (F.Script ∷ st) out t = Some (At (M.DeclarationName t.start) (F.Script ∷ st) out)
declaration_begins (F.Body owner parameters count ∷ st) out t = Some (At (M.DeclarationName t.start) (F.Body owner parameters count ∷ st) out)
declaration_begins st out t = None

-- a statement is wanted, or the end of a list of them
abbrev pub start_by : Word → List Frame → List Event → Lexeme → Option State
start_by W.OpenBrace st out t = Some (At M.Statement (F.Block t.start 0 ∷ st) out)
start_by W.Semicolon st out t = Some (At M.Ended st (node_at t.start H.Empty 0 ∷ out))
start_by W.Var st out t = Some (At M.DeclaratorName (F.Declarators V.Statement t.start 0 ∷ st) out)
start_by W.If st out t = Some (At M.OpenHeader (F.Condition C.If t.start ∷ st) out)
start_by W.Do st out t = Some (At M.Statement (F.Do t.start ∷ st) out)
start_by W.While st out t = Some (At M.OpenHeader (F.Condition C.While t.start ∷ st) out)
start_by W.For st out t = Some (At M.OpenFor (F.ForInit t.start ∷ st) out)
start_by W.Continue st out t = Some (At M.Semicolon st (node_at t.start H.Continue 0 ∷ out))
start_by W.Break st out t = Some (At M.Semicolon st (node_at t.start H.Break 0 ∷ out))
start_by W.Return st out t = Some (At M.Returning (F.Return t.start ∷ st) out)
start_by W.Switch st out t = Some (At M.OpenHeader (F.Condition C.Switch t.start ∷ st) out)
start_by W.Throw st out t = Some (At M.Throwing (F.Throw t.start ∷ st) out)
start_by W.Try st out t = Some (At M.OpenBlock (F.Try t.start ∷ st) out)
start_by W.Function st out t = declaration_begins st out t
start_by W.CloseBrace st out t = brace_ends st out t
start_by W.Case st out t = clause_ends st out t
start_by W.Default st out t = clause_ends st out t
start_by W.End st out t = script_ends st out
start_by _ st out t = operand (F.Expression ∷ st) out t

-- a statement is wanted: by the word of the lexeme
abbrev pub start : List Frame → List Event → Lexeme → Option State
start st out t = start_by t.word st out t

-- behind the statement of a `do`
abbrev pub do_ended : Word → ℕ → List Frame → List Event → Option State
do_ended W.While place st out = Some (At M.OpenHeader (F.Condition C.DoWhile place ∷ st) out)
do_ended _ place st out = None

-- behind the block of a `try`
abbrev pub try_ended : Lexeme → Word → ℕ → List Frame → List Event → Option State
try_ended t W.Catch place st out = Some (At (M.OpenCatch t.start) (F.Handled place ∷ st) out)
try_ended t W.Finally place st out = Some (At M.OpenBlock (F.Finally place ∷ st) (E.Absent ∷ out))
try_ended t _ place st out = None

-- behind the catch clause of a `try`: a finally clause belongs to it, or else the `try` has ended
abbrev pub handled : Word → ℕ → List Frame → List Event → Option State → Option State
handled W.Finally place st out otherwise = Some (At M.OpenBlock (F.Finally place ∷ st) out)
handled _ place st out otherwise = otherwise

-- A statement has ended before this lexeme: so have those that it ends, and then a statement is wanted. An `else` belongs
-- to the nearest `if`.
abbrev pub ended : List Frame → List Event → Lexeme → Option State
ended (F.Then place ∷ st) out t = cond (is_else t.word) (Some (At M.Statement (F.Otherwise place ∷ st) out)) (ended st (node_at place H.If 2 ∷ out) t)
ended (F.Otherwise place ∷ st) out t = ended st (node_at place H.If 3 ∷ out) t
ended (F.While place ∷ st) out t = ended st (node_at place H.While 2 ∷ out) t
ended (F.For place ∷ st) out t = ended st (node_at place H.For 4 ∷ out) t
ended (F.Do place ∷ st) out t = do_ended t.word place st out
ended (F.Try place ∷ st) out t = try_ended t t.word place st out
ended (F.Catch place name ∷ st) out t = ended st (node_at place (H.Catch name) 1 ∷ out) t
ended (F.Handled place ∷ st) out t = handled t.word place st out (ended st (node_at place H.Try 3 ∷ E.Absent ∷ out) t)
ended (F.Finally place ∷ st) out t = ended st (node_at place H.Try 3 ∷ out) t
ended (F.Script ∷ st) out t = start (F.Script ∷ st) out t
ended (F.Block place count ∷ st) out t = start (F.Block place (count + 1) ∷ st) out t
ended (F.Body owner parameters count ∷ st) out t = start (F.Body owner parameters (count + 1) ∷ st) out t
ended (F.CaseBody place count ∷ st) out t = start (F.CaseBody place (count + 1) ∷ st) out t
ended (F.Default place count ∷ st) out t = start (F.Default place (count + 1) ∷ st) out t
ended st out t = None

-- A statement ends here, with `;` or with the empty spelling: then this lexeme stands behind the statement.
abbrev pub finish : Bool → List Frame → List Event → Lexeme → Option State
finish inserted st out t = cond (is_semicolon t.word) (Some (At M.Ended st out)) (cond inserted (ended st out t) None)

-- the `;` of a statement that nothing continues is wanted
abbrev pub semicolon : List Frame → List Event → Lexeme → Option State
semicolon st out t = finish (is_inserted continues_nothing t) st out t

-- the `:` behind `default` is wanted
abbrev pub default_colon_by : Word → List Frame → List Event → Option State
default_colon_by W.Colon st out = Some (At M.Statement st out)
default_colon_by _ st out = None

-- the same as `default_colon_by`, by the word of the lexeme
abbrev pub default_colon : List Frame → List Event → Lexeme → Option State
default_colon st out t = default_colon_by t.word st out

-- the `{` of a block in a `try` is wanted
abbrev pub open_block_by : Word → List Frame → List Event → Lexeme → Option State
open_block_by W.OpenBrace st out t = Some (At M.Statement (F.Block t.start 0 ∷ st) out)
open_block_by _ st out t = None

-- the same as `open_block_by`, by the word of the lexeme
abbrev pub open_block : List Frame → List Event → Lexeme → Option State
open_block st out t = open_block_by t.word st out t

-- the `(` behind `catch` is wanted, then a name, then `)`
abbrev pub open_catch_by : Word → ℕ → List Frame → List Event → Option State
open_catch_by W.OpenParenthesis place st out = Some (At (M.CatchName place) st out)
open_catch_by _ place st out = None

-- the same as `open_catch_by`, by the word of the lexeme
abbrev pub open_catch : ℕ → List Frame → List Event → Lexeme → Option State
open_catch place st out t = open_catch_by t.word place st out

-- the name of a catch clause is wanted
abbrev pub catch_name_by : Word → ℕ → List Frame → List Event → Lexeme → Option State
catch_name_by W.Name place st out t = Some (At M.CloseCatch (F.Catch place t ∷ st) out)
catch_name_by _ place st out t = None

-- the same as `catch_name_by`, by the word of the lexeme
abbrev pub catch_name : ℕ → List Frame → List Event → Lexeme → Option State
catch_name place st out t = catch_name_by t.word place st out t

-- the `)` behind the name of a catch clause is wanted
abbrev pub close_catch_by : Word → List Frame → List Event → Option State
close_catch_by W.CloseParenthesis st out = Some (At M.OpenBlock st out)
close_catch_by _ st out = None

-- the same as `close_catch_by`, by the word of the lexeme
abbrev pub close_catch : List Frame → List Event → Lexeme → Option State
close_catch st out t = close_catch_by t.word st out
