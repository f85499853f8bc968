-- The machine where an operand, or a part of one, is wanted.
use Rattle.std.specs.Prelude.{ℕ, ◌+◌, nat_le, List, ◌∷◌, Option, Some, None, cond}
use Rattle.rip_grammar.specs.declared.word.Word.{Word}
use Rattle.rip_grammar.specs.declared.word.Word.TheVariants as W
use Rattle.rip_grammar.specs.declared.word.Lexeme.{Lexeme}
use Rattle.rip_grammar.specs.declared.event.Head.TheVariants as H
use Rattle.rip_grammar.specs.declared.event.Event.{Event}
use Rattle.rip_automaton.specs.declared.frame.Pending.TheVariants as P
use Rattle.rip_automaton.specs.declared.frame.Invocation.{Invocation}
use Rattle.rip_automaton.specs.declared.frame.Invocation.TheVariants as I
use Rattle.rip_automaton.specs.declared.frame.Owner.TheVariants as O
use Rattle.rip_automaton.specs.declared.frame.Frame.{Frame}
use Rattle.rip_automaton.specs.declared.frame.Frame.TheVariants as F
use Rattle.rip_automaton.specs.declared.mode.Mode.TheVariants as M
use Rattle.rip_automaton.specs.declared.mode.Shape.TheVariants as S
use Rattle.rip_grammar.specs.Words.{is_single, is_prefix, is_key, is_identifier_name}
use Rattle.rip_grammar.specs.Levels.{unary_level}
use Rattle.rip_grammar.specs.Events.{node_at, node_behind}
use Rattle.rip_automaton.specs.Frames.{single_shape, top_floor, top_bars}
use Rattle.rip_automaton.specs.States.{State, At}

-- what begins an operand and is neither an operator nor an operand alone
abbrev pub opening : Word → List Frame → List Event → Lexeme → Option State
opening W.OpenParenthesis st out t = Some (At M.Operand (F.Parenthesis t.start ∷ st) out)
opening W.OpenBracket st out t = Some (At M.Element (F.Elements t.start 0 ∷ st) out)
opening W.OpenBrace st out t = Some (At M.Key (F.Object t.start 0 ∷ st) out)
opening W.Function st out t = Some (At (M.FunctionName t.start) st out)
opening W.New st out t = Some (At M.Operand (F.Operator (P.New t.start) (top_bars st) ∷ st) out)
opening _ st out t = None

-- an operator before its operand, where it may stand
abbrev pub prefix : List Frame → List Event → Lexeme → Option State
prefix st out t = cond (nat_le (top_floor st) unary_level) (Some (At M.Operand (F.Operator (P.Prefix t.start t.word) (top_bars st) ∷ st) out)) None

-- an operand is wanted
abbrev pub operand : List Frame → List Event → Lexeme → Option State
operand st out t = cond (is_prefix t.word) (prefix st out t)
    (cond (is_single t.word) (Some (At (M.After (single_shape t.word)) st (node_at t.start (H.Single t) 0 ∷ out))) (opening t.word st out t))

-- a name behind `.` is wanted
abbrev pub member : List Frame → List Event → Lexeme → Option State
member st out t = cond (is_identifier_name t.word) (Some (At (M.After S.Target) st (node_behind (H.Member t) 1 ∷ out))) None

-- so many arguments end
abbrev pub arguments_end : Invocation → ℕ → List Frame → List Event → Option State
arguments_end I.Call count st out = Some (At (M.After S.Plain) st (node_behind H.Call (1 + count) ∷ out))
arguments_end (I.New place) count st out = Some (At (M.After S.Plain) st (node_at place H.New (1 + count) ∷ out))

-- a call or a `new` has no argument
abbrev pub no_argument : List Frame → List Event → Option State
no_argument (F.Arguments invocation count ∷ st) out = arguments_end invocation count st out
no_argument st out = None

-- the first argument is wanted, or `)`
abbrev pub argument_by : Word → List Frame → List Event → Lexeme → Option State
argument_by W.CloseParenthesis st out t = no_argument st out
argument_by _ st out t = operand st out t

-- the same as `argument_by`, by the word of the lexeme
abbrev pub argument : List Frame → List Event → Lexeme → Option State
argument st out t = argument_by t.word st out t

-- an array literal ends, at once or behind a comma
abbrev pub elements_end : List Frame → List Event → Option State
elements_end (F.Elements place count ∷ st) out = Some (At (M.After S.Plain) st (node_at place H.Array count ∷ out))
elements_end st out = None

-- an element is wanted, or `]`
abbrev pub element_by : Word → List Frame → List Event → Lexeme → Option State
element_by W.CloseBracket st out t = elements_end st out
element_by _ st out t = operand st out t

-- the same as `element_by`, by the word of the lexeme
abbrev pub element : List Frame → List Event → Lexeme → Option State
element st out t = element_by t.word st out t

-- an object literal goes on with this key
abbrev pub entry_begins : List Frame → List Event → Lexeme → Option State
entry_begins (F.Object place count ∷ st) out t = Some (At M.EntryColon (F.Entry place count t ∷ st) out)
entry_begins st out t = None

-- an object literal ends, at once or behind a comma
abbrev pub entries_end : List Frame → List Event → Option State
entries_end (F.Object place count ∷ st) out = Some (At (M.After S.Plain) st (node_at place H.Object count ∷ out))
entries_end st out = None

-- a key is wanted, or `}`
abbrev pub key_by : Word → List Frame → List Event → Lexeme → Option State
key_by W.CloseBrace st out t = entries_end st out
key_by w st out t = cond (is_key w) (entry_begins st out t) None

-- the same as `key_by`, by the word of the lexeme
abbrev pub key : List Frame → List Event → Lexeme → Option State
key st out t = key_by t.word st out t

-- the `:` behind a key is wanted
abbrev pub entry_colon_by : Word → List Frame → List Event → Option State
entry_colon_by W.Colon st out = Some (At M.Operand st out)
entry_colon_by _ st out = None

-- the same as `entry_colon_by`, by the word of the lexeme
abbrev pub entry_colon : List Frame → List Event → Lexeme → Option State
entry_colon st out t = entry_colon_by t.word st out

-- behind `function`, in an expression: a name or `(` is wanted
abbrev pub function_name_by : Word → ℕ → List Frame → List Event → Lexeme → Option State
function_name_by W.Name place st out t = Some (At M.OpenParameters (F.Parameters (O.Expression place (Some t)) 0 ∷ st) out)
function_name_by W.OpenParenthesis place st out t = Some (At M.FirstParameter (F.Parameters (O.Expression place None) 0 ∷ st) out)
function_name_by _ place st out t = None

-- the same as `function_name_by`, by the word of the lexeme
abbrev pub function_name : ℕ → List Frame → List Event → Lexeme → Option State
function_name place st out t = function_name_by t.word place st out t

-- the name of a declaration is wanted
abbrev pub declaration_name_by : Word → ℕ → List Frame → List Event → Lexeme → Option State
declaration_name_by W.Name place st out t = Some (At M.OpenParameters (F.Parameters (O.Declaration place t) 0 ∷ st) out)
declaration_name_by _ place st out t = None

-- the same as `declaration_name_by`, by the word of the lexeme
abbrev pub declaration_name : ℕ → List Frame → List Event → Lexeme → Option State
declaration_name place st out t = declaration_name_by t.word place st out t

-- the `(` before parameters is wanted
abbrev pub open_parameters_by : Word → List Frame → List Event → Option State
open_parameters_by W.OpenParenthesis st out = Some (At M.FirstParameter st out)
open_parameters_by _ st out = None

-- the same as `open_parameters_by`, by the word of the lexeme
abbrev pub open_parameters : List Frame → List Event → Lexeme → Option State
open_parameters st out t = open_parameters_by t.word st out

-- one parameter more
abbrev pub parameter_read : List Frame → List Event → Lexeme → Option State
parameter_read (F.Parameters owner count ∷ st) out t = Some (At M.AfterParameter (F.Parameters owner (count + 1) ∷ st) (node_at t.start (H.Parameter t) 0 ∷ out))
parameter_read st out t = None

-- the first parameter is wanted, or `)`
abbrev pub first_parameter_by : Word → List Frame → List Event → Lexeme → Option State
first_parameter_by W.CloseParenthesis st out t = Some (At M.OpenBody st out)
first_parameter_by W.Name st out t = parameter_read st out t
first_parameter_by _ st out t = None

-- the same as `first_parameter_by`, by the word of the lexeme
abbrev pub first_parameter : List Frame → List Event → Lexeme → Option State
first_parameter st out t = first_parameter_by t.word st out t

-- a parameter is wanted
abbrev pub parameter_by : Word → List Frame → List Event → Lexeme → Option State
parameter_by W.Name st out t = parameter_read st out t
parameter_by _ st out t = None

-- the same as `parameter_by`, by the word of the lexeme
abbrev pub parameter : List Frame → List Event → Lexeme → Option State
parameter st out t = parameter_by t.word st out t

-- `,` or `)` is wanted behind a parameter
abbrev pub after_parameter_by : Word → List Frame → List Event → Option State
after_parameter_by W.Comma st out = Some (At M.Parameter st out)
after_parameter_by W.CloseParenthesis st out = Some (At M.OpenBody st out)
after_parameter_by _ st out = None

-- the same as `after_parameter_by`, by the word of the lexeme
abbrev pub after_parameter : List Frame → List Event → Lexeme → Option State
after_parameter st out t = after_parameter_by t.word st out

-- a body begins behind its parameters
abbrev pub body_begins : List Frame → List Event → Option State
body_begins (F.Parameters owner count ∷ st) out = Some (At M.Statement (F.Body owner count 0 ∷ st) out)
body_begins st out = None

-- the `{` of a body is wanted
abbrev pub open_body_by : Word → List Frame → List Event → Option State
open_body_by W.OpenBrace st out = body_begins st out
open_body_by _ st out = None

-- the same as `open_body_by`, by the word of the lexeme
abbrev pub open_body : List Frame → List Event → Lexeme → Option State
open_body st out t = open_body_by t.word st out
