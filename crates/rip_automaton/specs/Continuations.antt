-- The machine behind an operand: what goes on from it, and what ends the form that it stands in.
use Rattle.std.specs.Prelude.{ℕ, zero, suc, ◌+◌, nat_le, false, ◌&&◌, List, ◌∷◌, Option, Some, None, cond}
use Rattle.rip_grammar.specs.declared.word.Word.{Word}
use Rattle.rip_grammar.specs.declared.word.Word.TheVariants as W
use Rattle.rip_grammar.specs.declared.word.Lexeme.{Lexeme}
use Rattle.rip_grammar.specs.declared.event.Head.TheVariants as H
use Rattle.rip_grammar.specs.declared.event.Event.{Event}
use Rattle.rip_grammar.specs.declared.event.Event.TheVariants as E
use Rattle.rip_automaton.specs.declared.frame.Pending.TheVariants as P
use Rattle.rip_automaton.specs.declared.frame.Invocation.{Invocation}
use Rattle.rip_automaton.specs.declared.frame.Invocation.TheVariants as I
use Rattle.rip_automaton.specs.declared.frame.Header.{Header}
use Rattle.rip_automaton.specs.declared.frame.Header.TheVariants as C
use Rattle.rip_automaton.specs.declared.frame.Frame.{Frame}
use Rattle.rip_automaton.specs.declared.frame.Frame.TheVariants as F
use Rattle.rip_automaton.specs.declared.mode.Mode.TheVariants as M
use Rattle.rip_automaton.specs.declared.mode.Shape.{Shape}
use Rattle.rip_automaton.specs.declared.mode.Shape.TheVariants as S
use Rattle.rip_grammar.specs.Words.{is_in, is_comma, is_assignment}
use Rattle.rip_grammar.specs.Levels.{expression_level, assignment_level, logical_or_level, postfix_level, binds}
use Rattle.rip_grammar.specs.Semicolons.{continues, is_inserted}
use Rattle.rip_grammar.specs.Events.{node_at, node_behind}
use Rattle.rip_automaton.specs.Frames.{may_be_target, in_postfix, closed, enclosed, pending_level, may_end, told, top_floor, top_bars}
use Rattle.rip_automaton.specs.States.{State, At}
use Rattle.rip_automaton.specs.Operands.{arguments_end}
use Rattle.rip_automaton.specs.Statements.{finish}
use Rattle.rip_automaton.specs.Headers.{declared, init_ended, test_ended, update_ended}

-- the operators that hold at least this tightly end, the latest first, and then this
abbrev pub reduce : ℕ → Shape → List Frame → List Event → (Shape → List Frame → List Event → Option State) → Option State
reduce n sh (F.Operator o b ∷ st) out next = cond (nat_le n (pending_level o))
    (cond (may_end o sh) (reduce n (closed sh) st (told o ∷ out) next) None)
    (next sh (F.Operator o b ∷ st) out)
reduce n sh st out next = next sh st out

-- behind the part of `? :` before `:`
abbrev pub test_by : Word → List Frame → List Event → Option State
test_by W.Colon st out = Some (At M.Operand (F.Operator P.Choice (top_bars st) ∷ st) out)
test_by _ st out = None

-- behind what stands in parentheses
abbrev pub parenthesis_by : Word → ℕ → Shape → List Frame → List Event → Option State
parenthesis_by W.CloseParenthesis place sh st out = Some (At (M.After (enclosed sh)) st (E.Parenthesized place ∷ out))
parenthesis_by _ place sh st out = None

-- behind what stands in the brackets of a member
abbrev pub index_by : Word → List Frame → List Event → Option State
index_by W.CloseBracket st out = Some (At (M.After S.Target) st (node_behind H.Index 2 ∷ out))
index_by _ st out = None

-- behind so many arguments
abbrev pub arguments_by : Word → Invocation → ℕ → List Frame → List Event → Option State
arguments_by W.Comma invocation count st out = Some (At M.Operand (F.Arguments invocation count ∷ st) out)
arguments_by W.CloseParenthesis invocation count st out = arguments_end invocation count st out
arguments_by _ invocation count st out = None

-- behind so many elements
abbrev pub elements_by : Word → ℕ → ℕ → List Frame → List Event → Option State
elements_by W.Comma place count st out = Some (At M.Element (F.Elements place count ∷ st) out)
elements_by W.CloseBracket place count st out = Some (At (M.After S.Plain) st (node_at place H.Array count ∷ out))
elements_by _ place count st out = None

-- behind so many entries
abbrev pub entries_by : Word → ℕ → ℕ → List Frame → List Event → Option State
entries_by W.Comma place count st out = Some (At M.Key (F.Object place count ∷ st) out)
entries_by W.CloseBrace place count st out = Some (At (M.After S.Plain) st (node_at place H.Object count ∷ out))
entries_by _ place count st out = None

-- behind the expression of a header
abbrev pub header_ends : Header → ℕ → List Frame → List Event → Option State
header_ends C.If place st out = Some (At M.Statement (F.Then place ∷ st) out)
header_ends C.While place st out = Some (At M.Statement (F.While place ∷ st) out)
header_ends C.DoWhile place st out = Some (At M.Semicolon st (node_at place H.DoWhile 2 ∷ out))
header_ends C.Switch place st out = Some (At M.OpenSwitch (F.Switch place 0 false ∷ st) out)

-- behind the expression of a header: `)`
abbrev pub header_by : Word → Header → ℕ → List Frame → List Event → Option State
header_by W.CloseParenthesis header place st out = header_ends header place st out
header_by _ header place st out = None

-- behind the test of a `for`, and behind its update
abbrev pub for_test_ended : Word → List Frame → List Event → Option State
for_test_ended W.Semicolon st out = test_ended st out
for_test_ended _ st out = None

-- behind the update of a `for`
abbrev pub for_update_ended : Word → List Frame → List Event → Option State
for_update_ended W.CloseParenthesis st out = update_ended st out
for_update_ended _ st out = None

-- behind the expression of a `case`
abbrev pub case_by : Word → ℕ → List Frame → List Event → Option State
case_by W.Colon place st out = Some (At M.Statement (F.CaseBody place 0 ∷ st) out)
case_by _ place st out = None

-- no operator is open: what the expression stands in goes on or ends with this lexeme
abbrev pub close : Shape → List Frame → List Event → Lexeme → Option State
close sh (F.Test ∷ st) out t = test_by t.word st out
close sh (F.Parenthesis place ∷ st) out t = parenthesis_by t.word place sh st out
close sh (F.Index ∷ st) out t = index_by t.word st out
close sh (F.Arguments invocation count ∷ st) out t = arguments_by t.word invocation (count + 1) st out
close sh (F.Elements place count ∷ st) out t = elements_by t.word place (count + 1) st out
close sh (F.Entry place count k ∷ st) out t = entries_by t.word place (count + 1) st (node_at k.start (H.Entry k) 1 ∷ out)
close sh (F.Initialised n b ∷ st) out t = declared (is_inserted (continues (in_postfix sh)) t) st (node_at n.start (H.Declarator n) 1 ∷ out) t
close sh (F.Expression ∷ st) out t = finish (is_inserted (continues (in_postfix sh)) t) st (node_behind H.Expression 1 ∷ out) t
close sh (F.Return place ∷ st) out t = finish (is_inserted (continues (in_postfix sh)) t) st (node_at place H.Return 1 ∷ out) t
close sh (F.Throw place ∷ st) out t = finish (is_inserted (continues (in_postfix sh)) t) st (node_at place H.Throw 1 ∷ out) t
close sh (F.Condition header place ∷ st) out t = header_by t.word header place st out
close sh (F.ForInit place ∷ st) out t = init_ended (F.ForInit place ∷ st) out t
close sh (F.ForTest place ∷ st) out t = for_test_ended t.word (F.ForTest place ∷ st) out
close sh (F.ForUpdate place ∷ st) out t = for_update_ended t.word (F.ForUpdate place ∷ st) out
close sh (F.Case place ∷ st) out t = case_by t.word place st out
close sh st out t = None

-- all open operators end, and then what the expression stands in goes on or ends
abbrev pub leave : Shape → List Frame → List Event → Lexeme → Option State
leave sh st out t = reduce expression_level sh st out (λ shape below events. close shape below events t)

-- an operator between two operands begins its last operand
abbrev pub operator_begins : Word → List Frame → List Event → Option State
operator_begins w st out = Some (At M.Operand (F.Operator (P.Infix w) (top_bars st) ∷ st) out)

-- an operator of this level; a bare `in` is refused in the init of a `for`
abbrev pub operator : ℕ → Shape → List Frame → List Event → Lexeme → Option State
operator n sh st out t = cond (is_in t.word && top_bars st) None (reduce n sh st out (λ shape below events. operator_begins t.word below events))

-- a comma is an operator where the form takes one, and else it ends a part of the form
abbrev pub separate : Shape → List Frame → List Event → Lexeme → Option State
separate sh st out t = cond (nat_le (top_floor st) expression_level) (operator_begins t.word st out) (close sh st out t)

-- a comma behind an operand: open operators end first
abbrev pub comma : Shape → List Frame → List Event → Lexeme → Option State
comma sh st out t = reduce expression_level sh st out (λ shape below events. separate shape below events t)

-- a target is assigned to, where an assignment may stand
abbrev pub assign : Shape → List Frame → List Event → Lexeme → Option State
assign sh st out t = cond (may_be_target sh && nat_le (top_floor st) assignment_level) (Some (At M.Operand (F.Operator (P.Assignment t.word) (top_bars st) ∷ st) out)) None

-- the test of `? :` ends
abbrev pub question : Shape → List Frame → List Event → Option State
question sh st out = reduce logical_or_level sh st out (λ shape below events. Some (At M.Operand (F.Test ∷ below) events))

-- arguments begin: those of the nearest `new`, if the operand stands behind one, or else those of a call
abbrev pub call : List Frame → List Event → Option State
call (F.Operator (P.New place) b ∷ st) out = Some (At M.Argument (F.Arguments (I.New place) 0 ∷ st) out)
call st out = Some (At M.Argument (F.Arguments I.Call 0 ∷ st) out)

-- `++` or `--` behind a target, where it may stand
abbrev pub postfix : Shape → List Frame → List Event → Lexeme → Option State
postfix sh st out t = cond (may_be_target sh && nat_le (top_floor st) postfix_level) (Some (At (M.After S.Postfix) st (node_behind (H.Postfix t.word) 1 ∷ out))) None

-- what is neither an operator between two operands nor an assignment
abbrev pub after_mark : Word → Shape → List Frame → List Event → Lexeme → Option State
after_mark W.Question sh st out t = question sh st out
after_mark W.Point sh st out t = cond (in_postfix sh) None (Some (At M.Member st out))
after_mark W.OpenParenthesis sh st out t = cond (in_postfix sh) (leave sh st out t) (call st out)
after_mark W.OpenBracket sh st out t = cond (in_postfix sh) (leave sh st out t) (Some (At M.Operand (F.Index ∷ st) out))
after_mark (W.Step op) sh st out t = cond t.line_before (leave sh st out t) (postfix sh st out t)
after_mark _ sh st out t = leave sh st out t

-- an operand was read: by the level of the lexeme, if it is an operator between two operands
abbrev pub after_by : ℕ → Shape → List Frame → List Event → Lexeme → Option State
after_by zero sh st out t = cond (is_assignment t.word) (assign sh st out t) (after_mark t.word sh st out t)
after_by (suc n) sh st out t = cond (is_comma t.word) (comma sh st out t) (operator (suc n) sh st out t)

-- an operand was read: by the level of the lexeme
abbrev pub after : Shape → List Frame → List Event → Lexeme → Option State
after sh st out t = after_by (binds t.word) sh st out t
