-- The machine in declarators, in headers, and behind `return` and `throw`.
use Rattle.std.specs.Prelude.{ℕ, ◌+◌, Bool, true, false, List, ◌∷◌, Option, Some, None, cond}
use Rattle.rip_grammar.specs.declared.word.Word.{Word}
use Rattle.rip_grammar.specs.declared.word.Word.TheVariants as W
use Rattle.rip_grammar.specs.declared.word.Lexeme.{Lexeme}
use Rattle.rip_grammar.specs.declared.event.Head.TheVariants as H
use Rattle.rip_grammar.specs.declared.event.Event.{Event}
use Rattle.rip_grammar.specs.declared.event.Event.TheVariants as E
use Rattle.rip_automaton.specs.declared.frame.VarRole.{VarRole}
use Rattle.rip_automaton.specs.declared.frame.VarRole.TheVariants as V
use Rattle.rip_automaton.specs.declared.frame.Frame.{Frame}
use Rattle.rip_automaton.specs.declared.frame.Frame.TheVariants as F
use Rattle.rip_automaton.specs.declared.mode.Mode.TheVariants as M
use Rattle.rip_grammar.specs.Words.{is_semicolon, is_comma}
use Rattle.rip_grammar.specs.Semicolons.{continues_name, continues_nothing, is_inserted}
use Rattle.rip_grammar.specs.Events.{node_at}
use Rattle.rip_automaton.specs.Frames.{top_bars}
use Rattle.rip_automaton.specs.States.{State, At}
use Rattle.rip_automaton.specs.Operands.{operand}
use Rattle.rip_automaton.specs.Statements.{finish}

-- the init of a `for` has ended, before this lexeme
abbrev pub init_ended : List Frame → List Event → Lexeme → Option State
init_ended (F.ForInit place ∷ st) out t = cond (is_semicolon t.word) (Some (At M.ForTest (F.ForTest place ∷ st) out)) None
init_ended st out t = None

-- so many declarators have ended, before this lexeme
abbrev pub declarators_ended : VarRole → Bool → ℕ → ℕ → List Frame → List Event → Lexeme → Option State
declarators_ended V.Statement inserted place count st out t = finish inserted st (node_at place H.Var count ∷ out) t
declarators_ended V.Init inserted place count st out t = init_ended st (node_at place H.Bindings count ∷ out) t

-- a declarator has ended, before this lexeme
abbrev pub declared : Bool → List Frame → List Event → Lexeme → Option State
declared inserted (F.Declarators role place count ∷ st) out t = cond (is_comma t.word)
    (Some (At M.DeclaratorName (F.Declarators role place (count + 1) ∷ st) out))
    (declarators_ended role inserted place (count + 1) st out t)
declared inserted st out t = None

-- the name of a declarator is wanted
abbrev pub declarator_name_by : Word → List Frame → List Event → Lexeme → Option State
declarator_name_by W.Name st out t = Some (At (M.AfterName t) st out)
declarator_name_by _ st out t = None

-- the same as `declarator_name_by`, by the word of the lexeme
abbrev pub declarator_name : List Frame → List Event → Lexeme → Option State
declarator_name st out t = declarator_name_by t.word st out t

-- behind the name of a declarator
abbrev pub after_name_by : Word → Lexeme → List Frame → List Event → Lexeme → Option State
after_name_by W.Assign n st out t = Some (At M.Operand (F.Initialised n (top_bars st) ∷ st) out)
after_name_by _ n st out t = declared (is_inserted continues_name t) st (node_at n.start (H.Declarator n) 0 ∷ out) t

-- the same as `after_name_by`, by the word of the lexeme
abbrev pub after_name : Lexeme → List Frame → List Event → Lexeme → Option State
after_name n st out t = after_name_by t.word n st out t

-- a `return` with no expression ends
abbrev pub return_ends : Bool → List Frame → List Event → Lexeme → Option State
return_ends inserted (F.Return place ∷ st) out t = finish inserted st (node_at place H.Return 1 ∷ E.Absent ∷ out) t
return_ends inserted st out t = None

-- behind `return`: it ends here, or an expression begins on its line
abbrev pub returning : List Frame → List Event → Lexeme → Option State
returning st out t = cond (is_semicolon t.word) (return_ends false st out t)
    (cond (is_inserted continues_nothing t) (return_ends true st out t) (operand st out t))

-- behind `throw`: an expression begins on its line
abbrev pub throwing : List Frame → List Event → Lexeme → Option State
throwing st out t = cond t.line_before None (operand st out t)

-- the `(` of a header is wanted
abbrev pub open_header_by : Word → List Frame → List Event → Option State
open_header_by W.OpenParenthesis st out = Some (At M.Operand st out)
open_header_by _ st out = None

-- the same as `open_header_by`, by the word of the lexeme
abbrev pub open_header : List Frame → List Event → Lexeme → Option State
open_header st out t = open_header_by t.word st out

-- the `{` of a `switch` is wanted
abbrev pub open_switch_by : Word → List Frame → List Event → Option State
open_switch_by W.OpenBrace st out = Some (At M.Clause st out)
open_switch_by _ st out = None

-- the same as `open_switch_by`, by the word of the lexeme
abbrev pub open_switch : List Frame → List Event → Lexeme → Option State
open_switch st out t = open_switch_by t.word st out

-- the `(` behind `for` is wanted
abbrev pub open_for_by : Word → List Frame → List Event → Option State
open_for_by W.OpenParenthesis st out = Some (At M.ForInit st out)
open_for_by _ st out = None

-- the same as `open_for_by`, by the word of the lexeme
abbrev pub open_for : List Frame → List Event → Lexeme → Option State
open_for st out t = open_for_by t.word st out

-- the init of a `for` is wanted, or `;`
abbrev pub for_init_by : Word → List Frame → List Event → Lexeme → Option State
for_init_by W.Semicolon st out t = init_ended st (E.Absent ∷ out) t
for_init_by W.Var st out t = Some (At M.DeclaratorName (F.Declarators V.Init t.start 0 ∷ st) out)
for_init_by _ st out t = operand st out t

-- the same as `for_init_by`, by the word of the lexeme
abbrev pub for_init : List Frame → List Event → Lexeme → Option State
for_init st out t = for_init_by t.word st out t

-- the test of a `for` has ended
abbrev pub test_ended : List Frame → List Event → Option State
test_ended (F.ForTest place ∷ st) out = Some (At M.ForUpdate (F.ForUpdate place ∷ st) out)
test_ended st out = None

-- the test of a `for` is wanted, or `;`
abbrev pub for_test_by : Word → List Frame → List Event → Lexeme → Option State
for_test_by W.Semicolon st out t = test_ended st (E.Absent ∷ out)
for_test_by _ st out t = operand st out t

-- the same as `for_test_by`, by the word of the lexeme
abbrev pub for_test : List Frame → List Event → Lexeme → Option State
for_test st out t = for_test_by t.word st out t

-- the update of a `for` has ended
abbrev pub update_ended : List Frame → List Event → Option State
update_ended (F.ForUpdate place ∷ st) out = Some (At M.Statement (F.For place ∷ st) out)
update_ended st out = None

-- the update of a `for` is wanted, or `)`
abbrev pub for_update_by : Word → List Frame → List Event → Lexeme → Option State
for_update_by W.CloseParenthesis st out t = update_ended st (E.Absent ∷ out)
for_update_by _ st out t = operand st out t

-- the same as `for_update_by`, by the word of the lexeme
abbrev pub for_update : List Frame → List Event → Lexeme → Option State
for_update st out t = for_update_by t.word st out t
