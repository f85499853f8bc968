-- Where `;` is inserted, in the words of the standard (ECMA-262 7.9.1): what the machine does with an offending token.
use Rattle.std.specs.Prelude.{◌≡◌, Bool, true, false, not, ◌&&◌, ◌||◌, Option, List, [], ◌∷◌, ◌++◌, Some, None}
use Rattle.rip_grammar.specs.declared.word.Word.{Word}
use Rattle.rip_grammar.specs.declared.word.Word.TheVariants as W
use Rattle.rip_grammar.specs.declared.word.Lexeme.{Lexeme}
use Rattle.rip_grammar.specs.declared.event.Event.{Event}
use Rattle.rip_grammar.specs.Words.{is_close, is_semicolon, is_step}
use Rattle.rip_automaton.specs.declared.frame.Frame.{Frame}
use Rattle.rip_automaton.specs.declared.mode.Mode.{Mode}
use Rattle.rip_automaton.specs.declared.mode.Mode.TheVariants as M
use Rattle.rip_automaton.specs.States.{State, At}
use Rattle.rip_automaton.specs.Machine.{step, feed}

-- a form is still open
abbrev pub stays_open : Option State → Bool
stays_open None = false
stays_open (Some (At mode [] out)) = false
stays_open (Some (At mode (f ∷ st) out)) = true

-- a `;`
abbrev pub semicolon_mark : Lexeme
semicolon_mark = record { word = W.Semicolon; start = 0; count = 1; line_before = false }

-- the lexeme, as if no line end stood before it
abbrev pub on_its_line : Lexeme → Lexeme
on_its_line t = record { word = t.word; start = t.start; count = t.count; line_before = false }

-- a statement is wanted, so that a `;` would be an empty one
abbrev pub wants_statement : Mode → Bool
wants_statement M.Statement = true
wants_statement M.Ended = true
wants_statement _ = false

-- A statement has begun, whose own open forms these are, and may end here with `;`: that is no empty statement, and none
-- of the two in the header of a `for`. This has been told once it has ended.
pub record MayEnd (mode : Mode) (own : List Frame) (out told : List Event) : Type 0 where
  pub begun : wants_statement mode ≡ false
  pub ends : step mode own out semicolon_mark ≡ Some (At M.Ended [] told)

-- the word would go on with a restricted production: `++` and `--` behind a target, the expression of a `return` (7.9.1)
abbrev pub is_restricted : Mode → Word → Bool
is_restricted M.Returning w = true
is_restricted mode w = is_step w

-- The offending token: no production takes it on the statement's line; or a restricted one does, and a line end stands
-- before it (7.9.1).
abbrev pub offends : Mode → List Frame → List Event → Lexeme → Bool
offends mode own out t = not (stays_open (step mode own out (on_its_line t))) || (t.line_before && is_restricted mode t.word)

-- `;` may be inserted before it: a line end stands before it, or it is `}` or the end (7.9.1)
abbrev pub may_be_inserted : Lexeme → Bool
may_be_inserted t = is_close t.word || t.line_before

-- Before an offending token that has a line end before it, or is `}` or the end, `;` is inserted: whatever the statement
-- stands in, the machine does with the token what it does with `;` and then the token.
abbrev pub InsertedBeforeOffending : Type 0
InsertedBeforeOffending =
    (mode : Mode) (own around : List Frame) (out told : List Event) (t : Lexeme)
    → MayEnd mode own out told
    → is_semicolon t.word ≡ false
    → offends mode own out t ≡ true
    → may_be_inserted t ≡ true
    → step mode (own ++ around) out t ≡ feed (step mode (own ++ around) out semicolon_mark) t

-- before an offending token on the line none is inserted: the token is refused
abbrev pub RefusedOnItsLine : Type 0
RefusedOnItsLine =
    (mode : Mode) (own around : List Frame) (out told : List Event) (t : Lexeme)
    → MayEnd mode own out told
    → is_semicolon t.word ≡ false
    → offends mode own out t ≡ true
    → may_be_inserted t ≡ false
    → step mode (own ++ around) out t ≡ None

-- and that `;` ends the statement, whatever it stands in
abbrev pub EndsThere : Type 0
EndsThere =
    (mode : Mode) (own around : List Frame) (out told : List Event)
    → MayEnd mode own out told
    → step mode (own ++ around) out semicolon_mark ≡ Some (At M.Ended around told)

-- before a token that a production takes none is inserted, behind a line end too: the statement goes on with it
abbrev pub GoesOnWithOthers : Type 0
GoesOnWithOthers =
    (mode : Mode) (own : List Frame) (out told : List Event) (t : Lexeme)
    → MayEnd mode own out told
    → is_semicolon t.word ≡ false
    → offends mode own out t ≡ false
    → stays_open (step mode own out t) ≡ true

-- behind `throw` a line end is refused, since `throw;` is no statement (12.13)
abbrev pub ThrowTakesNoLineEnd : Type 0
ThrowTakesNoLineEnd = (st : List Frame) (out : List Event) (t : Lexeme) → t.line_before ≡ true → step M.Throwing st out t ≡ None
