-- Each state that the machine comes to can go on to the end of a script.
use Rattle.std.proofs.Common.{◌≡◌, ℕ, ◌<◌, ◌≤◌, nat_le, Bool, true, false, not, ◌||◌, cond, List, [], ◌∷◌, Option, Some, refl, sym, ap, ◌∙◌, subst, arith}
use Rattle.rip_grammar.specs.declared.word.Word.{Word}
use Rattle.rip_grammar.specs.declared.word.Word.TheVariants as W
use Rattle.rip_grammar.specs.declared.word.Lexeme.{Lexeme}
use Rattle.rip_grammar.specs.declared.event.Event.{Event}
use Rattle.rip_automaton.specs.declared.frame.Pending.{Pending}
use Rattle.rip_automaton.specs.declared.frame.Pending.TheVariants as P
use Rattle.rip_automaton.specs.declared.frame.Invocation.{Invocation}
use Rattle.rip_automaton.specs.declared.frame.Invocation.TheVariants as I
use Rattle.rip_automaton.specs.declared.frame.Owner.{Owner}
use Rattle.rip_automaton.specs.declared.frame.Owner.TheVariants as O
use Rattle.rip_automaton.specs.declared.frame.Header.{Header}
use Rattle.rip_automaton.specs.declared.frame.Header.TheVariants as C
use Rattle.rip_automaton.specs.declared.frame.VarRole.TheVariants as V
use Rattle.rip_automaton.specs.declared.frame.Frame.{Frame}
use Rattle.rip_automaton.specs.declared.frame.Frame.TheVariants as F
use Rattle.rip_automaton.specs.declared.mode.Mode.TheVariants as M
use Rattle.rip_automaton.specs.declared.mode.Shape.{Shape}
use Rattle.rip_automaton.specs.declared.mode.Shape.TheVariants as S
use Rattle.rip_grammar.specs.Words.{is_else, is_step}
use Rattle.rip_grammar.specs.Levels.{binds}
use Rattle.rip_grammar.specs.Grammar.{default_count}
use Rattle.rip_automaton.specs.States.{State, At}
use Rattle.rip_automaton.specs.Frames.{may_be_target, in_postfix, closed, enclosed, pending_level, may_end, told, top_floor}
use Rattle.rip_automaton.specs.Statements.{ended, clause_told, handled}
use Rattle.rip_automaton.specs.Headers.{declared, init_ended}
use Rattle.rip_automaton.specs.Continuations.{reduce, close, leave, after}
use Rattle.rip_automaton.specs.Machine.{go}
use Rattle.rip_grammar.proofs.Rows.{on_line}
use Rattle.rip_automaton.proofs.Open.{InSwitch, takes_owner, AtHeader, takes_operand, takes_statement, takes_block, takes_declaration, is_new, is_switch, is_for_init, is_handled, is_declarators, top, Open}
use Rattle.rip_automaton.proofs.Floors.{binds_most}

-- THE LEXEMES THAT END WHAT IS OPEN

abbrev name : Lexeme
name = on_line W.Name 0

abbrev mark : Word → Lexeme
mark word = on_line word 0

-- these lexemes lead from the state to the end of a script
abbrev pub Reaches : Option State → List Lexeme → Type 0
Reaches s ts = (out : List Event) × (go s ts ≡ Some (At M.Done [] out))

-- the open forms have taken some lexemes
abbrev pub Stands : List Frame → Type 0
Stands st = (w : List Lexeme) × (out : List Event) × (r : List Lexeme) × Open st w out r

-- the open forms below the operators
abbrev pub base : List Frame → List Frame
base (F.Operator o b ∷ st) = base st
base st = st

-- OPERATORS THAT END

cond_true : {A : Type 0} (b : Bool) (x y : A) → b ≡ true → cond b x y ≡ x
cond_true true x y h = refl
cond_true false x y h = cc

cond_false : {A : Type 0} (b : Bool) (x y : A) → b ≡ false → cond b x y ≡ y
cond_false true x y h = cc
cond_false false x y h = refl

-- what the operators end in
abbrev EndsIn : Shape → List Frame → List Event → (Shape → List Frame → List Event → Option State) → Type 0
EndsIn sh st out next = (shape-after : Shape) × (events : List Event) × (reduce 1 sh st out next ≡ next shape-after (base st) events)

-- an operator ends, where it may
ends_then : (o : Pending) (b : Bool) (sh : Shape) (st : List Frame) (out : List Event) (next : Shape → List Frame → List Event → Option State) → nat_le 1 (pending_level o) ≡ true → may_end o sh ≡ true
    → EndsIn (closed sh) st (told o ∷ out) next → EndsIn sh (F.Operator o b ∷ st) out next
ends_then o b sh st out next high may e = (e.0, e.1, cond_true (nat_le 1 (pending_level o)) _ _ high ∙ cond_true (may_end o sh) _ _ may ∙ e.2)

no_step : (step : Bool) (t : Bool) → cond step 17 14 ≤ 14 → (not step || t) ≡ true
no_step true t few = absurd (omega arith)
no_step false t few = refl

at_least_one : (n : ℕ) → 0 < n → nat_le 1 n ≡ true
at_least_one n h = grind (arith, h)

pub chain : (st : List Frame) (w : List Lexeme) (was : List Event) (r : List Lexeme) → Open st w was r → top_floor st ≤ 14 → (sh : Shape) (out : List Event) (next : Shape → List Frame → List Event → Option State)
    → EndsIn sh st out next
chain [] w was r h few sh out next = absurd h
chain (F.Operator (P.Infix x) b ∷ st) w was r h few sh out next =
    let most : binds x ≤ 13 = binds_most x in
    let fits : top_floor st ≤ binds x = h.fits in
    ends_then (P.Infix x) b sh st out next (at_least_one (binds x) h.binding) refl (chain st w h.was _ h.below (omega arith) (closed sh) (told (P.Infix x) ∷ out) next)
chain (F.Operator (P.Prefix place x) b ∷ st) w was r h few sh out next =
    ends_then (P.Prefix place x) b sh st out next refl (no_step (is_step x) (may_be_target sh) few) (chain st w _ _ h.below h.fits (closed sh) (told (P.Prefix place x) ∷ out) next)
chain (F.Operator (P.New place) b ∷ st) w was r h few sh out next = absurd (omega arith)
chain (F.Operator (P.Assignment x) b ∷ st) w was r h few sh out next =
    let fits : top_floor st ≤ 2 = h.fits in
    ends_then (P.Assignment x) b sh st out next refl refl (chain st w h.was _ h.below (omega arith) (closed sh) (told (P.Assignment x) ∷ out) next)
chain (F.Operator P.Choice b ∷ st) w was r h few sh out next =
    let fits : top_floor st ≤ 3 = h.fits in
    ends_then P.Choice b sh st out next refl refl (chain st w h.was _ h.below (omega arith) (closed sh) (told P.Choice ∷ out) next)
chain (f ∷ st) w was r h few sh out next = (sh, out, refl)

or_true : (a : Bool) → (a || true) ≡ true
or_true true = refl
or_true false = refl

-- the same from a target, where a `++` or `--` before it may be open too
target_chain : (st : List Frame) (w : List Lexeme) (was : List Event) (r : List Lexeme) → Open st w was r → top is_new st ≡ false → (out : List Event) (next : Shape → List Frame → List Event → Option State)
    → EndsIn S.Target st out next
target_chain [] w was r h no_new out next = absurd h
target_chain (F.Operator (P.Infix x) b ∷ st) w was r h no_new out next =
    let most : binds x ≤ 13 = binds_most x in
    let fits : top_floor st ≤ binds x = h.fits in
    ends_then (P.Infix x) b S.Target st out next (at_least_one (binds x) h.binding) refl (chain st w h.was _ h.below (omega arith) S.Plain (told (P.Infix x) ∷ out) next)
target_chain (F.Operator (P.Prefix place x) b ∷ st) w was r h no_new out next =
    ends_then (P.Prefix place x) b S.Target st out next refl (or_true (not (is_step x))) (chain st w _ _ h.below h.fits S.Plain (told (P.Prefix place x) ∷ out) next)
target_chain (F.Operator (P.New place) b ∷ st) w was r h no_new out next = cc
target_chain (F.Operator (P.Assignment x) b ∷ st) w was r h no_new out next =
    let fits : top_floor st ≤ 2 = h.fits in
    ends_then (P.Assignment x) b S.Target st out next refl refl (chain st w h.was _ h.below (omega arith) S.Plain (told (P.Assignment x) ∷ out) next)
target_chain (F.Operator P.Choice b ∷ st) w was r h no_new out next =
    let fits : top_floor st ≤ 3 = h.fits in
    ends_then P.Choice b S.Target st out next refl refl (chain st w h.was _ h.below (omega arith) S.Plain (told P.Choice ∷ out) next)
target_chain (f ∷ st) w was r h no_new out next = (S.Target, out, refl)

-- WAYS TO THE END

-- a lexeme that ends all open operators, and those behind it
pub record Closer (st : List Frame) : Type 0 where
  pub t : Lexeme
  pub ts : List Lexeme
  pub leaves : (sh : Shape) (forms : List Frame) (out : List Event) → after sh forms out t ≡ leave sh forms out t
  pub reaches : (sh : Shape) (out : List Event) → Reaches (close sh (base st) out t) ts

-- lexemes behind an operand that ends in no postfix operator
abbrev pub Value : List Frame → Type 0
Value st = (ts : List Lexeme) × ((sh : Shape) (out : List Event) → in_postfix sh ≡ false → Reaches (Some (At (M.After sh) st out)) ts)

-- neither `else` nor `finally`
abbrev is_quiet : Word → Bool
is_quiet W.Else = false
is_quiet W.Finally = false
is_quiet _ = true

-- a lexeme behind a statement that has ended, and those behind it
abbrev pub Statement : List Frame → Type 0
Statement st = (t : Lexeme) × (ts : List Lexeme) × (is_quiet t.word ≡ true) × ((out : List Event) → Reaches (ended st out t) ts)

-- the same behind a block or a catch clause
abbrev pub Block : List Frame → Type 0
Block st = (t : Lexeme) × (ts : List Lexeme) × ((out : List Event) → Reaches (ended st out t) ts)

-- lexemes behind the `}` that ends a clause of a `switch`, and behind the `;` of declarators and of an init
abbrev pub Clause : List Frame → Type 0
Clause st = (ts : List Lexeme) × ((out : List Event) → Reaches (clause_told st out (mark W.CloseBrace)) ts)

abbrev pub Declared : List Frame → Type 0
Declared st = (ts : List Lexeme) × ((inserted : Bool) (out : List Event) → Reaches (declared inserted st out (mark W.Semicolon)) ts)

abbrev pub Init : List Frame → Type 0
Init st = (ts : List Lexeme) × ((out : List Event) → Reaches (init_ended st out (mark W.Semicolon)) ts)

-- what leads to the end, by what the innermost open form takes
pub record Ways (st : List Frame) : Type 0 where
  pub closer : top takes_operand st ≡ true → Closer st
  pub value : top takes_operand st ≡ true → Value st
  pub statement : top takes_statement st ≡ true → Statement st
  pub block : top takes_block st ≡ true → Block st
  pub handler : top is_handled st ≡ true → Statement st
  pub clause : top is_switch st ≡ true → Clause st
  pub declarators : top is_declarators st ≡ true → Declared st
  pub init : top is_for_init st ≡ true → Init st

-- a statement that ends here
from_ended : (st : List Frame) (s : Statement st) (out : List Event) → Reaches (Some (At M.Ended st out)) (s.0 ∷ s.1)
from_ended st s out = s.3 out

-- an empty statement, and then the end
from_statement : (st : List Frame) (out : List Event) (more : List Lexeme) → ((events : List Event) → Reaches (Some (At M.Ended st events)) more) → Reaches (Some (At M.Statement st out)) (mark W.Semicolon ∷ more)
from_statement st out more go_on = go_on _

not_else : (x : Word) → is_quiet x ≡ true → is_else x ≡ false
not_else W.Else h = cc
not_else x h = refl

quiet_handled : (x : Word) (place : ℕ) (st : List Frame) (out : List Event) (otherwise : Option State) → is_quiet x ≡ true → handled x place st out otherwise ≡ otherwise
quiet_handled W.Finally place st out otherwise h = cc
quiet_handled x place st out otherwise h = refl

-- the same lexemes lead on from a state that is the same
pub same_reaches : (s u : Option State) (ts : List Lexeme) → s ≡ u → Reaches u ts → Reaches s ts
same_reaches s u ts same h = (h.0, ap (λ x. go x ts) same ∙ h.1)

-- STATEMENTS

then_ends : (place : ℕ) (st : List Frame) → Statement st → Statement (F.Then place ∷ st)
then_ends place st s = (s.0, s.1, s.2, λ out. same_reaches _ _ s.1 (cond_false (is_else s.0.word) _ _ (not_else s.0.word s.2)) (s.3 _))

-- behind `while`, in a `do`
do_ends : (place : ℕ) (st : List Frame) → Statement st → Statement (F.Do place ∷ st)
do_ends place st s = (mark W.While, mark W.OpenParenthesis ∷ name ∷ mark W.CloseParenthesis ∷ mark W.Semicolon ∷ s.0 ∷ s.1, refl, λ out. s.3 _)

block_in : (place count : ℕ) (st : List Frame) (is_statement is_block : Bool) → (is_statement ≡ true → Statement st) → (is_block ≡ true → Block st) → (is_statement || is_block) ≡ true
    → Statement (F.Block place count ∷ st)
block_in place count st true b s k hole = let go_on = s refl in (mark W.CloseBrace, go_on.0 ∷ go_on.1, refl, λ out. go_on.3 _)
block_in place count st false true s k hole = let go_on = k refl in (mark W.CloseBrace, go_on.0 ∷ go_on.1, refl, λ out. go_on.2 _)
block_in place count st false false s k hole = cc

block_ends : (place count : ℕ) (st : List Frame) → Ways st → top (λ f. takes_statement f || takes_block f) st ≡ true → Statement (F.Block place count ∷ st)
block_ends place count [] ways hole = cc
block_ends place count (f ∷ st) ways hole = block_in place count (f ∷ st) (takes_statement f) (takes_block f) (λ h. ways.statement h) (λ h. ways.block h) hole

pub top_declaration : (st : List Frame) → top takes_declaration st ≡ true → top takes_statement st ≡ true
top_declaration [] h = h
top_declaration (F.Script ∷ st) h = refl
top_declaration (F.Body owner parameters count ∷ st) h = refl
top_declaration (f ∷ st) h = cc

body_ends : (owner : Owner) (parameters count : ℕ) (st : List Frame) → Ways st → top (takes_owner owner) st ≡ true → Statement (F.Body owner parameters count ∷ st)
body_ends (O.Expression place n) parameters count st ways hole = let v = ways.value hole in (mark W.CloseBrace, v.0, refl, λ out. v.1 S.Plain _ refl)
body_ends (O.Declaration place n) parameters count st ways hole = let s = ways.statement (top_declaration st hole) in (mark W.CloseBrace, s.0 ∷ s.1, refl, λ out. s.3 _)

-- what leads on from a statement that has ended
statement_ways : (f : Frame) (st : List Frame) → Ways st → Stands (f ∷ st) → takes_statement f ≡ true → Statement (f ∷ st)
statement_ways F.Script st ways stands hole = (mark W.End, [], refl, λ out. (out, ap (λ s. Some (At M.Done s out)) stands.3.alone))
statement_ways (F.Body owner parameters count) st ways stands hole = body_ends owner parameters count st ways stands.3.header.owned.hole
statement_ways (F.Block place count) st ways stands hole = block_ends place count st ways stands.3.hole
statement_ways (F.Then place) st ways stands hole = then_ends place st (ways.statement stands.3.begun.hole)
statement_ways (F.Otherwise place) st ways stands hole = let s = ways.statement stands.3.test.begun.hole in (s.0, s.1, s.2, λ out. s.3 _)
statement_ways (F.Do place) st ways stands hole = do_ends place st (ways.statement stands.3.hole)
statement_ways (F.While place) st ways stands hole = let s = ways.statement stands.3.begun.hole in (s.0, s.1, s.2, λ out. s.3 _)
statement_ways (F.For place) st ways stands hole = let s = ways.statement stands.3.begun.begun.begun.begun.hole in (s.0, s.1, s.2, λ out. s.3 _)
statement_ways (F.CaseBody place count) st ways stands hole = let c = ways.clause stands.3.begun.hole in (mark W.CloseBrace, c.0, refl, λ out. c.1 _)
statement_ways (F.Default place count) [] ways stands hole = absurd stands.3
statement_ways (F.Default place count) (F.Switch at clauses default ∷ st) ways stands hole = let c = ways.clause refl in (mark W.CloseBrace, c.0, refl, λ out. c.1 _)
statement_ways (F.Default place count) (g ∷ st) ways stands hole = absurd stands.3
statement_ways f st ways stands hole = cc

-- what leads on from a block that has ended
try_ends : (place : ℕ) (st : List Frame) → Statement st → Block (F.Try place ∷ st)
try_ends place st s = (mark W.Finally, mark W.OpenBrace ∷ mark W.CloseBrace ∷ s.0 ∷ s.1, λ out. s.3 _)

block_ways : (f : Frame) (st : List Frame) → Ways st → Stands (f ∷ st) → takes_block f ≡ true → Block (f ∷ st)
block_ways (F.Try place) st ways stands hole = try_ends place st (ways.statement stands.3.hole)
block_ways (F.Catch place n) st ways stands hole = let s = ways.handler stands.3.named.1.begun.hole in (s.0, s.1, λ out. s.3 _)
block_ways (F.Finally place) st ways stands hole = let s = ways.statement stands.3.tried.begun.hole in (s.0, s.1, λ out. s.3 _)
block_ways f st ways stands hole = cc

handler_ways : (f : Frame) (st : List Frame) → Ways st → Stands (f ∷ st) → is_handled f ≡ true → Statement (f ∷ st)
handler_ways (F.Handled place) st ways stands hole =
    let s = ways.statement stands.3.begun.hole in (s.0, s.1, s.2, λ out. same_reaches _ _ s.1 (quiet_handled s.0.word place st out _ s.2) (s.3 _))
handler_ways f st ways stands hole = cc

clause_ways : (f : Frame) (st : List Frame) → Ways st → Stands (f ∷ st) → is_switch f ≡ true → Clause (f ∷ st)
clause_ways (F.Switch place count default) st ways stands hole = let s = ways.statement stands.3.header.begun.hole in (s.0 ∷ s.1, λ out. s.3 _)
clause_ways f st ways stands hole = cc

-- DECLARATORS AND THE HEADER OF `for`

init_ways : (f : Frame) (st : List Frame) → Ways st → Stands (f ∷ st) → is_for_init f ≡ true → Init (f ∷ st)
init_ways (F.ForInit place) st ways stands hole =
    let s = ways.statement stands.3.begun.hole in
    (name ∷ mark W.Semicolon ∷ name ∷ mark W.CloseParenthesis ∷ mark W.Semicolon ∷ s.0 ∷ s.1, λ out. s.3 _)
init_ways f st ways stands hole = cc

declared_ways : (f : Frame) (st : List Frame) → Ways st → Stands (f ∷ st) → is_declarators f ≡ true → Declared (f ∷ st)
declared_ways (F.Declarators V.Statement place count) st ways stands hole = let s = ways.statement stands.3.hole in (s.0 ∷ s.1, λ inserted out. s.3 _)
declared_ways (F.Declarators V.Init place count) st ways stands hole = let i = ways.init stands.3.hole in (i.0, λ inserted out. i.1 _)
declared_ways f st ways stands hole = cc

-- OPERANDS

enclosed_plain : (sh : Shape) → in_postfix (enclosed sh) ≡ false
enclosed_plain S.Target = refl
enclosed_plain S.Plain = refl
enclosed_plain S.Postfix = refl

operator_hole : (o : Pending) (b : Bool) (st : List Frame) (w : List Lexeme) (out : List Event) (r : List Lexeme) → Open (F.Operator o b ∷ st) w out r → top takes_operand st ≡ true
operator_hole (P.Infix x) b st w out r h = h.hole
operator_hole (P.Prefix place x) b st w out r h = h.hole
operator_hole (P.New place) b st w out r h = h.hole
operator_hole (P.Assignment x) b st w out r h = h.hole
operator_hole P.Choice b st w out r h = h.hole

-- a `)` behind the last argument
arguments_way : (invocation : Invocation) (count : ℕ) (st : List Frame) → Value st → Closer (F.Arguments invocation count ∷ st)
arguments_way I.Call count st v = record { t = mark W.CloseParenthesis; ts = v.0; leaves = λ sh forms out. refl; reaches = λ sh out. v.1 S.Plain _ refl }
arguments_way (I.New place) count st v = record { t = mark W.CloseParenthesis; ts = v.0; leaves = λ sh forms out. refl; reaches = λ sh out. v.1 S.Plain _ refl }

arguments_hole : (invocation : Invocation) (count : ℕ) (st : List Frame) (w : List Lexeme) (out : List Event) (r : List Lexeme) → Open (F.Arguments invocation count ∷ st) w out r → top takes_operand st ≡ true
arguments_hole I.Call count st w out r h = h.hole
arguments_hole (I.New place) count st w out r h = h.hole

-- the `)` of a header
pub header_hole : (header : Header) (place : ℕ) (st : List Frame) (w : List Lexeme) (out : List Event) (r : List Lexeme) → AtHeader header place st (Open st w) out r → top takes_statement st ≡ true
header_hole C.If place st w out r h = h.hole
header_hole C.While place st w out r h = h.hole
header_hole C.DoWhile place st w out r h = h.hole
header_hole C.Switch place st w out r h = h.hole

pub header_way : (header : Header) (place : ℕ) (st : List Frame) → Statement st → Closer (F.Condition header place ∷ st)
header_way C.If place st s = record { t = mark W.CloseParenthesis; ts = mark W.Semicolon ∷ s.0 ∷ s.1; leaves = λ sh forms out. refl; reaches = λ sh out. same_reaches _ _ s.1 (cond_false (is_else s.0.word) _ _ (not_else s.0.word s.2)) (s.3 _) }
header_way C.While place st s = record { t = mark W.CloseParenthesis; ts = mark W.Semicolon ∷ s.0 ∷ s.1; leaves = λ sh forms out. refl; reaches = λ sh out. s.3 _ }
header_way C.DoWhile place st s = record { t = mark W.CloseParenthesis; ts = mark W.Semicolon ∷ s.0 ∷ s.1; leaves = λ sh forms out. refl; reaches = λ sh out. s.3 _ }
header_way C.Switch place st s = record { t = mark W.CloseParenthesis; ts = mark W.OpenBrace ∷ mark W.CloseBrace ∷ s.0 ∷ s.1; leaves = λ sh forms out. refl; reaches = λ sh out. s.3 _ }

-- behind the part of `? :` before `:` a name ends the choice
test_way : (st : List Frame) (w : List Lexeme) (was : List Event) (r : List Lexeme) → Open st w was r → top_floor st ≤ 14 → Closer st → Closer (F.Test ∷ st)
test_way st w was r h few c = record {
  t = mark W.Colon;
  ts = name ∷ c.t ∷ c.ts;
  leaves = λ sh forms out. refl;
  reaches = λ sh out.
      let e = chain st w was r h few S.Plain _ (λ shape-after below events. close shape-after below events c.t) in
      same_reaches _ _ c.ts (c.leaves S.Target _ _ ∙ e.2) (c.reaches e.0 e.1);
}

closer_ways : (f : Frame) (st : List Frame) → Ways st → Stands (f ∷ st) → takes_operand f ≡ true → Closer (f ∷ st)
closer_ways (F.Operator o b) st ways stands hole =
    let c = ways.closer (operator_hole o b st _ _ _ stands.3) in record { t = c.t; ts = c.ts; leaves = c.leaves; reaches = c.reaches }
closer_ways F.Test st ways stands hole =
    let h = stands.3 in let fits : top_floor st ≤ 3 = h.fits in test_way st _ _ _ h.below (omega arith) (ways.closer h.hole)
closer_ways (F.Parenthesis place) st ways stands hole =
    let v = ways.value stands.3.hole in record { t = mark W.CloseParenthesis; ts = v.0; leaves = λ sh forms out. refl; reaches = λ sh out. v.1 (enclosed sh) _ (enclosed_plain sh) }
closer_ways F.Index st ways stands hole =
    let v = ways.value stands.3.hole in record { t = mark W.CloseBracket; ts = v.0; leaves = λ sh forms out. refl; reaches = λ sh out. v.1 S.Target _ refl }
closer_ways (F.Arguments invocation count) st ways stands hole = arguments_way invocation count st (ways.value (arguments_hole invocation count st _ _ _ stands.3))
closer_ways (F.Elements place count) st ways stands hole =
    let v = ways.value stands.3.hole in record { t = mark W.CloseBracket; ts = v.0; leaves = λ sh forms out. refl; reaches = λ sh out. v.1 S.Plain _ refl }
closer_ways (F.Entry place count k) st ways stands hole =
    let v = ways.value stands.3.literal.hole in record { t = mark W.CloseBrace; ts = v.0; leaves = λ sh forms out. refl; reaches = λ sh out. v.1 S.Plain _ refl }
closer_ways F.Expression st ways stands hole =
    let s = ways.statement stands.3.hole in record { t = mark W.Semicolon; ts = s.0 ∷ s.1; leaves = λ sh forms out. refl; reaches = λ sh out. s.3 _ }
closer_ways (F.Return place) st ways stands hole =
    let s = ways.statement stands.3.0.hole in record { t = mark W.Semicolon; ts = s.0 ∷ s.1; leaves = λ sh forms out. refl; reaches = λ sh out. s.3 _ }
closer_ways (F.Throw place) st ways stands hole =
    let s = ways.statement stands.3.0.hole in record { t = mark W.Semicolon; ts = s.0 ∷ s.1; leaves = λ sh forms out. refl; reaches = λ sh out. s.3 _ }
closer_ways (F.Initialised n b) st ways stands hole =
    let d = ways.declarators stands.3.hole in record { t = mark W.Semicolon; ts = d.0; leaves = λ sh forms out. refl; reaches = λ sh out. d.1 _ _ }
closer_ways (F.Condition header place) st ways stands hole = header_way header place st (ways.statement (header_hole header place st _ _ _ stands.3.header_read))
closer_ways (F.ForInit place) st ways stands hole =
    let i = init_ways (F.ForInit place) st ways stands refl in record { t = mark W.Semicolon; ts = i.0; leaves = λ sh forms out. refl; reaches = λ sh out. i.1 out }
closer_ways (F.ForTest place) st ways stands hole =
    let s = ways.statement stands.3.begun.begun.hole in
    record { t = mark W.Semicolon; ts = name ∷ mark W.CloseParenthesis ∷ mark W.Semicolon ∷ s.0 ∷ s.1; leaves = λ sh forms out. refl; reaches = λ sh out. s.3 _ }
closer_ways (F.ForUpdate place) st ways stands hole =
    let s = ways.statement stands.3.begun.begun.begun.hole in
    record { t = mark W.CloseParenthesis; ts = mark W.Semicolon ∷ s.0 ∷ s.1; leaves = λ sh forms out. refl; reaches = λ sh out. s.3 _ }
closer_ways (F.Case place) st ways stands hole =
    let c = ways.clause stands.3.hole in
    record { t = mark W.Colon; ts = mark W.Semicolon ∷ mark W.CloseBrace ∷ c.0; leaves = λ sh forms out. refl; reaches = λ sh out. c.1 _ }
closer_ways f st ways stands hole = cc

-- a member makes a target of the operand, and then all operators may end; behind `new` arguments come first
member_way : (st : List Frame) (stands : Stands st) → top is_new st ≡ false → (c : Closer st) (sh : Shape) (out : List Event) → in_postfix sh ≡ false
    → Reaches (Some (At (M.After sh) st out)) (mark W.Point ∷ name ∷ c.t ∷ c.ts)
member_way st stands no_new c S.Target out plain =
    let e = target_chain st _ _ _ stands.3 no_new _ (λ shape-after below events. close shape-after below events c.t) in
    same_reaches _ _ c.ts (c.leaves S.Target _ _ ∙ e.2) (c.reaches e.0 e.1)
member_way st stands no_new c S.Plain out plain =
    let e = target_chain st _ _ _ stands.3 no_new _ (λ shape-after below events. close shape-after below events c.t) in
    same_reaches _ _ c.ts (c.leaves S.Target _ _ ∙ e.2) (c.reaches e.0 e.1)
member_way st stands no_new c S.Postfix out plain = cc

plain_way : (st : List Frame) → Stands st → top is_new st ≡ false → Closer st → Value st
plain_way st stands no_new c = (mark W.Point ∷ name ∷ c.t ∷ c.ts, λ sh out plain. member_way st stands no_new c sh out plain)

arguments_first : (place : ℕ) (b : Bool) (st : List Frame) (v : Value st) (sh : Shape) (out : List Event) → in_postfix sh ≡ false
    → Reaches (Some (At (M.After sh) (F.Operator (P.New place) b ∷ st) out)) (mark W.OpenParenthesis ∷ mark W.CloseParenthesis ∷ v.0)
arguments_first place b st v S.Target out plain = v.1 S.Plain _ refl
arguments_first place b st v S.Plain out plain = v.1 S.Plain _ refl
arguments_first place b st v S.Postfix out plain = cc

new_way : (place : ℕ) (b : Bool) (st : List Frame) → Value st → Value (F.Operator (P.New place) b ∷ st)
new_way place b st v = (mark W.OpenParenthesis ∷ mark W.CloseParenthesis ∷ v.0, λ sh out plain. arguments_first place b st v sh out plain)

value_ways : (f : Frame) (st : List Frame) → Ways st → Stands (f ∷ st) → Closer (f ∷ st) → Value (f ∷ st)
value_ways (F.Operator (P.New place) b) st ways stands c = new_way place b st (ways.value stands.3.hole)
value_ways f st ways stands c = plain_way (f ∷ st) stands refl c

-- ALL OPEN FORMS

-- the forms below have taken lexemes too, if there are any
abbrev pub Rests : List Frame → Type 0
Rests [] = Unit {0}
Rests (f ∷ st) = Stands (f ∷ st)

rests_of : (st : List Frame) (w : List Lexeme) (out : List Event) (r : List Lexeme) → Open st w out r → Rests st
rests_of [] w out r h = absurd h
rests_of (f ∷ st) w out r h = (w, out, r, h)

-- a `default` counts in its `switch`
counts_default : (at clauses : ℕ) (default : Bool) (st : List Frame) (w : List Lexeme) (out : List Event) (r : List Lexeme) → default ≡ true → InSwitch at clauses false st (Open st w) out r
    → InSwitch at clauses default st (Open st w) out r
counts_default at clauses false st w out r is h = cc
counts_default at clauses true st w out r is h = let few : default_count h.l ≤ 0 = h.defaults in
    record { b = h.b; l = h.l; was = h.was; brace = h.brace; list = h.list; defaults = omega arith; made = h.made; counted = h.counted; told = h.told; header = h.header }

rests_operator : (o : Pending) (b : Bool) (st : List Frame) (w : List Lexeme) (out : List Event) (r : List Lexeme) → Open (F.Operator o b ∷ st) w out r → Rests st
rests_operator (P.Infix x) b st w out r h = rests_of st w _ _ h.below
rests_operator (P.Prefix place x) b st w out r h = rests_of st w _ _ h.below
rests_operator (P.New place) b st w out r h = rests_of st w _ _ h.below
rests_operator (P.Assignment x) b st w out r h = rests_of st w _ _ h.below
rests_operator P.Choice b st w out r h = rests_of st w _ _ h.below

rests_arguments : (invocation : Invocation) (count : ℕ) (st : List Frame) (w : List Lexeme) (out : List Event) (r : List Lexeme) → Open (F.Arguments invocation count ∷ st) w out r → Rests st
rests_arguments I.Call count st w out r h = rests_of st w _ _ h.below
rests_arguments (I.New place) count st w out r h = rests_of st w _ _ h.below

pub rests_header : (header : Header) (place : ℕ) (st : List Frame) (w : List Lexeme) (out : List Event) (r : List Lexeme) → AtHeader header place st (Open st w) out r → Rests st
rests_header C.If place st w out r h = rests_of st w _ _ h.below
rests_header C.While place st w out r h = rests_of st w _ _ h.below
rests_header C.DoWhile place st w out r h = rests_of st w _ _ h.below
rests_header C.Switch place st w out r h = rests_of st w _ _ h.below

rests : (f : Frame) (st : List Frame) (w : List Lexeme) (out : List Event) (r : List Lexeme) → Open (f ∷ st) w out r → Rests st
rests (F.Operator o b) st w out r h = rests_operator o b st w out r h
rests F.Test st w out r h = rests_of st w _ _ h.below
rests (F.Parenthesis place) st w out r h = rests_of st w _ _ h.below
rests F.Index st w out r h = rests_of st w _ _ h.below
rests (F.Arguments invocation count) st w out r h = rests_arguments invocation count st w out r h
rests (F.Elements place count) st w out r h = rests_of st w _ _ h.below
rests (F.Object place count) st w out r h = rests_of st w _ _ h.below
rests (F.Entry place count k) st w out r h = rests_of st w _ _ h.literal.below
rests (F.Parameters owner count) st w out r h = absurd h
rests (F.Body owner parameters count) st w out r h = rests_of st w _ _ h.header.owned.below
rests F.Script st w out r h = subst Rests (sym h.alone) tt
rests (F.Block place count) st w out r h = rests_of st w _ _ h.below
rests F.Expression st w out r h = rests_of st w _ _ h.below
rests (F.Return place) st w out r h = rests_of st w _ _ h.0.below
rests (F.Throw place) st w out r h = rests_of st w _ _ h.0.below
rests (F.Declarators role place count) st w out r h = rests_of st w _ _ h.below
rests (F.Initialised n b) st w out r h = rests_of st w _ _ h.below
rests (F.Condition header place) st w out r h = rests_header header place st w _ _ h.header_read
rests (F.Then place) st w out r h = rests_of st w _ _ h.begun.below
rests (F.Otherwise place) st w out r h = rests_of st w _ _ h.test.begun.below
rests (F.Do place) st w out r h = rests_of st w _ _ h.below
rests (F.While place) st w out r h = rests_of st w _ _ h.begun.below
rests (F.ForInit place) st w out r h = rests_of st w _ _ h.begun.below
rests (F.ForTest place) st w out r h = rests_of st w _ _ h.begun.begun.below
rests (F.ForUpdate place) st w out r h = rests_of st w _ _ h.begun.begun.begun.below
rests (F.For place) st w out r h = rests_of st w _ _ h.begun.begun.begun.begun.below
rests (F.Switch place count default) st w out r h = rests_of st w _ _ h.header.begun.below
rests (F.Case place) st w out r h = rests_of st w _ _ h.below
rests (F.CaseBody place count) st w out r h = rests_of st w _ _ h.begun.below
rests (F.Default place count) [] w out r h = tt
rests (F.Default place count) (F.Switch at clauses default ∷ st) w out r h = (w, _, _, counts_default at clauses default st w _ _ h.0 h.1.begun.below)
rests (F.Default place count) (g ∷ st) w out r h = absurd h
rests (F.Try place) st w out r h = rests_of st w _ _ h.below
rests (F.Handled place) st w out r h = rests_of st w _ _ h.begun.below
rests (F.Catch place n) st w out r h = rests_of st w _ _ h.named.1.begun.below
rests (F.Finally place) st w out r h = rests_of st w _ _ h.tried.begun.below

-- what leads to the end from each list of open forms
pub ways : (st : List Frame) → Rests st → Ways st
ways [] h = record { closer = λ is. cc; value = λ is. cc; statement = λ is. cc; block = λ is. cc; handler = λ is. cc; clause = λ is. cc; declarators = λ is. cc; init = λ is. cc }
ways (f ∷ st) h =
    let below = ways st (rests f st h.0 h.1 h.2 h.3) in
    record {
      closer = λ is. closer_ways f st below h is;
      value = λ is. value_ways f st below h (closer_ways f st below h is);
      statement = λ is. statement_ways f st below h is;
      block = λ is. block_ways f st below h is;
      handler = λ is. handler_ways f st below h is;
      clause = λ is. clause_ways f st below h is;
      declarators = λ is. declared_ways f st below h is;
      init = λ is. init_ways f st below h is;
    }

pub open_ways : (st : List Frame) (w : List Lexeme) (out : List Event) (r : List Lexeme) → Open st w out r → Ways st
open_ways st w out r h = ways st (rests_of st w out r h)
