-- What the machine has read goes on to a script, and what it refuses does not.
use Rattle.std.proofs.Common.{◌≡◌, ℕ, ◌≤◌, Bool, true, false, cond, List, [], ◌∷◌, ◌++◌, Option, Some, refl, sym, ap, ◌∙◌, subst, arith}
use Rattle.rip_grammar.specs.declared.word.Word.{Word}
use Rattle.rip_grammar.specs.declared.word.Word.TheVariants as W
use Rattle.rip_grammar.specs.declared.word.Lexeme.{Lexeme}
use Rattle.rip_grammar.specs.declared.event.Event.{Event}
use Rattle.rip_automaton.specs.declared.frame.Pending.TheVariants as P
use Rattle.rip_automaton.specs.declared.frame.Owner.{Owner}
use Rattle.rip_automaton.specs.declared.frame.Owner.TheVariants as O
use Rattle.rip_automaton.specs.declared.frame.Header.{Header}
use Rattle.rip_automaton.specs.declared.frame.VarRole.{VarRole}
use Rattle.rip_automaton.specs.declared.frame.Frame.{Frame}
use Rattle.rip_automaton.specs.declared.frame.Frame.TheVariants as F
use Rattle.rip_automaton.specs.declared.mode.Mode.{Mode}
use Rattle.rip_automaton.specs.declared.mode.Mode.TheVariants as M
use Rattle.rip_automaton.specs.declared.mode.Shape.{Shape}
use Rattle.rip_automaton.specs.declared.mode.Shape.TheVariants as S
use Rattle.rip_grammar.specs.Words.{is_step}
use Rattle.rip_grammar.specs.Phrases.{Inserted, Phrase}
use Rattle.rip_grammar.specs.Levels.{binds}
use Rattle.rip_grammar.specs.Grammar.{IsViable}
use Rattle.rip_automaton.specs.States.{State, At}
use Rattle.rip_automaton.specs.Frames.{top_floor}
use Rattle.rip_automaton.specs.Statements.{function_ends}
use Rattle.rip_automaton.specs.Continuations.{close}
use Rattle.rip_automaton.specs.Machine.{go, feed, begins}
use Rattle.rip_grammar.proofs.Rows.{on_line}
use Rattle.rip_automaton.proofs.Open.{takes_operand, takes_owner, takes, is_handled, top, Open, Read, Ended, Holds, Step, InOwner, InJump, AtHeader}
use Rattle.rip_automaton.proofs.Floors.{binds_most}
use Rattle.rip_automaton.proofs.Sound.{sound, state_sound}
use Rattle.rip_automaton.proofs.Endings.{ways, rests_header, Reaches, Statement, Block, Ways, open_ways, chain, same_reaches, header_way, header_hole, top_declaration}

abbrev name : Lexeme
name = on_line W.Name 0

abbrev mark : Word → Lexeme
mark word = on_line word 0

-- lexemes that lead from a state to the end of a script
abbrev Ends : Option State → Type 0
Ends s = (more : List Lexeme) × Reaches s more

-- BEHIND AN OPERAND

prefix_below : (step : Bool) → cond step 17 14 ≤ 15 → cond step 17 14 ≤ 14
prefix_below true h = absurd (omega arith)
prefix_below false h = omega arith

floor_below : (st : List Frame) → top_floor st ≤ 15 → top_floor st ≤ 14
floor_below [] h = omega arith
floor_below (F.Operator (P.Infix x) b ∷ st) h = let most : binds x ≤ 13 = binds_most x in omega arith
floor_below (F.Operator (P.Prefix place x) b ∷ st) h = prefix_below (is_step x) h
floor_below (F.Operator (P.New place) b ∷ st) h = absurd (omega arith)
floor_below (F.Operator (P.Assignment x) b ∷ st) h = omega arith
floor_below (F.Operator P.Choice b ∷ st) h = omega arith
floor_below (f ∷ st) h = omega arith

after_ends : (sh : Shape) (st : List Frame) (w : List Lexeme) (out : List Event) → Read sh st w out [] → Ends (Some (At (M.After sh) st out))
after_ends S.Target st w out h = let v = (open_ways st w _ _ h.operand.around).value h.operand.hole in (v.0, v.1 S.Target out refl)
after_ends S.Plain st w out h = let v = (open_ways st w _ _ h.operand.around).value h.operand.hole in (v.0, v.1 S.Plain out refl)
after_ends S.Postfix st w out h =
    let c = (open_ways st w _ _ h.operand.around).closer h.operand.hole in
    let e = chain st w _ _ h.operand.around (floor_below st (h.behind_postfix refl)) S.Postfix out (λ shape-after below events. close shape-after below events c.t) in
    (c.t ∷ c.ts, same_reaches _ _ c.ts (c.leaves S.Postfix st out ∙ e.2) (c.reaches e.0 e.1))

-- a name where an operand is wanted
operand_ends : (st : List Frame) (w : List Lexeme) (out : List Event) (q : List Lexeme) (was : List Event) → top takes_operand st ≡ true → Open st w was q → Ends (Some (At M.Operand st out))
operand_ends st w out q was hole h = let v = (open_ways st w _ _ h).value hole in (name ∷ v.0, v.1 S.Target _ refl)

-- BEHIND A STATEMENT

-- what the innermost form takes
taken_way : (f : Frame) (st : List Frame) (d : Phrase) → Ways (f ∷ st) → takes f d ≡ true → Block (f ∷ st)
taken_way F.Script st d ways so = let s = ways.statement refl in (s.0, s.1, s.3)
taken_way (F.Body owner parameters count) st d ways so = let s = ways.statement refl in (s.0, s.1, s.3)
taken_way (F.Block place count) st d ways so = let s = ways.statement refl in (s.0, s.1, s.3)
taken_way (F.Then place) st d ways so = let s = ways.statement refl in (s.0, s.1, s.3)
taken_way (F.Otherwise place) st d ways so = let s = ways.statement refl in (s.0, s.1, s.3)
taken_way (F.Do place) st d ways so = let s = ways.statement refl in (s.0, s.1, s.3)
taken_way (F.While place) st d ways so = let s = ways.statement refl in (s.0, s.1, s.3)
taken_way (F.For place) st d ways so = let s = ways.statement refl in (s.0, s.1, s.3)
taken_way (F.CaseBody place count) st d ways so = let s = ways.statement refl in (s.0, s.1, s.3)
taken_way (F.Default place count) st d ways so = let s = ways.statement refl in (s.0, s.1, s.3)
taken_way (F.Try place) st d ways so = ways.block refl
taken_way (F.Catch place n) st d ways so = ways.block refl
taken_way (F.Finally place) st d ways so = ways.block refl
taken_way (F.Handled place) st d ways so = let s = ways.handler refl in (s.0, s.1, s.3)
taken_way f st d ways so = cc

ended_ends : (st : List Frame) (w : List Lexeme) (out : List Event) → Ended st w out [] → Ends (Some (At M.Ended st out))
ended_ends [] w out h = absurd h.around
ended_ends (f ∷ st) w out h = let b = taken_way f st h.d (open_ways (f ∷ st) w _ _ h.around) h.taken in (b.0 ∷ b.1, b.2 out)

-- FUNCTIONS

-- behind a function's `}`
owner_ways : (owner : Owner) (st : List Frame) → Ways st → top (takes_owner owner) st ≡ true → (ts : List Lexeme) × ((parameters count : ℕ) (out : List Event) → Reaches (function_ends owner parameters count st out) ts)
owner_ways (O.Expression place n) st ways hole = let v = ways.value hole in (v.0, λ parameters count out. v.1 S.Plain _ refl)
owner_ways (O.Declaration place n) st ways hole = let s = ways.statement (top_declaration st hole) in (s.0 ∷ s.1, λ parameters count out. s.3 _)

owner_ends : (owner : Owner) (st : List Frame) (w : List Lexeme) (out : List Event) (r : List Lexeme) → InOwner owner st (Open st w) out r
    → (ts : List Lexeme) × ((parameters count : ℕ) (events : List Event) → Reaches (function_ends owner parameters count st events) ts)
owner_ends owner st w out r h = owner_ways owner st (open_ways st w _ _ h.below) h.hole

open_parameters_ends : (owner : Owner) (st : List Frame) (w : List Lexeme) (out : List Event) → InOwner owner st (Open st w) out [] → Ends (Some (At M.OpenParameters (F.Parameters owner 0 ∷ st) out))
open_parameters_ends owner st w out h =
    let o = owner_ends owner st w out [] h in (mark W.OpenParenthesis ∷ mark W.CloseParenthesis ∷ mark W.OpenBrace ∷ mark W.CloseBrace ∷ o.0, o.1 _ _ _)

first_parameter_ends : (owner : Owner) (st : List Frame) (w : List Lexeme) (out was : List Event) (q : List Lexeme) → InOwner owner st (Open st w) was q → Ends (Some (At M.FirstParameter (F.Parameters owner 0 ∷ st) out))
first_parameter_ends owner st w out was q h = let o = owner_ends owner st w was q h in (mark W.CloseParenthesis ∷ mark W.OpenBrace ∷ mark W.CloseBrace ∷ o.0, o.1 _ _ _)

parameter_ends : (owner : Owner) (count : ℕ) (st : List Frame) (w : List Lexeme) (out was : List Event) (q : List Lexeme) → InOwner owner st (Open st w) was q
    → Ends (Some (At M.Parameter (F.Parameters owner count ∷ st) out))
parameter_ends owner count st w out was q h = let o = owner_ends owner st w was q h in (name ∷ mark W.CloseParenthesis ∷ mark W.OpenBrace ∷ mark W.CloseBrace ∷ o.0, o.1 _ _ _)

after_parameter_ends : (owner : Owner) (count : ℕ) (st : List Frame) (w : List Lexeme) (out was : List Event) (q : List Lexeme) → InOwner owner st (Open st w) was q
    → Ends (Some (At M.AfterParameter (F.Parameters owner count ∷ st) out))
after_parameter_ends owner count st w out was q h = let o = owner_ends owner st w was q h in (mark W.CloseParenthesis ∷ mark W.OpenBrace ∷ mark W.CloseBrace ∷ o.0, o.1 _ _ _)

open_body_ends : (owner : Owner) (count : ℕ) (st : List Frame) (w : List Lexeme) (out was : List Event) (q : List Lexeme) → InOwner owner st (Open st w) was q
    → Ends (Some (At M.OpenBody (F.Parameters owner count ∷ st) out))
open_body_ends owner count st w out was q h = let o = owner_ends owner st w was q h in (mark W.OpenBrace ∷ mark W.CloseBrace ∷ o.0, o.1 _ _ _)

-- OBJECT LITERALS

value_below : (place count : ℕ) (st : List Frame) → Ways st → top takes_operand st ≡ true → (out : List Event) → Ends (Some (At M.Key (F.Object place count ∷ st) out))
value_below place count st ways hole out = let v = ways.value hole in (name ∷ mark W.Colon ∷ name ∷ mark W.CloseBrace ∷ v.0, v.1 S.Plain _ refl)

colon_below : (place count : ℕ) (k : Lexeme) (st : List Frame) → Ways st → top takes_operand st ≡ true → (out : List Event) → Ends (Some (At M.EntryColon (F.Entry place count k ∷ st) out))
colon_below place count k st ways hole out = let v = ways.value hole in (mark W.Colon ∷ name ∷ mark W.CloseBrace ∷ v.0, v.1 S.Plain _ refl)

-- HEADERS

header_ends : (header : Header) (place : ℕ) (st : List Frame) (w : List Lexeme) (out : List Event) → AtHeader header place st (Open st w) out [] → Ways st
    → Ends (Some (At M.OpenHeader (F.Condition header place ∷ st) out))
header_ends header place st w out h ways =
    let c = header_way header place st (ways.statement (header_hole header place st w out [] h)) in
    (mark W.OpenParenthesis ∷ name ∷ c.t ∷ c.ts, same_reaches _ _ c.ts (c.leaves S.Target (F.Condition header place ∷ st) _) (c.reaches S.Target _))

-- behind the word of a statement
begun_statement : (word : Word) (place : ℕ) (st : List Frame) (w : List Lexeme) (out : List Event) (r : List Lexeme) → InJump word place st (Open st w) out r → Statement st
begun_statement word place st w out r h = (open_ways st w _ _ h.below).statement h.hole

return_ends_here : (place : ℕ) (st : List Frame) (w : List Lexeme) (out : List Event) → InJump W.Return place st (Open st w) out [] → Ends (Some (At M.Returning (F.Return place ∷ st) out))
return_ends_here place st w out h = let s = begun_statement W.Return place st w out [] h in (mark W.Semicolon ∷ s.0 ∷ s.1, s.3 _)

throw_ends_here : (place : ℕ) (st : List Frame) (w : List Lexeme) (out : List Event) → InJump W.Throw place st (Open st w) out [] → Ends (Some (At M.Throwing (F.Throw place ∷ st) out))
throw_ends_here place st w out h = let s = begun_statement W.Throw place st w out [] h in (name ∷ mark W.Semicolon ∷ s.0 ∷ s.1, s.3 _)

switch_ends_here : (place : ℕ) (st : List Frame) (w : List Lexeme) (out was : List Event) (q : List Lexeme) → InJump W.Switch place st (Open st w) was q
    → Ends (Some (At M.OpenSwitch (F.Switch place 0 false ∷ st) out))
switch_ends_here place st w out was q h = let s = begun_statement W.Switch place st w was q h in (mark W.OpenBrace ∷ mark W.CloseBrace ∷ s.0 ∷ s.1, s.3 _)

clause_ends_here : (place count : ℕ) (default : Bool) (st : List Frame) (w : List Lexeme) (out was : List Event) (q : List Lexeme) → InJump W.Switch place st (Open st w) was q
    → Ends (Some (At M.Clause (F.Switch place count default ∷ st) out))
clause_ends_here place count default st w out was q h = let s = begun_statement W.Switch place st w was q h in (mark W.CloseBrace ∷ s.0 ∷ s.1, s.3 _)

default_ends_here : (place at clauses : ℕ) (st : List Frame) (w : List Lexeme) (out was : List Event) (q : List Lexeme) → InJump W.Switch at st (Open st w) was q
    → Ends (Some (At M.DefaultColon (F.Default place 0 ∷ F.Switch at clauses true ∷ st) out))
default_ends_here place at clauses st w out was q h = let s = begun_statement W.Switch at st w was q h in (mark W.Colon ∷ mark W.CloseBrace ∷ s.0 ∷ s.1, s.3 _)

open_for_ends : (place : ℕ) (st : List Frame) (out : List Event) → Statement st → Ends (Some (At M.OpenFor (F.ForInit place ∷ st) out))
open_for_ends place st out s = (mark W.OpenParenthesis ∷ mark W.Semicolon ∷ mark W.Semicolon ∷ mark W.CloseParenthesis ∷ mark W.Semicolon ∷ s.0 ∷ s.1, s.3 _)

for_init_ends : (place : ℕ) (st : List Frame) (out : List Event) → Statement st → Ends (Some (At M.ForInit (F.ForInit place ∷ st) out))
for_init_ends place st out s = (mark W.Semicolon ∷ mark W.Semicolon ∷ mark W.CloseParenthesis ∷ mark W.Semicolon ∷ s.0 ∷ s.1, s.3 _)

for_test_ends : (place : ℕ) (st : List Frame) (out : List Event) → Statement st → Ends (Some (At M.ForTest (F.ForTest place ∷ st) out))
for_test_ends place st out s = (mark W.Semicolon ∷ mark W.CloseParenthesis ∷ mark W.Semicolon ∷ s.0 ∷ s.1, s.3 _)

for_update_ends : (place : ℕ) (st : List Frame) (out : List Event) → Statement st → Ends (Some (At M.ForUpdate (F.ForUpdate place ∷ st) out))
for_update_ends place st out s = (mark W.CloseParenthesis ∷ mark W.Semicolon ∷ s.0 ∷ s.1, s.3 _)

-- DECLARATORS

declarator_name_ends : (role : VarRole) (place count : ℕ) (st : List Frame) (w : List Lexeme) (out was : List Event) (q : List Lexeme) → Open (F.Declarators role place count ∷ st) w was q
    → Ends (Some (At M.DeclaratorName (F.Declarators role place count ∷ st) out))
declarator_name_ends role place count st w out was q h =
    let d = (open_ways (F.Declarators role place count ∷ st) w _ _ h).declarators refl in (name ∷ mark W.Semicolon ∷ d.0, d.1 _ _)

after_name_ends : (n : Lexeme) (role : VarRole) (place count : ℕ) (st : List Frame) (w : List Lexeme) (out was : List Event) (q : List Lexeme) → Open (F.Declarators role place count ∷ st) w was q
    → Ends (Some (At (M.AfterName n) (F.Declarators role place count ∷ st) out))
after_name_ends n role place count st w out was q h =
    let d = (open_ways (F.Declarators role place count ∷ st) w _ _ h).declarators refl in (mark W.Semicolon ∷ d.0, d.1 _ _)

-- BLOCKS AND CATCH CLAUSES

catch_way : (st : List Frame) (w : List Lexeme) (out : List Event) (q : List Lexeme) → top is_handled st ≡ true → Open st w out q → Statement st
catch_way st w out q hole h = (open_ways st w _ _ h).handler hole

close_catch_ends : (place : ℕ) (n : Lexeme) (st : List Frame) (out : List Event) → Statement st → Ends (Some (At M.CloseCatch (F.Catch place n ∷ st) out))
close_catch_ends place n st out s = (mark W.CloseParenthesis ∷ mark W.OpenBrace ∷ mark W.CloseBrace ∷ s.0 ∷ s.1, s.3 _)

catch_name_ends : (place : ℕ) (st : List Frame) (out : List Event) → Statement st → Ends (Some (At (M.CatchName place) st out))
catch_name_ends place st out s = (name ∷ mark W.CloseParenthesis ∷ mark W.OpenBrace ∷ mark W.CloseBrace ∷ s.0 ∷ s.1, s.3 _)

open_catch_ends : (place : ℕ) (st : List Frame) (out : List Event) → Statement st → Ends (Some (At (M.OpenCatch place) st out))
open_catch_ends place st out s = (mark W.OpenParenthesis ∷ name ∷ mark W.CloseParenthesis ∷ mark W.OpenBrace ∷ mark W.CloseBrace ∷ s.0 ∷ s.1, s.3 _)

-- EACH STATE

-- the same of a list of forms that is the same
on : (mode : Mode) (st u : List Frame) (out : List Event) → st ≡ u → Ends (Some (At mode u out)) → Ends (Some (At mode st out))
on mode st u out same = subst (λ s. Ends (Some (At mode s out))) (sym same)

opened_on : (st u : List Frame) (w : List Lexeme) (out : List Event) (q : List Lexeme) → st ≡ u → Open st w out q → Open u w out q
opened_on st u w out q same = subst (λ s. Open s w out q) same

operand_on : (f : Frame) (st below : List Frame) → takes_operand f ≡ true → st ≡ f ∷ below → top takes_operand st ≡ true
operand_on f st below takes_one same = ap (top takes_operand) same ∙ takes_one

pub state_ends : (mode : Mode) (st : List Frame) (w : List Lexeme) (out : List Event) → Holds mode st w out [] → Ends (Some (At mode st out))
state_ends M.Operand st w out h = operand_ends st w out _ _ h.0 h.1
state_ends (M.After sh) st w out h = after_ends sh st w out h
state_ends M.Member st w out h = let v = (open_ways st w _ _ h.around).value h.hole in (name ∷ v.0, v.1 S.Target _ refl)
state_ends M.Argument st w out h = let v = (open_ways st w _ _ h.3).value (operand_on _ st h.1 refl h.2) in (name ∷ v.0, v.1 S.Target _ refl)
state_ends M.Element st w out h = let v = (open_ways st w _ _ h.4).value (operand_on _ st h.2 refl h.3) in (name ∷ v.0, v.1 S.Target _ refl)
state_ends M.Key st w out h =
    let o = opened_on st _ w out [] h.3 h.4 in on M.Key st _ out h.3 (value_below h.0 h.1 h.2 (open_ways h.2 w _ _ o.below) o.hole out)
state_ends M.EntryColon st w out h = on M.EntryColon st _ out h.4 (colon_below h.0 h.1 h.2 h.3 (open_ways h.3 w _ _ h.5.1.below) h.5.1.hole out)
state_ends (M.FunctionName place) st w out h =
    let v = (open_ways st w _ _ h.4).value h.3 in (mark W.OpenParenthesis ∷ mark W.CloseParenthesis ∷ mark W.OpenBrace ∷ mark W.CloseBrace ∷ v.0, v.1 S.Plain _ refl)
state_ends (M.DeclarationName place) st w out h =
    let s = (open_ways st w _ _ h.4).statement (top_declaration st h.3) in
    (name ∷ mark W.OpenParenthesis ∷ mark W.CloseParenthesis ∷ mark W.OpenBrace ∷ mark W.CloseBrace ∷ s.0 ∷ s.1, s.3 _)
state_ends M.OpenParameters st w out h = on M.OpenParameters st _ out h.2 (open_parameters_ends h.0 h.1 w out h.3)
state_ends M.FirstParameter st w out h = on M.FirstParameter st _ out h.2 (first_parameter_ends h.0 h.1 w out _ _ h.3.owned)
state_ends M.Parameter st w out h = on M.Parameter st _ out h.4 (parameter_ends h.0 h.1 h.2 w out _ _ h.5.owned)
state_ends M.AfterParameter st w out h = on M.AfterParameter st _ out h.3 (after_parameter_ends h.0 h.1 h.2 w out _ _ h.4.owned)
state_ends M.OpenBody st w out h = on M.OpenBody st _ out h.3 (open_body_ends h.0 h.1 h.2 w out _ _ h.4.owned)
state_ends M.Statement st w out h = let s = (open_ways st w _ _ h.1).statement h.0 in (mark W.Semicolon ∷ s.0 ∷ s.1, s.3 _)
state_ends M.Ended st w out h = ended_ends st w out h
state_ends M.Semicolon st w out h = let s = (open_ways st w _ _ (h.around Inserted [] refl)).statement h.hole in (mark W.Semicolon ∷ s.0 ∷ s.1, s.3 _)
state_ends M.DeclaratorName st w out h = on M.DeclaratorName st _ out h.4 (declarator_name_ends h.0 h.1 h.2 h.3 w out _ _ (opened_on st _ w out [] h.4 h.5))
state_ends (M.AfterName n) st w out h = on (M.AfterName n) st _ out h.4 (after_name_ends n h.0 h.1 h.2 h.3 w out _ _ (opened_on st _ w out _ h.4 h.6))
state_ends M.Returning st w out h = on M.Returning st _ out h.2 (return_ends_here h.0 h.1 w out h.3)
state_ends M.Throwing st w out h = on M.Throwing st _ out h.2 (throw_ends_here h.0 h.1 w out h.3)
state_ends M.OpenHeader st w out h = on M.OpenHeader st _ out h.3 (header_ends h.0 h.1 h.2 w out h.4 (ways h.2 (rests_header h.0 h.1 h.2 w _ _ h.4)))
state_ends M.OpenSwitch st w out h = on M.OpenSwitch st _ out h.2 (switch_ends_here h.0 h.1 w out _ _ h.3.begun)
state_ends M.Clause st w out h =
    let o = opened_on st _ w out [] h.4 h.5 in on M.Clause st _ out h.4 (clause_ends_here h.0 h.1 h.2 h.3 w out _ _ o.header.begun)
state_ends M.DefaultColon st w out h = on M.DefaultColon st _ out h.4 (default_ends_here h.0 h.1 h.2 h.3 w out _ _ h.5.below.header.begun)
state_ends M.OpenFor st w out h = on M.OpenFor st _ out h.2 (open_for_ends h.0 h.1 out (begun_statement W.For h.0 h.1 w _ _ h.3))
state_ends M.ForInit st w out h = let o = opened_on st _ w out [] h.2 h.3 in on M.ForInit st _ out h.2 (for_init_ends h.0 h.1 out (begun_statement W.For h.0 h.1 w _ _ o.begun))
state_ends M.ForTest st w out h = let o = opened_on st _ w out [] h.2 h.3 in on M.ForTest st _ out h.2 (for_test_ends h.0 h.1 out (begun_statement W.For h.0 h.1 w _ _ o.begun.begun))
state_ends M.ForUpdate st w out h =
    let o = opened_on st _ w out [] h.2 h.3 in on M.ForUpdate st _ out h.2 (for_update_ends h.0 h.1 out (begun_statement W.For h.0 h.1 w _ _ o.begun.begun.begun))
state_ends M.OpenBlock st w out h = let b = (open_ways st w _ _ h.1).block h.0 in (mark W.OpenBrace ∷ mark W.CloseBrace ∷ b.0 ∷ b.1, b.2 _)
state_ends (M.OpenCatch place) st w out h = open_catch_ends place st out (catch_way st w _ _ h.hole h.below)
state_ends (M.CatchName place) st w out h = catch_name_ends place st out (catch_way st w _ _ h.begun.hole h.begun.below)
state_ends M.CloseCatch st w out h = on M.CloseCatch st _ out h.3 (close_catch_ends h.0 h.1 h.2 out (catch_way h.2 w _ _ h.4.1.begun.hole h.4.1.begun.below))
state_ends M.Done st w out h = ([], (out, ap (λ s. Some (At M.Done s out)) h.2))

-- VIABLE LISTS

-- lexemes one after another
go_append : (s : Option State) (a b : List Lexeme) → go s (a ++ b) ≡ go (go s a) b
go_append s [] b = refl
go_append s (t ∷ a) b = go_append (feed s t) a b

-- what the machine has taken begins a script
some_ends : (before : List Lexeme) (s : Option State) (mode : Mode) (st : List Frame) (out : List Event) → s ≡ Some (At mode st out) → Step before [] s → Ends s
some_ends before s mode st out is h = subst Ends (sym is) (state_ends mode st before out (subst (Step before []) is h))

pub viable : (before : List Lexeme) (mode : Mode) (st : List Frame) (out : List Event) → go begins before ≡ Some (At mode st out) → IsViable before
viable before mode st out is =
    let e = some_ends before (go begins before) mode st out is (state_sound before) in
    let s = sound (before ++ e.0) [] e.1.0 (go_append begins before e.0 ∙ e.1.1) in
    (e.0, s.0, s.1)
