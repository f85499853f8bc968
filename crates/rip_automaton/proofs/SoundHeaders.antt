-- What the machine reads of functions, clauses, declarators and headers is so.
use Rattle.std.proofs.Common.{◌≡◌, ℕ, ◌+◌, Bool, true, false, not, ◌&&◌, ◌||◌, List, ◌∷◌, Some, None, refl, sym, ap, ◌∙◌, subst, arith}
use Rattle.rip_grammar.specs.declared.word.Word.{Word}
use Rattle.rip_grammar.specs.declared.word.Word.TheVariants as W
use Rattle.rip_grammar.specs.declared.word.Lexeme.{Lexeme}
use Rattle.rip_grammar.specs.declared.event.Head.TheVariants as H
use Rattle.rip_grammar.specs.declared.event.Event.{Event}
use Rattle.rip_grammar.specs.declared.event.Event.TheVariants as E
use Rattle.rip_automaton.specs.declared.frame.Owner.{Owner}
use Rattle.rip_automaton.specs.declared.frame.Owner.TheVariants as O
use Rattle.rip_automaton.specs.declared.frame.Header.{Header}
use Rattle.rip_automaton.specs.declared.frame.VarRole.{VarRole}
use Rattle.rip_automaton.specs.declared.frame.VarRole.TheVariants as V
use Rattle.rip_automaton.specs.declared.frame.Frame.{Frame}
use Rattle.rip_automaton.specs.declared.frame.Frame.TheVariants as F
use Rattle.rip_automaton.specs.declared.mode.Mode.TheVariants as M
use Rattle.rip_grammar.specs.Words.{is_close, is_semicolon, is_comma}
use Rattle.rip_grammar.specs.Phrases.{Phrase, Absent, Nothing, Var, Declarator, Bindings, Return, Parameter, spell}
use Rattle.rip_grammar.specs.Semicolons.{continues_behind, continues_name, continues_nothing, is_inserted, has_bare_in}
use Rattle.rip_grammar.specs.Grammar.{IsMade, is_parameter, is_declarator, is_init, may_be_expression, continues_return}
use Rattle.rip_grammar.specs.Events.{emit, node_at}
use Rattle.rip_automaton.specs.Operands.{function_name_by, function_name, declaration_name_by, declaration_name, open_parameters_by, open_parameters, parameter_read, first_parameter_by, first_parameter, parameter_by, parameter, after_parameter_by, after_parameter, open_body_by, open_body}
use Rattle.rip_automaton.specs.Statements.{default_colon_by, default_colon, open_block_by, open_block, open_catch_by, open_catch, catch_name_by, catch_name, close_catch_by, close_catch, clause}
use Rattle.rip_automaton.specs.Headers.{init_ended, declarators_ended, declared, declarator_name_by, declarator_name, after_name_by, after_name, return_ends, returning, throwing, open_header_by, open_header, open_switch_by, open_switch, open_for_by, open_for, for_init_by, for_init, test_ended, for_test_by, for_test, update_ended, for_update_by, for_update}
use Rattle.rip_automaton.proofs.Open.{BehindCatchName, InJump, AtHeader, takes_block, top, Open, Holds, Step, Prior, First, Behind, listed, with_next, InOwner, InParameters, BehindParameter, BehindParameters, InSwitch, BehindCondition, InDeclarators, InForInit, InForTest, InForUpdate, AtDefault, Bars, bars_role}
use Rattle.rip_automaton.proofs.OpenLists.{next_spell, next_made, next_list, next_bare, may_be}
use Rattle.rip_automaton.proofs.SoundOperands.{step_if, step_either, operand_sound}
use Rattle.rip_automaton.proofs.SoundLiterals.{counted_told, next_told, next_count}
use Rattle.rip_automaton.proofs.SoundStatements.{top_block, finish_sound, clause_by_sound}

-- FUNCTIONS

function_name_by_sound : (x : Word) (place : ℕ) (st : List Frame) (out : List Event) (t : Lexeme) (w r : List Lexeme) → t.word ≡ x
    → Holds (M.FunctionName place) st w out (t ∷ r) → Step w r (function_name_by x place st out t)
function_name_by_sound W.Name place st out t w r is h =
    (O.Expression place (Some t), st, refl, record { f = h.0; start = h.1; word = h.2; named = is; hole = h.3; below = h.4 })
function_name_by_sound W.OpenParenthesis place st out t w r is h = (
  O.Expression place None,
  st,
  refl,
  record {
    o = t;
    was = out;
    word = is;
    before = tt;
    counted = refl;
    told = refl;
    owned = record { f = h.0; start = h.1; word = h.2; named = tt; hole = h.3; below = h.4 };
  },
)
function_name_by_sound x place st out t w r is h = tt

pub function_name_sound : (place : ℕ) (st : List Frame) (out : List Event) (t : Lexeme) (w r : List Lexeme) → Holds (M.FunctionName place) st w out (t ∷ r) → Step w r (function_name place st out t)
function_name_sound place st out t w r h = function_name_by_sound t.word place st out t w r refl h

declaration_name_by_sound : (x : Word) (place : ℕ) (st : List Frame) (out : List Event) (t : Lexeme) (w r : List Lexeme) → t.word ≡ x
    → Holds (M.DeclarationName place) st w out (t ∷ r) → Step w r (declaration_name_by x place st out t)
declaration_name_by_sound W.Name place st out t w r is h =
    (O.Declaration place t, st, refl, record { f = h.0; start = h.1; word = h.2; named = is; hole = h.3; below = h.4 })
declaration_name_by_sound x place st out t w r is h = tt

pub declaration_name_sound : (place : ℕ) (st : List Frame) (out : List Event) (t : Lexeme) (w r : List Lexeme) → Holds (M.DeclarationName place) st w out (t ∷ r)
    → Step w r (declaration_name place st out t)
declaration_name_sound place st out t w r h = declaration_name_by_sound t.word place st out t w r refl h

open_parameters_by_sound : (x : Word) (owner : Owner) (st : List Frame) (out : List Event) (t : Lexeme) (w r : List Lexeme) → t.word ≡ x
    → InOwner owner st (Open st w) out (t ∷ r) → Step w r (open_parameters_by x (F.Parameters owner 0 ∷ st) out)
open_parameters_by_sound W.OpenParenthesis owner st out t w r is h =
    (owner, st, refl, record { o = t; was = out; word = is; before = tt; counted = refl; told = refl; owned = h })
open_parameters_by_sound x owner st out t w r is h = tt

pub open_parameters_sound : (st : List Frame) (out : List Event) (t : Lexeme) (w r : List Lexeme) → Holds M.OpenParameters st w out (t ∷ r) → Step w r (open_parameters st out t)
open_parameters_sound st out t w r h = subst (λ s. Step w r (open_parameters s out t)) (sym h.2) (open_parameters_by_sound t.word h.0 h.1 out t w r refl h.3)

-- a parameter
parameter_read_sound : (owner : Owner) (count : ℕ) (prior : Prior) (st : List Frame) (out : List Event) (t : Lexeme) (w r : List Lexeme) → t.word ≡ W.Name
    → InParameters owner count prior st (Open st w) out (t ∷ r) → Step w r (parameter_read (F.Parameters owner count ∷ st) out t)
parameter_read_sound owner count prior st out t w r is h = (
  owner,
  count + 1,
  st,
  refl,
  record {
    o = h.o;
    l = with_next prior (Parameter t);
    was = h.was;
    word = h.word;
    list = next_list is_parameter prior (Parameter t) _ h.before refl;
    made = next_made is_parameter prior (Parameter t) r h.before is;
    counted = next_count prior (Parameter t) count h.counted;
    told = next_told prior (Parameter t) _ out h.was refl h.told;
    owned = subst (λ q. InOwner owner st (Open st w) h.was (h.o ∷ q)) (next_spell prior (Parameter t) r) h.owned;
  },
)

first_parameter_by_sound : (x : Word) (owner : Owner) (st : List Frame) (out : List Event) (t : Lexeme) (w r : List Lexeme) → t.word ≡ x
    → InParameters owner 0 First st (Open st w) out (t ∷ r) → Step w r (first_parameter_by x (F.Parameters owner 0 ∷ st) out t)
first_parameter_by_sound W.CloseParenthesis owner st out t w r is h =
    (owner, 0, st, refl, record { o = h.o; l = Nothing; c = t; was = h.was; word = h.word; close = is; list = refl; made = tt; counted = refl; told = h.told; owned = h.owned })
first_parameter_by_sound W.Name owner st out t w r is h = parameter_read_sound owner 0 First st out t w r is h
first_parameter_by_sound x owner st out t w r is h = tt

pub first_parameter_sound : (st : List Frame) (out : List Event) (t : Lexeme) (w r : List Lexeme) → Holds M.FirstParameter st w out (t ∷ r) → Step w r (first_parameter st out t)
first_parameter_sound st out t w r h = subst (λ s. Step w r (first_parameter s out t)) (sym h.2) (first_parameter_by_sound t.word h.0 h.1 out t w r refl h.3)

parameter_by_sound : (x : Word) (owner : Owner) (count : ℕ) (prior : Prior) (st : List Frame) (out : List Event) (t : Lexeme) (w r : List Lexeme) → t.word ≡ x
    → InParameters owner count prior st (Open st w) out (t ∷ r) → Step w r (parameter_by x (F.Parameters owner count ∷ st) out t)
parameter_by_sound W.Name owner count prior st out t w r is h = parameter_read_sound owner count prior st out t w r is h
parameter_by_sound x owner count prior st out t w r is h = tt

pub parameter_sound : (st : List Frame) (out : List Event) (t : Lexeme) (w r : List Lexeme) → Holds M.Parameter st w out (t ∷ r) → Step w r (parameter st out t)
parameter_sound st out t w r h = subst (λ s. Step w r (parameter s out t)) (sym h.4) (parameter_by_sound t.word h.0 h.1 h.3 h.2 out t w r refl h.5)

after_parameter_by_sound : (x : Word) (owner : Owner) (count : ℕ) (st : List Frame) (out : List Event) (t : Lexeme) (w r : List Lexeme) → t.word ≡ x
    → BehindParameter owner count st (Open st w) out (t ∷ r) → Step w r (after_parameter_by x (F.Parameters owner count ∷ st) out)
after_parameter_by_sound W.Comma owner count st out t w r is h =
    (owner, count, st, Behind h.l t, refl, record { o = h.o; was = h.was; word = h.word; before = (h.list, h.made, is); counted = h.counted; told = h.told; owned = h.owned })
after_parameter_by_sound W.CloseParenthesis owner count st out t w r is h =
    (owner, count, st, refl, record { o = h.o; l = h.l; c = t; was = h.was; word = h.word; close = is; list = may_be is_parameter h.l h.list; made = h.made; counted = h.counted; told = h.told; owned = h.owned })
after_parameter_by_sound x owner count st out t w r is h = tt

pub after_parameter_sound : (st : List Frame) (out : List Event) (t : Lexeme) (w r : List Lexeme) → Holds M.AfterParameter st w out (t ∷ r) → Step w r (after_parameter st out t)
after_parameter_sound st out t w r h = subst (λ s. Step w r (after_parameter s out t)) (sym h.3) (after_parameter_by_sound t.word h.0 h.1 h.2 out t w r refl h.4)

open_body_by_sound : (x : Word) (owner : Owner) (count : ℕ) (st : List Frame) (out : List Event) (t : Lexeme) (w r : List Lexeme) → t.word ≡ x
    → BehindParameters owner count st (Open st w) out (t ∷ r) → Step w r (open_body_by x (F.Parameters owner count ∷ st) out)
open_body_by_sound W.OpenBrace owner count st out t w r is h =
    (refl, record { b = t; s = Nothing; was = out; word = is; list = refl; made = tt; counted = refl; told = refl; header = h })
open_body_by_sound x owner count st out t w r is h = tt

pub open_body_sound : (st : List Frame) (out : List Event) (t : Lexeme) (w r : List Lexeme) → Holds M.OpenBody st w out (t ∷ r) → Step w r (open_body st out t)
open_body_sound st out t w r h = subst (λ s. Step w r (open_body s out t)) (sym h.3) (open_body_by_sound t.word h.0 h.1 h.2 out t w r refl h.4)

-- CLAUSES

pub clause_sound : (st : List Frame) (out : List Event) (t : Lexeme) (w r : List Lexeme) → Holds M.Clause st w out (t ∷ r) → Step w r (clause st out t)
clause_sound st out t w r h =
    subst (λ s. Open s w out (t ∷ r) → Step w r (clause s out t)) (sym h.4) (λ opened. clause_by_sound t.word h.0 h.1 h.2 h.3 out t w r refl opened) h.5

default_colon_by_sound : (x : Word) (place at clauses : ℕ) (st : List Frame) (out : List Event) (t : Lexeme) (w r : List Lexeme) → t.word ≡ x
    → AtDefault place (InSwitch at clauses false st (Open st w)) out (t ∷ r) → Step w r (default_colon_by x (F.Default place 0 ∷ F.Switch at clauses true ∷ st) out)
default_colon_by_sound W.Colon place at clauses st out t w r is h =
    (refl, (refl, record { c = t; l = Nothing; was = out; colon = is; list = refl; made = tt; counted = refl; told = refl; begun = h }))
default_colon_by_sound x place at clauses st out t w r is h = tt

pub default_colon_sound : (st : List Frame) (out : List Event) (t : Lexeme) (w r : List Lexeme) → Holds M.DefaultColon st w out (t ∷ r) → Step w r (default_colon st out t)
default_colon_sound st out t w r h = subst (λ s. Step w r (default_colon s out t)) (sym h.4) (default_colon_by_sound t.word h.0 h.1 h.2 h.3 out t w r refl h.5)

open_block_by_sound : (x : Word) (st : List Frame) (out : List Event) (t : Lexeme) (w r : List Lexeme) → t.word ≡ x → top takes_block st ≡ true → Open st w out (t ∷ r)
    → Step w r (open_block_by x st out t)
open_block_by_sound W.OpenBrace st out t w r is hole h =
    (refl, record { o = t; l = Nothing; was = out; start = refl; word = is; hole = top_block st hole; list = refl; made = tt; counted = refl; told = refl; below = h })
open_block_by_sound x st out t w r is hole h = tt

pub open_block_sound : (st : List Frame) (out : List Event) (t : Lexeme) (w r : List Lexeme) → Holds M.OpenBlock st w out (t ∷ r) → Step w r (open_block st out t)
open_block_sound st out t w r h = open_block_by_sound t.word st out t w r refl h.0 h.1

open_catch_by_sound : (x : Word) (place : ℕ) (st : List Frame) (out : List Event) (t : Lexeme) (w r : List Lexeme) → t.word ≡ x → Holds (M.OpenCatch place) st w out (t ∷ r)
    → Step w r (open_catch_by x place st out)
open_catch_by_sound W.OpenParenthesis place st out t w r is h = record { o = t; opens = is; begun = h }
open_catch_by_sound x place st out t w r is h = tt

pub open_catch_sound : (place : ℕ) (st : List Frame) (out : List Event) (t : Lexeme) (w r : List Lexeme) → Holds (M.OpenCatch place) st w out (t ∷ r) → Step w r (open_catch place st out t)
open_catch_sound place st out t w r h = open_catch_by_sound t.word place st out t w r refl h

catch_name_by_sound : (x : Word) (place : ℕ) (st : List Frame) (out : List Event) (t : Lexeme) (w r : List Lexeme) → t.word ≡ x → Holds (M.CatchName place) st w out (t ∷ r)
    → Step w r (catch_name_by x place st out t)
catch_name_by_sound W.Name place st out t w r is h = (place, t, st, refl, (is, h))
catch_name_by_sound x place st out t w r is h = tt

pub catch_name_sound : (place : ℕ) (st : List Frame) (out : List Event) (t : Lexeme) (w r : List Lexeme) → Holds (M.CatchName place) st w out (t ∷ r) → Step w r (catch_name place st out t)
catch_name_sound place st out t w r h = catch_name_by_sound t.word place st out t w r refl h

close_catch_by_sound : (x : Word) (place : ℕ) (n : Lexeme) (st : List Frame) (out : List Event) (t : Lexeme) (w r : List Lexeme) → t.word ≡ x → BehindCatchName place n st (Open st w) out (t ∷ r)
    → Step w r (close_catch_by x (F.Catch place n ∷ st) out)
close_catch_by_sound W.CloseParenthesis place n st out t w r is h = (refl, record { c = t; close = is; named = h })
close_catch_by_sound x place n st out t w r is h = tt

pub close_catch_sound : (st : List Frame) (out : List Event) (t : Lexeme) (w r : List Lexeme) → Holds M.CloseCatch st w out (t ∷ r) → Step w r (close_catch st out t)
close_catch_sound st out t w r h = subst (λ s. Step w r (close_catch s out t)) (sym h.3) (close_catch_by_sound t.word h.0 h.1 h.2 out t w r refl h.4)

-- THE HEADER OF `for`

semicolon_of : (x : Word) → is_semicolon x ≡ true → x ≡ W.Semicolon
semicolon_of W.Semicolon h = refl
semicolon_of x h = cc

pub init_ended_sound : (place : ℕ) (st : List Frame) (out : List Event) (t : Lexeme) (w r : List Lexeme) (i : Phrase) (was : List Event) → is_init i ≡ true → has_bare_in i ≡ false → IsMade i (t ∷ r)
    → out ≡ emit i was → InForInit place st (Open st w) was (spell i (t ∷ r)) → Step w r (init_ended (F.ForInit place ∷ st) out t)
init_ended_sound place st out t w r i was init bare made told h = step_if w r (is_semicolon t.word) _ (λ written.
    (place, st, refl, record { i = i; p = t; was = was; init = init; bare = bare; semicolon = semicolon_of t.word written; made = made; told = told; begun = h }))

pub test_ended_sound : (place : ℕ) (st : List Frame) (out : List Event) (t : Lexeme) (w r : List Lexeme) (e : Phrase) (was : List Event) → t.word ≡ W.Semicolon → may_be_expression e ≡ true
    → IsMade e (t ∷ r) → out ≡ emit e was → InForTest place st (Open st w) was (spell e (t ∷ r)) → Step w r (test_ended (F.ForTest place ∷ st) out)
test_ended_sound place st out t w r e was is expression made told h =
    (place, st, refl, record { e = e; q = t; was = was; expression = expression; semicolon = is; made = made; told = told; begun = h })

pub update_ended_sound : (place : ℕ) (st : List Frame) (out : List Event) (t : Lexeme) (w r : List Lexeme) (u : Phrase) (was : List Event) → t.word ≡ W.CloseParenthesis → may_be_expression u ≡ true
    → IsMade u (t ∷ r) → out ≡ emit u was → InForUpdate place st (Open st w) was (spell u (t ∷ r)) → Step w r (update_ended (F.ForUpdate place ∷ st) out)
update_ended_sound place st out t w r u was is expression made told h =
    (refl, record { u = u; c = t; was = was; expression = expression; close = is; made = made; told = told; begun = h })

open_for_by_sound : (x : Word) (place : ℕ) (st : List Frame) (out : List Event) (t : Lexeme) (w r : List Lexeme) → t.word ≡ x → InJump W.For place st (Open st w) out (t ∷ r)
    → Step w r (open_for_by x (F.ForInit place ∷ st) out)
open_for_by_sound W.OpenParenthesis place st out t w r is h = (place, st, refl, record { o = t; word = is; begun = h })
open_for_by_sound x place st out t w r is h = tt

pub open_for_sound : (st : List Frame) (out : List Event) (t : Lexeme) (w r : List Lexeme) → Holds M.OpenFor st w out (t ∷ r) → Step w r (open_for st out t)
open_for_sound st out t w r h = subst (λ s. Step w r (open_for s out t)) (sym h.2) (open_for_by_sound t.word h.0 h.1 out t w r refl h.3)

for_init_by_sound : (x : Word) (place : ℕ) (st : List Frame) (out : List Event) (t : Lexeme) (w r : List Lexeme) → t.word ≡ x → InForInit place st (Open st w) out (t ∷ r)
    → Step w r (for_init_by x (F.ForInit place ∷ st) out t)
for_init_by_sound W.Semicolon place st out t w r is h = init_ended_sound place st (E.Absent ∷ out) t w r Absent out refl refl tt refl h
for_init_by_sound W.Var place st out t w r is h =
    (V.Init, t.start, 0, F.ForInit place ∷ st, refl, record { v = t; prior = First; was = out; start = refl; word = is; hole = refl; before = tt; bare = λ barred. refl; counted = refl; told = refl; below = h })
for_init_by_sound x place st out t w r is h = operand_sound (F.ForInit place ∷ st) out t w r refl h

pub for_init_sound : (st : List Frame) (out : List Event) (t : Lexeme) (w r : List Lexeme) → Holds M.ForInit st w out (t ∷ r) → Step w r (for_init st out t)
for_init_sound st out t w r h =
    subst (λ s. Open s w out (t ∷ r) → Step w r (for_init s out t)) (sym h.2) (λ opened. for_init_by_sound t.word h.0 h.1 out t w r refl opened) h.3

for_test_by_sound : (x : Word) (place : ℕ) (st : List Frame) (out : List Event) (t : Lexeme) (w r : List Lexeme) → t.word ≡ x → InForTest place st (Open st w) out (t ∷ r)
    → Step w r (for_test_by x (F.ForTest place ∷ st) out t)
for_test_by_sound W.Semicolon place st out t w r is h = test_ended_sound place st (E.Absent ∷ out) t w r Absent out is refl tt refl h
for_test_by_sound x place st out t w r is h = operand_sound (F.ForTest place ∷ st) out t w r refl h

pub for_test_sound : (st : List Frame) (out : List Event) (t : Lexeme) (w r : List Lexeme) → Holds M.ForTest st w out (t ∷ r) → Step w r (for_test st out t)
for_test_sound st out t w r h =
    subst (λ s. Open s w out (t ∷ r) → Step w r (for_test s out t)) (sym h.2) (λ opened. for_test_by_sound t.word h.0 h.1 out t w r refl opened) h.3

for_update_by_sound : (x : Word) (place : ℕ) (st : List Frame) (out : List Event) (t : Lexeme) (w r : List Lexeme) → t.word ≡ x → InForUpdate place st (Open st w) out (t ∷ r)
    → Step w r (for_update_by x (F.ForUpdate place ∷ st) out t)
for_update_by_sound W.CloseParenthesis place st out t w r is h = update_ended_sound place st (E.Absent ∷ out) t w r Absent out is refl tt refl h
for_update_by_sound x place st out t w r is h = operand_sound (F.ForUpdate place ∷ st) out t w r refl h

pub for_update_sound : (st : List Frame) (out : List Event) (t : Lexeme) (w r : List Lexeme) → Holds M.ForUpdate st w out (t ∷ r) → Step w r (for_update st out t)
for_update_sound st out t w r h =
    subst (λ s. Open s w out (t ∷ r) → Step w r (for_update s out t)) (sym h.2) (λ opened. for_update_by_sound t.word h.0 h.1 out t w r refl opened) h.3

-- DECLARATORS

next_continues : (prior : Prior) (d : Phrase) (x : Word) → continues_behind d x ≡ continues_behind (with_next prior d) x
next_continues First d x = refl
next_continues (Behind l c) d x = refl

next_inserted : (prior : Prior) (d : Phrase) (t : Lexeme) → is_inserted (continues_behind d) t ≡ true → is_inserted (continues_behind (with_next prior d)) t ≡ true
next_inserted prior d t h = subst (λ c. ((is_close t.word || t.line_before) && not (is_semicolon t.word) && not c) ≡ true) (next_continues prior d t.word) h

comma_of : (x : Word) → is_comma x ≡ true → x ≡ W.Comma
comma_of W.Comma h = refl
comma_of x h = cc

or_false : (x y : Bool) → x ≡ false → y ≡ false → (x || y) ≡ false
or_false true y h g = cc
or_false false y h g = g

next_barred : (prior : Prior) (d : Phrase) (b : Bool) → Bars b (has_bare_in (listed prior)) → Bars b (has_bare_in d) → Bars b (has_bare_in (with_next prior d))
next_barred prior d b before bare barred = next_bare prior d ∙ or_false _ _ (before barred) (bare barred)

-- the declarators of a statement end
statement_declared : (inserted : Bool) (place count : ℕ) (st : List Frame) (out before : List Event) (t : Lexeme) (w r : List Lexeme) (d : Phrase) → is_declarator d ≡ true → IsMade d (t ∷ r) → out ≡ emit d before
    → InDeclarators V.Statement place count st (Open st w) before (spell d (t ∷ r)) → (inserted ≡ true → is_inserted (continues_behind d) t ≡ true)
    → Step w r (declarators_ended V.Statement inserted place (count + 1) st out t)
statement_declared inserted place count st out before t w r d so made told h ends =
    finish_sound (continues_behind (with_next h.prior d)) inserted st _ t w r (λ is. next_inserted h.prior d t (ends is)) (record {
      d = λ z. Var h.v (with_next h.prior d) z;
      was = h.was;
      statement = λ z. refl;
      hole = h.hole;
      made = λ z q same ended. (
        h.word,
        next_list is_declarator h.prior d _ h.before so,
        subst (IsMade (with_next h.prior d)) (sym same) (next_made is_declarator h.prior d (t ∷ r) h.before made),
        ended,
      );
      told = λ z. ap (λ p. node_at p H.Var (count + 1) ∷ out) (sym h.start)
          ∙ counted_told (λ n events. node_at h.v.start H.Var n ∷ events) (count + 1) _ out _ (sym (next_count h.prior d count h.counted)) (next_told h.prior d out before h.was told h.told);
      around = λ z q same. subst (λ x. Open st w h.was (h.v ∷ x)) (next_spell h.prior d (t ∷ r) ∙ ap (spell (with_next h.prior d)) (sym same)) h.below;
    })

-- the declarators of an init end
init_declared : (place count : ℕ) (st : List Frame) (out before : List Event) (t : Lexeme) (w r : List Lexeme) (d : Phrase) → is_declarator d ≡ true → IsMade d (t ∷ r) → out ≡ emit d before
    → has_bare_in d ≡ false → InDeclarators V.Init place count st (Open st w) before (spell d (t ∷ r)) → Step w r (init_ended st (node_at place H.Bindings (count + 1) ∷ out) t)
init_declared place count (F.ForInit at ∷ st) out before t w r d so made told bare h =
    init_ended_sound at st _ t w r (Bindings h.v (with_next h.prior d)) h.was refl (next_barred h.prior d true h.bare (λ barred. bare) refl)
    (h.word, next_list is_declarator h.prior d _ h.before so, next_made is_declarator h.prior d (t ∷ r) h.before made)
    (ap (λ p. node_at p H.Bindings (count + 1) ∷ out) (sym h.start)
    ∙ counted_told (λ n events. node_at h.v.start H.Bindings n ∷ events) (count + 1) _ out _ (sym (next_count h.prior d count h.counted)) (next_told h.prior d out before h.was told h.told))
    (subst (λ x. Open (F.ForInit at ∷ st) w h.was (h.v ∷ x)) (next_spell h.prior d (t ∷ r)) h.below)
init_declared place count st out before t w r d so made told bare h = tt

declarators_ended_sound : (role : VarRole) (inserted : Bool) (place count : ℕ) (st : List Frame) (out before : List Event) (t : Lexeme) (w r : List Lexeme) (d : Phrase) → is_declarator d ≡ true
    → IsMade d (t ∷ r) → out ≡ emit d before → Bars (bars_role role) (has_bare_in d) → InDeclarators role place count st (Open st w) before (spell d (t ∷ r))
    → (inserted ≡ true → is_inserted (continues_behind d) t ≡ true) → Step w r (declarators_ended role inserted place (count + 1) st out t)
declarators_ended_sound V.Statement inserted place count st out before t w r d so made told bare h ends = statement_declared inserted place count st out before t w r d so made told h ends
declarators_ended_sound V.Init inserted place count st out before t w r d so made told bare h ends = init_declared place count st out before t w r d so made told (bare refl) h

pub declared_sound : (role : VarRole) (inserted : Bool) (place count : ℕ) (st : List Frame) (out before : List Event) (t : Lexeme) (w r : List Lexeme) (d : Phrase) → is_declarator d ≡ true
    → IsMade d (t ∷ r) → out ≡ emit d before → Bars (bars_role role) (has_bare_in d) → InDeclarators role place count st (Open st w) before (spell d (t ∷ r))
    → (inserted ≡ true → is_inserted (continues_behind d) t ≡ true) → Step w r (declared inserted (F.Declarators role place count ∷ st) out t)
declared_sound role inserted place count st out before t w r d so made told bare h ends =
    step_either w r (is_comma t.word) _ _
    (λ comma. (
      role,
      place,
      count + 1,
      st,
      refl,
      record {
        v = h.v;
        prior = Behind (with_next h.prior d) t;
        was = h.was;
        start = h.start;
        word = h.word;
        hole = h.hole;
        before = (next_list is_declarator h.prior d _ h.before so, next_made is_declarator h.prior d (t ∷ r) h.before made, comma_of t.word comma);
        bare = next_barred h.prior d (bars_role role) h.bare bare;
        counted = next_count h.prior d count h.counted;
        told = next_told h.prior d out before h.was told h.told;
        below = subst (λ q. Open st w h.was (h.v ∷ q)) (next_spell h.prior d (t ∷ r)) h.below;
      },
    ))
    (λ other. declarators_ended_sound role inserted place count st out before t w r d so made told bare h ends)

declarator_name_by_sound : (x : Word) (role : VarRole) (place count : ℕ) (st : List Frame) (out : List Event) (t : Lexeme) (w r : List Lexeme) → t.word ≡ x
    → Open (F.Declarators role place count ∷ st) w out (t ∷ r) → Step w r (declarator_name_by x (F.Declarators role place count ∷ st) out t)
declarator_name_by_sound W.Name role place count st out t w r is h = (role, place, count, st, refl, is, h)
declarator_name_by_sound x role place count st out t w r is h = tt

pub declarator_name_sound : (st : List Frame) (out : List Event) (t : Lexeme) (w r : List Lexeme) → Holds M.DeclaratorName st w out (t ∷ r) → Step w r (declarator_name st out t)
declarator_name_sound st out t w r h =
    subst (λ s. Open s w out (t ∷ r) → Step w r (declarator_name s out t)) (sym h.4) (λ opened. declarator_name_by_sound t.word h.0 h.1 h.2 h.3 out t w r refl opened) h.5

after_name_by_sound : (x : Word) (n : Lexeme) (role : VarRole) (place count : ℕ) (st : List Frame) (out : List Event) (t : Lexeme) (w r : List Lexeme) → t.word ≡ x → n.word ≡ W.Name
    → Open (F.Declarators role place count ∷ st) w out (n ∷ t ∷ r) → Step w r (after_name_by x n (F.Declarators role place count ∷ st) out t)
after_name_by_sound W.Assign n role place count st out t w r is named h = (refl, record { q = t; name = named; equals = is; bars = refl; hole = refl; below = h })
after_name_by_sound x n role place count st out t w r is named h =
    declared_sound role (is_inserted continues_name t) place count st _ out t w r (Declarator n) refl named refl (λ barred. refl) h (λ so. so)

pub after_name_sound : (n : Lexeme) (st : List Frame) (out : List Event) (t : Lexeme) (w r : List Lexeme) → Holds (M.AfterName n) st w out (t ∷ r) → Step w r (after_name n st out t)
after_name_sound n st out t w r h =
    subst (λ s. Open s w out (n ∷ t ∷ r) → Step w r (after_name n s out t)) (sym h.4) (λ opened. after_name_by_sound t.word n h.0 h.1 h.2 h.3 out t w r refl h.5 opened) h.6

-- `return` AND `throw`

return_ends_sound : (inserted : Bool) (place : ℕ) (st : List Frame) (out : List Event) (t : Lexeme) (w r : List Lexeme) → (inserted ≡ true → is_inserted continues_nothing t ≡ true)
    → InJump W.Return place st (Open st w) out (t ∷ r) → Step w r (return_ends inserted (F.Return place ∷ st) out t)
return_ends_sound inserted place st out t w r ends h = finish_sound (continues_return Absent) inserted st _ t w r ends (record {
  d = λ z. Return h.o Absent z;
  was = out;
  statement = λ z. refl;
  hole = h.hole;
  made = λ z q same ended. (h.is, refl, tt, tt, ended);
  told = λ z. ap (λ p. node_at p H.Return 1 ∷ E.Absent ∷ out) (sym h.start);
  around = λ z q same. subst (λ x. Open st w out (h.o ∷ x)) (sym same) h.below;
})

on_line : (c l s : Bool) → s ≡ false → ((c || l) && not s && true) ≡ false → l ≡ false
on_line c true true h g = cc
on_line true true false h g = cc
on_line false true false h g = cc
on_line c false s h g = refl

returning_by_sound : (place : ℕ) (st : List Frame) (out : List Event) (t : Lexeme) (w r : List Lexeme) → InJump W.Return place st (Open st w) out (t ∷ r) → Step w r (returning (F.Return place ∷ st) out t)
returning_by_sound place st out t w r h =
    step_either w r (is_semicolon t.word) _ _
    (λ written. return_ends_sound false place st out t w r (λ never. cc) h)
    (λ other. step_either w r (is_inserted continues_nothing t) _ _
    (λ so. return_ends_sound true place st out t w r (λ is. so) h)
    (λ here. operand_sound (F.Return place ∷ st) out t w r refl (h, on_line (is_close t.word) t.line_before (is_semicolon t.word) other here)))

pub returning_sound : (st : List Frame) (out : List Event) (t : Lexeme) (w r : List Lexeme) → Holds M.Returning st w out (t ∷ r) → Step w r (returning st out t)
returning_sound st out t w r h = subst (λ s. Step w r (returning s out t)) (sym h.2) (returning_by_sound h.0 h.1 out t w r h.3)

throwing_by_sound : (place : ℕ) (st : List Frame) (out : List Event) (t : Lexeme) (w r : List Lexeme) → InJump W.Throw place st (Open st w) out (t ∷ r) → Step w r (throwing (F.Throw place ∷ st) out t)
throwing_by_sound place st out t w r h =
    step_either w r t.line_before None _ (λ behind. tt) (λ here. operand_sound (F.Throw place ∷ st) out t w r refl (h, here))

pub throwing_sound : (st : List Frame) (out : List Event) (t : Lexeme) (w r : List Lexeme) → Holds M.Throwing st w out (t ∷ r) → Step w r (throwing st out t)
throwing_sound st out t w r h = subst (λ s. Step w r (throwing s out t)) (sym h.2) (throwing_by_sound h.0 h.1 out t w r h.3)

-- HEADERS

open_header_by_sound : (x : Word) (header : Header) (place : ℕ) (st : List Frame) (out : List Event) (t : Lexeme) (w r : List Lexeme) → t.word ≡ x → AtHeader header place st (Open st w) out (t ∷ r)
    → Step w r (open_header_by x (F.Condition header place ∷ st) out)
open_header_by_sound W.OpenParenthesis header place st out t w r is h = (refl, record { o = t; word = is; header_read = h })
open_header_by_sound x header place st out t w r is h = tt

pub open_header_sound : (st : List Frame) (out : List Event) (t : Lexeme) (w r : List Lexeme) → Holds M.OpenHeader st w out (t ∷ r) → Step w r (open_header st out t)
open_header_sound st out t w r h = subst (λ s. Step w r (open_header s out t)) (sym h.3) (open_header_by_sound t.word h.0 h.1 h.2 out t w r refl h.4)

open_switch_by_sound : (x : Word) (place : ℕ) (st : List Frame) (out : List Event) (t : Lexeme) (w r : List Lexeme) → t.word ≡ x → BehindCondition W.Switch place st (Open st w) out (t ∷ r)
    → Step w r (open_switch_by x (F.Switch place 0 false ∷ st) out)
open_switch_by_sound W.OpenBrace place st out t w r is h =
    (place, 0, false, st, refl, record { b = t; l = Nothing; was = out; brace = is; list = refl; defaults = omega arith; made = tt; counted = refl; told = refl; header = h })
open_switch_by_sound x place st out t w r is h = tt

pub open_switch_sound : (st : List Frame) (out : List Event) (t : Lexeme) (w r : List Lexeme) → Holds M.OpenSwitch st w out (t ∷ r) → Step w r (open_switch st out t)
open_switch_sound st out t w r h = subst (λ s. Step w r (open_switch s out t)) (sym h.2) (open_switch_by_sound t.word h.0 h.1 out t w r refl h.3)
