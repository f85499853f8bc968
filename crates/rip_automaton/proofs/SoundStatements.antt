-- What the machine reads where a statement is wanted, or has ended, is so.
use Rattle.std.proofs.Common.{◌≡◌, ℕ, ◌+◌, ◌≤◌, Bool, true, false, ◌&&◌, ◌||◌, List, [], ◌∷◌, Option, Some, None, refl, sym, ap, ◌∙◌, subst, arith}
use Rattle.rip_grammar.specs.declared.word.Word.{Word}
use Rattle.rip_grammar.specs.declared.word.Word.TheVariants as W
use Rattle.rip_grammar.specs.declared.word.Lexeme.{Lexeme}
use Rattle.rip_grammar.specs.declared.event.Head.TheVariants as H
use Rattle.rip_grammar.specs.declared.event.Event.{Event}
use Rattle.rip_grammar.specs.declared.event.Event.TheVariants as E
use Rattle.rip_automaton.specs.declared.frame.Owner.TheVariants as O
use Rattle.rip_automaton.specs.declared.frame.Header.TheVariants as C
use Rattle.rip_automaton.specs.declared.frame.VarRole.TheVariants as V
use Rattle.rip_automaton.specs.declared.frame.Frame.{Frame}
use Rattle.rip_automaton.specs.declared.frame.Frame.TheVariants as F
use Rattle.rip_automaton.specs.declared.mode.Mode.TheVariants as M
use Rattle.rip_grammar.specs.Words.{is_semicolon, is_else, is_no_beginning}
use Rattle.rip_grammar.specs.Phrases.{Ending, Written, Inserted, Phrase, Absent, Nothing, More, Single, Block, Empty, If, IfElse, While, For, Continue, Break, Switch, Case, Default, Try, Catch, Finally, Function, Declaration, spell, spell_ending}
use Rattle.rip_grammar.specs.Semicolons.{IsEnded, continues_nothing, is_inserted}
use Rattle.rip_grammar.specs.Grammar.{IsMade, is_statement, is_element, is_clause, is_catch, is_absent, default_count}
use Rattle.rip_grammar.specs.Events.{width, emit, node_at}
use Rattle.rip_automaton.specs.States.{State}
use Rattle.rip_automaton.specs.Statements.{clause_by, clause_told, clause_ends, function_ends, brace_ends, script_ends, declaration_begins, start_by, start, do_ended, try_ended, handled, ended, finish, semicolon}
use Rattle.rip_automaton.proofs.Open.{takes_statement, takes_block, takes_declaration, takes, is_switch, is_handled, top, Open, Holds, Step, First, InBody, InSwitch, InDefault, InHandled, Ended, Unended, default_is}
use Rattle.rip_automaton.proofs.SoundOperands.{step_if, step_either, operand_sound, tight_read}
use Rattle.rip_automaton.proofs.SoundLiterals.{counted_told}

-- WHAT FORMS TAKE

or_left : (a b : Bool) → a ≡ true → (a || b) ≡ true
or_left true b h = refl
or_left false b h = cc

or_right : (a b : Bool) → b ≡ true → (a || b) ≡ true
or_right true b h = refl
or_right false b h = h

and_true : (a b : Bool) → a ≡ true → b ≡ true → (a && b) ≡ true
and_true true b h g = g
and_true false b h g = cc

pub top_statement : (st : List Frame) → top takes_statement st ≡ true → top (λ f. takes_statement f || takes_block f) st ≡ true
top_statement [] h = h
top_statement (f ∷ st) h = or_left _ _ h

pub top_block : (st : List Frame) → top takes_block st ≡ true → top (λ f. takes_statement f || takes_block f) st ≡ true
top_block [] h = h
top_block (f ∷ st) h = or_right _ _ h

element_of : (d : Phrase) → is_statement d ≡ true → is_element d ≡ true
element_of (Declaration f n o l c b s d) h = refl
element_of d h = h

pub taken_statement : (st : List Frame) (d : Phrase) → is_statement d ≡ true → top takes_statement st ≡ true → top (λ f. takes f d) st ≡ true
taken_statement [] d so hole = hole
taken_statement (F.Script ∷ st) d so hole = element_of d so
taken_statement (F.Body owner parameters count ∷ st) d so hole = element_of d so
taken_statement (F.Block place count ∷ st) d so hole = so
taken_statement (F.Then place ∷ st) d so hole = so
taken_statement (F.Otherwise place ∷ st) d so hole = so
taken_statement (F.Do place ∷ st) d so hole = so
taken_statement (F.While place ∷ st) d so hole = so
taken_statement (F.For place ∷ st) d so hole = so
taken_statement (F.CaseBody place count ∷ st) d so hole = so
taken_statement (F.Default place count ∷ st) d so hole = so
taken_statement (f ∷ st) d so hole = cc

taken_block : (st : List Frame) (o : Lexeme) (l : Phrase) (c : Lexeme) → top (λ f. takes_statement f || takes_block f) st ≡ true → top (λ f. takes f (Block o l c)) st ≡ true
taken_block [] o l c hole = hole
taken_block (F.Script ∷ st) o l c hole = refl
taken_block (F.Body owner parameters count ∷ st) o l c hole = refl
taken_block (F.Block place count ∷ st) o l c hole = refl
taken_block (F.Then place ∷ st) o l c hole = refl
taken_block (F.Otherwise place ∷ st) o l c hole = refl
taken_block (F.Do place ∷ st) o l c hole = refl
taken_block (F.While place ∷ st) o l c hole = refl
taken_block (F.For place ∷ st) o l c hole = refl
taken_block (F.CaseBody place count ∷ st) o l c hole = refl
taken_block (F.Default place count ∷ st) o l c hole = refl
taken_block (F.Try place ∷ st) o l c hole = refl
taken_block (F.Catch place name ∷ st) o l c hole = refl
taken_block (F.Finally place ∷ st) o l c hole = refl
taken_block (f ∷ st) o l c hole = cc

taken_declaration : (st : List Frame) (d : Phrase) → is_element d ≡ true → top takes_declaration st ≡ true → top (λ f. takes f d) st ≡ true
taken_declaration [] d so hole = hole
taken_declaration (F.Script ∷ st) d so hole = so
taken_declaration (F.Body owner parameters count ∷ st) d so hole = so
taken_declaration (f ∷ st) d so hole = cc

taken_catch : (st : List Frame) (d : Phrase) → is_catch d ≡ true → top is_handled st ≡ true → top (λ f. takes f d) st ≡ true
taken_catch [] d so hole = hole
taken_catch (F.Handled place ∷ st) d so hole = so
taken_catch (f ∷ st) d so hole = cc

-- CLAUSES

default_few : (b : Bool) → default_is b ≤ 1
default_few true = omega arith
default_few false = omega arith

few_defaults : (n : ℕ) (b : Bool) → n ≤ default_is b → n ≤ 1
few_defaults n b few = let one : default_is b ≤ 1 = default_few b in omega arith

pub clause_by_sound : (x : Word) (place count : ℕ) (default : Bool) (st : List Frame) (out : List Event) (t : Lexeme) (w r : List Lexeme) → t.word ≡ x
    → InSwitch place count default st (Open st w) out (t ∷ r) → Step w r (clause_by x place count default st out t)
clause_by_sound W.Case place count default st out t w r is h = (refl, record { w = t; start = refl; word = is; hole = refl; below = h })
clause_by_sound W.Default place count true st out t w r is h = tt
clause_by_sound W.Default place count false st out t w r is h = (t.start, place, count, st, refl, record { w = t; start = refl; word = is; below = h })
clause_by_sound W.CloseBrace place count default st out t w r is h =
    let s = h.header in
    record {
      d = Switch s.begun.o s.o s.e s.c h.b h.l t;
      was = s.was;
      taken = taken_statement st _ refl s.begun.hole;
      made = (s.begun.is, s.opens, s.expression, s.made, s.close, h.brace, h.list, few_defaults _ default h.defaults, h.made, is);
      told = ap (λ p. node_at p H.Switch (1 + count) ∷ out) (sym s.begun.start)
          ∙ counted_told (λ k events. node_at s.begun.o.start H.Switch (1 + k) ∷ events) count (width h.l) out _ (sym h.counted) (h.told ∙ ap (emit h.l) s.told);
      around = s.begun.below;
    }
clause_by_sound _ place count default st out t w r is h = tt

-- one clause more
with_clause : (place count : ℕ) (default after : Bool) (st : List Frame) (out : List Event) (w q : List Lexeme) (d : Phrase) (was : List Event) → is_clause d ≡ true → IsMade d q → out ≡ emit d was
    → (h : InSwitch place count default st (Open st w) was (spell d q)) → default_count (More h.l d) ≤ default_is after → InSwitch place (count + 1) after st (Open st w) out q
with_clause place count default after st out w q d was so made told h defaults = record {
  b = h.b;
  l = More h.l d;
  was = h.was;
  brace = h.brace;
  list = and_true _ _ h.list so;
  defaults = defaults;
  made = (h.made, made);
  counted = ap (λ n. n + 1) h.counted;
  told = told ∙ ap (emit d) h.told;
  header = h.header;
}

clause_told_sound : (st : List Frame) (out : List Event) (t : Lexeme) (w r : List Lexeme) (v : Lexeme) (e : Phrase) (c : Lexeme) (l : Phrase) (was : List Event) → top is_switch st ≡ true
    → IsMade (Case v e c l) (t ∷ r) → out ≡ emit (Case v e c l) was → Open st w was (spell (Case v e c l) (t ∷ r)) → Step w r (clause_told st out t)
clause_told_sound [] out t w r v e c l was hole made told h = tt
clause_told_sound (F.Switch place count default ∷ st) out t w r v e c l was hole made told h =
    clause_by_sound t.word place (count + 1) default st out t w r refl (with_clause place count default default st out w (t ∷ r) (Case v e c l) was refl made told h h.defaults)
clause_told_sound (f ∷ st) out t w r v e c l was hole made told h = tt

one_more : (n : ℕ) → n ≤ 0 → n + 1 ≤ 1
one_more n few = omega arith

default_ends : (place count at clauses : ℕ) (default : Bool) (st : List Frame) (out : List Event) (t : Lexeme) (w r : List Lexeme) → default ≡ true
    → InDefault place count (InSwitch at clauses false st (Open st w)) out (t ∷ r) → Step w r (clause_told (F.Switch at clauses default ∷ st) (node_at place H.Default count ∷ out) t)
default_ends place count at clauses default st out t w r is h =
    let s = h.begun in
    let k = s.below in
    clause_by_sound t.word at (clauses + 1) default st (node_at place H.Default count ∷ out) t w r refl
    (with_clause at clauses false default st (node_at place H.Default count ∷ out) w (t ∷ r) (Default s.w h.c h.l) h.was refl (s.word, h.colon, h.list, h.made)
    (ap (λ p. node_at p H.Default count ∷ out) (sym s.start) ∙ counted_told (λ n events. node_at s.w.start H.Default n ∷ events) count (width h.l) out _ (sym h.counted) h.told)
    k (subst (λ b. default_count k.l + 1 ≤ default_is b) (sym is) (one_more (default_count k.l) k.defaults)))

clause_ends_sound : (st : List Frame) (out : List Event) (t : Lexeme) (w r : List Lexeme) → Open st w out (t ∷ r) → Step w r (clause_ends st out t)
clause_ends_sound (F.CaseBody place count ∷ st) out t w r h =
    clause_told_sound st _ t w r h.begun.w h.e h.c h.l h.was h.begun.hole (h.begun.word, h.expression, h.made-e, h.colon, h.list, h.made)
    (ap (λ p. node_at p H.Case (1 + count) ∷ out) (sym h.begun.start) ∙ counted_told (λ n events. node_at h.begun.w.start H.Case (1 + n) ∷ events) count (width h.l) out _ (sym h.counted) h.told)
    h.begun.below
clause_ends_sound (F.Default place count ∷ F.Switch at clauses default ∷ st) out t w r h = default_ends place count at clauses default st out t w r h.0 h.1
clause_ends_sound (F.Default place count ∷ st) out t w r h = absurd h
clause_ends_sound st out t w r h = tt

-- THE END OF A LIST OF STATEMENTS

-- a function ends
expression_ends : (place : ℕ) (name : Option Lexeme) (parameters count : ℕ) (st : List Frame) (out : List Event) (t : Lexeme) (w r : List Lexeme) → t.word ≡ W.CloseBrace
    → InBody (O.Expression place name) parameters count st (Open st w) out (t ∷ r) → Step w r (function_ends (O.Expression place name) parameters count st out)
expression_ends place None parameters count st out t w r is h =
    let p = h.header in
    let g = p.owned in
    tight_read _ st w _ r (Function g.f Absent p.o p.l p.c h.b h.s t) p.was refl refl (λ new. refl) refl g.hole
    (g.word, refl, tt, p.word, p.list, p.made, p.close, h.word, h.list, h.made, is)
    (ap (λ at. node_at at (H.Function None parameters) (parameters + count) ∷ out) (sym g.start)
    ∙ ap (λ n. node_at g.f.start (H.Function None n) (n + count) ∷ out) (sym p.counted)
    ∙ counted_told (λ n events. node_at g.f.start (H.Function None (width p.l)) (width p.l + n) ∷ events) count (width h.s) out _ (sym h.counted) (h.told ∙ ap (emit h.s) p.told))
    g.below
expression_ends place (Some n) parameters count st out t w r is h =
    let p = h.header in
    let g = p.owned in
    tight_read _ st w _ r (Function g.f (Single n) p.o p.l p.c h.b h.s t) p.was refl refl (λ new. refl) refl g.hole
    (g.word, refl, g.named, p.word, p.list, p.made, p.close, h.word, h.list, h.made, is)
    (ap (λ at. node_at at (H.Function (Some n) parameters) (parameters + count) ∷ out) (sym g.start)
    ∙ ap (λ m. node_at g.f.start (H.Function (Some n) m) (m + count) ∷ out) (sym p.counted)
    ∙ counted_told (λ m events. node_at g.f.start (H.Function (Some n) (width p.l)) (width p.l + m) ∷ events) count (width h.s) out _ (sym h.counted) (h.told ∙ ap (emit h.s) p.told))
    g.below

declaration_ends : (place : ℕ) (n : Lexeme) (parameters count : ℕ) (st : List Frame) (out : List Event) (t : Lexeme) (w r : List Lexeme) → t.word ≡ W.CloseBrace
    → InBody (O.Declaration place n) parameters count st (Open st w) out (t ∷ r) → Step w r (function_ends (O.Declaration place n) parameters count st out)
declaration_ends place n parameters count st out t w r is h =
    let p = h.header in
    let g = p.owned in
    record {
      d = Declaration g.f n p.o p.l p.c h.b h.s t;
      was = p.was;
      taken = taken_declaration st _ refl g.hole;
      made = (g.word, g.named, p.word, p.list, p.made, p.close, h.word, h.list, h.made, is);
      told = ap (λ at. node_at at (H.Declaration n parameters) (parameters + count) ∷ out) (sym g.start)
          ∙ ap (λ m. node_at g.f.start (H.Declaration n m) (m + count) ∷ out) (sym p.counted)
          ∙ counted_told (λ m events. node_at g.f.start (H.Declaration n (width p.l)) (width p.l + m) ∷ events) count (width h.s) out _ (sym h.counted) (h.told ∙ ap (emit h.s) p.told);
      around = g.below;
    }

brace_ends_sound : (st : List Frame) (out : List Event) (t : Lexeme) (w r : List Lexeme) → t.word ≡ W.CloseBrace → Open st w out (t ∷ r) → Step w r (brace_ends st out t)
brace_ends_sound (F.Block place count ∷ st) out t w r is h = record {
  d = Block h.o h.l t;
  was = h.was;
  taken = taken_block st h.o h.l t h.hole;
  made = (h.word, h.list, h.made, is);
  told = ap (λ p. node_at p H.Block count ∷ out) (sym h.start) ∙ counted_told (λ n events. node_at h.o.start H.Block n ∷ events) count (width h.l) out _ (sym h.counted) h.told;
  around = h.below;
}
brace_ends_sound (F.Body (O.Expression place name) parameters count ∷ st) out t w r is h = expression_ends place name parameters count st out t w r is h
brace_ends_sound (F.Body (O.Declaration place name) parameters count ∷ st) out t w r is h = declaration_ends place name parameters count st out t w r is h
brace_ends_sound st out t w r is h = clause_ends_sound st out t w r h

script_ends_sound : (st : List Frame) (out : List Event) (t : Lexeme) (w r : List Lexeme) → t.word ≡ W.End → Open st w out (t ∷ r) → Step w r (script_ends st out)
script_ends_sound (F.Script ∷ st) out t w r is h = (h.l, t, h.alone, is, h.list, h.made, h.told, h.whole)
script_ends_sound st out t w r is h = tt

declaration_begins_sound : (st : List Frame) (out : List Event) (t : Lexeme) (w r : List Lexeme) → t.word ≡ W.Function → Open st w out (t ∷ r) → Step w r (declaration_begins st out t)
declaration_begins_sound (F.Script ∷ st) out t w r is h = (t, refl, is, refl, h)
declaration_begins_sound (F.Body owner parameters count ∷ st) out t w r is h = (t, refl, is, refl, h)
declaration_begins_sound st out t w r is h = tt

-- WHERE A STATEMENT BEGINS

-- a word that is a statement up to its `;`
jump_read : (st : List Frame) (out : List Event) (t : Lexeme) (w r : List Lexeme) (d : Ending → Phrase) (told : List Event) → ((z : Ending) → is_statement (d z) ≡ true) → top takes_statement st ≡ true
    → ((z : Ending) (q : List Lexeme) → IsEnded continues_nothing z q → IsMade (d z) q) → ((z : Ending) → told ≡ emit (d z) out)
    → ((z : Ending) (q : List Lexeme) → spell (d z) q ≡ t ∷ spell_ending z q) → Open st w out (t ∷ r) → Unended continues_nothing st w told r
jump_read st out t w r d told statement hole made is spelled h = record {
  d = d;
  was = out;
  statement = statement;
  hole = hole;
  made = λ z q same so. made z q so;
  told = is;
  around = λ z q same. subst (Open st w out) (ap (λ x. t ∷ x) (sym same) ∙ sym (spelled z q)) h;
}

start_by_sound : (x : Word) (st : List Frame) (out : List Event) (t : Lexeme) (w r : List Lexeme) → t.word ≡ x → top takes_statement st ≡ true → Open st w out (t ∷ r)
    → Step w r (start_by x st out t)
start_by_sound W.OpenBrace st out t w r is hole h =
    (refl, record { o = t; l = Nothing; was = out; start = refl; word = is; hole = top_statement st hole; list = refl; made = tt; counted = refl; told = refl; below = h })
start_by_sound W.Semicolon st out t w r is hole h = record { d = Empty t; was = out; taken = taken_statement st (Empty t) refl hole; made = is; told = refl; around = h }
start_by_sound W.Var st out t w r is hole h =
    (V.Statement, t.start, 0, st, refl, record { v = t; prior = First; was = out; start = refl; word = is; hole = hole; before = tt; bare = λ never. cc; counted = refl; told = refl; below = h })
start_by_sound W.If st out t w r is hole h = (C.If, t.start, st, refl, record { o = t; start = refl; is = is; hole = hole; below = h })
start_by_sound W.Do st out t w r is hole h = (refl, record { o = t; start = refl; is = is; hole = hole; below = h })
start_by_sound W.While st out t w r is hole h = (C.While, t.start, st, refl, record { o = t; start = refl; is = is; hole = hole; below = h })
start_by_sound W.For st out t w r is hole h = (t.start, st, refl, record { o = t; start = refl; is = is; hole = hole; below = h })
start_by_sound W.Continue st out t w r is hole h = jump_read st out t w r (Continue t) _ (λ z. refl) hole (λ z q so. (is, so)) (λ z. refl) (λ z q. refl) h
start_by_sound W.Break st out t w r is hole h = jump_read st out t w r (Break t) _ (λ z. refl) hole (λ z q so. (is, so)) (λ z. refl) (λ z q. refl) h
start_by_sound W.Return st out t w r is hole h = (t.start, st, refl, record { o = t; start = refl; is = is; hole = hole; below = h })
start_by_sound W.Switch st out t w r is hole h = (C.Switch, t.start, st, refl, record { o = t; start = refl; is = is; hole = hole; below = h })
start_by_sound W.Throw st out t w r is hole h = (t.start, st, refl, record { o = t; start = refl; is = is; hole = hole; below = h })
start_by_sound W.Try st out t w r is hole h = (refl, record { o = t; start = refl; is = is; hole = hole; below = h })
start_by_sound W.Function st out t w r is hole h = declaration_begins_sound st out t w r is h
start_by_sound W.CloseBrace st out t w r is hole h = brace_ends_sound st out t w r is h
start_by_sound W.Case st out t w r is hole h = clause_ends_sound st out t w r h
start_by_sound W.Default st out t w r is hole h = clause_ends_sound st out t w r h
start_by_sound W.End st out t w r is hole h = script_ends_sound st out t w r is h
start_by_sound x st out t w r is hole h = operand_sound (F.Expression ∷ st) out t w r refl (record { first = ap is_no_beginning is; hole = hole; below = h })

pub start_sound : (st : List Frame) (out : List Event) (t : Lexeme) (w r : List Lexeme) → top takes_statement st ≡ true → Open st w out (t ∷ r) → Step w r (start st out t)
start_sound st out t w r hole h = start_by_sound t.word st out t w r refl hole h

-- WHERE A STATEMENT HAS ENDED

else_of : (x : Word) → is_else x ≡ true → x ≡ W.Else
else_of W.Else h = refl
else_of x h = cc

no_absent : (d : Phrase) → is_catch d ≡ true → (is_absent d && true) ≡ false
no_absent (Catch w o n c b) h = refl
no_absent d h = cc

never_both : (b : Bool) → (b && false) ≡ false
never_both true = refl
never_both false = refl

do_ended_sound : (x : Word) (place : ℕ) (st : List Frame) (out : List Event) (t : Lexeme) (w r : List Lexeme) → t.word ≡ x → Ended (F.Do place ∷ st) w out (t ∷ r) → Step w r (do_ended x place st out)
do_ended_sound W.While place st out t w r is e =
    let h = e.around in (
      C.DoWhile,
      place,
      st,
      refl,
      record {
        d = h.o;
        s = e.d;
        w = t;
        was = e.was;
        start = h.start;
        do_word = h.is;
        while_word = is;
        hole = h.hole;
        statement = e.taken;
        made = e.made;
        told = e.told;
        below = h.below;
      },
    )
do_ended_sound x place st out t w r is e = tt

try_handled : (place : ℕ) (st : List Frame) (out : List Event) (w q : List Lexeme) → Ended (F.Try place ∷ st) w out q → InHandled place st (Open st w) out q
try_handled place st out w q e = record { b = e.d; was = e.was; block = e.taken; made = e.made; told = e.told; begun = e.around }

try_ended_sound : (x : Word) (place : ℕ) (st : List Frame) (out : List Event) (t : Lexeme) (w r : List Lexeme) → t.word ≡ x → Ended (F.Try place ∷ st) w out (t ∷ r) → Step w r (try_ended t x place st out)
try_ended_sound W.Catch place st out t w r is e = record { w = t; start = refl; word = is; hole = refl; below = try_handled place st out w (t ∷ r) e }
try_ended_sound W.Finally place st out t w r is e =
    (refl, record { h = Absent; w = t; was = out; handler = refl; word = is; made = tt; told = refl; tried = try_handled place st out w (t ∷ r) e })
try_ended_sound x place st out t w r is e = tt

handled_sound : (x : Word) (place : ℕ) (st : List Frame) (out : List Event) (t : Lexeme) (w r : List Lexeme) (otherwise : Option State) → t.word ≡ x → Ended (F.Handled place ∷ st) w out (t ∷ r)
    → Step w r otherwise → Step w r (handled x place st out otherwise)
handled_sound W.Finally place st out t w r otherwise is e so =
    (refl, record { h = e.d; w = t; was = e.was; handler = or_right _ _ e.taken; word = is; made = e.made; told = e.told; tried = e.around })
handled_sound x place st out t w r otherwise is e so = so

pub ended_sound : (st : List Frame) (out : List Event) (t : Lexeme) (w r : List Lexeme) → Ended st w out (t ∷ r) → Step w r (ended st out t)
ended_sound (F.Then place ∷ st) out t w r e =
    let h = e.around in
    step_either w r (is_else t.word) _ _
    (λ else_next. (refl, record { s = e.d; l = t; was = e.was; statement = e.taken; else_word = else_of t.word else_next; made = e.made; told = e.told; test = h }))
    (λ other. ended_sound st _ t w r (record {
      d = If h.begun.o h.o h.e h.c e.d;
      was = h.was;
      taken = taken_statement st _ refl h.begun.hole;
      made = (h.begun.is, h.opens, h.expression, h.made, h.close, e.taken, e.made, other);
      told = ap (λ p. node_at p H.If 2 ∷ out) (sym h.begun.start) ∙ ap (λ events. node_at h.begun.o.start H.If 2 ∷ events) (e.told ∙ ap (emit e.d) h.told);
      around = h.begun.below;
    }))
ended_sound (F.Otherwise place ∷ st) out t w r e =
    let g = e.around in
    let h = g.test in
    ended_sound st _ t w r (record {
      d = IfElse h.begun.o h.o h.e h.c g.s g.l e.d;
      was = h.was;
      taken = taken_statement st _ refl h.begun.hole;
      made = (h.begun.is, h.opens, h.expression, h.made, h.close, g.statement, g.made, g.else_word, e.taken, e.made);
      told = ap (λ p. node_at p H.If 3 ∷ out) (sym h.begun.start) ∙ ap (λ events. node_at h.begun.o.start H.If 3 ∷ events) (e.told ∙ ap (emit e.d) (g.told ∙ ap (emit g.s) h.told));
      around = h.begun.below;
    })
ended_sound (F.While place ∷ st) out t w r e =
    let h = e.around in
    ended_sound st _ t w r (record {
      d = While h.begun.o h.o h.e h.c e.d;
      was = h.was;
      taken = taken_statement st _ refl h.begun.hole;
      made = (h.begun.is, h.opens, h.expression, h.made, h.close, e.taken, e.made);
      told = ap (λ p. node_at p H.While 2 ∷ out) (sym h.begun.start) ∙ ap (λ events. node_at h.begun.o.start H.While 2 ∷ events) (e.told ∙ ap (emit e.d) h.told);
      around = h.begun.below;
    })
ended_sound (F.For place ∷ st) out t w r e =
    let c = e.around in
    let u = c.begun in
    let v = u.begun in
    let h = v.begun in
    ended_sound st _ t w r (record {
      d = For h.begun.o h.o v.i v.p u.e u.q c.u c.c e.d;
      was = v.was;
      taken = taken_statement st _ refl h.begun.hole;
      made = (h.begun.is, h.word, v.init, v.bare, v.made, v.semicolon, u.expression, u.made, u.semicolon, c.expression, c.made, c.close, e.taken, e.made);
      told = ap (λ p. node_at p H.For 4 ∷ out) (sym h.begun.start)
          ∙ ap (λ events. node_at h.begun.o.start H.For 4 ∷ events) (e.told ∙ ap (emit e.d) (c.told ∙ ap (emit c.u) (u.told ∙ ap (emit u.e) v.told)));
      around = h.begun.below;
    })
ended_sound (F.Do place ∷ st) out t w r e = do_ended_sound t.word place st out t w r refl e
ended_sound (F.Try place ∷ st) out t w r e = try_ended_sound t.word place st out t w r refl e
ended_sound (F.Catch place n ∷ st) out t w r e =
    let h = e.around in
    let m = h.named.1 in
    let g = m.begun in
    ended_sound st _ t w r (record {
      d = Catch g.w m.o n h.c e.d;
      was = e.was;
      taken = taken_catch st _ refl g.hole;
      made = (g.word, m.opens, h.named.0, h.close, e.taken, e.made);
      told = ap (λ p. node_at p (H.Catch n) 1 ∷ out) (sym g.start) ∙ ap (λ events. node_at g.w.start (H.Catch n) 1 ∷ events) e.told;
      around = g.below;
    })
ended_sound (F.Handled place ∷ st) out t w r e =
    let h = e.around in
    handled_sound t.word place st out t w r _ refl e (ended_sound st _ t w r (record {
      d = Try h.begun.o h.b e.d Absent;
      was = h.was;
      taken = taken_statement st _ refl h.begun.hole;
      made = (h.begun.is, h.block, h.made, or_right _ _ e.taken, e.made, refl, tt, no_absent e.d e.taken);
      told = ap (λ p. node_at p H.Try 3 ∷ E.Absent ∷ out) (sym h.begun.start) ∙ ap (λ events. node_at h.begun.o.start H.Try 3 ∷ E.Absent ∷ events) (e.told ∙ ap (emit e.d) h.told);
      around = h.begun.below;
    }))
ended_sound (F.Finally place ∷ st) out t w r e =
    let f = e.around in
    let h = f.tried in
    ended_sound st _ t w r (record {
      d = Try h.begun.o h.b f.h (Finally f.w e.d);
      was = h.was;
      taken = taken_statement st _ refl h.begun.hole;
      made = (h.begun.is, h.block, h.made, f.handler, f.made, refl, (f.word, e.taken, e.made), never_both (is_absent f.h));
      told = ap (λ p. node_at p H.Try 3 ∷ out) (sym h.begun.start) ∙ ap (λ events. node_at h.begun.o.start H.Try 3 ∷ events) (e.told ∙ ap (emit e.d) (f.told ∙ ap (emit f.h) h.told));
      around = h.begun.below;
    })
ended_sound (F.Script ∷ st) out t w r e =
    let h = e.around in
    start_sound (F.Script ∷ st) out t w r refl (record { l = More h.l e.d; alone = h.alone; list = and_true _ _ h.list e.taken; made = (h.made, e.made); told = e.told ∙ ap (emit e.d) h.told; whole = h.whole })
ended_sound (F.Block place count ∷ st) out t w r e =
    let h = e.around in
    start_sound (F.Block place (count + 1) ∷ st) out t w r refl (record {
      o = h.o;
      l = More h.l e.d;
      was = h.was;
      start = h.start;
      word = h.word;
      hole = h.hole;
      list = and_true _ _ h.list e.taken;
      made = (h.made, e.made);
      counted = ap (λ n. n + 1) h.counted;
      told = e.told ∙ ap (emit e.d) h.told;
      below = h.below;
    })
ended_sound (F.Body owner parameters count ∷ st) out t w r e =
    let h = e.around in
    start_sound (F.Body owner parameters (count + 1) ∷ st) out t w r refl (record {
      b = h.b;
      s = More h.s e.d;
      was = h.was;
      word = h.word;
      list = and_true _ _ h.list e.taken;
      made = (h.made, e.made);
      counted = ap (λ n. n + 1) h.counted;
      told = e.told ∙ ap (emit e.d) h.told;
      header = h.header;
    })
ended_sound (F.CaseBody place count ∷ st) out t w r e =
    let h = e.around in
    start_sound (F.CaseBody place (count + 1) ∷ st) out t w r refl (record {
      e = h.e;
      c = h.c;
      l = More h.l e.d;
      was = h.was;
      expression = h.expression;
      colon = h.colon;
      list = and_true _ _ h.list e.taken;
      made-e = h.made-e;
      made = (h.made, e.made);
      counted = ap (λ n. n + 1) h.counted;
      told = e.told ∙ ap (emit e.d) h.told;
      begun = h.begun;
    })
ended_sound (F.Default place count ∷ F.Switch at clauses default ∷ st) out t w r e =
    let h = e.around.1 in
    start_sound (F.Default place (count + 1) ∷ F.Switch at clauses default ∷ st) out t w r refl (
      e.around.0,
      record {
        c = h.c;
        l = More h.l e.d;
        was = h.was;
        colon = h.colon;
        list = and_true _ _ h.list e.taken;
        made = (h.made, e.made);
        counted = ap (λ n. n + 1) h.counted;
        told = e.told ∙ ap (emit e.d) h.told;
        begun = h.begun;
      },
    )
ended_sound (F.Default place count ∷ st) out t w r e = absurd e.around
ended_sound st out t w r e = tt

-- A STATEMENT ENDS

semicolon_of : (x : Word) → is_semicolon x ≡ true → x ≡ W.Semicolon
semicolon_of W.Semicolon h = refl
semicolon_of x h = cc

pub finish_sound : (continued : Word → Bool) (inserted : Bool) (st : List Frame) (out : List Event) (t : Lexeme) (w r : List Lexeme) → (inserted ≡ true → is_inserted continued t ≡ true)
    → Unended continued st w out (t ∷ r) → Step w r (finish inserted st out t)
finish_sound continued inserted st out t w r is u =
    step_either w r (is_semicolon t.word) _ _
    (λ written. record {
      d = u.d (Written t);
      was = u.was;
      taken = taken_statement st _ (u.statement (Written t)) u.hole;
      made = u.made (Written t) r refl (semicolon_of t.word written);
      told = u.told (Written t);
      around = u.around (Written t) r refl;
    })
    (λ other. step_if w r inserted _ (λ so. ended_sound st out t w r (record {
      d = u.d Inserted;
      was = u.was;
      taken = taken_statement st _ (u.statement Inserted) u.hole;
      made = u.made Inserted (t ∷ r) refl (is so);
      told = u.told Inserted;
      around = u.around Inserted (t ∷ r) refl;
    })))

pub semicolon_sound : (st : List Frame) (out : List Event) (t : Lexeme) (w r : List Lexeme) → Holds M.Semicolon st w out (t ∷ r) → Step w r (semicolon st out t)
semicolon_sound st out t w r u = finish_sound continues_nothing _ st out t w r (λ so. so) u
