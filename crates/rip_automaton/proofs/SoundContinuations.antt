-- What the machine reads behind an operand is so.
use Rattle.std.proofs.Common.{◌≡◌, ℕ, zero, suc, ◌<◌, ◌≤◌, min, nat_le, Bool, true, false, not, ◌&&◌, ◌||◌, List, [], ◌∷◌, Some, None, refl, sym, ap, ◌∙◌, subst, arith}
use Rattle.rip_grammar.specs.declared.word.Word.{Word}
use Rattle.rip_grammar.specs.declared.word.Word.TheVariants as W
use Rattle.rip_grammar.specs.declared.word.Lexeme.{Lexeme}
use Rattle.rip_grammar.specs.declared.event.Head.TheVariants as H
use Rattle.rip_grammar.specs.declared.event.Event.{Event}
use Rattle.rip_grammar.specs.declared.event.Event.TheVariants as E
use Rattle.rip_automaton.specs.declared.frame.Pending.TheVariants as P
use Rattle.rip_automaton.specs.declared.frame.Invocation.TheVariants as I
use Rattle.rip_automaton.specs.declared.frame.Header.{Header}
use Rattle.rip_automaton.specs.declared.frame.Header.TheVariants as C
use Rattle.rip_automaton.specs.declared.frame.VarRole.TheVariants as V
use Rattle.rip_automaton.specs.declared.frame.Frame.{Frame}
use Rattle.rip_automaton.specs.declared.frame.Frame.TheVariants as F
use Rattle.rip_automaton.specs.declared.mode.Mode.TheVariants as M
use Rattle.rip_automaton.specs.declared.mode.Shape.{Shape}
use Rattle.rip_grammar.specs.Words.{is_in, is_comma, is_step, is_assignment, is_no_beginning, is_close, is_semicolon}
use Rattle.rip_grammar.specs.Phrases.{Ending, Written, Inserted, Phrase, Absent, Nothing, Single, Array, Object, Parenthesized, Member, Index, New, NewCall, Call, Postfix, Prefix, Infix, Conditional, Assignment, Function, DoWhile, Bindings, Initialised, Expression, Return, Throw, spell}
use Rattle.rip_grammar.specs.Levels.{level, binds, is_target}
use Rattle.rip_grammar.specs.Semicolons.{Next, IsEnded, continues, ends_postfix, is_inserted, has_bare_in}
use Rattle.rip_grammar.specs.Grammar.{IsMade, IsOnLine, holds, is_expression, may_be_expression, is_init, continues_return}
use Rattle.rip_grammar.specs.Events.{emit, node_at, node_behind}
use Rattle.rip_automaton.specs.States.{At}
use Rattle.rip_automaton.specs.Frames.{may_be_target, in_postfix, top_floor, top_bars}
use Rattle.rip_automaton.specs.Statements.{finish}
use Rattle.rip_automaton.specs.Headers.{declared}
use Rattle.rip_automaton.specs.Continuations.{test_by, parenthesis_by, index_by, header_ends, header_by, for_test_ended, for_update_ended, case_by, close, leave, operator_begins, operator, comma, assign, question, call, postfix, after_mark, after_by, after}
use Rattle.rip_automaton.proofs.Open.{is_new, top, shape, Bars, Open, Operand, Read, Holds, Step, First, InJump, BehindCondition}
use Rattle.rip_automaton.proofs.Shaping.{target_ends, may_be_target_of, in_postfix_of, enclosed_of}
use Rattle.rip_automaton.proofs.Floors.{le_true, binds_most, binds_gap, no_comma_binds}
use Rattle.rip_automaton.proofs.SoundOperands.{step_if, step_either, tight_read, at_least}
use Rattle.rip_automaton.proofs.SoundOperators.{stops, reduce_sound, fits_at}
use Rattle.rip_automaton.proofs.SoundLiterals.{arguments_by_sound, elements_by_sound, entries_by_sound}
use Rattle.rip_automaton.proofs.SoundStatements.{finish_sound}
use Rattle.rip_automaton.proofs.SoundHeaders.{init_ended_sound, test_ended_sound, update_ended_sound, declared_sound}

le_of : (a b : ℕ) → nat_le a b ≡ true → a ≤ b
le_of a b h = grind (arith, h)

-- WHERE NO OPERATOR IS OPEN

test_by_sound : (x : Word) (sh : Shape) (st : List Frame) (out : List Event) (t : Lexeme) (w r : List Lexeme) → t.word ≡ x → Operand sh (F.Test ∷ st) w out (t ∷ r) → Step w r (test_by x st out)
test_by_sound W.Colon sh st out t w r is e =
    let h = e.around in (
      refl,
      record {
        a = h.a;
        q = h.q;
        m = e.d;
        c = t;
        was = h.was;
        question = h.word;
        colon = is;
        test = h.test;
        middle = e.fits;
        fits = h.fits;
        bars = refl;
        bare = h.bare;
        hole = h.hole;
        made-a = h.made;
        made-m = e.made;
        told = e.told ∙ ap (emit e.d) h.told;
        below = h.below;
      },
    )
test_by_sound x sh st out t w r is e = tt

parenthesis_by_sound : (x : Word) (place : ℕ) (sh : Shape) (st : List Frame) (out : List Event) (t : Lexeme) (w r : List Lexeme) → t.word ≡ x → Operand sh (F.Parenthesis place ∷ st) w out (t ∷ r)
    → Step w r (parenthesis_by x place sh st out)
parenthesis_by_sound W.CloseParenthesis place sh st out t w r is e =
    let h = e.around in
    tight_read _ st w _ r (Parenthesized h.o e.d t) e.was (enclosed_of sh e.d e.shaped) refl (λ new. refl) refl h.hole
    (h.word, e.fits, e.made, is)
    (ap (λ p. E.Parenthesized p ∷ out) (sym h.start) ∙ ap (λ events. E.Parenthesized h.o.start ∷ events) e.told)
    h.below
parenthesis_by_sound x place sh st out t w r is e = tt

index_by_sound : (x : Word) (sh : Shape) (st : List Frame) (out : List Event) (t : Lexeme) (w r : List Lexeme) → t.word ≡ x → Operand sh (F.Index ∷ st) w out (t ∷ r) → Step w r (index_by x st out)
index_by_sound W.CloseBracket sh st out t w r is e =
    let h = e.around in
    tight_read _ st w _ r (Index h.base h.o e.d t) h.was refl (at_least 17 h.base (omega arith) h.tight) (λ new. at_least 18 h.base (omega arith) (h.tighter new)) refl h.hole
    (h.tight, h.made, h.word, e.fits, e.made, is)
    (ap (λ events. node_behind H.Index 2 ∷ events) (e.told ∙ ap (emit e.d) h.told))
    h.below
index_by_sound x sh st out t w r is e = tt

-- behind the expression of a header
behind_condition : (x : Word) (place : ℕ) (st : List Frame) (out : List Event) (t : Lexeme) (w r : List Lexeme) → t.word ≡ W.CloseParenthesis → (e : Phrase) (was : List Event) (o : Lexeme)
    → o.word ≡ W.OpenParenthesis → is_expression e ≡ true → IsMade e (t ∷ r) → out ≡ emit e was → InJump x place st (Open st w) was (o ∷ spell e (t ∷ r))
    → BehindCondition x place st (Open st w) out r
behind_condition x place st out t w r is e was o opens so made told h =
    record { o = o; e = e; c = t; was = was; opens = opens; expression = so; close = is; made = made; told = told; begun = h }

header_ends_sound : (header : Header) (place : ℕ) (sh : Shape) (st : List Frame) (out : List Event) (t : Lexeme) (w r : List Lexeme) → t.word ≡ W.CloseParenthesis
    → Operand sh (F.Condition header place ∷ st) w out (t ∷ r) → Step w r (header_ends header place st out)
header_ends_sound C.If place sh st out t w r is e =
    let h = e.around in (refl, behind_condition W.If place st out t w r is e.d e.was h.o h.word e.fits e.made e.told h.header_read)
header_ends_sound C.While place sh st out t w r is e =
    let h = e.around in (refl, behind_condition W.While place st out t w r is e.d e.was h.o h.word e.fits e.made e.told h.header_read)
header_ends_sound C.Switch place sh st out t w r is e =
    let h = e.around in (place, st, refl, behind_condition W.Switch place st out t w r is e.d e.was h.o h.word e.fits e.made e.told h.header_read)
header_ends_sound C.DoWhile place sh st out t w r is e =
    let h = e.around in
    let g = h.header_read in
    record {
      d = λ z. DoWhile g.d g.s g.w h.o e.d t z;
      was = g.was;
      statement = λ z. refl;
      hole = g.hole;
      made = λ z q same ended. (
        g.do_word,
        g.statement,
        subst (λ x. IsMade g.s (g.w ∷ h.o ∷ spell e.d (t ∷ x))) (sym same) g.made,
        g.while_word,
        h.word,
        e.fits,
        subst (λ x. IsMade e.d (t ∷ x)) (sym same) e.made,
        is,
        ended,
      );
      told = λ z. ap (λ p. node_at p H.DoWhile 2 ∷ out) (sym g.start) ∙ ap (λ events. node_at g.d.start H.DoWhile 2 ∷ events) (e.told ∙ ap (emit e.d) g.told);
      around = λ z q same. subst (λ x. Open st w g.was (g.d ∷ spell g.s (g.w ∷ h.o ∷ spell e.d (t ∷ x)))) (sym same) g.below;
    }

header_by_sound : (x : Word) (header : Header) (place : ℕ) (sh : Shape) (st : List Frame) (out : List Event) (t : Lexeme) (w r : List Lexeme) → t.word ≡ x
    → Operand sh (F.Condition header place ∷ st) w out (t ∷ r) → Step w r (header_by x header place st out)
header_by_sound W.CloseParenthesis header place sh st out t w r is e = header_ends_sound header place sh st out t w r is e
header_by_sound x header place sh st out t w r is e = tt

or_right : (a b : Bool) → b ≡ true → (a || b) ≡ true
or_right true b h = refl
or_right false b h = h

-- an expression is one that may be left out
may_be_absent : (e : Phrase) → is_expression e ≡ true → may_be_expression e ≡ true
may_be_absent e so = or_right _ _ so

case_by_sound : (x : Word) (place : ℕ) (sh : Shape) (st : List Frame) (out : List Event) (t : Lexeme) (w r : List Lexeme) → t.word ≡ x → Operand sh (F.Case place ∷ st) w out (t ∷ r) → Step w r (case_by x place st out)
case_by_sound W.Colon place sh st out t w r is e =
    (refl, record { e = e.d; c = t; l = Nothing; was = e.was; expression = e.fits; colon = is; list = refl; made-e = e.made; made = tt; counted = refl; told = e.told; begun = e.around })
case_by_sound x place sh st out t w r is e = tt

-- WHERE AN EXPRESSION BEGINS

tight_expression : (n : ℕ) (d : Phrase) → 1 ≤ n → holds n d ≡ true → is_expression d ≡ true
tight_expression n d least h = let at : n ≤ level d = le_of n (level d) h in le_true 1 (level d) (omega arith)

-- a target is an expression
target_expression : (d : Phrase) (q : List Lexeme) → is_target d ≡ true → IsMade d q → is_expression d ≡ true
target_expression (Single t) q h made = refl
target_expression (Member b p n) q h made = let tight : 17 ≤ level b = le_of 17 (level b) made.0 in le_true 1 (min 18 (level b)) (omega arith)
target_expression (Index b o e c) q h made = let tight : 17 ≤ level b = le_of 17 (level b) made.0 in le_true 1 (min 18 (level b)) (omega arith)
target_expression (Parenthesized o e c) q h made = refl
target_expression d q h made = cc

-- what is said of its first lexeme doesn't look at what follows it
next_same : (d : Phrase) (q s : List Lexeme) (P : Lexeme → Type 0) → is_expression d ≡ true → IsMade d q → Next (spell d q) P → Next (spell d s) P
next_same (Single t) q s P so made next = next
next_same (Array o l c) q s P so made next = next
next_same (Object o l c) q s P so made next = next
next_same (Parenthesized o e c) q s P so made next = next
next_same (Function f n o l c b k d) q s P so made next = next
next_same (New w f) q s P so made next = next
next_same (NewCall w f o l c) q s P so made next = next
next_same (Prefix o e) q s P so made next = next
next_same (Member b p n) q s P so made next = next_same b (p ∷ n ∷ q) (p ∷ n ∷ s) P (tight_expression 17 b (omega arith) made.0) made.1 next
next_same (Index b o e c) q s P so made next = next_same b (o ∷ spell e (c ∷ q)) (o ∷ spell e (c ∷ s)) P (tight_expression 17 b (omega arith) made.0) made.1 next
next_same (Call f o l c) q s P so made next = next_same f (o ∷ spell l (c ∷ q)) (o ∷ spell l (c ∷ s)) P (tight_expression 17 f (omega arith) made.0) made.1 next
next_same (Postfix e o) q s P so made next = next_same e (o ∷ q) (o ∷ s) P (tight_expression 16 e (omega arith) made.0) made.2 next
next_same (Infix a o b) q s P so made next =
    let binding : 0 < binds o.word = made.0 in
    let left : binds o.word ≤ level a = made.1 in
    next_same a (o ∷ spell b q) (o ∷ spell b s) P (le_true 1 (level a) (omega arith)) made.3 next
next_same (Conditional a x b c d) q s P so made next = next_same a (x ∷ spell b (c ∷ spell d q)) (x ∷ spell b (c ∷ spell d s)) P (tight_expression 4 a (omega arith) made.0) made.1 next
next_same (Assignment a o b) q s P so made next = next_same a (o ∷ spell b q) (o ∷ spell b s) P (target_expression a _ made.0 made.1) made.1 next
next_same d q s P so made next = cc

-- behind `return` and `throw` it begins on their line
on_line_of : (e : Phrase) → is_expression e ≡ true → Next (spell e []) (λ t. t.line_before ≡ false) → IsOnLine e
on_line_of Absent so next = tt
on_line_of e so next = next

return_continues : (e : Phrase) (x : Word) → is_expression e ≡ true → continues (ends_postfix e) x ≡ continues_return e x
return_continues Absent x so = cc
return_continues e x so = refl

init_of : (e : Phrase) → is_expression e ≡ true → is_init e ≡ true
init_of (Bindings v l) so = refl
init_of e so = may_be_absent e so

-- the same lexeme ends a statement, where the same words continue it
same_inserted : (a b : Word → Bool) (t : Lexeme) → a t.word ≡ b t.word → is_inserted a t ≡ true → is_inserted b t ≡ true
same_inserted a b t same h = subst (λ c. ((is_close t.word || t.line_before) && not (is_semicolon t.word) && not c) ≡ true) same h

same_ended : (a b : Word → Bool) (z : Ending) (q : List Lexeme) → ((x : Word) → a x ≡ b x) → IsEnded a z q → IsEnded b z q
same_ended a b (Written t) q same h = h
same_ended a b Inserted [] same h = h
same_ended a b Inserted (t ∷ q) same h = same_inserted a b t (same t.word) h

shape_inserted : (sh : Shape) (d : Phrase) (t : Lexeme) → sh ≡ shape d → is_inserted (continues (in_postfix sh)) t ≡ true → is_inserted (continues (ends_postfix d)) t ≡ true
shape_inserted sh d t is h = subst (λ p. is_inserted (continues p) t ≡ true) (in_postfix_of sh d is) h

-- an expression statement, a `return`, a `throw` ends
expression_ends : (sh : Shape) (st : List Frame) (out : List Event) (t : Lexeme) (w r : List Lexeme) → Operand sh (F.Expression ∷ st) w out (t ∷ r)
    → Step w r (finish (is_inserted (continues (in_postfix sh)) t) st (node_behind H.Expression 1 ∷ out) t)
expression_ends sh st out t w r e =
    let h = e.around in
    finish_sound (continues (ends_postfix e.d)) _ st _ t w r (shape_inserted sh e.d t e.shaped) (record {
      d = λ z. Expression e.d z;
      was = e.was;
      statement = λ z. refl;
      hole = h.hole;
      made = λ z q same ended. (e.fits, next_same e.d (t ∷ r) [] (λ x. is_no_beginning x.word ≡ false) e.fits e.made h.first, subst (IsMade e.d) (sym same) e.made, ended);
      told = λ z. ap (λ events. node_behind H.Expression 1 ∷ events) e.told;
      around = λ z q same. subst (λ x. Open st w e.was (spell e.d x)) (sym same) h.below;
    })

return_given : (place : ℕ) (sh : Shape) (st : List Frame) (out : List Event) (t : Lexeme) (w r : List Lexeme) → Operand sh (F.Return place ∷ st) w out (t ∷ r)
    → Step w r (finish (is_inserted (continues (in_postfix sh)) t) st (node_at place H.Return 1 ∷ out) t)
return_given place sh st out t w r e =
    let h = e.around.0 in
    finish_sound (continues (ends_postfix e.d)) _ st _ t w r (shape_inserted sh e.d t e.shaped) (record {
      d = λ z. Return h.o e.d z;
      was = e.was;
      statement = λ z. refl;
      hole = h.hole;
      made = λ z q same ended. (
        h.is,
        may_be_absent e.d e.fits,
        on_line_of e.d e.fits (next_same e.d (t ∷ r) [] (λ x. x.line_before ≡ false) e.fits e.made e.around.1),
        subst (IsMade e.d) (sym same) e.made,
        same_ended (continues (ends_postfix e.d)) (continues_return e.d) z q (λ x. return_continues e.d x e.fits) ended,
      );
      told = λ z. ap (λ p. node_at p H.Return 1 ∷ out) (sym h.start) ∙ ap (λ events. node_at h.o.start H.Return 1 ∷ events) e.told;
      around = λ z q same. subst (λ x. Open st w e.was (h.o ∷ spell e.d x)) (sym same) h.below;
    })

throw_given : (place : ℕ) (sh : Shape) (st : List Frame) (out : List Event) (t : Lexeme) (w r : List Lexeme) → Operand sh (F.Throw place ∷ st) w out (t ∷ r)
    → Step w r (finish (is_inserted (continues (in_postfix sh)) t) st (node_at place H.Throw 1 ∷ out) t)
throw_given place sh st out t w r e =
    let h = e.around.0 in
    finish_sound (continues (ends_postfix e.d)) _ st _ t w r (shape_inserted sh e.d t e.shaped) (record {
      d = λ z. Throw h.o e.d z;
      was = e.was;
      statement = λ z. refl;
      hole = h.hole;
      made = λ z q same ended. (
        h.is,
        e.fits,
        on_line_of e.d e.fits (next_same e.d (t ∷ r) [] (λ x. x.line_before ≡ false) e.fits e.made e.around.1),
        subst (IsMade e.d) (sym same) e.made,
        ended,
      );
      told = λ z. ap (λ p. node_at p H.Throw 1 ∷ out) (sym h.start) ∙ ap (λ events. node_at h.o.start H.Throw 1 ∷ events) e.told;
      around = λ z q same. subst (λ x. Open st w e.was (h.o ∷ spell e.d x)) (sym same) h.below;
    })

-- the value of a declarator
initialised_ends : (n : Lexeme) (b : Bool) (sh : Shape) (st : List Frame) (out : List Event) (t : Lexeme) (w r : List Lexeme) → Operand sh (F.Initialised n b ∷ st) w out (t ∷ r)
    → Step w r (declared (is_inserted (continues (in_postfix sh)) t) st (node_at n.start (H.Declarator n) 1 ∷ out) t)
initialised_ends n b sh [] out t w r e = tt
initialised_ends n b sh (F.Declarators V.Statement place count ∷ st) out t w r e =
    let h = e.around in
    declared_sound V.Statement _ place count st _ e.was t w r (Initialised n h.q e.d) refl (h.name, h.equals, e.fits, e.made) (ap (λ events. node_at n.start (H.Declarator n) 1 ∷ events) e.told)
    (λ never. cc) h.below (shape_inserted sh e.d t e.shaped)
initialised_ends n b sh (F.Declarators V.Init place count ∷ st) out t w r e =
    let h = e.around in
    declared_sound V.Init _ place count st _ e.was t w r (Initialised n h.q e.d) refl (h.name, h.equals, e.fits, e.made) (ap (λ events. node_at n.start (H.Declarator n) 1 ∷ events) e.told)
    (λ barred. e.bare h.bars) h.below (shape_inserted sh e.d t e.shaped)
initialised_ends n b sh (f ∷ st) out t w r e = tt

for_test_ended_sound : (x : Word) (place : ℕ) (sh : Shape) (st : List Frame) (out : List Event) (t : Lexeme) (w r : List Lexeme) → t.word ≡ x → Operand sh (F.ForTest place ∷ st) w out (t ∷ r)
    → Step w r (for_test_ended x (F.ForTest place ∷ st) out)
for_test_ended_sound W.Semicolon place sh st out t w r is e = test_ended_sound place st out t w r e.d e.was is (may_be_absent e.d e.fits) e.made e.told e.around
for_test_ended_sound x place sh st out t w r is e = tt

for_update_ended_sound : (x : Word) (place : ℕ) (sh : Shape) (st : List Frame) (out : List Event) (t : Lexeme) (w r : List Lexeme) → t.word ≡ x → Operand sh (F.ForUpdate place ∷ st) w out (t ∷ r)
    → Step w r (for_update_ended x (F.ForUpdate place ∷ st) out)
for_update_ended_sound W.CloseParenthesis place sh st out t w r is e = update_ended_sound place st out t w r e.d e.was is (may_be_absent e.d e.fits) e.made e.told e.around
for_update_ended_sound x place sh st out t w r is e = tt

close_sound : (sh : Shape) (st : List Frame) (out : List Event) (t : Lexeme) (w r : List Lexeme) → Operand sh st w out (t ∷ r) → Step w r (close sh st out t)
close_sound sh (F.Test ∷ st) out t w r e = test_by_sound t.word sh st out t w r refl e
close_sound sh (F.Parenthesis place ∷ st) out t w r e = parenthesis_by_sound t.word place sh st out t w r refl e
close_sound sh (F.Index ∷ st) out t w r e = index_by_sound t.word sh st out t w r refl e
close_sound sh (F.Arguments invocation count ∷ st) out t w r e = arguments_by_sound t.word invocation count sh st out t w r refl e
close_sound sh (F.Elements place count ∷ st) out t w r e = elements_by_sound t.word place count sh st out t w r refl e
close_sound sh (F.Entry place count k ∷ st) out t w r e = entries_by_sound t.word place count k sh st out t w r refl e
close_sound sh (F.Initialised n b ∷ st) out t w r e = initialised_ends n b sh st out t w r e
close_sound sh (F.Expression ∷ st) out t w r e = expression_ends sh st out t w r e
close_sound sh (F.Return place ∷ st) out t w r e = return_given place sh st out t w r e
close_sound sh (F.Throw place ∷ st) out t w r e = throw_given place sh st out t w r e
close_sound sh (F.Condition header place ∷ st) out t w r e = header_by_sound t.word header place sh st out t w r refl e
close_sound sh (F.ForInit place ∷ st) out t w r e = init_ended_sound place st out t w r e.d e.was (init_of e.d e.fits) (e.bare refl) e.made e.told e.around
close_sound sh (F.ForTest place ∷ st) out t w r e = for_test_ended_sound t.word place sh st out t w r refl e
close_sound sh (F.ForUpdate place ∷ st) out t w r e = for_update_ended_sound t.word place sh st out t w r refl e
close_sound sh (F.Case place ∷ st) out t w r e = case_by_sound t.word place sh st out t w r refl e
close_sound sh st out t w r e = tt

-- BEHIND AN OPERAND

read_level : (n : ℕ) (d : Phrase) → n ≤ 15 → holds 15 d ≡ true → n ≤ level d
read_level n d few h = let at : 15 ≤ level d = le_of 15 (level d) h in omega arith

leave_sound : (sh : Shape) (st : List Frame) (out : List Event) (t : Lexeme) (w r : List Lexeme) → Read sh st w out (t ∷ r) → Step w r (leave sh st out t)
leave_sound sh st out t w r h =
    reduce_sound 1 (top_bars st) sh st out _ w (t ∷ r) r refl h.operand (read_level 1 h.operand.d (omega arith) h.tight) (λ shape-after below events e. close_sound shape-after below events t w r e.operand)

never_stops : (n m : ℕ) → n ≤ 13 → 14 ≤ m → not (nat_le n m) ≡ true → ⊥
never_stops n m most high h = grind (arith, most, high, h)

-- what is below the operators that have ended holds less tightly
stopped_floor : (n : ℕ) (st : List Frame) → 2 ≤ n → n ≤ 13 → stops n st ≡ true → top_floor st ≤ n
stopped_floor n [] least most h = least
stopped_floor n (F.Operator (P.Infix x) b ∷ st) least most h = grind (arith, h)
stopped_floor n (F.Operator (P.Prefix place x) b ∷ st) least most h = absurd (never_stops n 14 most (omega arith) h)
stopped_floor n (F.Operator (P.New place) b ∷ st) least most h = absurd (never_stops n 16 most (omega arith) h)
stopped_floor n (F.Operator (P.Assignment x) b ∷ st) least most h = omega arith
stopped_floor n (F.Operator P.Choice b ∷ st) least most h = omega arith
stopped_floor n (f ∷ st) least most h = omega arith

or_false : (x y : Bool) → x ≡ false → y ≡ false → (x || y) ≡ false
or_false true y h g = cc
or_false false y h g = g

-- an operator between two operands
infix_begins : (x : Word) (sh : Shape) (st : List Frame) (out : List Event) (t : Lexeme) (w r : List Lexeme) → t.word ≡ x → 0 < binds x → (e : Operand sh st w out (t ∷ r)) → binds x ≤ level e.d
    → top_floor st ≤ binds x → Bars (top_bars st) (is_in x) → Step w r (operator_begins x st out)
infix_begins x sh st out t w r is binding e left fits bare = (
  refl,
  record {
    a = e.d;
    o = t;
    was = e.was;
    word = is;
    binding = binding;
    left = left;
    fits = fits;
    bars = refl;
    bare = λ barred. or_false (is_in x) (has_bare_in e.d) (bare barred) (e.bare barred);
    hole = e.hole;
    made = e.made;
    told = e.told;
    below = e.around;
  },
)

-- a bare `in` is not there where it is barred
barred_in : (i b : Bool) → (i && b) ≡ false → Bars b i
barred_in true true h barred = cc
barred_in true false h barred = cc
barred_in false b h barred = refl

operator_sound : (n : ℕ) (sh : Shape) (st : List Frame) (out : List Event) (t : Lexeme) (w r : List Lexeme) → binds t.word ≡ n → 2 ≤ n → Read sh st w out (t ∷ r) → Step w r (operator n sh st out t)
operator_sound n sh st out t w r is least h =
    step_either w r (is_in t.word && top_bars st) None _ (λ never. tt) (λ taken.
    let most : binds t.word ≤ 13 = binds_most t.word in
    reduce_sound n (top_bars st) sh st out _ w (t ∷ r) r refl h.operand (read_level n h.operand.d (omega arith) h.tight) (λ shape-after below events e.
    let floors : top_floor below ≤ n = stopped_floor n below least (omega arith) e.stopped in
    let left : n ≤ level e.operand.d = e.tight in
    infix_begins t.word shape-after below events t w r refl (omega arith) e.operand (omega arith) (omega arith)
    (subst (λ b. Bars b (is_in t.word)) (sym e.same) (barred_in (is_in t.word) (top_bars st) taken))))

-- a comma
comma_of : (x : Word) → is_comma x ≡ true → x ≡ W.Comma
comma_of W.Comma h = refl
comma_of x h = cc

comma_bare : (x : Word) → x ≡ W.Comma → is_in x ≡ false
comma_bare x is = ap is_in is

comma_binds : (x : Word) → x ≡ W.Comma → binds x ≡ 1
comma_binds x is = ap binds is

comma_sound : (sh : Shape) (st : List Frame) (out : List Event) (t : Lexeme) (w r : List Lexeme) → is_comma t.word ≡ true → Read sh st w out (t ∷ r) → Step w r (comma sh st out t)
comma_sound sh st out t w r is h =
    let one : binds t.word ≡ 1 = comma_binds t.word (comma_of t.word is) in
    reduce_sound 1 (top_bars st) sh st out _ w (t ∷ r) r refl h.operand (read_level 1 h.operand.d (omega arith) h.tight) (λ shape-after below events e.
    step_either w r (nat_le (top_floor below) 1) _ _
    (λ loose.
    let floors : top_floor below ≤ 1 = le_of (top_floor below) 1 loose in
    let left : 1 ≤ level e.operand.d = e.tight in
    infix_begins t.word shape-after below events t w r refl (omega arith) e.operand (omega arith) (omega arith) (λ barred. comma_bare t.word (comma_of t.word is)))
    (λ ends. close_sound shape-after below events t w r e.operand))

-- an assignment
both_of : (a b : Bool) → (a && b) ≡ true → (a ≡ true) × (b ≡ true)
both_of true b h = (refl, h)
both_of false b h = cc

assign_sound : (sh : Shape) (st : List Frame) (out : List Event) (t : Lexeme) (w r : List Lexeme) → is_assignment t.word ≡ true → Read sh st w out (t ∷ r) → Step w r (assign sh st out t)
assign_sound sh st out t w r is h =
    let e = h.operand in
    step_if w r (may_be_target sh && nat_le (top_floor st) 2) _ (λ so.
    let both = both_of (may_be_target sh) (nat_le (top_floor st) 2) so in (
      refl,
      record {
        a = e.d;
        o = t;
        was = e.was;
        word = refl;
        assigns = is;
        target = sym (may_be_target_of sh e.d e.shaped) ∙ both.0;
        fits = le_of (top_floor st) 2 both.1;
        bars = refl;
        hole = e.hole;
        made = e.made;
        told = e.told;
        below = e.around;
      },
    ))

never_stops_4 : (n : ℕ) → 4 ≤ n → not (nat_le 4 n) ≡ true → ⊥
never_stops_4 n h g = grind (arith, h, g)

stops_below : (n : ℕ) → not (nat_le 4 n) ≡ true → n < 4
stops_below n h = grind (arith, h)

-- below the test of a choice nothing holds tighter than a choice
question_floor : (st : List Frame) → stops 4 st ≡ true → top_floor st ≤ 3
question_floor [] h = omega arith
question_floor (F.Operator (P.Infix x) b ∷ st) h = let few : binds x ≤ 1 = binds_gap x (stops_below (binds x) h) in omega arith
question_floor (F.Operator (P.Prefix place x) b ∷ st) h = cc
question_floor (F.Operator (P.New place) b ∷ st) h = cc
question_floor (F.Operator (P.Assignment x) b ∷ st) h = omega arith
question_floor (F.Operator P.Choice b ∷ st) h = omega arith
question_floor (f ∷ st) h = omega arith

-- a `new` asks for more than a postfix operator is
new_floor : (st : List Frame) → top is_new st ≡ true → top_floor st ≤ 15 → ⊥
new_floor [] new few = cc
new_floor (F.Operator (P.New place) b ∷ st) new few = omega arith
new_floor (f ∷ st) new few = cc

-- the test of a choice
question_sound : (sh : Shape) (st : List Frame) (out : List Event) (t : Lexeme) (w r : List Lexeme) → t.word ≡ W.Question → Read sh st w out (t ∷ r) → Step w r (question sh st out)
question_sound sh st out t w r is h =
    reduce_sound 4 (top_bars st) sh st out _ w (t ∷ r) r refl h.operand (read_level 4 h.operand.d (omega arith) h.tight) (λ shape-after below events e. (
      refl,
      record {
        a = e.operand.d;
        q = t;
        was = e.operand.was;
        word = is;
        test = le_true 4 (level e.operand.d) e.tight;
        fits = question_floor below e.stopped;
        bare = e.operand.bare;
        hole = e.operand.hole;
        made = e.operand.made;
        told = e.operand.told;
        below = e.operand.around;
      },
    ))

-- arguments
arguments_begin : (sh : Shape) (st : List Frame) (out : List Event) (t : Lexeme) (w r : List Lexeme) → t.word ≡ W.OpenParenthesis → in_postfix sh ≡ false → top is_new st ≡ false
    → Read sh st w out (t ∷ r) → Step w r (Some (At M.Argument (F.Arguments I.Call 0 ∷ st) out))
arguments_begin sh st out t w r is plain no_new h =
    let e = h.operand in (
      I.Call,
      st,
      refl,
      record {
        f = e.d;
        o = t;
        prior = First;
        was = e.was;
        word = is;
        tight = h.primary plain;
        no_new = no_new;
        hole = e.hole;
        made = e.made;
        before = tt;
        counted = refl;
        told = e.told;
        below = e.around;
      },
    )

call_sound : (sh : Shape) (st : List Frame) (out : List Event) (t : Lexeme) (w r : List Lexeme) → t.word ≡ W.OpenParenthesis → in_postfix sh ≡ false → Read sh st w out (t ∷ r)
    → Step w r (call st out)
call_sound sh (F.Operator (P.New place) b ∷ st) out t w r is plain h =
    let e = h.operand in
    let n = e.around in (
      I.New place,
      st,
      refl,
      record {
        n = n.o;
        f = e.d;
        o = t;
        prior = First;
        was = e.was;
        start = n.start;
        new_word = n.word;
        word = is;
        tight = h.behind_new refl;
        hole = n.hole;
        made = e.made;
        before = tt;
        counted = refl;
        told = e.told;
        below = n.below;
      },
    )
call_sound sh st out t w r is plain h = arguments_begin sh st out t w r is plain refl h

-- a postfix operator
postfix_sound : (sh : Shape) (st : List Frame) (out : List Event) (t : Lexeme) (w r : List Lexeme) → is_step t.word ≡ true → t.line_before ≡ false → Read sh st w out (t ∷ r)
    → Step w r (postfix sh st out t)
postfix_sound sh st out t w r is here h =
    let e = h.operand in
    step_if w r (may_be_target sh && nat_le (top_floor st) 15) _ (λ so.
    let both = both_of (may_be_target sh) (nat_le (top_floor st) 15) so in
    let target : is_target e.d ≡ true = sym (may_be_target_of sh e.d e.shaped) ∙ both.0 in
    let floors : top_floor st ≤ 15 = le_of (top_floor st) 15 both.1 in
    let tight : holds 17 e.d ≡ true = h.primary (in_postfix_of sh e.d e.shaped ∙ target_ends e.d target) in
    let at : 17 ≤ level e.d = le_of 17 (level e.d) tight in
    record {
      operand = record {
        d = Postfix e.d t;
        was = e.was;
        shaped = refl;
        fits = fits_at st (Postfix e.d t) 15 e.hole (omega arith) floors refl;
        bare = λ barred. refl;
        hole = e.hole;
        made = (le_true 16 (level e.d) (omega arith), target, e.made, is, here);
        told = ap (λ events. node_behind (H.Postfix t.word) 1 ∷ events) e.told;
        around = e.around;
      };
      tight = refl;
      primary = λ plain. cc;
      behind_new = λ new. absurd (new_floor st new floors);
      behind_postfix = λ is_postfix. floors;
    })

after_mark_sound : (x : Word) (sh : Shape) (st : List Frame) (out : List Event) (t : Lexeme) (w r : List Lexeme) → t.word ≡ x → Read sh st w out (t ∷ r) → Step w r (after_mark x sh st out t)
after_mark_sound W.Question sh st out t w r is h = question_sound sh st out t w r is h
after_mark_sound W.Point sh st out t w r is h =
    let e = h.operand in
    step_either w r (in_postfix sh) None _ (λ never. tt) (λ plain. record {
      base = e.d;
      p = t;
      was = e.was;
      word = is;
      tight = h.primary plain;
      tighter = h.behind_new;
      hole = e.hole;
      made = e.made;
      told = e.told;
      around = e.around;
    })
after_mark_sound W.OpenParenthesis sh st out t w r is h =
    step_either w r (in_postfix sh) _ _ (λ behind. leave_sound sh st out t w r h) (λ plain. call_sound sh st out t w r is plain h)
after_mark_sound W.OpenBracket sh st out t w r is h =
    let e = h.operand in
    step_either w r (in_postfix sh) _ _ (λ behind. leave_sound sh st out t w r h) (λ plain. (
      refl,
      record {
        base = e.d;
        o = t;
        was = e.was;
        word = is;
        tight = h.primary plain;
        tighter = h.behind_new;
        hole = e.hole;
        made = e.made;
        told = e.told;
        below = e.around;
      },
    ))
after_mark_sound (W.Step op) sh st out t w r is h =
    step_either w r t.line_before _ _ (λ behind. leave_sound sh st out t w r h) (λ here. postfix_sound sh st out t w r (ap is_step is) here h)
after_mark_sound x sh st out t w r is h = leave_sound sh st out t w r h

after_by_sound : (n : ℕ) (sh : Shape) (st : List Frame) (out : List Event) (t : Lexeme) (w r : List Lexeme) → binds t.word ≡ n → Read sh st w out (t ∷ r) → Step w r (after_by n sh st out t)
after_by_sound zero sh st out t w r is h =
    step_either w r (is_assignment t.word) _ _ (λ assigns. assign_sound sh st out t w r assigns h) (λ other. after_mark_sound t.word sh st out t w r refl h)
after_by_sound (suc n) sh st out t w r is h =
    step_either w r (is_comma t.word) _ _ (λ comma_next. comma_sound sh st out t w r comma_next h) (λ other. operator_sound (suc n) sh st out t w r is (no_comma_binds t.word (suc n) is other (omega arith)) h)

pub after_sound : (sh : Shape) (st : List Frame) (out : List Event) (t : Lexeme) (w r : List Lexeme) → Holds (M.After sh) st w out (t ∷ r) → Step w r (after sh st out t)
after_sound sh st out t w r h = after_by_sound (binds t.word) sh st out t w r refl h
