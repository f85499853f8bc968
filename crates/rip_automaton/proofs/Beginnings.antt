-- The first lexeme of an expression, and of a statement.
use Rattle.std.proofs.Common.{◌≡◌, ℕ, ◌<◌, ◌≤◌, Bool, true, false, ◌||◌, List, [], ◌∷◌, refl, sym, ap, arith}
use Rattle.rip_grammar.specs.declared.word.Word.{Word}
use Rattle.rip_grammar.specs.declared.word.Word.TheVariants as W
use Rattle.rip_grammar.specs.declared.word.Lexeme.{Lexeme}
use Rattle.rip_grammar.specs.declared.event.Event.{Event}
use Rattle.rip_automaton.specs.declared.frame.Frame.{Frame}
use Rattle.rip_automaton.specs.declared.frame.Frame.TheVariants as F
use Rattle.rip_grammar.specs.Words.{is_single, is_prefix, is_no_beginning, is_semicolon, is_close}
use Rattle.rip_grammar.specs.Phrases.{Phrase, Absent, Single, Array, Object, Parenthesized, Member, Index, New, NewCall, Call, Postfix, Prefix, Infix, Conditional, Assignment, Block, Var, Empty, Expression, If, IfElse, DoWhile, While, For, Continue, Break, Return, Switch, Throw, Try, Function, Declaration, spell, spell_ending}
use Rattle.rip_grammar.specs.Levels.{level, binds}
use Rattle.rip_grammar.specs.Semicolons.{Next, continues, ends_postfix}
use Rattle.rip_grammar.specs.Grammar.{IsMade, IsOnLine, holds, is_expression, is_element, continues_return}
use Rattle.rip_automaton.specs.Operands.{operand, argument_by, element_by}
use Rattle.rip_automaton.specs.Statements.{start_by}
use Rattle.rip_automaton.specs.Headers.{for_init_by, for_test_by, for_update_by}
use Rattle.rip_automaton.proofs.Following.{first, spell-first, Next-first}
use Rattle.rip_automaton.proofs.Stepping.{false_true, at_least, is_at_least, is_finally_word}
use Rattle.rip_automaton.proofs.Shapes.{target_level}

-- the words that an expression begins with
abbrev pub is_opening : Word → Bool
is_opening W.OpenParenthesis = true
is_opening W.OpenBracket = true
is_opening W.OpenBrace = true
is_opening W.Function = true
is_opening W.New = true
is_opening _ = false

abbrev pub is_beginning : Word → Bool
is_beginning w = is_prefix w || is_single w || is_opening w

or_prefix : (x y z : Bool) → x ≡ true → (x || y || z) ≡ true
or_prefix x y z e = ap (λ (b : Bool). b || y || z) e

or_single : (x y z : Bool) → y ≡ true → (x || y || z) ≡ true
or_single true y z e = refl
or_single false y z e = ap (λ (b : Bool). b || z) e

-- a level that the grammar asks for
pub higher : (n m : ℕ) (d : Phrase) → holds n d ≡ true → m ≤ n → holds m d ≡ true
higher n m d e h = let k : n ≤ level d = at_least n (level d) e in is_at_least m (level d) (omega arith)

pub expression_begins : (d : Phrase) (r : List Lexeme) → is_expression d ≡ true → IsMade d r → Next (spell d r) (λ t. is_beginning t.word ≡ true)
expression_begins (Single t) r e m = or_single (is_prefix t.word) (is_single t.word) (is_opening t.word) m
expression_begins (Array o l c) r e m = ap is_beginning m.0
expression_begins (Object o l c) r e m = ap is_beginning m.0
expression_begins (Parenthesized o v c) r e m = ap is_beginning m.0
expression_begins (Function f n o l c b s d) r e m = ap is_beginning m.0
expression_begins (Member b p n) r e m = expression_begins b (p ∷ n ∷ r) (higher 17 1 b m.0 (omega arith)) m.1
expression_begins (Index b o v c) r e m = expression_begins b (o ∷ spell v (c ∷ r)) (higher 17 1 b m.0 (omega arith)) m.1
expression_begins (New w f) r e m = ap is_beginning m.0
expression_begins (NewCall w f o l c) r e m = ap is_beginning m.0
expression_begins (Call f o l c) r e m = expression_begins f (o ∷ spell l (c ∷ r)) (higher 17 1 f m.0 (omega arith)) m.1
expression_begins (Postfix v o) r e m = expression_begins v (o ∷ r) (higher 16 1 v m.0 (omega arith)) m.2
expression_begins (Prefix o v) r e m = or_prefix (is_prefix o.word) (is_single o.word) (is_opening o.word) m.0
expression_begins (Infix a o b) r e m = let h : 0 < binds o.word = m.0 in let k : binds o.word ≤ level a = m.1 in expression_begins a (o ∷ spell b r) (is_at_least 1 (level a) (omega arith)) m.3
expression_begins (Conditional a q b c d) r e m = expression_begins a (q ∷ spell b (c ∷ spell d r)) (higher 4 1 a m.0 (omega arith)) m.1
expression_begins (Assignment a o b) r e m = let k : 17 ≤ level a = target_level a (o ∷ spell b r) m.0 m.1 in expression_begins a (o ∷ spell b r) (is_at_least 1 (level a) (omega arith)) m.1
expression_begins _ r e m = absurd (false_true e)

-- the first lexeme of an expression does not lie in what follows
pub expression_first : (d : Phrase) (r s : List Lexeme) → is_expression d ≡ true → first (spell d r) ≡ first (spell d s)
expression_first (Single t) r s e = refl
expression_first (Array o l c) r s e = refl
expression_first (Object o l c) r s e = refl
expression_first (Parenthesized o v c) r s e = refl
expression_first (Function f n o l c b k d) r s e = refl
expression_first (Member b p n) r s e = spell-first b (p ∷ n ∷ r) (p ∷ n ∷ s) refl
expression_first (Index b o v c) r s e = spell-first b (o ∷ spell v (c ∷ r)) (o ∷ spell v (c ∷ s)) refl
expression_first (New w f) r s e = refl
expression_first (NewCall w f o l c) r s e = refl
expression_first (Call f o l c) r s e = spell-first f (o ∷ spell l (c ∷ r)) (o ∷ spell l (c ∷ s)) refl
expression_first (Postfix v o) r s e = spell-first v (o ∷ r) (o ∷ s) refl
expression_first (Prefix o v) r s e = refl
expression_first (Infix a o b) r s e = spell-first a (o ∷ spell b r) (o ∷ spell b s) refl
expression_first (Conditional a q b c d) r s e = spell-first a (q ∷ spell b (c ∷ spell d r)) (q ∷ spell b (c ∷ spell d s)) refl
expression_first (Assignment a o b) r s e = spell-first a (o ∷ spell b r) (o ∷ spell b s) refl
expression_first _ r s e = absurd (false_true e)

pub expression_next : (P : Lexeme → Type 0) (d : Phrase) (r s : List Lexeme) → is_expression d ≡ true → Next (spell d r) P → Next (spell d s) P
expression_next P d r s e n = Next-first P (spell d r) (spell d s) (expression_first d r s e) n

-- what is said of an expression that may be absent
pub on_line : (d : Phrase) → is_expression d ≡ true → IsOnLine d → Next (spell d []) (λ t. t.line_before ≡ false)
on_line Absent e l = absurd (false_true e)
on_line _ e l = l

pub return_continues : (d : Phrase) (w : Word) → is_expression d ≡ true → continues_return d w ≡ continues (ends_postfix d) w
return_continues Absent w e = absurd (false_true e)
return_continues _ w e = refl

-- two facts on the first lexeme
pub next_both : (P Q : Lexeme → Type 0) (x : List Lexeme) → Next x P → Next x Q → Next x (λ t. P t × Q t)
next_both P Q [] p q = absurd p
next_both P Q (t ∷ r) p q = (p, q)

pub next_map : (P Q : Lexeme → Type 0) (x : List Lexeme) → ((t : Lexeme) → P t → Q t) → Next x P → Next x Q
next_map P Q [] f p = absurd p
next_map P Q (t ∷ r) f p = f t p

-- where an expression may begin, its first lexeme does what it does where an operand is wanted
pub argument_begins : (w : Word) (st : List Frame) (out : List Event) (t : Lexeme) → is_beginning w ≡ true → argument_by w st out t ≡ operand st out t
argument_begins W.CloseParenthesis st out t e = absurd (false_true e)
argument_begins _ st out t e = refl

pub element_begins : (w : Word) (st : List Frame) (out : List Event) (t : Lexeme) → is_beginning w ≡ true → element_by w st out t ≡ operand st out t
element_begins W.CloseBracket st out t e = absurd (false_true e)
element_begins _ st out t e = refl

pub init_begins : (w : Word) (st : List Frame) (out : List Event) (t : Lexeme) → is_beginning w ≡ true → for_init_by w st out t ≡ operand st out t
init_begins W.Semicolon st out t e = absurd (false_true e)
init_begins W.Var st out t e = absurd (false_true e)
init_begins _ st out t e = refl

pub test_begins : (w : Word) (st : List Frame) (out : List Event) (t : Lexeme) → is_beginning w ≡ true → for_test_by w st out t ≡ operand st out t
test_begins W.Semicolon st out t e = absurd (false_true e)
test_begins _ st out t e = refl

pub update_begins : (w : Word) (st : List Frame) (out : List Event) (t : Lexeme) → is_beginning w ≡ true → for_update_by w st out t ≡ operand st out t
update_begins W.CloseParenthesis st out t e = absurd (false_true e)
update_begins _ st out t e = refl

pub statement_begins : (w : Word) (st : List Frame) (out : List Event) (t : Lexeme) → is_beginning w ≡ true → is_no_beginning w ≡ false → start_by w st out t ≡ operand (F.Expression ∷ st) out t
statement_begins W.OpenBrace st out t e n = absurd (false_true (sym n))
statement_begins W.Function st out t e n = absurd (false_true (sym n))
statement_begins W.Semicolon st out t e n = absurd (false_true e)
statement_begins W.Var st out t e n = absurd (false_true e)
statement_begins W.If st out t e n = absurd (false_true e)
statement_begins W.Do st out t e n = absurd (false_true e)
statement_begins W.While st out t e n = absurd (false_true e)
statement_begins W.For st out t e n = absurd (false_true e)
statement_begins W.Continue st out t e n = absurd (false_true e)
statement_begins W.Break st out t e n = absurd (false_true e)
statement_begins W.Return st out t e n = absurd (false_true e)
statement_begins W.Switch st out t e n = absurd (false_true e)
statement_begins W.Throw st out t e n = absurd (false_true e)
statement_begins W.Try st out t e n = absurd (false_true e)
statement_begins W.CloseBrace st out t e n = absurd (false_true e)
statement_begins W.Case st out t e n = absurd (false_true e)
statement_begins W.Default st out t e n = absurd (false_true e)
statement_begins W.End st out t e n = absurd (false_true e)
statement_begins _ st out t e n = refl

-- no expression begins with what ends a statement
pub beginning_is_other : (w : Word) → is_beginning w ≡ true → (is_semicolon w ≡ false) × (is_close w ≡ false) × (is_finally_word w ≡ false)
beginning_is_other W.Semicolon e = absurd (false_true e)
beginning_is_other W.CloseBrace e = absurd (false_true e)
beginning_is_other W.End e = absurd (false_true e)
beginning_is_other W.Finally e = absurd (false_true e)
beginning_is_other _ e = (refl, refl, refl)

-- no statement begins with `finally`
pub element_begins_otherwise : (d : Phrase) (r : List Lexeme) → is_element d ≡ true → IsMade d r → Next (spell d r) (λ t. is_finally_word t.word ≡ false)
element_begins_otherwise (Block o l c) r e m = ap is_finally_word m.0
element_begins_otherwise (Var v l z) r e m = ap is_finally_word m.0
element_begins_otherwise (Empty t) r e m = ap is_finally_word m
element_begins_otherwise (Expression v z) r e m = next_map _ _ (spell v (spell_ending z r)) (λ t b. (beginning_is_other t.word b).2) (expression_begins v (spell_ending z r) m.0 m.2)
element_begins_otherwise (If i o v c s) r e m = ap is_finally_word m.0
element_begins_otherwise (IfElse i o v c s l u) r e m = ap is_finally_word m.0
element_begins_otherwise (DoWhile d s w o v c z) r e m = ap is_finally_word m.0
element_begins_otherwise (While w o v c s) r e m = ap is_finally_word m.0
element_begins_otherwise (For f o i p v q u c s) r e m = ap is_finally_word m.0
element_begins_otherwise (Continue t z) r e m = ap is_finally_word m.0
element_begins_otherwise (Break t z) r e m = ap is_finally_word m.0
element_begins_otherwise (Return t v z) r e m = ap is_finally_word m.0
element_begins_otherwise (Switch s o v c b l d) r e m = ap is_finally_word m.0
element_begins_otherwise (Throw t v z) r e m = ap is_finally_word m.0
element_begins_otherwise (Try t b h f) r e m = ap is_finally_word m.0
element_begins_otherwise (Declaration f n o l c b s d) r e m = ap is_finally_word m.0
element_begins_otherwise _ r e m = absurd (false_true e)
