-- What the rules say of the parts of a phrase: which are one part, where they begin, which forms their heads have.
use Rattle.std.proofs.Common.{◌≡◌, ℕ, ◌+◌, ◌<◌, ◌≤◌, Bool, true, false, ◌&&◌, ◌||◌, nat_le, List, [], ◌∷◌, Some, refl, sym, ap, ◌∙◌, arith, leb-true}
use Rattle.std.specs.Prelude.{max}
use Rattle.std.proofs.lemmas.Bool.{and_parts}
use Rattle.rip_base.specs.declared.operator.BinaryOperator.TheVariants as B
use Rattle.rip_base.specs.declared.operator.UnaryOperator.TheVariants as U
use Rattle.rip_tree.specs.declared.form.Form.{Form}
use Rattle.rip_tree.specs.declared.form.Form.TheVariants as F
use Rattle.rip_grammar.specs.declared.word.Word.{Word}
use Rattle.rip_grammar.specs.declared.word.Word.TheVariants as W
use Rattle.rip_grammar.specs.declared.word.Lexeme.{Lexeme}
use Rattle.rip_grammar.specs.Words.{is_prefix, is_step, is_assignment}
use Rattle.rip_grammar.specs.Phrases.{Phrase, Absent, Nothing, More, CommaMore, Trailing, Single, Array, Object, Entry, Parenthesized, Member, Index, New, NewCall, Call, Postfix, Prefix, Infix, Conditional, Assignment, Block, Var, Declarator, Initialised, Empty, Expression, If, IfElse, DoWhile, While, For, Bindings, Continue, Break, Return, Switch, Case, Default, Throw, Try, Catch, Finally, Function, Declaration, Parameter, spell}
use Rattle.rip_grammar.specs.Levels.{level, binds, is_target}
use Rattle.rip_grammar.specs.Events.{width}
use Rattle.rip_grammar.specs.Depths.{levels}
use Rattle.rip_grammar.specs.Grammar.{holds, is_expression, is_constructed, is_nothing, is_absent, is_statement, is_element, is_block, is_entry, is_parameter, is_declarator, is_clause, is_catch, is_finally, is_list, is_comma_list, may_be_commas, may_end_in_comma, may_be_expression, is_init, IsMade}
use Rattle.rip_parser.specs.Shows.{first_place, place_of, item_count, infix_form, prefix_form, postfix_form, assignment_form}

-- the phrase is one part, and no list
abbrev pub is_one : Phrase → Bool
is_one Nothing = false
is_one (More l d) = false
is_one (CommaMore l c d) = false
is_one (Trailing l c) = false
is_one _ = true

-- each phrase of a list is one part
abbrev pub is_flat : Phrase → Bool
is_flat (More l d) = is_flat l && is_one d
is_flat (CommaMore l c d) = is_flat l && is_one d
is_flat (Trailing l c) = is_flat l
is_flat _ = true

pub one-flat : (d : Phrase) → is_one d ≡ true → is_flat d ≡ true
one-flat Nothing one = refl
one-flat (More l d) one = cc
one-flat (CommaMore l c d) one = cc
one-flat (Trailing l c) one = cc
one-flat d one = refl

pub one-width : (d : Phrase) → is_one d ≡ true → width d ≡ 1
one-width Nothing one = cc
one-width (More l d) one = cc
one-width (CommaMore l c d) one = cc
one-width (Trailing l c) one = cc
one-width d one = refl

-- what passes such a test is one part
abbrev pub TellsOne : (Phrase → Bool) → Type 0
TellsOne p = (d : Phrase) → p d ≡ true → is_one d ≡ true

pub holds-one : (n : ℕ) → 0 < n → TellsOne (holds n)
holds-one n some Nothing e = absurd (none n some e)
  where
    none : (n : ℕ) → 0 < n → nat_le n 0 ≡ true → ⊥
    none n some e = omega (arith, leb-true n 0 e)
holds-one n some (More l d) e = absurd (omega (arith, leb-true n 0 e))
holds-one n some (CommaMore l c d) e = absurd (omega (arith, leb-true n 0 e))
holds-one n some (Trailing l c) e = absurd (omega (arith, leb-true n 0 e))
holds-one n some d e = refl

pub target-one : TellsOne is_target
target-one Nothing e = cc
target-one (More l d) e = cc
target-one (CommaMore l c d) e = cc
target-one (Trailing l c) e = cc
target-one d e = refl

pub statement-one : TellsOne is_statement
statement-one Nothing e = cc
statement-one (More l d) e = cc
statement-one (CommaMore l c d) e = cc
statement-one (Trailing l c) e = cc
statement-one d e = refl

pub element-one : TellsOne is_element
element-one Nothing e = cc
element-one (More l d) e = cc
element-one (CommaMore l c d) e = cc
element-one (Trailing l c) e = cc
element-one d e = refl

pub block-one : TellsOne is_block
block-one Nothing e = cc
block-one (More l d) e = cc
block-one (CommaMore l c d) e = cc
block-one (Trailing l c) e = cc
block-one d e = refl

pub entry-one : TellsOne is_entry
entry-one Nothing e = cc
entry-one (More l d) e = cc
entry-one (CommaMore l c d) e = cc
entry-one (Trailing l c) e = cc
entry-one d e = refl

pub parameter-one : TellsOne is_parameter
parameter-one Nothing e = cc
parameter-one (More l d) e = cc
parameter-one (CommaMore l c d) e = cc
parameter-one (Trailing l c) e = cc
parameter-one d e = refl

pub declarator-one : TellsOne is_declarator
declarator-one Nothing e = cc
declarator-one (More l d) e = cc
declarator-one (CommaMore l c d) e = cc
declarator-one (Trailing l c) e = cc
declarator-one d e = refl

pub clause-one : TellsOne is_clause
clause-one Nothing e = cc
clause-one (More l d) e = cc
clause-one (CommaMore l c d) e = cc
clause-one (Trailing l c) e = cc
clause-one d e = refl

pub may_be_expression-one : TellsOne may_be_expression
may_be_expression-one Nothing e = cc
may_be_expression-one (More l d) e = cc
may_be_expression-one (CommaMore l c d) e = cc
may_be_expression-one (Trailing l c) e = cc
may_be_expression-one d e = refl

pub init-one : TellsOne is_init
init-one Nothing e = cc
init-one (More l d) e = cc
init-one (CommaMore l c d) e = cc
init-one (Trailing l c) e = cc
init-one d e = refl

pub catch-one : TellsOne (λ h. is_absent h || is_catch h)
catch-one Nothing e = cc
catch-one (More l d) e = cc
catch-one (CommaMore l c d) e = cc
catch-one (Trailing l c) e = cc
catch-one d e = refl

pub finally-one : TellsOne (λ f. is_absent f || is_finally f)
finally-one Nothing e = cc
finally-one (More l d) e = cc
finally-one (CommaMore l c d) e = cc
finally-one (Trailing l c) e = cc
finally-one d e = refl

pub constructed-one : TellsOne is_constructed
constructed-one Nothing e = cc
constructed-one (More l d) e = cc
constructed-one (CommaMore l c d) e = cc
constructed-one (Trailing l c) e = cc
constructed-one d e = refl

both-true : (a b : Bool) → a ≡ true → b ≡ true → (a && b) ≡ true
both-true true true p q = refl
both-true true false p q = cc
both-true false b p q = cc

-- each phrase of such a list is one part
pub list-flat : (p : Phrase → Bool) → TellsOne p → (l : Phrase) → is_list p l ≡ true → is_flat l ≡ true
list-flat p tells Nothing e = refl
list-flat p tells (More l d) e =
    let parts = and_parts (is_list p l) (p d) e in both-true (is_flat l) (is_one d) (list-flat p tells l parts.0) (tells d parts.1)
list-flat p tells (CommaMore l c d) e = cc
list-flat p tells (Trailing l c) e = cc
list-flat p tells l e = refl

pub comma_list-flat : (p : Phrase → Bool) → TellsOne p → (l : Phrase) → is_comma_list p l ≡ true → is_flat l ≡ true
comma_list-flat p tells Nothing e = refl
comma_list-flat p tells (More l d) e =
    let parts = and_parts (is_nothing l) (p d) e in both-true (is_flat l) (is_one d) (nothing-flat l parts.0) (tells d parts.1)
  where
    nothing-flat : (l : Phrase) → is_nothing l ≡ true → is_flat l ≡ true
    nothing-flat Nothing e = refl
    nothing-flat (More l d) e = cc
    nothing-flat (CommaMore l c d) e = cc
    nothing-flat (Trailing l c) e = cc
    nothing-flat l e = refl
comma_list-flat p tells (CommaMore l c d) e =
    let parts = and_parts (is_comma_list p l) (p d) e in both-true (is_flat l) (is_one d) (comma_list-flat p tells l parts.0) (tells d parts.1)
comma_list-flat p tells (Trailing l c) e = cc
comma_list-flat p tells l e = refl

pub commas-flat : (p : Phrase → Bool) → TellsOne p → (l : Phrase) → may_be_commas p l ≡ true → is_flat l ≡ true
commas-flat p tells Nothing e = refl
commas-flat p tells (More l d) e = comma_list-flat p tells (More l d) e
commas-flat p tells (CommaMore l c d) e = comma_list-flat p tells (CommaMore l c d) e
commas-flat p tells (Trailing l c) e = cc
commas-flat p tells l e = refl

pub elements-flat : (p : Phrase → Bool) → TellsOne p → (l : Phrase) → may_end_in_comma p l ≡ true → is_flat l ≡ true
elements-flat p tells Nothing e = refl
elements-flat p tells (More l d) e = comma_list-flat p tells (More l d) e
elements-flat p tells (CommaMore l c d) e = comma_list-flat p tells (CommaMore l c d) e
elements-flat p tells (Trailing l c) e = comma_list-flat p tells l e
elements-flat p tells l e = refl

-- parameters are counted, and are no levels
nothing-count : (l : Phrase) → is_nothing l ≡ true → (item_count l ≡ 0) × (width l ≡ 0) × (levels l ≡ 0)
nothing-count Nothing e = (refl, refl, refl)
nothing-count (More l d) e = cc
nothing-count l e = cc

parameter-levels : (d : Phrase) → is_parameter d ≡ true → levels d ≡ 0
parameter-levels (Parameter n) e = refl
parameter-levels d e = cc

comma-count : (l : Phrase) → is_comma_list is_parameter l ≡ true → (item_count l ≡ width l) × (levels l ≡ 0)
comma-count (More l d) e =
    let parts = and_parts (is_nothing l) (is_parameter d) e in
    let below = nothing-count l parts.0 in
    let d0 = parameter-levels d parts.1 in
    (ap (λ n. n + 1) (below.0 ∙ sym below.1), none (levels l) (levels d) below.2 d0)
  where
    none : (a b : ℕ) → a ≡ 0 → b ≡ 0 → max a b ≡ 0
    none a b p q = omega arith
comma-count (CommaMore l c d) e =
    let parts = and_parts (is_comma_list is_parameter l) (is_parameter d) e in
    let below = comma-count l parts.0 in
    let d0 = parameter-levels d parts.1 in
    (ap (λ n. n + 1) below.0, none (levels l) (levels d) below.1 d0)
  where
    none : (a b : ℕ) → a ≡ 0 → b ≡ 0 → max a b ≡ 0
    none a b p q = omega arith
comma-count l e = cc

pub parameters-count : (l : Phrase) → may_be_commas is_parameter l ≡ true → (item_count l ≡ width l) × (levels l ≡ 0)
parameters-count Nothing e = (refl, refl)
parameters-count (More l d) e = comma-count (More l d) e
parameters-count (CommaMore l c d) e = comma-count (CommaMore l c d) e
parameters-count l e = cc

-- an expression begins with a lexeme of its own, whatever follows
pub holds-some : (n : ℕ) (d : Phrase) → 0 < n → holds n d ≡ true → 0 < level d
holds-some n d some e = omega (arith, leb-true n (level d) e)

pub expression-some : (d : Phrase) → is_expression d ≡ true → 0 < level d
expression-some d e = holds-some 1 d (omega arith) e

-- a target is an expression
pub target-some : (d : Phrase) (r : List Lexeme) → IsMade d r → is_target d ≡ true → 0 < level d
target-some (Single t) r m e = omega arith
target-some (Member b p n) r m e = let own : 0 < level b = holds-some 17 b (omega arith) m.0 in omega arith
target-some (Index b o i c) r m e = let own : 0 < level b = holds-some 17 b (omega arith) m.0 in omega arith
target-some (Parenthesized o d c) r m e = omega arith
target-some d r m e = cc

pub begins-own : (d : Phrase) (r s : List Lexeme) → IsMade d r → 0 < level d → first_place (spell d s) ≡ place_of d
begins-own Absent r s m some = absurd (omega arith)
begins-own Nothing r s m some = absurd (omega arith)
begins-own (More l d) r s m some = absurd (omega arith)
begins-own (CommaMore l c d) r s m some = absurd (omega arith)
begins-own (Trailing l c) r s m some = absurd (omega arith)
begins-own (Single t) r s m some = refl
begins-own (Array o l c) r s m some = refl
begins-own (Object o l c) r s m some = refl
begins-own (Entry k c e) r s m some = absurd (omega arith)
begins-own (Parenthesized o e c) r s m some = refl
begins-own (Member b p n) r s m some =
    let own : 0 < level b = holds-some 17 b (omega arith) m.0 in
    begins-own b (p ∷ n ∷ r) (p ∷ n ∷ s) m.1 own ∙ sym (begins-own b (p ∷ n ∷ r) (p ∷ n ∷ []) m.1 own)
begins-own (Index b o e c) r s m some =
    let own : 0 < level b = holds-some 17 b (omega arith) m.0 in
    begins-own b (o ∷ spell e (c ∷ r)) (o ∷ spell e (c ∷ s)) m.1 own ∙ sym (begins-own b (o ∷ spell e (c ∷ r)) (o ∷ spell e (c ∷ [])) m.1 own)
begins-own (New w f) r s m some = refl
begins-own (NewCall w f o l c) r s m some = refl
begins-own (Call f o l c) r s m some =
    let own : 0 < level f = holds-some 17 f (omega arith) m.0 in
    begins-own f (o ∷ spell l (c ∷ r)) (o ∷ spell l (c ∷ s)) m.1 own ∙ sym (begins-own f (o ∷ spell l (c ∷ r)) (o ∷ spell l (c ∷ [])) m.1 own)
begins-own (Postfix e o) r s m some =
    let own : 0 < level e = holds-some 16 e (omega arith) m.0 in
    begins-own e (o ∷ r) (o ∷ s) m.2 own ∙ sym (begins-own e (o ∷ r) (o ∷ []) m.2 own)
begins-own (Prefix o e) r s m some = refl
begins-own (Infix a o b) r s m some =
    let binds-some : 0 < binds o.word = m.0 in
    let looser : binds o.word ≤ level a = m.1 in
    let own : 0 < level a = omega arith in
    begins-own a (o ∷ spell b r) (o ∷ spell b s) m.3 own ∙ sym (begins-own a (o ∷ spell b r) (o ∷ spell b []) m.3 own)
begins-own (Conditional a q b c d) r s m some =
    let own : 0 < level a = holds-some 4 a (omega arith) m.0 in
    begins-own a (q ∷ spell b (c ∷ spell d r)) (q ∷ spell b (c ∷ spell d s)) m.1 own ∙ sym (begins-own a (q ∷ spell b (c ∷ spell d r)) (q ∷ spell b (c ∷ spell d [])) m.1 own)
begins-own (Assignment a o b) r s m some =
    let own : 0 < level a = target-some a (o ∷ spell b r) m.1 m.0 in
    begins-own a (o ∷ spell b r) (o ∷ spell b s) m.1 own ∙ sym (begins-own a (o ∷ spell b r) (o ∷ spell b []) m.1 own)
begins-own (Block o l c) r s m some = absurd (omega arith)
begins-own (Var v l z) r s m some = absurd (omega arith)
begins-own (Declarator n) r s m some = absurd (omega arith)
begins-own (Initialised n q e) r s m some = absurd (omega arith)
begins-own (Empty t) r s m some = absurd (omega arith)
begins-own (Expression e z) r s m some = absurd (omega arith)
begins-own (If i o e c d) r s m some = absurd (omega arith)
begins-own (IfElse i o e c d l u) r s m some = absurd (omega arith)
begins-own (DoWhile d b w o e c z) r s m some = absurd (omega arith)
begins-own (While w o e c b) r s m some = absurd (omega arith)
begins-own (For f o i p e q u c b) r s m some = absurd (omega arith)
begins-own (Bindings v l) r s m some = absurd (omega arith)
begins-own (Continue t z) r s m some = absurd (omega arith)
begins-own (Break t z) r s m some = absurd (omega arith)
begins-own (Return t e z) r s m some = absurd (omega arith)
begins-own (Switch w o e c b l d) r s m some = absurd (omega arith)
begins-own (Case w e c l) r s m some = absurd (omega arith)
begins-own (Default w c l) r s m some = absurd (omega arith)
begins-own (Throw t e z) r s m some = absurd (omega arith)
begins-own (Try t b h f) r s m some = absurd (omega arith)
begins-own (Catch w o n c b) r s m some = absurd (omega arith)
begins-own (Finally w b) r s m some = absurd (omega arith)
begins-own (Function f n o l c b d k) r s m some = refl
begins-own (Declaration f n o l c b d k) r s m some = absurd (omega arith)
begins-own (Parameter n) r s m some = absurd (omega arith)

-- the forms that operators make
pub prefix-form : (w : Word) → is_prefix w ≡ true → (form : Form) × (prefix_form w ≡ Some form)
prefix-form (W.Prefix op) e = (F.Unary op, refl)
prefix-form (W.Step op) e = (F.Prefix op, refl)
prefix-form (W.Infix B.Add) e = (F.Unary U.Plus, refl)
prefix-form (W.Infix B.Subtract) e = (F.Unary U.Minus, refl)
prefix-form w e = cc

pub infix-form : (w : Word) → 0 < binds w → (form : Form) × (infix_form w ≡ Some form)
infix-form (W.Infix op) some = (F.Binary op, refl)
infix-form (W.Logical op) some = (F.Logical op, refl)
infix-form W.Comma some = (F.Comma, refl)
infix-form w some = absurd (omega arith)

pub postfix-form : (w : Word) → is_step w ≡ true → (form : Form) × (postfix_form w ≡ Some form)
postfix-form (W.Step op) e = (F.Postfix op, refl)
postfix-form w e = cc

pub assignment-form : (w : Word) → is_assignment w ≡ true → (form : Form) × (assignment_form w ≡ Some form)
assignment-form W.Assign e = (F.Assign, refl)
assignment-form (W.Compound op) e = (F.Compound op, refl)
assignment-form w e = cc

-- an expression is one part
pub level-one : (d : Phrase) → 0 < level d → is_one d ≡ true
level-one Nothing some = absurd (omega arith)
level-one (More l d) some = absurd (omega arith)
level-one (CommaMore l c d) some = absurd (omega arith)
level-one (Trailing l c) some = absurd (omega arith)
level-one d some = refl
