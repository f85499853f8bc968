-- Which words go on behind a postfix operator, and which begin a statement.
use Rattle.std.proofs.Common.{◌≡◌, ◌<◌, ◌≤◌, Bool, true, false, List, [], ◌∷◌, refl, sym, ap, ◌∙◌, subst, ◌⊎◌, inl, inr, arith, le-leb}
use Rattle.rip_base.specs.declared.operator.BinaryOperator.TheVariants as B
use Rattle.rip_base.specs.declared.operator.LogicalOperator.TheVariants as L
use Rattle.rip_grammar.specs.declared.word.Word.{Word}
use Rattle.rip_grammar.specs.declared.word.Word.TheVariants as W
use Rattle.rip_grammar.specs.declared.word.Lexeme.{Lexeme}
use Rattle.rip_grammar.specs.Words.{is_single, is_prefix, is_step, is_assignment}
use Rattle.rip_grammar.specs.Phrases.{Phrase, Single, Array, Object, Parenthesized, Member, Index, New, NewCall, Call, Postfix, Prefix, Infix, Conditional, Assignment, Block, Var, Empty, Expression, If, IfElse, DoWhile, While, For, Continue, Break, Return, Switch, Throw, Try, Function, Declaration, spell, spell_ending}
use Rattle.rip_grammar.specs.Levels.{level, binds, is_target}
use Rattle.rip_grammar.specs.Semicolons.{Next, continues}
use Rattle.rip_grammar.specs.Grammar.{holds, is_expression, is_element, IsMade}
use Rattle.rip_grammar.specs.Offending.{OthersOffendBehindPostfix, BeginsNone, ContinuingGoesOnBehindPostfix}
use Rattle.rip_grammar.proofs.Refusals.{no}
use Rattle.rip_grammar.proofs.Offending.{misnamed, tight, target_expression, word_of_same, mark, single, target}

-- WORDS

binding_continues_it : (w : Word) → 0 < binds w → continues true w ≡ true
binding_continues_it (W.Infix op) some = refl
binding_continues_it (W.Logical op) some = refl
binding_continues_it W.Comma some = refl
binding_continues_it _ some = absurd (omega arith)

binding_is_no_step : (w : Word) → 0 < binds w → is_step w ≡ false
binding_is_no_step (W.Step op) some = absurd (omega arith)
binding_is_no_step _ some = refl

assignment_is_no_step : (w : Word) → is_assignment w ≡ true → is_step w ≡ false
assignment_is_no_step (W.Step op) is = absurd (no is)
assignment_is_no_step _ is = refl

-- EXPRESSIONS THAT BEGIN WITH A NAME AND A POSTFIX OPERATOR

-- the expression is the name alone, or that and the operator, before the rest; or it goes on
abbrev Begun : Phrase → List Lexeme → List Lexeme → Lexeme → Lexeme → Type 0
Begun e r rest n o =
    ((e ≡ Single n) × (o ∷ rest ≡ r))
    ⊎ (((e ≡ Postfix (Single n) o) × (rest ≡ r)) ⊎ ((u : Lexeme) × (more : List Lexeme) × (rest ≡ u ∷ more) × (continues true u.word ≡ true)))

-- what goes on behind its first part, which is no such operator
further : (e b : Phrase) (r more rest : List Lexeme) (n o u : Lexeme) → is_step o.word ≡ true → is_step u.word ≡ false
    → (b ≡ Postfix (Single n) o → continues true u.word ≡ true) → Begun b (u ∷ more) rest n o → Begun e r rest n o
further e b r more rest n o u step other on (inl alone) =
    let splits : o ∷ rest ≡ u ∷ more = alone.1 in
    let same : o ≡ u = cc in
    absurd (no (sym other ∙ ap is_step (sym (word_of_same o u same)) ∙ step))
further e b r more rest n o u step other on (inr (inl post)) = inr (inr (u, more, post.1, on post.0))
further e b r more rest n o u step other on (inr (inr goes)) = inr (inr goes)

-- the operand of a postfix operator is none with another
postfix_of_name : (e : Phrase) (r rest : List Lexeme) (n o k : Lexeme) → holds 16 e ≡ true → Begun e (k ∷ r) rest n o → Begun (Postfix e k) r rest n o
postfix_of_name e r rest n o k h (inl alone) =
    let is : e ≡ Single n = alone.0 in
    let splits : o ∷ rest ≡ k ∷ r = alone.1 in
    let same : o ≡ k = cc in
    let after : rest ≡ r = cc in
    inr (inl (cc, after))
postfix_of_name e r rest n o k h (inr (inl post)) = absurd (no (sym (ap (holds 16) post.0) ∙ h))
postfix_of_name e r rest n o k h (inr (inr goes)) = inr (inr goes)

begun : (e : Phrase) (r rest : List Lexeme) (n o : Lexeme) → is_expression e ≡ true → IsMade e r → spell e r ≡ n ∷ o ∷ rest → n.word ≡ W.Name → is_step o.word ≡ true → Begun e r rest n o
begun (Single t) r rest n o x m s named step = let same : t ≡ n = cc in let after : o ∷ rest ≡ r = cc in inl (ap Single same, after)
begun (Array q l c) r rest n o x m s named step = misnamed q n _ (o ∷ rest) W.OpenBracket s named m.0 refl
begun (Object q l c) r rest n o x m s named step = misnamed q n _ (o ∷ rest) W.OpenBrace s named m.0 refl
begun (Parenthesized q e c) r rest n o x m s named step = misnamed q n _ (o ∷ rest) W.OpenParenthesis s named m.0 refl
begun (Member b p k) r rest n o x m s named step =
    further _ b r _ rest n o p step (ap is_step m.2) (λ is. absurd (no (sym (ap (holds 17) is) ∙ m.0))) (begun b (p ∷ k ∷ r) rest n o (tight 17 b (omega arith) m.0) m.1 s named step)
begun (Index b q v c) r rest n o x m s named step =
    further _ b r _ rest n o q step (ap is_step m.2) (λ is. absurd (no (sym (ap (holds 17) is) ∙ m.0))) (begun b (q ∷ spell v (c ∷ r)) rest n o (tight 17 b (omega arith) m.0) m.1 s named step)
begun (New w f) r rest n o x m s named step = misnamed w n _ (o ∷ rest) W.New s named m.0 refl
begun (NewCall w f q l c) r rest n o x m s named step = misnamed w n _ (o ∷ rest) W.New s named m.0 refl
begun (Call f q l c) r rest n o x m s named step =
    further _ f r _ rest n o q step (ap is_step m.2) (λ is. absurd (no (sym (ap (holds 17) is) ∙ m.0))) (begun f (q ∷ spell l (c ∷ r)) rest n o (tight 17 f (omega arith) m.0) m.1 s named step)
begun (Postfix e k) r rest n o x m s named step = postfix_of_name e r rest n o k m.0 (begun e (k ∷ r) rest n o (tight 16 e (omega arith) m.0) m.2 s named step)
begun (Prefix q e) r rest n o x m s named step =
    let same : q ≡ n = cc in absurd (no (sym (ap is_prefix (word_of_same q n same ∙ named)) ∙ m.0))
begun (Infix a q b) r rest n o x m s named step =
    let some : 0 < binds q.word = m.0 in
    let low : binds q.word ≤ level a = m.1 in
    further _ a r _ rest n o q step (binding_is_no_step q.word m.0) (λ is. binding_continues_it q.word m.0)
    (begun a (q ∷ spell b r) rest n o (le-leb 1 (level a) (omega arith)) m.3 s named step)
begun (Conditional a q b c d) r rest n o x m s named step =
    further _ a r _ rest n o q step (ap is_step m.2) (λ is. ap (continues true) m.2) (begun a (q ∷ spell b (c ∷ spell d r)) rest n o (tight 4 a (omega arith) m.0) m.1 s named step)
begun (Assignment a q b) r rest n o x m s named step =
    further _ a r _ rest n o q step (assignment_is_no_step q.word m.2) (λ is. absurd (no (sym (ap is_target is) ∙ m.0)))
    (begun a (q ∷ spell b r) rest n o (target_expression a _ m.0 m.1) m.1 s named step)
begun (Function f k q l c b d z) r rest n o x m s named step = misnamed f n _ (o ∷ rest) W.Function s named m.0 refl
begun _ r rest n o x m s named step = absurd (no x)

others : (e : Phrase) (r more : List Lexeme) (n o t : Lexeme) → Begun e r (t ∷ more) n o → (e ≡ Single n) ⊎ ((e ≡ Postfix (Single n) o) ⊎ (continues true t.word ≡ true))
others e r more n o t (inl alone) = inl alone.0
others e r more n o t (inr (inl post)) = inr (inl post.0)
others e r more n o t (inr (inr goes)) =
    let u = goes.0 in
    let behind = goes.1 in
    let splits : t ∷ more ≡ u ∷ behind = goes.2 in
    let same : t ≡ u = cc in
    inr (inr (ap (continues true) (word_of_same t u same) ∙ goes.3))

pub others_offend_behind_postfix : OthersOffendBehindPostfix
others_offend_behind_postfix e r more n o t x m s named step = others e r more n o t (begun e r (t ∷ more) n o x m s named step)

-- THE FIRST WORDS OF STATEMENTS

-- it does not stand behind something alone
abbrev is_first : Word → Bool
is_first W.Assign = false
is_first (W.Compound op) = false
is_first W.Point = false
is_first _ = true

single_first : (w : Word) → is_single w ≡ true → is_first w ≡ true
single_first W.Assign is = absurd (no is)
single_first (W.Compound op) is = absurd (no is)
single_first W.Point is = absurd (no is)
single_first _ is = refl

prefix_first : (w : Word) → is_prefix w ≡ true → is_first w ≡ true
prefix_first W.Assign is = absurd (no is)
prefix_first (W.Compound op) is = absurd (no is)
prefix_first W.Point is = absurd (no is)
prefix_first _ is = refl

abbrev IsFirst : Lexeme → Type 0
IsFirst t = is_first t.word ≡ true

expression_first : (e : Phrase) (r : List Lexeme) → is_expression e ≡ true → IsMade e r → Next (spell e r) IsFirst
expression_first (Single t) r x m = single_first t.word m
expression_first (Array o l c) r x m = ap is_first m.0
expression_first (Object o l c) r x m = ap is_first m.0
expression_first (Parenthesized o e c) r x m = ap is_first m.0
expression_first (Member b p k) r x m = expression_first b (p ∷ k ∷ r) (tight 17 b (omega arith) m.0) m.1
expression_first (Index b o v c) r x m = expression_first b (o ∷ spell v (c ∷ r)) (tight 17 b (omega arith) m.0) m.1
expression_first (New w f) r x m = ap is_first m.0
expression_first (NewCall w f o l c) r x m = ap is_first m.0
expression_first (Call f o l c) r x m = expression_first f (o ∷ spell l (c ∷ r)) (tight 17 f (omega arith) m.0) m.1
expression_first (Postfix e o) r x m = expression_first e (o ∷ r) (tight 16 e (omega arith) m.0) m.2
expression_first (Prefix o e) r x m = prefix_first o.word m.0
expression_first (Infix a o b) r x m =
    let some : 0 < binds o.word = m.0 in
    let low : binds o.word ≤ level a = m.1 in
    expression_first a (o ∷ spell b r) (le-leb 1 (level a) (omega arith)) m.3
expression_first (Conditional a q b c d) r x m = expression_first a (q ∷ spell b (c ∷ spell d r)) (tight 4 a (omega arith) m.0) m.1
expression_first (Assignment a o b) r x m = expression_first a (o ∷ spell b r) (target_expression a _ m.0 m.1) m.1
expression_first (Function f k o l c b d z) r x m = ap is_first m.0
expression_first _ r x m = absurd (no x)

element_first : (d : Phrase) (r : List Lexeme) → is_element d ≡ true → IsMade d r → Next (spell d r) IsFirst
element_first (Block o l c) r x m = ap is_first m.0
element_first (Var v l z) r x m = ap is_first m.0
element_first (Empty t) r x m = ap is_first m
element_first (Expression e z) r x m = expression_first e (spell_ending z r) m.0 m.2
element_first (If i o e c s) r x m = ap is_first m.0
element_first (IfElse i o e c s l u) r x m = ap is_first m.0
element_first (DoWhile d s w o e c z) r x m = ap is_first m.0
element_first (While w o e c s) r x m = ap is_first m.0
element_first (For f o i p e q u c s) r x m = ap is_first m.0
element_first (Continue t z) r x m = ap is_first m.0
element_first (Break t z) r x m = ap is_first m.0
element_first (Return t e z) r x m = ap is_first m.0
element_first (Switch s o e c b l d) r x m = ap is_first m.0
element_first (Throw t e z) r x m = ap is_first m.0
element_first (Try t b h f) r x m = ap is_first m.0
element_first (Declaration f n o l c b s d) r x m = ap is_first m.0
element_first _ r x m = absurd (no x)

begins_none : (w : Word) → is_first w ≡ false → BeginsNone w
begins_none w other d r x m next = apart (spell d r) (element_first d r x m) next
  where
    apart : (l : List Lexeme) → Next l IsFirst → Next l (λ t. t.word ≡ w) → ⊥
    apart [] first is = first
    apart (t ∷ l) first is = no (sym other ∙ ap is_first (sym is) ∙ first)

-- EXPRESSIONS THAT GO ON

abbrev Goes : Lexeme → Lexeme → Lexeme → Type 0
Goes n o t = (e : Phrase) × (more : List Lexeme) × (is_expression e ≡ true) × IsMade e [] × (spell e [] ≡ n ∷ o ∷ t ∷ more)

infix_goes : (n o t : Lexeme) → n.word ≡ W.Name → is_step o.word ≡ true → o.line_before ≡ false → 0 < binds t.word → binds t.word ≤ 13 → Goes n o t
infix_goes n o t named step line some most = (
  Infix (Postfix (Single n) o) t (Single n),
  n ∷ [],
  le-leb 1 (binds t.word) (omega arith),
  (some, omega arith, omega arith, (refl, target n named, single n named, step, line), single n named),
  refl,
)

goes_by : (w : Word) (n o t : Lexeme) → n.word ≡ W.Name → is_step o.word ≡ true → o.line_before ≡ false → t.word ≡ w → continues true w ≡ true → Goes n o t ⊎ BeginsNone w
goes_by (W.Infix B.Multiply) n o t named step line is c = inl (infix_goes n o t named step line (subst (λ (v : Word). 0 < binds v) (sym is) (omega arith)) (subst (λ (v : Word). binds v ≤ 13) (sym is) (omega arith)))
goes_by (W.Infix B.Divide) n o t named step line is c = inl (infix_goes n o t named step line (subst (λ (v : Word). 0 < binds v) (sym is) (omega arith)) (subst (λ (v : Word). binds v ≤ 13) (sym is) (omega arith)))
goes_by (W.Infix B.Remainder) n o t named step line is c = inl (infix_goes n o t named step line (subst (λ (v : Word). 0 < binds v) (sym is) (omega arith)) (subst (λ (v : Word). binds v ≤ 13) (sym is) (omega arith)))
goes_by (W.Infix B.Add) n o t named step line is c = inl (infix_goes n o t named step line (subst (λ (v : Word). 0 < binds v) (sym is) (omega arith)) (subst (λ (v : Word). binds v ≤ 13) (sym is) (omega arith)))
goes_by (W.Infix B.Subtract) n o t named step line is c = inl (infix_goes n o t named step line (subst (λ (v : Word). 0 < binds v) (sym is) (omega arith)) (subst (λ (v : Word). binds v ≤ 13) (sym is) (omega arith)))
goes_by (W.Infix B.ShiftLeft) n o t named step line is c = inl (infix_goes n o t named step line (subst (λ (v : Word). 0 < binds v) (sym is) (omega arith)) (subst (λ (v : Word). binds v ≤ 13) (sym is) (omega arith)))
goes_by (W.Infix B.ShiftRight) n o t named step line is c = inl (infix_goes n o t named step line (subst (λ (v : Word). 0 < binds v) (sym is) (omega arith)) (subst (λ (v : Word). binds v ≤ 13) (sym is) (omega arith)))
goes_by (W.Infix B.ShiftRightUnsigned) n o t named step line is c = inl (infix_goes n o t named step line (subst (λ (v : Word). 0 < binds v) (sym is) (omega arith)) (subst (λ (v : Word). binds v ≤ 13) (sym is) (omega arith)))
goes_by (W.Infix B.Less) n o t named step line is c = inl (infix_goes n o t named step line (subst (λ (v : Word). 0 < binds v) (sym is) (omega arith)) (subst (λ (v : Word). binds v ≤ 13) (sym is) (omega arith)))
goes_by (W.Infix B.Greater) n o t named step line is c = inl (infix_goes n o t named step line (subst (λ (v : Word). 0 < binds v) (sym is) (omega arith)) (subst (λ (v : Word). binds v ≤ 13) (sym is) (omega arith)))
goes_by (W.Infix B.LessOrEqual) n o t named step line is c = inl (infix_goes n o t named step line (subst (λ (v : Word). 0 < binds v) (sym is) (omega arith)) (subst (λ (v : Word). binds v ≤ 13) (sym is) (omega arith)))
goes_by (W.Infix B.GreaterOrEqual) n o t named step line is c = inl (infix_goes n o t named step line (subst (λ (v : Word). 0 < binds v) (sym is) (omega arith)) (subst (λ (v : Word). binds v ≤ 13) (sym is) (omega arith)))
goes_by (W.Infix B.InstanceOf) n o t named step line is c = inl (infix_goes n o t named step line (subst (λ (v : Word). 0 < binds v) (sym is) (omega arith)) (subst (λ (v : Word). binds v ≤ 13) (sym is) (omega arith)))
goes_by (W.Infix B.In) n o t named step line is c = inl (infix_goes n o t named step line (subst (λ (v : Word). 0 < binds v) (sym is) (omega arith)) (subst (λ (v : Word). binds v ≤ 13) (sym is) (omega arith)))
goes_by (W.Infix B.Equal) n o t named step line is c = inl (infix_goes n o t named step line (subst (λ (v : Word). 0 < binds v) (sym is) (omega arith)) (subst (λ (v : Word). binds v ≤ 13) (sym is) (omega arith)))
goes_by (W.Infix B.NotEqual) n o t named step line is c = inl (infix_goes n o t named step line (subst (λ (v : Word). 0 < binds v) (sym is) (omega arith)) (subst (λ (v : Word). binds v ≤ 13) (sym is) (omega arith)))
goes_by (W.Infix B.StrictEqual) n o t named step line is c = inl (infix_goes n o t named step line (subst (λ (v : Word). 0 < binds v) (sym is) (omega arith)) (subst (λ (v : Word). binds v ≤ 13) (sym is) (omega arith)))
goes_by (W.Infix B.StrictNotEqual) n o t named step line is c = inl (infix_goes n o t named step line (subst (λ (v : Word). 0 < binds v) (sym is) (omega arith)) (subst (λ (v : Word). binds v ≤ 13) (sym is) (omega arith)))
goes_by (W.Infix B.BitAnd) n o t named step line is c = inl (infix_goes n o t named step line (subst (λ (v : Word). 0 < binds v) (sym is) (omega arith)) (subst (λ (v : Word). binds v ≤ 13) (sym is) (omega arith)))
goes_by (W.Infix B.BitXor) n o t named step line is c = inl (infix_goes n o t named step line (subst (λ (v : Word). 0 < binds v) (sym is) (omega arith)) (subst (λ (v : Word). binds v ≤ 13) (sym is) (omega arith)))
goes_by (W.Infix B.BitOr) n o t named step line is c = inl (infix_goes n o t named step line (subst (λ (v : Word). 0 < binds v) (sym is) (omega arith)) (subst (λ (v : Word). binds v ≤ 13) (sym is) (omega arith)))
goes_by (W.Logical L.And) n o t named step line is c = inl (infix_goes n o t named step line (subst (λ (v : Word). 0 < binds v) (sym is) (omega arith)) (subst (λ (v : Word). binds v ≤ 13) (sym is) (omega arith)))
goes_by (W.Logical L.Or) n o t named step line is c = inl (infix_goes n o t named step line (subst (λ (v : Word). 0 < binds v) (sym is) (omega arith)) (subst (λ (v : Word). binds v ≤ 13) (sym is) (omega arith)))
goes_by W.Comma n o t named step line is c = inl (infix_goes n o t named step line (subst (λ (v : Word). 0 < binds v) (sym is) (omega arith)) (subst (λ (v : Word). binds v ≤ 13) (sym is) (omega arith)))
goes_by W.Question n o t named step line is c = inl (
  Conditional (Postfix (Single n) o) t (Single n) (mark W.Colon) (Single n),
  n ∷ mark W.Colon ∷ n ∷ [],
  refl,
  (refl, (refl, target n named, single n named, step, line), is, refl, single n named, refl, refl, single n named),
  refl,
)
goes_by W.Assign n o t named step line is c = inr (begins_none W.Assign refl)
goes_by (W.Compound op) n o t named step line is c = inr (begins_none (W.Compound op) refl)
goes_by W.Point n o t named step line is c = inr (begins_none W.Point refl)
goes_by _ n o t named step line is c = absurd (no c)

pub continuing_goes_on_behind_postfix : ContinuingGoesOnBehindPostfix
continuing_goes_on_behind_postfix n o t named step line c = goes_by t.word n o t named step line refl c
