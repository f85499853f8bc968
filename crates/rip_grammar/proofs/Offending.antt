-- Which words go on behind a name.
use Rattle.std.proofs.Common.{◌≡◌, ℕ, ◌<◌, ◌≤◌, Bool, true, false, List, [], ◌∷◌, refl, sym, ap, ◌∙◌, subst, ◌⊎◌, inl, inr, arith, leb-true, le-leb, not, ◌&&◌, ◌||◌}
use Rattle.rip_base.specs.declared.operator.BinaryOperator.TheVariants as B
use Rattle.rip_base.specs.declared.operator.LogicalOperator.TheVariants as L
use Rattle.rip_grammar.specs.declared.word.Word.{Word}
use Rattle.rip_grammar.specs.declared.word.Word.TheVariants as W
use Rattle.rip_grammar.specs.declared.word.Lexeme.{Lexeme}
use Rattle.rip_grammar.specs.Words.{is_single, is_prefix, is_name, is_assignment, is_identifier_name, is_step, is_close, is_semicolon, is_no_beginning}
use Rattle.rip_grammar.specs.Phrases.{Phrase, Nothing, Single, Array, Object, Parenthesized, Member, Index, New, NewCall, Call, Postfix, Prefix, Infix, Conditional, Assignment, Function, spell}
use Rattle.rip_grammar.specs.Levels.{level, binds, is_target}
use Rattle.rip_grammar.specs.Semicolons.{continues}
use Rattle.rip_grammar.specs.Grammar.{holds, is_expression, IsMade}
use Rattle.rip_grammar.specs.Offending.{OthersOffend, ContinuingGoesOn, Offends, InsertedBehindName, OffendingIsInserted}
use Rattle.rip_grammar.proofs.Refusals.{no}

-- WORDS

pub binding_continues : (w : Word) → 0 < binds w → continues false w ≡ true
binding_continues (W.Infix op) some = refl
binding_continues (W.Logical op) some = refl
binding_continues W.Comma some = refl
binding_continues _ some = absurd (omega arith)

assignment_continues : (w : Word) → is_assignment w ≡ true → continues false w ≡ true
assignment_continues W.Assign is = refl
assignment_continues (W.Compound op) is = refl
assignment_continues _ is = absurd (no is)

-- the word of a lexeme, and what is said of it
pub word_of_same : (o n : Lexeme) → o ≡ n → o.word ≡ n.word
word_of_same o n same = ap (λ (t : Lexeme). t.word) same

-- what begins with another word begins with no name
pub misnamed {ℓ} : {A : Type ℓ} (o n : Lexeme) (x y : List Lexeme) (w : Word) → o ∷ x ≡ n ∷ y → n.word ≡ W.Name → o.word ≡ w → is_name w ≡ false → A
misnamed o n x y w e named is other =
    let same : o ≡ n = cc in
    absurd (no (sym other ∙ ap is_name (sym is) ∙ ap is_name (word_of_same o n same ∙ named)))

-- EXPRESSIONS THAT BEGIN WITH A NAME

pub tight : (n : ℕ) (e : Phrase) → 1 ≤ n → holds n e ≡ true → is_expression e ≡ true
tight n e some h = let k : n ≤ level e = leb-true n (level e) h in le-leb 1 (level e) (omega arith)

pub target_expression : (a : Phrase) (r : List Lexeme) → is_target a ≡ true → IsMade a r → is_expression a ≡ true
target_expression (Single t) r is made = refl
target_expression (Parenthesized o e c) r is made = refl
target_expression (Member b p n) r is made = let k : 17 ≤ level b = leb-true 17 (level b) made.0 in le-leb 1 _ (omega arith)
target_expression (Index b o v c) r is made = let k : 17 ≤ level b = leb-true 17 (level b) made.0 in le-leb 1 _ (omega arith)
target_expression _ r is made = absurd (no is)

-- it goes on with a word that continues, or with a step on the line
abbrev Onward : Lexeme → Type 0
Onward u = (continues false u.word ≡ true) ⊎ ((u.line_before ≡ false) × (is_step u.word ≡ true))

-- the expression is the name alone, before the rest; or it goes on
abbrev Begun : Phrase → List Lexeme → List Lexeme → Lexeme → Type 0
Begun e r rest n = ((e ≡ Single n) × (rest ≡ r)) ⊎ ((u : Lexeme) × (more : List Lexeme) × (rest ≡ u ∷ more) × Onward u)

-- what goes on behind its first part
further : (e b : Phrase) (r more rest : List Lexeme) (n u : Lexeme) → Onward u → Begun b (u ∷ more) rest n → Begun e r rest n
further e b r more rest n u on (inl alone) = inr (u, more, alone.1, on)
further e b r more rest n u on (inr goes) = inr goes

continued : (u : Lexeme) (w : Word) → u.word ≡ w → continues false w ≡ true → Onward u
continued u w is c = inl (ap (continues false) is ∙ c)

begun : (e : Phrase) (r rest : List Lexeme) (n : Lexeme) → is_expression e ≡ true → IsMade e r → spell e r ≡ n ∷ rest → n.word ≡ W.Name → Begun e r rest n
begun (Single t) r rest n x m s named = let same : t ≡ n = cc in let after : rest ≡ r = cc in inl (ap Single same, after)
begun (Array o l c) r rest n x m s named = misnamed o n _ rest W.OpenBracket s named m.0 refl
begun (Object o l c) r rest n x m s named = misnamed o n _ rest W.OpenBrace s named m.0 refl
begun (Parenthesized o e c) r rest n x m s named = misnamed o n _ rest W.OpenParenthesis s named m.0 refl
begun (Member b p k) r rest n x m s named = further _ b r _ rest n p (continued p W.Point m.2 refl) (begun b (p ∷ k ∷ r) rest n (tight 17 b (omega arith) m.0) m.1 s named)
begun (Index b o v c) r rest n x m s named =
    further _ b r _ rest n o (continued o W.OpenBracket m.2 refl) (begun b (o ∷ spell v (c ∷ r)) rest n (tight 17 b (omega arith) m.0) m.1 s named)
begun (New w f) r rest n x m s named = misnamed w n _ rest W.New s named m.0 refl
begun (NewCall w f o l c) r rest n x m s named = misnamed w n _ rest W.New s named m.0 refl
begun (Call f o l c) r rest n x m s named =
    further _ f r _ rest n o (continued o W.OpenParenthesis m.2 refl) (begun f (o ∷ spell l (c ∷ r)) rest n (tight 17 f (omega arith) m.0) m.1 s named)
begun (Postfix e o) r rest n x m s named = further _ e r _ rest n o (inr (m.4, m.3)) (begun e (o ∷ r) rest n (tight 16 e (omega arith) m.0) m.2 s named)
begun (Prefix o e) r rest n x m s named =
    let same : o ≡ n = cc in absurd (no (sym (ap is_prefix (word_of_same o n same ∙ named)) ∙ m.0))
begun (Infix a o b) r rest n x m s named =
    let some : 0 < binds o.word = m.0 in
    let low : binds o.word ≤ level a = m.1 in
    further _ a r _ rest n o (inl (binding_continues o.word m.0)) (begun a (o ∷ spell b r) rest n (le-leb 1 (level a) (omega arith)) m.3 s named)
begun (Conditional a q b c d) r rest n x m s named =
    further _ a r _ rest n q (continued q W.Question m.2 refl) (begun a (q ∷ spell b (c ∷ spell d r)) rest n (tight 4 a (omega arith) m.0) m.1 s named)
begun (Assignment a o b) r rest n x m s named =
    further _ a r _ rest n o (inl (assignment_continues o.word m.2)) (begun a (o ∷ spell b r) rest n (target_expression a _ m.0 m.1) m.1 s named)
begun (Function f k o l c b d z) r rest n x m s named = misnamed f n _ rest W.Function s named m.0 refl
begun _ r rest n x m s named = absurd (no x)

-- before it `;` may be inserted
abbrev Breaks : Lexeme → Type 0
Breaks t = (is_close t.word || t.line_before) ≡ true

close_is_no_step : (w : Word) → is_step w ≡ true → is_close w ≡ false
close_is_no_step (W.Step op) is = refl
close_is_no_step _ is = absurd (no is)

onward_behind_a_line : (t u : Lexeme) → t ≡ u → Onward u → Breaks t → continues false t.word ≡ true
onward_behind_a_line t u same (inl goes) breaks = ap (λ (v : Lexeme). continues false v.word) same ∙ goes
onward_behind_a_line t u same (inr on_line) breaks =
    let here : (is_close u.word || u.line_before) ≡ true = subst Breaks same breaks in
    let none : (is_close u.word || u.line_before) ≡ false = ap (λ (b : Bool). b || u.line_before) (close_is_no_step u.word on_line.1) ∙ on_line.0 in
    absurd (no (sym none ∙ here))

others : (e : Phrase) (r more : List Lexeme) (n t : Lexeme) → Breaks t → Begun e r (t ∷ more) n → (e ≡ Single n) ⊎ (continues false t.word ≡ true)
others e r more n t breaks (inl alone) = inl alone.0
others e r more n t breaks (inr goes) =
    let u = goes.0 in
    let behind = goes.1 in
    let splits : t ∷ more ≡ u ∷ behind = goes.2 in
    let same : t ≡ u = cc in
    inr (onward_behind_a_line t u same goes.3 breaks)

line_breaks : (t : Lexeme) → t.line_before ≡ true → Breaks t
line_breaks t line = either_true (is_close t.word) t.line_before line
  where
    either_true : (a b : Bool) → b ≡ true → (a || b) ≡ true
    either_true true b e = refl
    either_true false b e = e

pub others_offend : OthersOffend
others_offend e r more n t x m s named line = others e r more n t (line_breaks t line) (begun e r (t ∷ more) n x m s named)

-- EXPRESSIONS THAT GO ON

abbrev Goes : Lexeme → Lexeme → Type 0
Goes n t = (e : Phrase) × (more : List Lexeme) × (is_expression e ≡ true) × IsMade e [] × (spell e [] ≡ n ∷ t ∷ more)

abbrev pub mark : Word → Lexeme
mark w = record { word = w; start = 0; count = 1; line_before = false }

pub single : (n : Lexeme) → n.word ≡ W.Name → is_single n.word ≡ true
single n named = ap is_single named

pub target : (n : Lexeme) → n.word ≡ W.Name → is_name n.word ≡ true
target n named = ap is_name named

infix_goes : (n t : Lexeme) → n.word ≡ W.Name → 0 < binds t.word → binds t.word ≤ 13 → Goes n t
infix_goes n t named some most =
    (Infix (Single n) t (Single n), n ∷ [], le-leb 1 (binds t.word) (omega arith), (some, omega arith, omega arith, single n named, single n named), refl)

assignment_goes : (n t : Lexeme) → n.word ≡ W.Name → is_assignment t.word ≡ true → Goes n t
assignment_goes n t named is = (Assignment (Single n) t (Single n), n ∷ [], refl, (target n named, single n named, is, refl, single n named), refl)

goes_by : (w : Word) (n t : Lexeme) → n.word ≡ W.Name → t.word ≡ w → continues false w ≡ true → Goes n t
goes_by (W.Infix B.Multiply) n t named is c = infix_goes n t named (subst (λ (v : Word). 0 < binds v) (sym is) (omega arith)) (subst (λ (v : Word). binds v ≤ 13) (sym is) (omega arith))
goes_by (W.Infix B.Divide) n t named is c = infix_goes n t named (subst (λ (v : Word). 0 < binds v) (sym is) (omega arith)) (subst (λ (v : Word). binds v ≤ 13) (sym is) (omega arith))
goes_by (W.Infix B.Remainder) n t named is c = infix_goes n t named (subst (λ (v : Word). 0 < binds v) (sym is) (omega arith)) (subst (λ (v : Word). binds v ≤ 13) (sym is) (omega arith))
goes_by (W.Infix B.Add) n t named is c = infix_goes n t named (subst (λ (v : Word). 0 < binds v) (sym is) (omega arith)) (subst (λ (v : Word). binds v ≤ 13) (sym is) (omega arith))
goes_by (W.Infix B.Subtract) n t named is c = infix_goes n t named (subst (λ (v : Word). 0 < binds v) (sym is) (omega arith)) (subst (λ (v : Word). binds v ≤ 13) (sym is) (omega arith))
goes_by (W.Infix B.ShiftLeft) n t named is c = infix_goes n t named (subst (λ (v : Word). 0 < binds v) (sym is) (omega arith)) (subst (λ (v : Word). binds v ≤ 13) (sym is) (omega arith))
goes_by (W.Infix B.ShiftRight) n t named is c = infix_goes n t named (subst (λ (v : Word). 0 < binds v) (sym is) (omega arith)) (subst (λ (v : Word). binds v ≤ 13) (sym is) (omega arith))
goes_by (W.Infix B.ShiftRightUnsigned) n t named is c = infix_goes n t named (subst (λ (v : Word). 0 < binds v) (sym is) (omega arith)) (subst (λ (v : Word). binds v ≤ 13) (sym is) (omega arith))
goes_by (W.Infix B.Less) n t named is c = infix_goes n t named (subst (λ (v : Word). 0 < binds v) (sym is) (omega arith)) (subst (λ (v : Word). binds v ≤ 13) (sym is) (omega arith))
goes_by (W.Infix B.Greater) n t named is c = infix_goes n t named (subst (λ (v : Word). 0 < binds v) (sym is) (omega arith)) (subst (λ (v : Word). binds v ≤ 13) (sym is) (omega arith))
goes_by (W.Infix B.LessOrEqual) n t named is c = infix_goes n t named (subst (λ (v : Word). 0 < binds v) (sym is) (omega arith)) (subst (λ (v : Word). binds v ≤ 13) (sym is) (omega arith))
goes_by (W.Infix B.GreaterOrEqual) n t named is c = infix_goes n t named (subst (λ (v : Word). 0 < binds v) (sym is) (omega arith)) (subst (λ (v : Word). binds v ≤ 13) (sym is) (omega arith))
goes_by (W.Infix B.InstanceOf) n t named is c = infix_goes n t named (subst (λ (v : Word). 0 < binds v) (sym is) (omega arith)) (subst (λ (v : Word). binds v ≤ 13) (sym is) (omega arith))
goes_by (W.Infix B.In) n t named is c = infix_goes n t named (subst (λ (v : Word). 0 < binds v) (sym is) (omega arith)) (subst (λ (v : Word). binds v ≤ 13) (sym is) (omega arith))
goes_by (W.Infix B.Equal) n t named is c = infix_goes n t named (subst (λ (v : Word). 0 < binds v) (sym is) (omega arith)) (subst (λ (v : Word). binds v ≤ 13) (sym is) (omega arith))
goes_by (W.Infix B.NotEqual) n t named is c = infix_goes n t named (subst (λ (v : Word). 0 < binds v) (sym is) (omega arith)) (subst (λ (v : Word). binds v ≤ 13) (sym is) (omega arith))
goes_by (W.Infix B.StrictEqual) n t named is c = infix_goes n t named (subst (λ (v : Word). 0 < binds v) (sym is) (omega arith)) (subst (λ (v : Word). binds v ≤ 13) (sym is) (omega arith))
goes_by (W.Infix B.StrictNotEqual) n t named is c = infix_goes n t named (subst (λ (v : Word). 0 < binds v) (sym is) (omega arith)) (subst (λ (v : Word). binds v ≤ 13) (sym is) (omega arith))
goes_by (W.Infix B.BitAnd) n t named is c = infix_goes n t named (subst (λ (v : Word). 0 < binds v) (sym is) (omega arith)) (subst (λ (v : Word). binds v ≤ 13) (sym is) (omega arith))
goes_by (W.Infix B.BitXor) n t named is c = infix_goes n t named (subst (λ (v : Word). 0 < binds v) (sym is) (omega arith)) (subst (λ (v : Word). binds v ≤ 13) (sym is) (omega arith))
goes_by (W.Infix B.BitOr) n t named is c = infix_goes n t named (subst (λ (v : Word). 0 < binds v) (sym is) (omega arith)) (subst (λ (v : Word). binds v ≤ 13) (sym is) (omega arith))
goes_by (W.Logical L.And) n t named is c = infix_goes n t named (subst (λ (v : Word). 0 < binds v) (sym is) (omega arith)) (subst (λ (v : Word). binds v ≤ 13) (sym is) (omega arith))
goes_by (W.Logical L.Or) n t named is c = infix_goes n t named (subst (λ (v : Word). 0 < binds v) (sym is) (omega arith)) (subst (λ (v : Word). binds v ≤ 13) (sym is) (omega arith))
goes_by W.Comma n t named is c = infix_goes n t named (subst (λ (v : Word). 0 < binds v) (sym is) (omega arith)) (subst (λ (v : Word). binds v ≤ 13) (sym is) (omega arith))
goes_by W.Assign n t named is c = assignment_goes n t named (ap is_assignment is)
goes_by (W.Compound op) n t named is c = assignment_goes n t named (ap is_assignment is)
goes_by W.Question n t named is c =
    (Conditional (Single n) t (Single n) (mark W.Colon) (Single n), n ∷ mark W.Colon ∷ n ∷ [], refl, (refl, single n named, is, refl, single n named, refl, refl, single n named), refl)
goes_by W.Point n t named is c = (Member (Single n) t n, n ∷ [], refl, (refl, single n named, is, ap is_identifier_name named), refl)
goes_by W.OpenParenthesis n t named is c =
    (Call (Single n) t Nothing (mark W.CloseParenthesis), mark W.CloseParenthesis ∷ [], refl, (refl, single n named, is, refl, tt, refl), refl)
goes_by W.OpenBracket n t named is c =
    (Index (Single n) t (Single n) (mark W.CloseBracket), n ∷ mark W.CloseBracket ∷ [], refl, (refl, single n named, is, refl, single n named, refl), refl)
goes_by _ n t named is c = absurd (no c)

pub continuing_goes_on : ContinuingGoesOn
continuing_goes_on n t named c = goes_by t.word n t named refl c

-- WHERE `;` IS INSERTED

and_left : (x y : Bool) → (x && y) ≡ true → x ≡ true
and_left true y e = refl
and_left false y e = e

and_right : (x y : Bool) → (x && y) ≡ true → y ≡ true
and_right true y e = e
and_right false y e = absurd (no e)

opposite : (x : Bool) → not x ≡ true → x ≡ false
opposite true e = absurd (no e)
opposite false e = refl

-- the three parts of what is asked of the token
parts : (b s c : Bool) → (b && not s && not c) ≡ true → (b ≡ true) × (s ≡ false) × (c ≡ false)
parts b s c e =
    let first = and_left (b && not s) (not c) e in
    (and_left b (not s) first, opposite s (and_right b (not s) first), opposite c (and_right (b && not s) (not c) e))

offends_by : (n t : Lexeme) → n.word ≡ W.Name → Breaks t → continues false t.word ≡ false → (e : Phrase) (r more : List Lexeme) → is_expression e ≡ true → IsMade e r → spell e r ≡ n ∷ t ∷ more
    → (e ≡ Single n) ⊎ (continues false t.word ≡ true) → e ≡ Single n
offends_by n t named breaks ends e r more x m s (inl alone) = alone
offends_by n t named breaks ends e r more x m s (inr goes) = absurd (no (sym ends ∙ goes))

pub inserted_behind_name : InsertedBehindName
inserted_behind_name n t r named made =
    let asked = parts (is_close t.word || t.line_before) (is_semicolon t.word) (continues false t.word) made.3 in
    (asked.0, asked.1, λ e rest more x m s. offends_by n t named asked.0 asked.2 e rest more x m s (others e rest more n t asked.0 (begun e rest (t ∷ more) n x m s named)))

together : (b s c : Bool) → b ≡ true → s ≡ false → c ≡ false → (b && not s && not c) ≡ true
together true false false e f g = refl
together true false true e f g = absurd (no (sym g))
together true true c e f g = absurd (no (sym f))
together false s c e f g = absurd (no e)

-- the name alone has one lexeme
alone : (n t : Lexeme) (e : Phrase) (more : List Lexeme) → e ≡ Single n → spell e [] ≡ n ∷ t ∷ more → ⊥
alone n t e more is s =
    let one : n ∷ [] ≡ n ∷ t ∷ more = sym (ap (λ (d : Phrase). spell d []) is) ∙ s in cc

not_continuing : (n t : Lexeme) → n.word ≡ W.Name → Offends n t → (b : Bool) → continues false t.word ≡ b → continues false t.word ≡ false
not_continuing n t named offends true is =
    let goes = goes_by t.word n t named refl is in absurd (alone n t goes.0 goes.1 (offends goes.0 [] goes.1 goes.2 goes.3 goes.4) goes.4)
not_continuing n t named offends false is = is

begins_well : (n : Lexeme) → n.word ≡ W.Name → is_no_beginning n.word ≡ false
begins_well n named = ap is_no_beginning named

pub offending_is_inserted : OffendingIsInserted
offending_is_inserted n t r named breaks other offends = (
  refl,
  begins_well n named,
  single n named,
  together (is_close t.word || t.line_before) (is_semicolon t.word) (continues false t.word) breaks other (not_continuing n t named offends (continues false t.word) refl),
)
