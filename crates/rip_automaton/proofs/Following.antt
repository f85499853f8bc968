-- A rule looks at the first of the lexemes that follow, and at no other.
use Rattle.std.proofs.Common.{◌≡◌, Bool, List, [], ◌∷◌, Option, Some, None, refl, subst}
use Rattle.rip_grammar.specs.declared.word.Word.{Word}
use Rattle.rip_grammar.specs.declared.word.Lexeme.{Lexeme}
use Rattle.rip_grammar.specs.Phrases.{Ending, Written, Inserted, Phrase, Absent, Nothing, More, CommaMore, Trailing, Single, Array, Object, Entry, Parenthesized, Member, Index, New, NewCall, Call, Postfix, Prefix, Infix, Conditional, Assignment, Block, Var, Declarator, Initialised, Empty, Expression, If, IfElse, DoWhile, While, For, Bindings, Continue, Break, Return, Switch, Case, Default, Throw, Try, Catch, Finally, Function, Declaration, Parameter, spell, spell_ending}
use Rattle.rip_grammar.specs.Semicolons.{Next, IsEnded, continues_nothing}
use Rattle.rip_grammar.specs.Grammar.{IsMade}

-- the first of the lexemes
abbrev pub first : List Lexeme → Option Lexeme
first [] = None
first (t ∷ r) = Some t

-- what is said of the next lexeme holds wherever that is the first
pub Next-first : (P : Lexeme → Type 0) (r s : List Lexeme) → first r ≡ first s → Next r P → Next s P
Next-first P [] s e next = absurd next
Next-first P (t ∷ r) [] e next = cc
Next-first P (t ∷ r) (u ∷ s) e next = let same : t ≡ u = cc in subst P same next

ending-first : (z : Ending) (r s : List Lexeme) → first r ≡ first s → first (spell_ending z r) ≡ first (spell_ending z s)
ending-first (Written t) r s e = refl
ending-first Inserted r s e = e

IsEnded-first : (continued : Word → Bool) (z : Ending) (r s : List Lexeme) → first r ≡ first s → IsEnded continued z r → IsEnded continued z s
IsEnded-first continued (Written t) r s e ended = ended
IsEnded-first continued Inserted r s e ended = Next-first _ r s e ended

-- the first lexeme of a phrase and what follows it
pub spell-first : (d : Phrase) (r s : List Lexeme) → first r ≡ first s → first (spell d r) ≡ first (spell d s)
spell-first Absent r s e = e
spell-first Nothing r s e = e
spell-first (More l d) r s e = spell-first l (spell d r) (spell d s) (spell-first d r s e)
spell-first (CommaMore l c d) r s e = spell-first l (c ∷ spell d r) (c ∷ spell d s) refl
spell-first (Trailing l c) r s e = spell-first l (c ∷ r) (c ∷ s) refl
spell-first (Single t) r s e = refl
spell-first (Array o l c) r s e = refl
spell-first (Object o l c) r s e = refl
spell-first (Entry k c v) r s e = refl
spell-first (Parenthesized o v c) r s e = refl
spell-first (Member b p n) r s e = spell-first b (p ∷ n ∷ r) (p ∷ n ∷ s) refl
spell-first (Index b o v c) r s e = spell-first b (o ∷ spell v (c ∷ r)) (o ∷ spell v (c ∷ s)) refl
spell-first (New w f) r s e = refl
spell-first (NewCall w f o l c) r s e = refl
spell-first (Call f o l c) r s e = spell-first f (o ∷ spell l (c ∷ r)) (o ∷ spell l (c ∷ s)) refl
spell-first (Postfix v o) r s e = spell-first v (o ∷ r) (o ∷ s) refl
spell-first (Prefix o v) r s e = refl
spell-first (Infix a o b) r s e = spell-first a (o ∷ spell b r) (o ∷ spell b s) refl
spell-first (Conditional a q b c d) r s e = spell-first a (q ∷ spell b (c ∷ spell d r)) (q ∷ spell b (c ∷ spell d s)) refl
spell-first (Assignment a o b) r s e = spell-first a (o ∷ spell b r) (o ∷ spell b s) refl
spell-first (Block o l c) r s e = refl
spell-first (Var v l z) r s e = refl
spell-first (Declarator n) r s e = refl
spell-first (Initialised n q v) r s e = refl
spell-first (Empty t) r s e = refl
spell-first (Expression v z) r s e = spell-first v (spell_ending z r) (spell_ending z s) (ending-first z r s e)
spell-first (If i o v c d) r s e = refl
spell-first (IfElse i o v c d l u) r s e = refl
spell-first (DoWhile d b w o v c z) r s e = refl
spell-first (While w o v c b) r s e = refl
spell-first (For f o i p v q u c b) r s e = refl
spell-first (Bindings v l) r s e = refl
spell-first (Continue t z) r s e = refl
spell-first (Break t z) r s e = refl
spell-first (Return t v z) r s e = refl
spell-first (Switch w o v c b l d) r s e = refl
spell-first (Case w v c l) r s e = refl
spell-first (Default w c l) r s e = refl
spell-first (Throw t v z) r s e = refl
spell-first (Try t b h f) r s e = refl
spell-first (Catch w o n c b) r s e = refl
spell-first (Finally w b) r s e = refl
spell-first (Function f n o l c b d k) r s e = refl
spell-first (Declaration f n o l c b d k) r s e = refl
spell-first (Parameter n) r s e = refl

-- a phrase that the rules make before some lexemes, they make before others with the same first one
pub IsMade-first : (d : Phrase) (r s : List Lexeme) → first r ≡ first s → IsMade d r → IsMade d s
IsMade-first Absent r s e m = tt
IsMade-first Nothing r s e m = tt
IsMade-first (More l d) r s e m = (IsMade-first l (spell d r) (spell d s) (spell-first d r s e) m.0, IsMade-first d r s e m.1)
IsMade-first (CommaMore l c d) r s e m = (IsMade-first l (c ∷ spell d r) (c ∷ spell d s) refl m.0, m.1, IsMade-first d r s e m.2)
IsMade-first (Trailing l c) r s e m = (IsMade-first l (c ∷ r) (c ∷ s) refl m.0, m.1)
IsMade-first (Single t) r s e m = m
IsMade-first (Array o l c) r s e m = (m.0, m.1, IsMade-first l (c ∷ r) (c ∷ s) refl m.2, m.3)
IsMade-first (Object o l c) r s e m = (m.0, m.1, IsMade-first l (c ∷ r) (c ∷ s) refl m.2, m.3)
IsMade-first (Entry k c v) r s e m = (m.0, m.1, m.2, IsMade-first v r s e m.3)
IsMade-first (Parenthesized o v c) r s e m = (m.0, m.1, IsMade-first v (c ∷ r) (c ∷ s) refl m.2, m.3)
IsMade-first (Member b p n) r s e m = (m.0, IsMade-first b (p ∷ n ∷ r) (p ∷ n ∷ s) refl m.1, m.2, m.3)
IsMade-first (Index b o v c) r s e m = (m.0, IsMade-first b (o ∷ spell v (c ∷ r)) (o ∷ spell v (c ∷ s)) refl m.1, m.2, m.3, IsMade-first v (c ∷ r) (c ∷ s) refl m.4, m.5)
IsMade-first (NewCall w f o l c) r s e m = (m.0, m.1, IsMade-first f (o ∷ spell l (c ∷ r)) (o ∷ spell l (c ∷ s)) refl m.2, m.3, m.4, IsMade-first l (c ∷ r) (c ∷ s) refl m.5, m.6)
IsMade-first (New w f) r s e m = (m.0, m.1, IsMade-first f r s e m.2)
IsMade-first (Call f o l c) r s e m = (m.0, IsMade-first f (o ∷ spell l (c ∷ r)) (o ∷ spell l (c ∷ s)) refl m.1, m.2, m.3, IsMade-first l (c ∷ r) (c ∷ s) refl m.4, m.5)
IsMade-first (Postfix v o) r s e m = (m.0, m.1, IsMade-first v (o ∷ r) (o ∷ s) refl m.2, m.3, m.4)
IsMade-first (Prefix o v) r s e m = (m.0, m.1, m.2, IsMade-first v r s e m.3)
IsMade-first (Infix a o b) r s e m = (m.0, m.1, m.2, IsMade-first a (o ∷ spell b r) (o ∷ spell b s) refl m.3, IsMade-first b r s e m.4)
IsMade-first (Conditional a q b c d) r s e m = (
  m.0,
  IsMade-first a (q ∷ spell b (c ∷ spell d r)) (q ∷ spell b (c ∷ spell d s)) refl m.1,
  m.2,
  m.3,
  IsMade-first b (c ∷ spell d r) (c ∷ spell d s) refl m.4,
  m.5,
  m.6,
  IsMade-first d r s e m.7,
)
IsMade-first (Assignment a o b) r s e m = (m.0, IsMade-first a (o ∷ spell b r) (o ∷ spell b s) refl m.1, m.2, m.3, IsMade-first b r s e m.4)
IsMade-first (Block o l c) r s e m = (m.0, m.1, IsMade-first l (c ∷ r) (c ∷ s) refl m.2, m.3)
IsMade-first (Var v l z) r s e m = (m.0, m.1, IsMade-first l (spell_ending z r) (spell_ending z s) (ending-first z r s e) m.2, IsEnded-first _ z r s e m.3)
IsMade-first (Declarator n) r s e m = m
IsMade-first (Initialised n q v) r s e m = (m.0, m.1, m.2, IsMade-first v r s e m.3)
IsMade-first (Empty t) r s e m = m
IsMade-first (Expression v z) r s e m = (m.0, m.1, IsMade-first v (spell_ending z r) (spell_ending z s) (ending-first z r s e) m.2, IsEnded-first _ z r s e m.3)
IsMade-first (If i o v c d) r s e m = (
  m.0,
  m.1,
  m.2,
  IsMade-first v (c ∷ spell d r) (c ∷ spell d s) refl m.3,
  m.4,
  m.5,
  IsMade-first d r s e m.6,
  Next-first _ r s e m.7,
)
IsMade-first (IfElse i o v c d l u) r s e m = (
  m.0,
  m.1,
  m.2,
  IsMade-first v (c ∷ spell d (l ∷ spell u r)) (c ∷ spell d (l ∷ spell u s)) refl m.3,
  m.4,
  m.5,
  IsMade-first d (l ∷ spell u r) (l ∷ spell u s) refl m.6,
  m.7,
  m.8,
  IsMade-first u r s e m.9,
)
IsMade-first (DoWhile d b w o v c z) r s e m = (
  m.0,
  m.1,
  IsMade-first b (w ∷ o ∷ spell v (c ∷ spell_ending z r)) (w ∷ o ∷ spell v (c ∷ spell_ending z s)) refl m.2,
  m.3,
  m.4,
  m.5,
  IsMade-first v (c ∷ spell_ending z r) (c ∷ spell_ending z s) refl m.6,
  m.7,
  IsEnded-first continues_nothing z r s e m.8,
)
IsMade-first (While w o v c b) r s e m = (m.0, m.1, m.2, IsMade-first v (c ∷ spell b r) (c ∷ spell b s) refl m.3, m.4, m.5, IsMade-first b r s e m.6)
IsMade-first (For f o i p v q u c b) r s e m = (
  m.0,
  m.1,
  m.2,
  m.3,
  IsMade-first i (p ∷ spell v (q ∷ spell u (c ∷ spell b r))) (p ∷ spell v (q ∷ spell u (c ∷ spell b s))) refl m.4,
  m.5,
  m.6,
  IsMade-first v (q ∷ spell u (c ∷ spell b r)) (q ∷ spell u (c ∷ spell b s)) refl m.7,
  m.8,
  m.9,
  IsMade-first u (c ∷ spell b r) (c ∷ spell b s) refl m.10,
  m.11,
  m.12,
  IsMade-first b r s e m.13,
)
IsMade-first (Bindings v l) r s e m = (m.0, m.1, IsMade-first l r s e m.2)
IsMade-first (Continue t z) r s e m = (m.0, IsEnded-first continues_nothing z r s e m.1)
IsMade-first (Break t z) r s e m = (m.0, IsEnded-first continues_nothing z r s e m.1)
IsMade-first (Return t v z) r s e m = (m.0, m.1, m.2, IsMade-first v (spell_ending z r) (spell_ending z s) (ending-first z r s e) m.3, IsEnded-first _ z r s e m.4)
IsMade-first (Switch w o v c b l d) r s e m = (
  m.0,
  m.1,
  m.2,
  IsMade-first v (c ∷ b ∷ spell l (d ∷ r)) (c ∷ b ∷ spell l (d ∷ s)) refl m.3,
  m.4,
  m.5,
  m.6,
  m.7,
  IsMade-first l (d ∷ r) (d ∷ s) refl m.8,
  m.9,
)
IsMade-first (Case w v c l) r s e m = (m.0, m.1, IsMade-first v (c ∷ spell l r) (c ∷ spell l s) refl m.2, m.3, m.4, IsMade-first l r s e m.5)
IsMade-first (Default w c l) r s e m = (m.0, m.1, m.2, IsMade-first l r s e m.3)
IsMade-first (Throw t v z) r s e m = (m.0, m.1, m.2, IsMade-first v (spell_ending z r) (spell_ending z s) (ending-first z r s e) m.3, IsEnded-first _ z r s e m.4)
IsMade-first (Try t b h f) r s e m = (
  m.0,
  m.1,
  IsMade-first b (spell h (spell f r)) (spell h (spell f s)) (spell-first h (spell f r) (spell f s) (spell-first f r s e)) m.2,
  m.3,
  IsMade-first h (spell f r) (spell f s) (spell-first f r s e) m.4,
  m.5,
  IsMade-first f r s e m.6,
  m.7,
)
IsMade-first (Catch w o n c b) r s e m = (m.0, m.1, m.2, m.3, m.4, IsMade-first b r s e m.5)
IsMade-first (Finally w b) r s e m = (m.0, m.1, IsMade-first b r s e m.2)
IsMade-first (Function f n o l c b d k) r s e m = (
  m.0,
  m.1,
  m.2,
  m.3,
  m.4,
  IsMade-first l (c ∷ b ∷ spell d (k ∷ r)) (c ∷ b ∷ spell d (k ∷ s)) refl m.5,
  m.6,
  m.7,
  m.8,
  IsMade-first d (k ∷ r) (k ∷ s) refl m.9,
  m.10,
)
IsMade-first (Declaration f n o l c b d k) r s e m = (
  m.0,
  m.1,
  m.2,
  m.3,
  IsMade-first l (c ∷ b ∷ spell d (k ∷ r)) (c ∷ b ∷ spell d (k ∷ s)) refl m.4,
  m.5,
  m.6,
  m.7,
  IsMade-first d (k ∷ r) (k ∷ s) refl m.8,
  m.9,
)
IsMade-first (Parameter n) r s e m = m
