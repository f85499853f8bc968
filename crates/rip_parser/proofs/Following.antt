-- What holds of each lexeme of a phrase and of what follows it.
use Rattle.std.proofs.Common.{List, [], ◌∷◌}
use Rattle.rip_grammar.specs.declared.word.Lexeme.{Lexeme}
use Rattle.rip_grammar.specs.Phrases.{Ending, Written, Inserted, Phrase, Absent, Nothing, More, CommaMore, Trailing, Single, Array, Object, Entry, Parenthesized, Member, Index, New, NewCall, Call, Postfix, Prefix, Infix, Conditional, Assignment, Block, Var, Declarator, Initialised, Empty, Expression, If, IfElse, DoWhile, While, For, Bindings, Continue, Break, Return, Switch, Case, Default, Throw, Try, Catch, Finally, Function, Declaration, Parameter, spell, spell_ending}

-- it holds of each lexeme
abbrev pub Each : (Lexeme → Type 0) → List Lexeme → Type 0
Each P [] = Unit {0}
Each P (t ∷ r) = P t × Each P r

behind-ending : (P : Lexeme → Type 0) (z : Ending) (r : List Lexeme) → Each P (spell_ending z r) → Each P r
behind-ending P (Written t) r e = e.1
behind-ending P Inserted r e = e

-- it holds of those that follow the phrase
pub behind : (P : Lexeme → Type 0) (d : Phrase) (r : List Lexeme) → Each P (spell d r) → Each P r
behind P Absent r e = e
behind P Nothing r e = e
behind P (More l d) r e = behind P d r (behind P l (spell d r) e)
behind P (CommaMore l c d) r e = behind P d r (behind P l (c ∷ spell d r) e).1
behind P (Trailing l c) r e = (behind P l (c ∷ r) e).1
behind P (Single t) r e = e.1
behind P (Array o l c) r e = (behind P l (c ∷ r) e.1).1
behind P (Object o l c) r e = (behind P l (c ∷ r) e.1).1
behind P (Entry k c d) r e = behind P d r e.1.1
behind P (Parenthesized o d c) r e = (behind P d (c ∷ r) e.1).1
behind P (Member b p n) r e = (behind P b (p ∷ n ∷ r) e).1.1
behind P (Index b o d c) r e = (behind P d (c ∷ r) (behind P b (o ∷ spell d (c ∷ r)) e).1).1
behind P (New w f) r e = behind P f r e.1
behind P (NewCall w f o l c) r e = (behind P l (c ∷ r) (behind P f (o ∷ spell l (c ∷ r)) e.1).1).1
behind P (Call f o l c) r e = (behind P l (c ∷ r) (behind P f (o ∷ spell l (c ∷ r)) e).1).1
behind P (Postfix d o) r e = (behind P d (o ∷ r) e).1
behind P (Prefix o d) r e = behind P d r e.1
behind P (Infix a o b) r e = behind P b r (behind P a (o ∷ spell b r) e).1
behind P (Conditional a q b c d) r e = behind P d r (behind P b (c ∷ spell d r) (behind P a (q ∷ spell b (c ∷ spell d r)) e).1).1
behind P (Assignment a o b) r e = behind P b r (behind P a (o ∷ spell b r) e).1
behind P (Block o l c) r e = (behind P l (c ∷ r) e.1).1
behind P (Var v l z) r e = behind-ending P z r (behind P l (spell_ending z r) e.1)
behind P (Declarator n) r e = e.1
behind P (Initialised n q d) r e = behind P d r e.1.1
behind P (Empty t) r e = e.1
behind P (Expression d z) r e = behind-ending P z r (behind P d (spell_ending z r) e)
behind P (If i o d c s) r e = behind P s r (behind P d (c ∷ spell s r) e.1.1).1
behind P (IfElse i o d c s l u) r e = behind P u r (behind P s (l ∷ spell u r) (behind P d (c ∷ spell s (l ∷ spell u r)) e.1.1).1).1
behind P (DoWhile d s w o x c z) r e = behind-ending P z r (behind P x (c ∷ spell_ending z r) (behind P s (w ∷ o ∷ spell x (c ∷ spell_ending z r)) e.1).1.1).1
behind P (While w o d c s) r e = behind P s r (behind P d (c ∷ spell s r) e.1.1).1
behind P (For f o i p x q u c s) r e =
    behind P s r (behind P u (c ∷ spell s r) (behind P x (q ∷ spell u (c ∷ spell s r)) (behind P i (p ∷ spell x (q ∷ spell u (c ∷ spell s r))) e.1.1).1).1).1
behind P (Bindings v l) r e = behind P l r e.1
behind P (Continue t z) r e = behind-ending P z r e.1
behind P (Break t z) r e = behind-ending P z r e.1
behind P (Return t d z) r e = behind-ending P z r (behind P d (spell_ending z r) e.1)
behind P (Switch s o d c b l k) r e = (behind P l (k ∷ r) (behind P d (c ∷ b ∷ spell l (k ∷ r)) e.1.1).1.1).1
behind P (Case w d c l) r e = behind P l r (behind P d (c ∷ spell l r) e.1).1
behind P (Default w c l) r e = behind P l r e.1.1
behind P (Throw t d z) r e = behind-ending P z r (behind P d (spell_ending z r) e.1)
behind P (Try t b h f) r e = behind P f r (behind P h (spell f r) (behind P b (spell h (spell f r)) e.1))
behind P (Catch w o n c b) r e = behind P b r e.1.1.1.1
behind P (Finally w b) r e = behind P b r e.1
behind P (Function f n o l c b s k) r e = (behind P s (k ∷ r) (behind P l (c ∷ b ∷ spell s (k ∷ r)) (behind P n (o ∷ spell l (c ∷ b ∷ spell s (k ∷ r))) e.1).1).1.1).1
behind P (Declaration f n o l c b s k) r e = (behind P s (k ∷ r) (behind P l (c ∷ b ∷ spell s (k ∷ r)) e.1.1.1).1.1).1
behind P (Parameter n) r e = e.1
