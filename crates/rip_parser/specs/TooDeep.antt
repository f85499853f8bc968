-- The place of the first node that is too deep, in the order of the script.
use Rattle.std.specs.Prelude.{ℕ, ◌+◌, nat_le, if◌then◌else◌, Option, Some, None}
use Rattle.rip_grammar.specs.declared.word.Lexeme.{Lexeme}
use Rattle.rip_grammar.specs.Phrases.{Phrase, Absent, Nothing, More, CommaMore, Trailing, Single, Array, Object, Entry, Parenthesized, Member, Index, New, NewCall, Call, Postfix, Prefix, Infix, Conditional, Assignment, Block, Var, Declarator, Initialised, Empty, Expression, If, IfElse, DoWhile, While, For, Bindings, Continue, Break, Return, Switch, Case, Default, Throw, Try, Catch, Finally, Function, Declaration, Parameter}
use Rattle.rip_grammar.specs.Depths.{greatest_depth}
use Rattle.rip_parser.specs.Shows.{place_of}

-- the first of two places, if there is one
abbrev pub first_of : Option ℕ → Option ℕ → Option ℕ
first_of (Some p) q = Some p
first_of None q = q

-- a node that begins at this place and stands below so many levels: it is too deep itself, or else the first of its
-- parts that is
abbrev pub from : ℕ → ℕ → Option ℕ → Option ℕ
from levels place within = if nat_le greatest_depth levels then Some place else within

-- The place of the first node that is too deep in a phrase below so many levels. A pair of parentheses is a level and no
-- node; lists, and the parts of other phrases, are neither.
abbrev pub first_deep : ℕ → Phrase → Option ℕ
first_deep n Absent = None
first_deep n Nothing = None
first_deep n (More l d) = first_of (first_deep n l) (first_deep n d)
first_deep n (CommaMore l c d) = first_of (first_deep n l) (first_deep n d)
first_deep n (Trailing l c) = first_deep n l
first_deep n (Entry k c e) = first_deep n e
first_deep n (Declarator m) = None
first_deep n (Initialised m q e) = first_deep n e
first_deep n (Bindings v l) = first_deep n l
first_deep n (Case w e c l) = first_of (first_deep n e) (first_deep n l)
first_deep n (Default w c l) = first_deep n l
first_deep n (Catch w o m c b) = first_deep n b
first_deep n (Finally w b) = first_deep n b
first_deep n (Parameter m) = None
first_deep n (Parenthesized o e c) = first_deep (n + 1) e
first_deep n (Single t) = from n t.start None
first_deep n (Array o l c) = from n o.start (first_deep (n + 1) l)
first_deep n (Object o l c) = from n o.start (first_deep (n + 1) l)
first_deep n (Member b p m) = from n (place_of b) (first_deep (n + 1) b)
first_deep n (Index b o e c) = from n (place_of b) (first_of (first_deep (n + 1) b) (first_deep (n + 1) e))
first_deep n (New w f) = from n w.start (first_deep (n + 1) f)
first_deep n (NewCall w f o l c) = from n w.start (first_of (first_deep (n + 1) f) (first_deep (n + 1) l))
first_deep n (Call f o l c) = from n (place_of f) (first_of (first_deep (n + 1) f) (first_deep (n + 1) l))
first_deep n (Postfix e o) = from n (place_of e) (first_deep (n + 1) e)
first_deep n (Prefix o e) = from n o.start (first_deep (n + 1) e)
first_deep n (Infix a o b) = from n (place_of a) (first_of (first_deep (n + 1) a) (first_deep (n + 1) b))
first_deep n (Conditional a q b c d) = from n (place_of a) (first_of (first_deep (n + 1) a) (first_of (first_deep (n + 1) b) (first_deep (n + 1) d)))
first_deep n (Assignment a o b) = from n (place_of a) (first_of (first_deep (n + 1) a) (first_deep (n + 1) b))
first_deep n (Block o l c) = from n o.start (first_deep (n + 1) l)
first_deep n (Var v l z) = from n v.start (first_deep (n + 1) l)
first_deep n (Empty t) = from n t.start None
first_deep n (Expression e z) = from n (place_of e) (first_deep (n + 1) e)
first_deep n (If i o e c s) = from n i.start (first_of (first_deep (n + 1) e) (first_deep (n + 1) s))
first_deep n (IfElse i o e c s l u) = from n i.start (first_of (first_deep (n + 1) e) (first_of (first_deep (n + 1) s) (first_deep (n + 1) u)))
first_deep n (DoWhile d s w o e c z) = from n d.start (first_of (first_deep (n + 1) s) (first_deep (n + 1) e))
first_deep n (While w o e c s) = from n w.start (first_of (first_deep (n + 1) e) (first_deep (n + 1) s))
first_deep n (For f o i p e q u c s) = from n f.start (first_of (first_deep (n + 1) i) (first_of (first_deep (n + 1) e) (first_of (first_deep (n + 1) u) (first_deep (n + 1) s))))
first_deep n (Continue t z) = from n t.start None
first_deep n (Break t z) = from n t.start None
first_deep n (Return t e z) = from n t.start (first_deep (n + 1) e)
first_deep n (Switch s o e c b l d) = from n s.start (first_of (first_deep (n + 1) e) (first_deep (n + 1) l))
first_deep n (Throw t e z) = from n t.start (first_deep (n + 1) e)
first_deep n (Try t b h f) = from n t.start (first_of (first_deep (n + 1) b) (first_of (first_deep (n + 1) h) (first_deep (n + 1) f)))
first_deep n (Function f m o l c b s d) = from n f.start (first_of (first_deep (n + 1) l) (first_deep (n + 1) s))
first_deep n (Declaration f m o l c b s d) = from n f.start (first_of (first_deep (n + 1) l) (first_deep (n + 1) s))

-- the place of the first node of a script that is too deep: the script is one level
abbrev pub first_too_deep : Phrase → Option ℕ
first_too_deep body = first_deep 1 body
