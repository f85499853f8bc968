-- How deep the tree of a phrase is: levels on the longest way down, the script itself being one.
use Rattle.std.specs.Prelude.{ℕ, ◌+◌, max}
use Rattle.rip_grammar.specs.Phrases.{Phrase, Absent, Nothing, More, CommaMore, Trailing, Single, Array, Object, Entry, Parenthesized, Member, Index, New, NewCall, Call, Postfix, Prefix, Infix, Conditional, Assignment, Block, Var, Declarator, Initialised, Empty, Expression, If, IfElse, DoWhile, While, For, Bindings, Continue, Break, Return, Switch, Case, Default, Throw, Try, Catch, Finally, Function, Declaration, Parameter}

-- The levels of a phrase: each expression and statement, each declaration and each pair of parentheses is one. Lists and
-- the parts of other phrases (entries, declarators, clauses, parameters) are none.
abbrev pub levels : Phrase → ℕ
levels Absent = 0
levels Nothing = 0
levels (More l d) = max (levels l) (levels d)
levels (CommaMore l c d) = max (levels l) (levels d)
levels (Trailing l c) = levels l
levels (Entry k c e) = levels e
levels (Declarator n) = 0
levels (Initialised n q e) = levels e
levels (Bindings v l) = levels l
levels (Case w e c l) = max (levels e) (levels l)
levels (Default w c l) = levels l
levels (Catch w o n c b) = levels b
levels (Finally w b) = levels b
levels (Parameter n) = 0
levels (Single t) = 1
levels (Array o l c) = 1 + levels l
levels (Object o l c) = 1 + levels l
levels (Parenthesized o e c) = 1 + levels e
levels (Member b p n) = 1 + levels b
levels (Index b o e c) = 1 + max (levels b) (levels e)
levels (New w f) = 1 + levels f
levels (NewCall w f o l c) = 1 + max (levels f) (levels l)
levels (Call f o l c) = 1 + max (levels f) (levels l)
levels (Postfix e o) = 1 + levels e
levels (Prefix o e) = 1 + levels e
levels (Infix a o b) = 1 + max (levels a) (levels b)
levels (Conditional a q b c d) = 1 + max (levels a) (max (levels b) (levels d))
levels (Assignment a o b) = 1 + max (levels a) (levels b)
levels (Block o l c) = 1 + levels l
levels (Var v l z) = 1 + levels l
levels (Empty t) = 1
levels (Expression e z) = 1 + levels e
levels (If i o e c s) = 1 + max (levels e) (levels s)
levels (IfElse i o e c s l u) = 1 + max (levels e) (max (levels s) (levels u))
levels (DoWhile d s w o e c z) = 1 + max (levels s) (levels e)
levels (While w o e c s) = 1 + max (levels e) (levels s)
levels (For f o i p e q u c s) = 1 + max (max (levels i) (levels e)) (max (levels u) (levels s))
levels (Continue t z) = 1
levels (Break t z) = 1
levels (Return t e z) = 1 + levels e
levels (Switch s o e c b l d) = 1 + max (levels e) (levels l)
levels (Throw t e z) = 1 + levels e
levels (Try t b h f) = 1 + max (levels b) (max (levels h) (levels f))
levels (Function f n o l c b s d) = 1 + levels s
levels (Declaration f n o l c b s d) = 1 + levels s

-- the depth of the tree of a script with this body
abbrev pub depth : Phrase → ℕ
depth body = 1 + levels body

-- the greatest depth of a tree that is answered
abbrev pub greatest_depth : ℕ
greatest_depth = 200
