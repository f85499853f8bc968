-- The forms of phrases: derivations whose leaves are lexemes (ECMA-262 11 to 14).
use Rattle.std.specs.Prelude.{List, ◌∷◌}
use Rattle.rip_grammar.specs.declared.word.Lexeme.{Lexeme}

-- how a statement ends: with `;`, or with the empty spelling that stands for it (7.9)
pub data Ending : Type 0 where
  Written : Lexeme → Ending
  Inserted : Ending

-- a phrase; lexemes and parts stand in the order of the script
pub data Phrase : Type 0 where
  -- a part that is not there
  Absent : Phrase
  -- a list: nothing, one more, a comma and one more, or a comma at the end
  Nothing : Phrase
  More : Phrase → Phrase → Phrase
  CommaMore : Phrase → Lexeme → Phrase → Phrase
  Trailing : Phrase → Lexeme → Phrase
  -- `this`, a name, a literal (11.1.1 to 11.1.3)
  Single : Lexeme → Phrase
  -- `[` elements `]` (11.1.4)
  Array : Lexeme → Phrase → Lexeme → Phrase
  -- `{` entries `}`, and an entry: key `:` expression (11.1.5)
  Object : Lexeme → Phrase → Lexeme → Phrase
  Entry : Lexeme → Lexeme → Phrase → Phrase
  -- `(` expression `)` (11.1.6)
  Parenthesized : Lexeme → Phrase → Lexeme → Phrase
  -- base `.` name, and base `[` expression `]` (11.2.1)
  Member : Phrase → Lexeme → Lexeme → Phrase
  Index : Phrase → Lexeme → Phrase → Lexeme → Phrase
  -- `new` constructor, and `new` constructor `(` arguments `)` (11.2.2)
  New : Lexeme → Phrase → Phrase
  NewCall : Lexeme → Phrase → Lexeme → Phrase → Lexeme → Phrase
  -- callee `(` arguments `)` (11.2.3, 11.2.4)
  Call : Phrase → Lexeme → Phrase → Lexeme → Phrase
  -- target operator (11.3)
  Postfix : Phrase → Lexeme → Phrase
  -- operator operand (11.4)
  Prefix : Lexeme → Phrase → Phrase
  -- operand operator operand (11.5 to 11.11, 11.14)
  Infix : Phrase → Lexeme → Phrase → Phrase
  -- test `?` expression `:` expression (11.12)
  Conditional : Phrase → Lexeme → Phrase → Lexeme → Phrase → Phrase
  -- target operator expression (11.13)
  Assignment : Phrase → Lexeme → Phrase → Phrase
  -- `{` statements `}` (12.1)
  Block : Lexeme → Phrase → Lexeme → Phrase
  -- `var` declarators, and a declarator: a name, or name `=` expression (12.2)
  Var : Lexeme → Phrase → Ending → Phrase
  Declarator : Lexeme → Phrase
  Initialised : Lexeme → Lexeme → Phrase → Phrase
  -- `;` (12.3)
  Empty : Lexeme → Phrase
  -- an expression (12.4)
  Expression : Phrase → Ending → Phrase
  -- `if` `(` test `)` statement, and with `else` statement (12.5)
  If : Lexeme → Lexeme → Phrase → Lexeme → Phrase → Phrase
  IfElse : Lexeme → Lexeme → Phrase → Lexeme → Phrase → Lexeme → Phrase → Phrase
  -- `do` statement `while` `(` test `)` (12.6.1)
  DoWhile : Lexeme → Phrase → Lexeme → Lexeme → Phrase → Lexeme → Ending → Phrase
  -- `while` `(` test `)` statement (12.6.2)
  While : Lexeme → Lexeme → Phrase → Lexeme → Phrase → Phrase
  -- `for` `(` init `;` test `;` update `)` statement, and an init `var` declarators (12.6.3)
  For : Lexeme → Lexeme → Phrase → Lexeme → Phrase → Lexeme → Phrase → Lexeme → Phrase → Phrase
  Bindings : Lexeme → Phrase → Phrase
  -- `continue`, `break`, `return` and an expression or none (12.7 to 12.9)
  Continue : Lexeme → Ending → Phrase
  Break : Lexeme → Ending → Phrase
  Return : Lexeme → Phrase → Ending → Phrase
  -- `switch` `(` expression `)` `{` clauses `}`, and its clauses: `case` test `:` statements, `default` `:` statements (12.11)
  Switch : Lexeme → Lexeme → Phrase → Lexeme → Lexeme → Phrase → Lexeme → Phrase
  Case : Lexeme → Phrase → Lexeme → Phrase → Phrase
  Default : Lexeme → Lexeme → Phrase → Phrase
  -- `throw` expression (12.13)
  Throw : Lexeme → Phrase → Ending → Phrase
  -- `try` block, a catch clause or none, a finally clause or none; `catch` `(` name `)` block, and `finally` block (12.14)
  Try : Lexeme → Phrase → Phrase → Phrase → Phrase
  Catch : Lexeme → Lexeme → Lexeme → Lexeme → Phrase → Phrase
  Finally : Lexeme → Phrase → Phrase
  -- `function`, a name or none, `(` parameters `)` `{` body `}`, as an expression and as a declaration; a parameter (13)
  Function : Lexeme → Phrase → Lexeme → Phrase → Lexeme → Lexeme → Phrase → Lexeme → Phrase
  Declaration : Lexeme → Lexeme → Lexeme → Phrase → Lexeme → Lexeme → Phrase → Lexeme → Phrase
  Parameter : Lexeme → Phrase

-- the lexeme of an ending, if it is written, and then the rest
abbrev pub spell_ending : Ending → List Lexeme → List Lexeme
spell_ending (Written t) r = t ∷ r
spell_ending Inserted r = r

-- the lexemes of a phrase, and then the rest
abbrev pub spell : Phrase → List Lexeme → List Lexeme
spell Absent r = r
spell Nothing r = r
spell (More l d) r = spell l (spell d r)
spell (CommaMore l c d) r = spell l (c ∷ spell d r)
spell (Trailing l c) r = spell l (c ∷ r)
spell (Single t) r = t ∷ r
spell (Array o l c) r = o ∷ spell l (c ∷ r)
spell (Object o l c) r = o ∷ spell l (c ∷ r)
spell (Entry k c e) r = k ∷ c ∷ spell e r
spell (Parenthesized o e c) r = o ∷ spell e (c ∷ r)
spell (Member b p n) r = spell b (p ∷ n ∷ r)
spell (Index b o e c) r = spell b (o ∷ spell e (c ∷ r))
spell (New w f) r = w ∷ spell f r
spell (NewCall w f o l c) r = w ∷ spell f (o ∷ spell l (c ∷ r))
spell (Call f o l c) r = spell f (o ∷ spell l (c ∷ r))
spell (Postfix e o) r = spell e (o ∷ r)
spell (Prefix o e) r = o ∷ spell e r
spell (Infix a o b) r = spell a (o ∷ spell b r)
spell (Conditional a q b c d) r = spell a (q ∷ spell b (c ∷ spell d r))
spell (Assignment a o b) r = spell a (o ∷ spell b r)
spell (Block o l c) r = o ∷ spell l (c ∷ r)
spell (Var v l z) r = v ∷ spell l (spell_ending z r)
spell (Declarator n) r = n ∷ r
spell (Initialised n q e) r = n ∷ q ∷ spell e r
spell (Empty t) r = t ∷ r
spell (Expression e z) r = spell e (spell_ending z r)
spell (If i o e c s) r = i ∷ o ∷ spell e (c ∷ spell s r)
spell (IfElse i o e c s l u) r = i ∷ o ∷ spell e (c ∷ spell s (l ∷ spell u r))
spell (DoWhile d s w o e c z) r = d ∷ spell s (w ∷ o ∷ spell e (c ∷ spell_ending z r))
spell (While w o e c s) r = w ∷ o ∷ spell e (c ∷ spell s r)
spell (For f o i p e q u c s) r = f ∷ o ∷ spell i (p ∷ spell e (q ∷ spell u (c ∷ spell s r)))
spell (Bindings v l) r = v ∷ spell l r
spell (Continue t z) r = t ∷ spell_ending z r
spell (Break t z) r = t ∷ spell_ending z r
spell (Return t e z) r = t ∷ spell e (spell_ending z r)
spell (Switch s o e c b l d) r = s ∷ o ∷ spell e (c ∷ b ∷ spell l (d ∷ r))
spell (Case w e c l) r = w ∷ spell e (c ∷ spell l r)
spell (Default w c l) r = w ∷ c ∷ spell l r
spell (Throw t e z) r = t ∷ spell e (spell_ending z r)
spell (Try t b h f) r = t ∷ spell b (spell h (spell f r))
spell (Catch w o n c b) r = w ∷ o ∷ n ∷ c ∷ spell b r
spell (Finally w b) r = w ∷ spell b r
spell (Function f n o l c b s d) r = f ∷ spell n (o ∷ spell l (c ∷ b ∷ spell s (d ∷ r)))
spell (Declaration f n o l c b s d) r = f ∷ n ∷ o ∷ spell l (c ∷ b ∷ spell s (d ∷ r))
spell (Parameter n) r = n ∷ r
