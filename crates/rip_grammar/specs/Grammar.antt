-- Which phrases the rules make (ECMA-262 11 to 14): one line for each form, with the rule's section.
use Rattle.std.specs.Prelude.{◌≡◌, ◌==◌, ℕ, ◌+◌, ◌<◌, ◌≤◌, nat_le, Bool, true, false, not, ◌&&◌, ◌||◌, List, [], ◌∷◌, ◌++◌}
use Rattle.rip_grammar.specs.declared.word.Word.{Word}
use Rattle.rip_grammar.specs.declared.word.Word.TheVariants as W
use Rattle.rip_grammar.specs.declared.word.Lexeme.{Lexeme}
use Rattle.rip_grammar.specs.Words.{is_single, is_key, is_identifier_name, is_prefix, is_step, is_assignment, is_else, is_no_beginning}
use Rattle.rip_grammar.specs.Phrases.{Phrase, Absent, Nothing, More, CommaMore, Trailing, Single, Array, Object, Entry, Parenthesized, Member, Index, New, NewCall, Call, Postfix, Prefix, Infix, Conditional, Assignment, Block, Var, Declarator, Initialised, Empty, Expression, If, IfElse, DoWhile, While, For, Bindings, Continue, Break, Return, Switch, Case, Default, Throw, Try, Catch, Finally, Function, Declaration, Parameter, spell, spell_ending}
use Rattle.rip_grammar.specs.Levels.{expression_level, assignment_level, logical_or_level, unary_level, new_level, call_level, member_level, level, binds, is_target}
use Rattle.rip_grammar.specs.Semicolons.{Next, IsEnded, continues, continues_behind, continues_nothing, ends_postfix, has_bare_in}

-- the phrase is an expression of at least this level
abbrev pub holds : ℕ → Phrase → Bool
holds n e = nat_le n (level e)

-- an expression (11.14), and an expression with no comma outside parentheses (11.13)
abbrev pub is_expression : Phrase → Bool
is_expression e = holds expression_level e

-- an expression with no comma outside parentheses (11.13)
abbrev pub is_assigned : Phrase → Bool
is_assigned e = holds assignment_level e

-- what `new` without arguments may stand before: all that holds tighter than a call, and such a `new` again (11.2.2)
abbrev pub is_constructed : Phrase → Bool
is_constructed f = holds member_level f || level f == new_level

-- what has no part
abbrev pub is_absent : Phrase → Bool
is_absent Absent = true
is_absent _ = false

-- an empty list
abbrev pub is_nothing : Phrase → Bool
is_nothing Nothing = true
is_nothing _ = false

-- a statement (12)
abbrev pub is_statement : Phrase → Bool
is_statement (Block o l c) = true
is_statement (Var v l z) = true
is_statement (Empty t) = true
is_statement (Expression e z) = true
is_statement (If i o e c s) = true
is_statement (IfElse i o e c s l u) = true
is_statement (DoWhile d s w o e c z) = true
is_statement (While w o e c s) = true
is_statement (For f o i p e q u c s) = true
is_statement (Continue t z) = true
is_statement (Break t z) = true
is_statement (Return t e z) = true
is_statement (Switch s o e c b l d) = true
is_statement (Throw t e z) = true
is_statement (Try t b h f) = true
is_statement _ = false

-- a statement or a function declaration, of which a script and a body are lists (14)
abbrev pub is_element : Phrase → Bool
is_element (Declaration f n o l c b s d) = true
is_element s = is_statement s

-- the parts of other phrases
abbrev pub is_block : Phrase → Bool
is_block (Block o l c) = true
is_block _ = false

-- an entry of an object literal
abbrev pub is_entry : Phrase → Bool
is_entry (Entry k c e) = true
is_entry _ = false

-- a parameter
abbrev pub is_parameter : Phrase → Bool
is_parameter (Parameter n) = true
is_parameter _ = false

-- a declarator of `var`
abbrev pub is_declarator : Phrase → Bool
is_declarator (Declarator n) = true
is_declarator (Initialised n q e) = true
is_declarator _ = false

-- a clause of `switch`
abbrev pub is_clause : Phrase → Bool
is_clause (Case w e c l) = true
is_clause (Default w c l) = true
is_clause _ = false

-- a `catch` clause
abbrev pub is_catch : Phrase → Bool
is_catch (Catch w o n c b) = true
is_catch _ = false

-- a `finally` clause
abbrev pub is_finally : Phrase → Bool
is_finally (Finally w b) = true
is_finally _ = false

-- a name, or none
abbrev pub is_label : Phrase → Bool
is_label Absent = true
is_label (Single t) = true
is_label _ = false

-- a list of such phrases, with nothing between them
abbrev pub is_list : (Phrase → Bool) → Phrase → Bool
is_list p Nothing = true
is_list p (More l d) = is_list p l && p d
is_list p _ = false

-- one such phrase or more, with commas between them
abbrev pub is_comma_list : (Phrase → Bool) → Phrase → Bool
is_comma_list p (More l d) = is_nothing l && p d
is_comma_list p (CommaMore l c d) = is_comma_list p l && p d
is_comma_list p _ = false

-- the same, or nothing: arguments, parameters (11.2, 13)
abbrev pub may_be_commas : (Phrase → Bool) → Phrase → Bool
may_be_commas p l = is_nothing l || is_comma_list p l

-- the same, which one comma may end: elements, entries (11.1.4, 11.1.5)
abbrev pub may_end_in_comma : (Phrase → Bool) → Phrase → Bool
may_end_in_comma p (Trailing l c) = is_comma_list p l
may_end_in_comma p l = may_be_commas p l

-- an expression, or none
abbrev pub may_be_expression : Phrase → Bool
may_be_expression e = is_absent e || is_expression e

-- the init of a `for` (12.6.3)
abbrev pub is_init : Phrase → Bool
is_init (Bindings v l) = true
is_init e = may_be_expression e

-- how many clauses of a list are `default`
abbrev pub default_count : Phrase → ℕ
default_count (More l (Default w c s)) = default_count l + 1
default_count (More l d) = default_count l
default_count _ = 0

-- nothing is there, or it begins on the line of what stands before it
abbrev pub IsOnLine : Phrase → Type 0
IsOnLine Absent = Unit {0}
IsOnLine e = Next (spell e []) (λ t. t.line_before ≡ false)

-- a name, where one is there
abbrev pub IsName : Phrase → Type 0
IsName (Single t) = t.word ≡ W.Name
IsName _ = Unit {0}

-- the words that continue what a `return` gives
abbrev pub continues_return : Phrase → Word → Bool
continues_return Absent w = false
continues_return e w = continues (ends_postfix e) w

-- The rules make the phrase, where these lexemes follow it: a rule looks at the first of them at most. A long rule has a
-- line for each symbol: what it is, and that the rules make it where the next symbols follow.
abbrev pub IsMade : Phrase → List Lexeme → Type 0
IsMade Absent r = Unit {0}
IsMade Nothing r = Unit {0}
IsMade (More l d) r = IsMade l (spell d r) × IsMade d r
IsMade (CommaMore l c d) r = IsMade l (c ∷ spell d r) × (c.word ≡ W.Comma) × IsMade d r
IsMade (Trailing l c) r = IsMade l (c ∷ r) × (c.word ≡ W.Comma)
-- 11.1.1 to 11.1.3
IsMade (Single t) r = is_single t.word ≡ true
-- 11.1.4: no element is missing
IsMade (Array o l c) r =
    (o.word ≡ W.OpenBracket)
    × (may_end_in_comma is_assigned l ≡ true) × IsMade l (c ∷ r)
    × (c.word ≡ W.CloseBracket)
-- 11.1.5
IsMade (Object o l c) r =
    (o.word ≡ W.OpenBrace)
    × (may_end_in_comma is_entry l ≡ true) × IsMade l (c ∷ r)
    × (c.word ≡ W.CloseBrace)
IsMade (Entry k c e) r =
    (is_key k.word ≡ true)
    × (c.word ≡ W.Colon)
    × (is_assigned e ≡ true) × IsMade e r
-- 11.1.6
IsMade (Parenthesized o e c) r =
    (o.word ≡ W.OpenParenthesis)
    × (is_expression e ≡ true) × IsMade e (c ∷ r)
    × (c.word ≡ W.CloseParenthesis)
-- 11.2.1: the base is a call or holds tighter
IsMade (Member b p n) r =
    (holds call_level b ≡ true) × IsMade b (p ∷ n ∷ r)
    × (p.word ≡ W.Point)
    × (is_identifier_name n.word ≡ true)
IsMade (Index b o e c) r =
    (holds call_level b ≡ true) × IsMade b (o ∷ spell e (c ∷ r))
    × (o.word ≡ W.OpenBracket)
    × (is_expression e ≡ true) × IsMade e (c ∷ r)
    × (c.word ≡ W.CloseBracket)
-- 11.2.2: the constructor of `new` with arguments is no call and no `new` without them; so each `new` takes the nearest
IsMade (NewCall w f o l c) r =
    (w.word ≡ W.New)
    × (holds member_level f ≡ true) × IsMade f (o ∷ spell l (c ∷ r))
    × (o.word ≡ W.OpenParenthesis)
    × (may_be_commas is_assigned l ≡ true) × IsMade l (c ∷ r)
    × (c.word ≡ W.CloseParenthesis)
IsMade (New w f) r = (w.word ≡ W.New) × (is_constructed f ≡ true) × IsMade f r
-- 11.2.3, 11.2.4
IsMade (Call f o l c) r =
    (holds call_level f ≡ true) × IsMade f (o ∷ spell l (c ∷ r))
    × (o.word ≡ W.OpenParenthesis)
    × (may_be_commas is_assigned l ≡ true) × IsMade l (c ∷ r)
    × (c.word ≡ W.CloseParenthesis)
-- 11.3: on the same line (7.9.1)
IsMade (Postfix e o) r =
    (holds new_level e ≡ true) × (is_target e ≡ true) × IsMade e (o ∷ r)
    × (is_step o.word ≡ true)
    × (o.line_before ≡ false)
-- 11.4: `++` and `--` take a target
IsMade (Prefix o e) r =
    (is_prefix o.word ≡ true)
    × (holds unary_level e ≡ true) × ((not (is_step o.word) || is_target e) ≡ true) × IsMade e r
-- 11.5 to 11.11, 11.14: all group to the left
IsMade (Infix a o b) r =
    (0 < binds o.word)
    × (binds o.word ≤ level a)
    × (binds o.word < level b)
    × IsMade a (o ∷ spell b r)
    × IsMade b r
-- 11.12
IsMade (Conditional a q b c d) r =
    (holds logical_or_level a ≡ true) × IsMade a (q ∷ spell b (c ∷ spell d r))
    × (q.word ≡ W.Question)
    × (is_assigned b ≡ true) × IsMade b (c ∷ spell d r)
    × (c.word ≡ W.Colon)
    × (is_assigned d ≡ true) × IsMade d r
-- 11.13: groups to the right
IsMade (Assignment a o b) r =
    (is_target a ≡ true) × IsMade a (o ∷ spell b r)
    × (is_assignment o.word ≡ true)
    × (is_assigned b ≡ true) × IsMade b r
-- 12.1
IsMade (Block o l c) r =
    (o.word ≡ W.OpenBrace)
    × (is_list is_statement l ≡ true) × IsMade l (c ∷ r)
    × (c.word ≡ W.CloseBrace)
-- 12.2
IsMade (Var v l z) r =
    (v.word ≡ W.Var)
    × (is_comma_list is_declarator l ≡ true) × IsMade l (spell_ending z r)
    × IsEnded (continues_behind l) z r
IsMade (Declarator n) r = n.word ≡ W.Name
IsMade (Initialised n q e) r =
    (n.word ≡ W.Name)
    × (q.word ≡ W.Assign)
    × (is_assigned e ≡ true) × IsMade e r
-- 12.3
IsMade (Empty t) r = t.word ≡ W.Semicolon
-- 12.4: it begins with neither `{` nor `function`
IsMade (Expression e z) r =
    (is_expression e ≡ true)
    × Next (spell e []) (λ t. is_no_beginning t.word ≡ false)
    × IsMade e (spell_ending z r)
    × IsEnded (continues (ends_postfix e)) z r
-- 12.5: an `else` belongs to the nearest `if`
IsMade (If i o e c s) r =
    (i.word ≡ W.If)
    × (o.word ≡ W.OpenParenthesis)
    × (is_expression e ≡ true) × IsMade e (c ∷ spell s r)
    × (c.word ≡ W.CloseParenthesis)
    × (is_statement s ≡ true) × IsMade s r
    × Next r (λ t. is_else t.word ≡ false)
IsMade (IfElse i o e c s l u) r =
    (i.word ≡ W.If)
    × (o.word ≡ W.OpenParenthesis)
    × (is_expression e ≡ true) × IsMade e (c ∷ spell s (l ∷ spell u r))
    × (c.word ≡ W.CloseParenthesis)
    × (is_statement s ≡ true) × IsMade s (l ∷ spell u r)
    × (l.word ≡ W.Else)
    × (is_statement u ≡ true) × IsMade u r
-- 12.6.1
IsMade (DoWhile d s w o e c z) r =
    (d.word ≡ W.Do)
    × (is_statement s ≡ true) × IsMade s (w ∷ o ∷ spell e (c ∷ spell_ending z r))
    × (w.word ≡ W.While)
    × (o.word ≡ W.OpenParenthesis)
    × (is_expression e ≡ true) × IsMade e (c ∷ spell_ending z r)
    × (c.word ≡ W.CloseParenthesis)
    × IsEnded continues_nothing z r
-- 12.6.2
IsMade (While w o e c s) r =
    (w.word ≡ W.While)
    × (o.word ≡ W.OpenParenthesis)
    × (is_expression e ≡ true) × IsMade e (c ∷ spell s r)
    × (c.word ≡ W.CloseParenthesis)
    × (is_statement s ≡ true) × IsMade s r
-- 12.6.3: the init has no bare `in`, and no `;` of the header is made
IsMade (For f o i p e q u c s) r =
    (f.word ≡ W.For)
    × (o.word ≡ W.OpenParenthesis)
    × (is_init i ≡ true) × (has_bare_in i ≡ false) × IsMade i (p ∷ spell e (q ∷ spell u (c ∷ spell s r)))
    × (p.word ≡ W.Semicolon)
    × (may_be_expression e ≡ true) × IsMade e (q ∷ spell u (c ∷ spell s r))
    × (q.word ≡ W.Semicolon)
    × (may_be_expression u ≡ true) × IsMade u (c ∷ spell s r)
    × (c.word ≡ W.CloseParenthesis)
    × (is_statement s ≡ true) × IsMade s r
IsMade (Bindings v l) r = (v.word ≡ W.Var) × (is_comma_list is_declarator l ≡ true) × IsMade l r
-- 12.7 to 12.9: a line end ends them
IsMade (Continue t z) r = (t.word ≡ W.Continue) × IsEnded continues_nothing z r
IsMade (Break t z) r = (t.word ≡ W.Break) × IsEnded continues_nothing z r
IsMade (Return t e z) r =
    (t.word ≡ W.Return)
    × (may_be_expression e ≡ true) × IsOnLine e × IsMade e (spell_ending z r)
    × IsEnded (continues_return e) z r
-- 12.11: at most one `default`
IsMade (Switch s o e c b l d) r =
    (s.word ≡ W.Switch)
    × (o.word ≡ W.OpenParenthesis)
    × (is_expression e ≡ true) × IsMade e (c ∷ b ∷ spell l (d ∷ r))
    × (c.word ≡ W.CloseParenthesis)
    × (b.word ≡ W.OpenBrace)
    × (is_list is_clause l ≡ true) × (default_count l ≤ 1) × IsMade l (d ∷ r)
    × (d.word ≡ W.CloseBrace)
IsMade (Case w e c l) r =
    (w.word ≡ W.Case)
    × (is_expression e ≡ true) × IsMade e (c ∷ spell l r)
    × (c.word ≡ W.Colon)
    × (is_list is_statement l ≡ true) × IsMade l r
IsMade (Default w c l) r =
    (w.word ≡ W.Default)
    × (c.word ≡ W.Colon)
    × (is_list is_statement l ≡ true) × IsMade l r
-- 12.13: on the same line
IsMade (Throw t e z) r =
    (t.word ≡ W.Throw)
    × (is_expression e ≡ true) × IsOnLine e × IsMade e (spell_ending z r)
    × IsEnded (continues (ends_postfix e)) z r
-- 12.14: a catch clause, a finally clause, or both
IsMade (Try t b h f) r =
    (t.word ≡ W.Try)
    × (is_block b ≡ true) × IsMade b (spell h (spell f r))
    × ((is_absent h || is_catch h) ≡ true) × IsMade h (spell f r)
    × ((is_absent f || is_finally f) ≡ true) × IsMade f r
    × ((is_absent h && is_absent f) ≡ false)
IsMade (Catch w o n c b) r =
    (w.word ≡ W.Catch)
    × (o.word ≡ W.OpenParenthesis)
    × (n.word ≡ W.Name)
    × (c.word ≡ W.CloseParenthesis)
    × (is_block b ≡ true) × IsMade b r
IsMade (Finally w b) r = (w.word ≡ W.Finally) × (is_block b ≡ true) × IsMade b r
-- 13
IsMade (Function f n o l c b s d) r =
    (f.word ≡ W.Function)
    × (is_label n ≡ true) × IsName n
    × (o.word ≡ W.OpenParenthesis)
    × (may_be_commas is_parameter l ≡ true) × IsMade l (c ∷ b ∷ spell s (d ∷ r))
    × (c.word ≡ W.CloseParenthesis)
    × (b.word ≡ W.OpenBrace)
    × (is_list is_element s ≡ true) × IsMade s (d ∷ r)
    × (d.word ≡ W.CloseBrace)
IsMade (Declaration f n o l c b s d) r =
    (f.word ≡ W.Function)
    × (n.word ≡ W.Name)
    × (o.word ≡ W.OpenParenthesis)
    × (may_be_commas is_parameter l ≡ true) × IsMade l (c ∷ b ∷ spell s (d ∷ r))
    × (c.word ≡ W.CloseParenthesis)
    × (b.word ≡ W.OpenBrace)
    × (is_list is_element s ≡ true) × IsMade s (d ∷ r)
    × (d.word ≡ W.CloseBrace)
IsMade (Parameter n) r = n.word ≡ W.Name

-- the lexemes are those of a script, which this list of statements and function declarations derives (14)
pub record IsScript (lexemes : List Lexeme) (body : Phrase) : Type 0 where
  pub end : Lexeme
  pub ends : end.word ≡ W.End
  pub whole : lexemes ≡ spell body (end ∷ [])
  pub list : is_list is_element body ≡ true
  pub made : IsMade body (end ∷ [])

-- some list of lexemes that begins with these is that of a script
abbrev pub IsViable : List Lexeme → Type 0
IsViable lexemes = (more : List Lexeme) × (body : Phrase) × IsScript (lexemes ++ more) body
