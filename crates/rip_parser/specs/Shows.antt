-- The tree that a phrase shows: forms, places and children. Parentheses and the lexemes between the parts show no node.
use Rattle.std.specs.Prelude.{◌≡◌, ℕ, ◌+◌, pos, true, false, IsTrue, ◌↔◌, List, [], ◌∷◌, ◌++◌, length, Option, Some, None, take, drop}
use Rattle.rip_lexer.specs.Numeral.{numeral_value}
use Rattle.rip_lexer.specs.Text.{StandsFor}
use Rattle.rip_tree.specs.Branches.{Branch, Plant, branch_of, units_at}
use Rattle.rip_tree.specs.declared.node.Piece.{Piece}
use Rattle.rip_tree.specs.declared.form.Form.{Form}
use Rattle.rip_tree.specs.declared.form.Form.TheVariants as F
use Rattle.rip_tree.specs.declared.form.FunctionHead.{FunctionHead}
use Rattle.rip_tree.specs.declared.form.Key.{Key}
use Rattle.rip_tree.specs.declared.form.Key.TheVariants as Y
use Rattle.rip_tree.specs.declared.form.TextLiteral.{TextLiteral}
use Rattle.rip_base.specs.declared.operator.BinaryOperator.TheVariants as B
use Rattle.rip_base.specs.declared.operator.UnaryOperator.TheVariants as U
use Rattle.rip_grammar.specs.declared.word.Word.{Word}
use Rattle.rip_grammar.specs.declared.word.Word.TheVariants as W
use Rattle.rip_grammar.specs.declared.word.Lexeme.{Lexeme}
use Rattle.rip_grammar.specs.Phrases.{Phrase, Absent, Nothing, More, CommaMore, Trailing, Single, Array, Object, Entry, Parenthesized, Member, Index, New, NewCall, Call, Postfix, Prefix, Infix, Conditional, Assignment, Block, Var, Declarator, Initialised, Empty, Expression, If, IfElse, DoWhile, While, For, Bindings, Continue, Break, Return, Switch, Case, Default, Throw, Try, Catch, Finally, Function, Declaration, Parameter, spell}

-- the numbers of nodes that stand in a row
abbrev pub Row : Type 0
Row = List (Option ℕ)

-- the units of a lexeme of a script
abbrev pub spelling_of : List ℕ → Lexeme → List ℕ
spelling_of script t = take t.count (drop t.start script)

-- the piece of a lexeme
abbrev pub piece_of : Lexeme → Piece
piece_of t = record { start = t.start; count = t.count }

-- the place of the first lexeme
abbrev pub first_place : List Lexeme → ℕ
first_place [] = 0
first_place (t ∷ r) = t.start

-- the place of a phrase: a `(` before its first part counts
abbrev pub place_of : Phrase → ℕ
place_of d = first_place (spell d [])

-- the literal stands for what the text spells, and says whether the spelling is that between quotes (7.8.4)
pub record IsText (units spelling : List ℕ) (literal : TextLiteral) : Type 0 where
  pub stands : StandsFor spelling (units_at units literal.value)
  pub plain : IsTrue literal.is_plain ↔ ((quote : ℕ) × (spelling ≡ quote ∷ (units_at units literal.value ++ quote ∷ [])))

-- the form of `this`, a name or a literal (11.1.1 to 11.1.3, 7.8)
abbrev pub IsSingle : List ℕ → List ℕ → Lexeme → Word → Form → Type 0
IsSingle script units t W.This shown = shown ≡ F.This
IsSingle script units t W.Name shown = shown ≡ F.Name (piece_of t)
IsSingle script units t W.Null shown = shown ≡ F.Null
IsSingle script units t W.True shown = shown ≡ F.Boolean true
IsSingle script units t W.False shown = shown ≡ F.Boolean false
IsSingle script units t W.Numeral shown = shown ≡ F.Number (pos (numeral_value (spelling_of script t)))
IsSingle script units t W.Text shown = (literal : TextLiteral) × (shown ≡ F.Text literal) × IsText units (spelling_of script t) literal
IsSingle script units t _ shown = ⊥

-- the key of an entry: a text, a numeral, or else a name (11.1.5)
abbrev pub IsKey : List ℕ → List ℕ → Lexeme → Word → Key → Type 0
IsKey script units t W.Text key = (literal : TextLiteral) × (key ≡ Y.Text literal) × IsText units (spelling_of script t) literal
IsKey script units t W.Numeral key = key ≡ Y.Number (pos (numeral_value (spelling_of script t)))
IsKey script units t _ key = key ≡ Y.Name (piece_of t)

-- the forms of what an operator makes (11.4 to 11.11, 11.13, 11.14); of other words it is nothing
abbrev pub infix_form : Word → Option Form
infix_form (W.Infix op) = Some (F.Binary op)
infix_form (W.Logical op) = Some (F.Logical op)
infix_form W.Comma = Some F.Comma
infix_form _ = None

-- the form of an operator before its operand; of other words it is nothing
abbrev pub prefix_form : Word → Option Form
prefix_form (W.Prefix op) = Some (F.Unary op)
prefix_form (W.Infix B.Add) = Some (F.Unary U.Plus)
prefix_form (W.Infix B.Subtract) = Some (F.Unary U.Minus)
prefix_form (W.Step op) = Some (F.Prefix op)
prefix_form _ = None

-- the form of `++` or `--` behind its operand; of other words it is nothing
abbrev pub postfix_form : Word → Option Form
postfix_form (W.Step op) = Some (F.Postfix op)
postfix_form _ = None

-- the form of an assignment, by its operator; of other words it is nothing
abbrev pub assignment_form : Word → Option Form
assignment_form W.Assign = Some F.Assign
assignment_form (W.Compound op) = Some (F.Compound op)
assignment_form _ = None

-- how many phrases a list with commas has
abbrev pub item_count : Phrase → ℕ
item_count (More l d) = item_count l + 1
item_count (CommaMore l c d) = item_count l + 1
item_count _ = 0

-- the piece of a name that may be absent
abbrev pub label_of : Phrase → Option Piece
label_of (Single t) = Some (piece_of t)
label_of _ = None

-- what a function has beside its children (13)
abbrev pub head_of : Option Piece → Phrase → FunctionHead
head_of name parameters = record { name = name; parameters = item_count parameters }

-- What is shown: a row of nodes, and the numbers that its nodes and all below them have, each number once. They are those
-- below the first number here, down to the second.
abbrev pub Shown : Type 1
Shown = Row → ℕ → ℕ → Type 0

-- one node of the tree, with this place and form, whose children are shown so: it has the lowest of the numbers
abbrev pub IsNode : Plant → ℕ → Form → Shown → Shown
IsNode tree place form P row high low = (children : Row) × (row ≡ Some low ∷ [])
    × (branch_of tree.branches low ≡ Some record { node = record { place = place; form = form }; children = children }) × P children high (low + 1)

-- the same, where the form is one that an operator makes
abbrev pub IsNodeOf : Plant → ℕ → Option Form → Shown → Shown
IsNodeOf tree place form P row high low = (made : Form) × (form ≡ Some made) × IsNode tree place made P row high low

-- no node
abbrev pub IsLeaf : Shown
IsLeaf row high low = (row ≡ []) × (high ≡ low)

-- an empty place
abbrev pub IsAbsent : Shown
IsAbsent row high low = (row ≡ None ∷ []) × (high ≡ low)

-- the one, and then the other: it has the lower numbers
abbrev pub Then : Shown → Shown → Shown
Then P Q row high low = (front : Row) × (back : Row) × (middle : ℕ) × (row ≡ front ++ back) × P front high middle × Q back middle low

-- the row of nodes that a phrase of the script shows: an expression, statement or part shows one, a list each of its
-- phrases, and a part that is absent leaves its place empty
abbrev pub Shows : List ℕ → Plant → Phrase → Shown
Shows script tree Absent = IsAbsent
Shows script tree Nothing = IsLeaf
Shows script tree (More l d) = Then (Shows script tree l) (Shows script tree d)
Shows script tree (CommaMore l c d) = Then (Shows script tree l) (Shows script tree d)
Shows script tree (Trailing l c) = Shows script tree l
Shows script tree (Single t) = λ row high low. (form : Form) × IsSingle script tree.units t t.word form × IsNode tree t.start form IsLeaf row high low
Shows script tree (Array o l c) = IsNode tree o.start F.Array (Shows script tree l)
Shows script tree (Object o l c) = IsNode tree o.start F.Object (Shows script tree l)
Shows script tree (Entry k c e) = λ row high low. (key : Key) × IsKey script tree.units k k.word key × IsNode tree k.start (F.Entry key) (Shows script tree e) row high low
Shows script tree (Parenthesized o e c) = Shows script tree e
Shows script tree (Member b p n) = IsNode tree (place_of b) (F.Member (piece_of n)) (Shows script tree b)
Shows script tree (Index b o e c) = IsNode tree (place_of b) F.Index (Then (Shows script tree b) (Shows script tree e))
Shows script tree (New w f) = IsNode tree w.start F.New (Shows script tree f)
Shows script tree (NewCall w f o l c) = IsNode tree w.start F.New (Then (Shows script tree f) (Shows script tree l))
Shows script tree (Call f o l c) = IsNode tree (place_of f) F.Call (Then (Shows script tree f) (Shows script tree l))
Shows script tree (Postfix e o) = IsNodeOf tree (place_of e) (postfix_form o.word) (Shows script tree e)
Shows script tree (Prefix o e) = IsNodeOf tree o.start (prefix_form o.word) (Shows script tree e)
Shows script tree (Infix a o b) = IsNodeOf tree (place_of a) (infix_form o.word) (Then (Shows script tree a) (Shows script tree b))
Shows script tree (Conditional a q b c d) = IsNode tree (place_of a) F.Conditional (Then (Shows script tree a) (Then (Shows script tree b) (Shows script tree d)))
Shows script tree (Assignment a o b) = IsNodeOf tree (place_of a) (assignment_form o.word) (Then (Shows script tree a) (Shows script tree b))
Shows script tree (Block o l c) = IsNode tree o.start F.Block (Shows script tree l)
Shows script tree (Var v l z) = IsNode tree v.start F.Var (Shows script tree l)
Shows script tree (Declarator n) = IsNode tree n.start (F.Declarator (piece_of n)) IsLeaf
Shows script tree (Initialised n q e) = IsNode tree n.start (F.Declarator (piece_of n)) (Shows script tree e)
Shows script tree (Empty t) = IsNode tree t.start F.Empty IsLeaf
Shows script tree (Expression e z) = IsNode tree (place_of e) F.Expression (Shows script tree e)
Shows script tree (If i o e c s) = IsNode tree i.start F.If (Then (Shows script tree e) (Shows script tree s))
Shows script tree (IfElse i o e c s l u) = IsNode tree i.start F.If (Then (Shows script tree e) (Then (Shows script tree s) (Shows script tree u)))
Shows script tree (DoWhile d s w o e c z) = IsNode tree d.start F.DoWhile (Then (Shows script tree s) (Shows script tree e))
Shows script tree (While w o e c s) = IsNode tree w.start F.While (Then (Shows script tree e) (Shows script tree s))
Shows script tree (For f o i p e q u c s) = IsNode tree f.start F.For (Then (Shows script tree i) (Then (Shows script tree e) (Then (Shows script tree u) (Shows script tree s))))
Shows script tree (Bindings v l) = IsNode tree v.start F.Bindings (Shows script tree l)
Shows script tree (Continue t z) = IsNode tree t.start F.Continue IsLeaf
Shows script tree (Break t z) = IsNode tree t.start F.Break IsLeaf
Shows script tree (Return t e z) = IsNode tree t.start F.Return (Shows script tree e)
Shows script tree (Switch s o e c b l d) = IsNode tree s.start F.Switch (Then (Shows script tree e) (Shows script tree l))
Shows script tree (Case w e c l) = IsNode tree w.start F.Case (Then (Shows script tree e) (Shows script tree l))
Shows script tree (Default w c l) = IsNode tree w.start F.Default (Shows script tree l)
Shows script tree (Throw t e z) = IsNode tree t.start F.Throw (Shows script tree e)
Shows script tree (Try t b h f) = IsNode tree t.start F.Try (Then (Shows script tree b) (Then (Shows script tree h) (Shows script tree f)))
Shows script tree (Catch w o n c b) = IsNode tree w.start (F.Catch (piece_of n)) (Shows script tree b)
Shows script tree (Finally w b) = Shows script tree b
Shows script tree (Function f n o l c b s d) = IsNode tree f.start (F.Function (head_of (label_of n) l)) (Then (Shows script tree l) (Shows script tree s))
Shows script tree (Declaration f n o l c b s d) = IsNode tree f.start (F.FunctionDeclaration (head_of (Some (piece_of n)) l)) (Then (Shows script tree l) (Shows script tree s))
Shows script tree (Parameter n) = IsNode tree n.start (F.Parameter (piece_of n)) IsLeaf

-- the text literal of a form, if it has one (7.8.4, 11.1.5)
abbrev pub text_of : Form → Option TextLiteral
text_of (F.Text literal) = Some literal
text_of (F.Entry (Y.Text literal)) = Some literal
text_of _ = None

-- how many units the text of a form has
abbrev pub text_count : Option TextLiteral → ℕ
text_count None = 0
text_count (Some literal) = literal.value.count

-- where the texts of branches end that lie one behind the other from a place on, that of the last branch first
abbrev pub texts_end : ℕ → List Branch → ℕ
texts_end place [] = place
texts_end place (b ∷ bs) = texts_end place bs + text_count (text_of b.node.form)

-- the text begins at this place
abbrev pub LiesAt : ℕ → Option TextLiteral → Type 0
LiesAt place None = Unit {0}
LiesAt place (Some literal) = literal.value.start ≡ place

-- the texts of branches lie so: each where those of the branches behind its own end
abbrev pub AreLaid : ℕ → List Branch → Type 0
AreLaid place [] = Unit {0}
AreLaid place (b ∷ bs) = LiesAt (texts_end place bs) (text_of b.node.form) × AreLaid place bs

-- The tree is that of a script with this body. Its root is the script, with the number 0, and it has no node that the
-- body does not show. Its units are those of the script and behind them those of its texts, and no others.
pub record ShowsScript (script : List ℕ) (tree : Plant) (body : Phrase) : Type 0 where
  pub root : IsNode tree 0 F.Script (Shows script tree body) (Some 0 ∷ []) (length tree.branches) 0
  pub spelled : take (length script) tree.units ≡ script
  pub laid : AreLaid (length script) tree.branches
  pub full : length tree.units ≡ texts_end (length script) tree.branches
