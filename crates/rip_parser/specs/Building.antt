-- How nodes are made of what is told of a script, part by part. No public clause cites this.
use Rattle.std.specs.Prelude.{◌≡◌, ℕ, ◌+◌, ◌-◌, ◌<◌, ◌≤◌, min, max, Bool, true, false, List, [], ◌∷◌, ◌++◌, length, map, take, drop, Option, Some, None}
use Rattle.rip_lexer.specs.declared.token.Token.{Token}
use Rattle.rip_lexer.specs.Numeral.{numeral_value}
use Rattle.rip_tree.specs.declared.form.Form.{Form}
use Rattle.rip_tree.specs.declared.form.Form.TheVariants as F
use Rattle.rip_tree.specs.declared.form.Key.{Key}
use Rattle.rip_tree.specs.declared.form.TextLiteral.{TextLiteral}
use Rattle.rip_tree.specs.Branches.{AreBetween, Plant}
use Rattle.rip_tree.specs.Making.{Growth, with_branch, with_units}
use Rattle.rip_grammar.specs.declared.word.Word.{Word}
use Rattle.rip_grammar.specs.declared.word.Word.TheVariants as W
use Rattle.rip_grammar.specs.declared.word.Lexeme.{Lexeme}
use Rattle.rip_grammar.specs.declared.event.Head.{Head}
use Rattle.rip_grammar.specs.declared.event.Head.TheVariants as H
use Rattle.rip_grammar.specs.declared.event.Event.{Event}
use Rattle.rip_grammar.specs.declared.event.Event.TheVariants as E
use Rattle.rip_grammar.specs.Words.{is_single}
use Rattle.rip_parser.specs.declared.part.Part.{Part}
use Rattle.rip_parser.specs.Listed.{IsListed}
use Rattle.rip_parser.specs.Shows.{Row, piece_of, spelling_of, IsSingle, IsKey, text_of, infix_form, prefix_form, postfix_form, assignment_form}

-- the nodes that are made, and the parts that no node has taken yet
pub record State : Type 0 where
  pub growth : Growth
  pub parts : List Part

-- nothing is made yet of a tree of so many nodes
abbrev pub beginning : List ℕ → ℕ → State
beginning script total = record { growth = record { total = total; branches = []; units = script }; parts = [] }

-- the numbers of parts
abbrev pub numbers : List Part → Row
numbers parts = map (λ (p : Part). p.number) parts

-- the most levels of parts
abbrev pub greatest : List Part → ℕ
greatest [] = 0
greatest (p ∷ ps) = max p.levels (greatest ps)

-- one level more
abbrev pub deeper : ℕ → ℕ
deeper n = min (n + 1) 201

-- the node is no level of its own, but a part of another
abbrev pub is_part : Head → Bool
is_part (H.Entry k) = true
is_part (H.Declarator n) = true
is_part H.Bindings = true
is_part H.Case = true
is_part H.Default = true
is_part (H.Catch n) = true
is_part (H.Parameter n) = true
is_part _ = false

-- the levels of a node over its parts
abbrev pub levels_over : Bool → List Part → ℕ
levels_over true parts = greatest parts
levels_over false parts = deeper (greatest parts)

-- where a node begins that has this place or begins with its first part
abbrev pub place_over : Option ℕ → List Part → ℕ
place_over (Some place) parts = place
place_over None [] = 0
place_over None (p ∷ ps) = p.place

-- the last parts, and those before them
abbrev pub last_parts : ℕ → List Part → List Part
last_parts n parts = drop (length parts - n) parts

-- the parts behind the first of a row
abbrev pub other_parts : ℕ → List Part → List Part
other_parts n parts = take (length parts - n) parts

-- the part of a node that is made next
abbrev pub part_of : Growth → Option ℕ → Head → List Part → Part
part_of growth place head parts = record { number = Some (growth.total - (length growth.branches + 1)); place = place_over place parts; levels = levels_over (is_part head) parts }

-- the part within parentheses
abbrev pub wrapped : ℕ → Part → Part
wrapped place part = record part { place = place; levels = deeper part.levels }

-- the part that is not there
abbrev pub absent : Part
absent = record { number = None; place = 0; levels = 0 }

-- the form of a head that no value of a literal tells
abbrev pub plain_form : Head → Option Form
plain_form (H.Single t) = None
plain_form H.Array = Some F.Array
plain_form H.Object = Some F.Object
plain_form (H.Entry k) = None
plain_form (H.Member n) = Some (F.Member (piece_of n))
plain_form H.Index = Some F.Index
plain_form H.New = Some F.New
plain_form H.Call = Some F.Call
plain_form (H.Postfix w) = postfix_form w
plain_form (H.Prefix w) = prefix_form w
plain_form (H.Infix w) = infix_form w
plain_form H.Conditional = Some F.Conditional
plain_form (H.Assignment w) = assignment_form w
plain_form H.Block = Some F.Block
plain_form H.Var = Some F.Var
plain_form (H.Declarator n) = Some (F.Declarator (piece_of n))
plain_form H.Empty = Some F.Empty
plain_form H.Expression = Some F.Expression
plain_form H.If = Some F.If
plain_form H.DoWhile = Some F.DoWhile
plain_form H.While = Some F.While
plain_form H.For = Some F.For
plain_form H.Bindings = Some F.Bindings
plain_form H.Continue = Some F.Continue
plain_form H.Break = Some F.Break
plain_form H.Return = Some F.Return
plain_form H.Switch = Some F.Switch
plain_form H.Case = Some F.Case
plain_form H.Default = Some F.Default
plain_form H.Throw = Some F.Throw
plain_form H.Try = Some F.Try
plain_form (H.Catch n) = Some (F.Catch (piece_of n))
plain_form (H.Function None count) = Some (F.Function (record { name = None; parameters = count }))
plain_form (H.Function (Some n) count) = Some (F.Function (record { name = Some (piece_of n); parameters = count }))
plain_form (H.Declaration n count) = Some (F.FunctionDeclaration (record { name = Some (piece_of n); parameters = count }))
plain_form (H.Parameter n) = Some (F.Parameter (piece_of n))

-- the form is that of the head, over these units
abbrev pub IsFormOf : List ℕ → List ℕ → Head → Form → Type 0
IsFormOf script units (H.Single t) form = IsSingle script units t t.word form
IsFormOf script units (H.Entry k) form = (key : Key) × IsKey script units k k.word key × (form ≡ F.Entry key)
IsFormOf script units head form = plain_form head ≡ Some form

-- the text of a form, if it has one, is what was put behind the units; else nothing was put there
abbrev pub IsPut : Option TextLiteral → List ℕ → List ℕ → Type 0
IsPut None old new = length new ≡ length old
IsPut (Some literal) old new = (literal.value.start ≡ length old) × (length new ≡ length old + literal.value.count)

-- the node is made, with its form and the units that its texts put behind the others
pub record Makes (script : List ℕ) (place : Option ℕ) (head : Head) (count : ℕ) (s t : State) : Type 0 where
  pub form : Form
  pub units : List ℕ
  pub enough : count ≤ length s.parts
  pub is_form : (more : List ℕ) → IsFormOf script ((s.growth.units ++ units) ++ more) head form
  pub put : IsPut (text_of form) s.growth.units (s.growth.units ++ units)
  pub growth : t.growth ≡ with_branch (with_units s.growth units) (record { place = place_over place (last_parts count s.parts); form = form }) (numbers (last_parts count s.parts))
  pub parts : t.parts ≡ other_parts count s.parts ++ part_of s.growth place head (last_parts count s.parts) ∷ []

-- parentheses are put around the last part
abbrev pub Wraps : ℕ → State → State → Type 0
Wraps place s t = (front : List Part) × (part : Part) × (s.parts ≡ front ++ part ∷ []) × (t ≡ record s { parts = front ++ wrapped place part ∷ [] })

-- what is told is taken, from the one state to the other
abbrev pub Takes : List ℕ → Event → State → State → Type 0
Takes script E.Absent s t = t ≡ record s { parts = s.parts ++ absent ∷ [] }
Takes script (E.Parenthesized place) s t = Wraps place s t
Takes script (E.Node place head count) s t = Makes script place head count s t

-- the lexeme can be read in the script: a numeral has a value, a text is one of the tokens
abbrev pub IsReadable : List ℕ → List Token → Lexeme → Word → Type 0
IsReadable script tokens t W.Numeral = numeral_value (spelling_of script t) ≤ 9007199254740991
IsReadable script tokens t W.Text = IsListed tokens t
IsReadable script tokens t _ = Unit {0}

-- the head has a form
abbrev pub HasForm : List ℕ → List Token → Head → Type 0
HasForm script tokens (H.Single t) = (is_single t.word ≡ true) × IsReadable script tokens t t.word
HasForm script tokens (H.Entry k) = IsReadable script tokens k k.word
HasForm script tokens head = (form : Form) × (plain_form head ≡ Some form)

-- what is told can be taken
abbrev pub IsTakeable : List ℕ → List Token → Event → State → Type 0
IsTakeable script tokens E.Absent s = Unit {0}
IsTakeable script tokens (E.Parenthesized place) s = 0 < length s.parts
IsTakeable script tokens (E.Node place head count) s = (count ≤ length s.parts) × HasForm script tokens head

-- what comes of what is told: a state, or none where it is not told of a phrase
abbrev pub Comes : List ℕ → List Token → Event → Option State → Option State → Type 0
Comes script tokens event None after = after ≡ None
Comes script tokens event (Some s) None = IsTakeable script tokens event s → ⊥
Comes script tokens event (Some s) (Some t) = Takes script event s t

-- how many nodes are told
abbrev pub node_count : List Event → ℕ
node_count [] = 0
node_count (E.Node place head count ∷ told) = node_count told + 1
node_count (event ∷ told) = node_count told

-- the parts have numbers of nodes that are made
abbrev pub Fits : State → Type 0
Fits s = AreBetween (s.growth.total - (length s.growth.branches + 1)) s.growth.total (numbers s.parts)

-- a node is made where one is left to make
abbrev pub HasRoom : Event → State → Type 0
HasRoom (E.Node place head count) s = length s.growth.branches < s.growth.total
HasRoom event s = Unit {0}

-- the tree whose root is a script over all parts
abbrev pub rooted : State → Plant
rooted s = record { branches = record { node = record { place = 0; form = F.Script }; children = numbers s.parts } ∷ s.growth.branches; units = s.growth.units }
