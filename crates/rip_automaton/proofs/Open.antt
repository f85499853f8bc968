-- What the open forms have taken of the lexemes so far: one record for each form. In each, `out` is what has been told,
-- and `r` the lexemes from the place on at which the form's next part begins.
use Rattle.std.proofs.Common.{◌≡◌, ℕ, ◌<◌, ◌≤◌, nat_le, Bool, true, false, ◌||◌, cond, List, [], ◌∷◌, Option, Some, None}
use Rattle.rip_grammar.specs.declared.word.Word.{Word}
use Rattle.rip_grammar.specs.declared.word.Word.TheVariants as W
use Rattle.rip_grammar.specs.declared.word.Lexeme.{Lexeme}
use Rattle.rip_grammar.specs.declared.event.Event.{Event}
use Rattle.rip_automaton.specs.declared.frame.Pending.TheVariants as P
use Rattle.rip_automaton.specs.declared.frame.Invocation.{Invocation}
use Rattle.rip_automaton.specs.declared.frame.Invocation.TheVariants as I
use Rattle.rip_automaton.specs.declared.frame.Owner.{Owner}
use Rattle.rip_automaton.specs.declared.frame.Owner.TheVariants as O
use Rattle.rip_automaton.specs.declared.frame.Header.{Header}
use Rattle.rip_automaton.specs.declared.frame.Header.TheVariants as C
use Rattle.rip_automaton.specs.declared.frame.VarRole.{VarRole}
use Rattle.rip_automaton.specs.declared.frame.VarRole.TheVariants as V
use Rattle.rip_automaton.specs.declared.frame.Frame.{Frame}
use Rattle.rip_automaton.specs.declared.frame.Frame.TheVariants as F
use Rattle.rip_automaton.specs.declared.mode.Mode.{Mode}
use Rattle.rip_automaton.specs.declared.mode.Mode.TheVariants as M
use Rattle.rip_automaton.specs.declared.mode.Shape.{Shape}
use Rattle.rip_automaton.specs.declared.mode.Shape.TheVariants as S
use Rattle.rip_grammar.specs.Words.{is_in, is_prefix, is_assignment, is_key, is_no_beginning}
use Rattle.rip_grammar.specs.Phrases.{Ending, Phrase, Nothing, More, CommaMore, spell, spell_ending}
use Rattle.rip_grammar.specs.Levels.{level, binds, is_target}
use Rattle.rip_grammar.specs.Semicolons.{Next, IsEnded, continues_nothing, ends_postfix, has_bare_in}
use Rattle.rip_grammar.specs.Grammar.{IsMade, holds, is_expression, is_assigned, is_constructed, is_statement, is_element, is_block, is_entry, is_parameter, is_declarator, is_clause, is_catch, is_list, is_comma_list, is_init, may_be_commas, may_be_expression, is_absent, default_count}
use Rattle.rip_grammar.specs.Events.{width, emit}
use Rattle.rip_automaton.specs.Frames.{floor, in_postfix, top_floor, top_bars}
use Rattle.rip_automaton.specs.States.{State, At}

-- WHAT A FORM TAKES

-- its next part is an operand
abbrev pub takes_operand : Frame → Bool
takes_operand (F.Operator o b) = true
takes_operand F.Test = true
takes_operand (F.Parenthesis place) = true
takes_operand F.Index = true
takes_operand (F.Arguments invocation count) = true
takes_operand (F.Elements place count) = true
takes_operand (F.Entry place count k) = true
takes_operand F.Expression = true
takes_operand (F.Return place) = true
takes_operand (F.Throw place) = true
takes_operand (F.Initialised n b) = true
takes_operand (F.Condition header place) = true
takes_operand (F.ForInit place) = true
takes_operand (F.ForTest place) = true
takes_operand (F.ForUpdate place) = true
takes_operand (F.Case place) = true
takes_operand _ = false

-- its next part is such a phrase: a statement, an element of a script or a body, a block, or a catch clause
abbrev pub takes : Frame → Phrase → Bool
takes F.Script d = is_element d
takes (F.Body owner parameters count) d = is_element d
takes (F.Block place count) d = is_statement d
takes (F.Then place) d = is_statement d
takes (F.Otherwise place) d = is_statement d
takes (F.Do place) d = is_statement d
takes (F.While place) d = is_statement d
takes (F.For place) d = is_statement d
takes (F.CaseBody place count) d = is_statement d
takes (F.Default place count) d = is_statement d
takes (F.Try place) d = is_block d
takes (F.Catch place name) d = is_block d
takes (F.Finally place) d = is_block d
takes (F.Handled place) d = is_catch d
takes _ d = false

-- its next part is a statement of any form
abbrev pub takes_statement : Frame → Bool
takes_statement F.Script = true
takes_statement (F.Body owner parameters count) = true
takes_statement (F.Block place count) = true
takes_statement (F.Then place) = true
takes_statement (F.Otherwise place) = true
takes_statement (F.Do place) = true
takes_statement (F.While place) = true
takes_statement (F.For place) = true
takes_statement (F.CaseBody place count) = true
takes_statement (F.Default place count) = true
takes_statement _ = false

-- its next part is a block
abbrev pub takes_block : Frame → Bool
takes_block (F.Try place) = true
takes_block (F.Catch place name) = true
takes_block (F.Finally place) = true
takes_block _ = false

-- function declarations may stand in it
abbrev pub takes_declaration : Frame → Bool
takes_declaration F.Script = true
takes_declaration (F.Body owner parameters count) = true
takes_declaration _ = false

abbrev pub is_new : Frame → Bool
is_new (F.Operator (P.New place) b) = true
is_new _ = false

abbrev pub is_switch : Frame → Bool
is_switch (F.Switch place count default) = true
is_switch _ = false

abbrev pub is_for_init : Frame → Bool
is_for_init (F.ForInit place) = true
is_for_init _ = false

abbrev pub is_handled : Frame → Bool
is_handled (F.Handled place) = true
is_handled _ = false

-- the innermost open form is such a one
abbrev pub top : (Frame → Bool) → List Frame → Bool
top p [] = false
top p (f ∷ st) = p f

-- LISTS THAT ARE OPEN

-- what stands before the next part of a list with commas: nothing, or a list and a comma
pub data Prior : Type 0 where
  First : Prior
  Behind : Phrase → Lexeme → Prior

-- the list so far, the list with one part more, and the lexemes
abbrev pub listed : Prior → Phrase
listed First = Nothing
listed (Behind l c) = l

abbrev pub with_next : Prior → Phrase → Phrase
with_next First d = More Nothing d
with_next (Behind l c) d = CommaMore l c d

abbrev pub spell_prior : Prior → List Lexeme → List Lexeme
spell_prior First r = r
spell_prior (Behind l c) r = spell l (c ∷ r)

abbrev pub IsPrior : (Phrase → Bool) → Prior → List Lexeme → Type 0
IsPrior p First r = Unit {0}
IsPrior p (Behind l c) r = (is_comma_list p l ≡ true) × IsMade l (c ∷ r) × (c.word ≡ W.Comma)

-- EXPRESSIONS

-- no bare `in` stands in the phrase, where none may
abbrev pub Bars : Bool → Bool → Type 0
Bars barred bare = barred ≡ true → bare ≡ false

pub record InInfix (w : Word) (b : Bool) (st : List Frame) (Below : List Event → List Lexeme → Type 0) (out : List Event) (r : List Lexeme) : Type 0 where
  pub a : Phrase
  pub o : Lexeme
  pub was : List Event
  pub word : o.word ≡ w
  pub binding : 0 < binds w
  pub left : binds w ≤ level a
  pub fits : top_floor st ≤ binds w
  pub bars : b ≡ top_bars st
  pub bare : Bars (top_bars st) (is_in w || has_bare_in a)
  pub hole : top takes_operand st ≡ true
  pub made : IsMade a (o ∷ r)
  pub told : out ≡ emit a was
  pub below : Below was (spell a (o ∷ r))

pub record InPrefix (place : ℕ) (w : Word) (b : Bool) (st : List Frame) (Below : List Event → List Lexeme → Type 0) (out : List Event) (r : List Lexeme) : Type 0 where
  pub o : Lexeme
  pub start : o.start ≡ place
  pub word : o.word ≡ w
  pub before_operand : is_prefix w ≡ true
  pub fits : top_floor st ≤ 14
  pub bars : b ≡ top_bars st
  pub hole : top takes_operand st ≡ true
  pub below : Below out (o ∷ r)

pub record InNew (place : ℕ) (b : Bool) (st : List Frame) (Below : List Event → List Lexeme → Type 0) (out : List Event) (r : List Lexeme) : Type 0 where
  pub o : Lexeme
  pub start : o.start ≡ place
  pub word : o.word ≡ W.New
  pub bars : b ≡ top_bars st
  pub hole : top takes_operand st ≡ true
  pub below : Below out (o ∷ r)

pub record InAssignment (w : Word) (b : Bool) (st : List Frame) (Below : List Event → List Lexeme → Type 0) (out : List Event) (r : List Lexeme) : Type 0 where
  pub a : Phrase
  pub o : Lexeme
  pub was : List Event
  pub word : o.word ≡ w
  pub assigns : is_assignment w ≡ true
  pub target : is_target a ≡ true
  pub fits : top_floor st ≤ 2
  pub bars : b ≡ top_bars st
  pub hole : top takes_operand st ≡ true
  pub made : IsMade a (o ∷ r)
  pub told : out ≡ emit a was
  pub below : Below was (spell a (o ∷ r))

pub record InTest (st : List Frame) (Below : List Event → List Lexeme → Type 0) (out : List Event) (r : List Lexeme) : Type 0 where
  pub a : Phrase
  pub q : Lexeme
  pub was : List Event
  pub word : q.word ≡ W.Question
  pub test : holds 4 a ≡ true
  pub fits : top_floor st ≤ 3
  pub bare : Bars (top_bars st) (has_bare_in a)
  pub hole : top takes_operand st ≡ true
  pub made : IsMade a (q ∷ r)
  pub told : out ≡ emit a was
  pub below : Below was (spell a (q ∷ r))

pub record InChoice (b : Bool) (st : List Frame) (Below : List Event → List Lexeme → Type 0) (out : List Event) (r : List Lexeme) : Type 0 where
  pub a : Phrase
  pub q : Lexeme
  pub m : Phrase
  pub c : Lexeme
  pub was : List Event
  pub question : q.word ≡ W.Question
  pub colon : c.word ≡ W.Colon
  pub test : holds 4 a ≡ true
  pub middle : is_assigned m ≡ true
  pub fits : top_floor st ≤ 3
  pub bars : b ≡ top_bars st
  pub bare : Bars (top_bars st) (has_bare_in a)
  pub hole : top takes_operand st ≡ true
  pub made-a : IsMade a (q ∷ spell m (c ∷ r))
  pub made-m : IsMade m (c ∷ r)
  pub told : out ≡ emit m (emit a was)
  pub below : Below was (spell a (q ∷ spell m (c ∷ r)))

pub record InParenthesis (place : ℕ) (st : List Frame) (Below : List Event → List Lexeme → Type 0) (out : List Event) (r : List Lexeme) : Type 0 where
  pub o : Lexeme
  pub start : o.start ≡ place
  pub word : o.word ≡ W.OpenParenthesis
  pub hole : top takes_operand st ≡ true
  pub below : Below out (o ∷ r)

pub record InIndex (st : List Frame) (Below : List Event → List Lexeme → Type 0) (out : List Event) (r : List Lexeme) : Type 0 where
  pub base : Phrase
  pub o : Lexeme
  pub was : List Event
  pub word : o.word ≡ W.OpenBracket
  pub tight : holds 17 base ≡ true
  pub tighter : top is_new st ≡ true → holds 18 base ≡ true
  pub hole : top takes_operand st ≡ true
  pub made : IsMade base (o ∷ r)
  pub told : out ≡ emit base was
  pub below : Below was (spell base (o ∷ r))

pub record InCall (count : ℕ) (st : List Frame) (Below : List Event → List Lexeme → Type 0) (out : List Event) (r : List Lexeme) : Type 0 where
  pub f : Phrase
  pub o : Lexeme
  pub prior : Prior
  pub was : List Event
  pub word : o.word ≡ W.OpenParenthesis
  pub tight : holds 17 f ≡ true
  pub no_new : top is_new st ≡ false
  pub hole : top takes_operand st ≡ true
  pub made : IsMade f (o ∷ spell_prior prior r)
  pub before : IsPrior is_assigned prior r
  pub counted : width (listed prior) ≡ count
  pub told : out ≡ emit (listed prior) (emit f was)
  pub below : Below was (spell f (o ∷ spell_prior prior r))

pub record InNewCall (place : ℕ) (count : ℕ) (st : List Frame) (Below : List Event → List Lexeme → Type 0) (out : List Event) (r : List Lexeme) : Type 0 where
  pub n : Lexeme
  pub f : Phrase
  pub o : Lexeme
  pub prior : Prior
  pub was : List Event
  pub start : n.start ≡ place
  pub new_word : n.word ≡ W.New
  pub word : o.word ≡ W.OpenParenthesis
  pub tight : holds 18 f ≡ true
  pub hole : top takes_operand st ≡ true
  pub made : IsMade f (o ∷ spell_prior prior r)
  pub before : IsPrior is_assigned prior r
  pub counted : width (listed prior) ≡ count
  pub told : out ≡ emit (listed prior) (emit f was)
  pub below : Below was (n ∷ spell f (o ∷ spell_prior prior r))

-- an array literal (with elements) or an object literal (with entries), between two parts
pub record InLiteral (opening : Word) (p : Phrase → Bool) (place : ℕ) (count : ℕ) (st : List Frame) (Below : List Event → List Lexeme → Type 0) (out : List Event) (r : List Lexeme) : Type 0 where
  pub o : Lexeme
  pub prior : Prior
  pub was : List Event
  pub start : o.start ≡ place
  pub word : o.word ≡ opening
  pub hole : top takes_operand st ≡ true
  pub before : IsPrior p prior r
  pub counted : width (listed prior) ≡ count
  pub told : out ≡ emit (listed prior) was
  pub below : Below was (o ∷ spell_prior prior r)

-- an entry whose key is read, and whose `:` is next
abbrev pub InKey : ℕ → ℕ → Lexeme → List Frame → (List Event → List Lexeme → Type 0) → List Event → List Lexeme → Type 0
InKey place count k st Below out r = (is_key k.word ≡ true) × InLiteral W.OpenBrace is_entry place count st Below out (k ∷ r)

-- an entry whose value is next
pub record InEntry (place : ℕ) (count : ℕ) (k : Lexeme) (st : List Frame) (Below : List Event → List Lexeme → Type 0) (out : List Event) (r : List Lexeme) : Type 0 where
  pub c : Lexeme
  pub colon : c.word ≡ W.Colon
  pub key : is_key k.word ≡ true
  pub literal : InLiteral W.OpenBrace is_entry place count st Below out (k ∷ c ∷ r)

-- FUNCTIONS

-- the lexemes of the name that an owner has
abbrev pub spell_name : Owner → List Lexeme → List Lexeme
spell_name (O.Expression place None) r = r
spell_name (O.Expression place (Some n)) r = n ∷ r
spell_name (O.Declaration place n) r = n ∷ r

abbrev pub IsNamed : Owner → Type 0
IsNamed (O.Expression place None) = Unit {0}
IsNamed (O.Expression place (Some n)) = n.word ≡ W.Name
IsNamed (O.Declaration place n) = n.word ≡ W.Name

abbrev pub owner_place : Owner → ℕ
owner_place (O.Expression place name) = place
owner_place (O.Declaration place name) = place

-- what a function stands in takes it
abbrev pub takes_owner : Owner → Frame → Bool
takes_owner (O.Expression place name) f = takes_operand f
takes_owner (O.Declaration place name) f = takes_declaration f

-- `function` and the name, if there is one
pub record InOwner (owner : Owner) (st : List Frame) (Below : List Event → List Lexeme → Type 0) (out : List Event) (r : List Lexeme) : Type 0 where
  pub f : Lexeme
  pub start : f.start ≡ owner_place owner
  pub word : f.word ≡ W.Function
  pub named : IsNamed owner
  pub hole : top (takes_owner owner) st ≡ true
  pub below : Below out (f ∷ spell_name owner r)

-- behind the `(` of the parameters
pub record InParameters (owner : Owner) (count : ℕ) (prior : Prior) (st : List Frame) (Below : List Event → List Lexeme → Type 0) (out : List Event) (r : List Lexeme) : Type 0 where
  pub o : Lexeme
  pub was : List Event
  pub word : o.word ≡ W.OpenParenthesis
  pub before : IsPrior is_parameter prior r
  pub counted : width (listed prior) ≡ count
  pub told : out ≡ emit (listed prior) was
  pub owned : InOwner owner st Below was (o ∷ spell_prior prior r)

-- behind a parameter
pub record BehindParameter (owner : Owner) (count : ℕ) (st : List Frame) (Below : List Event → List Lexeme → Type 0) (out : List Event) (r : List Lexeme) : Type 0 where
  pub o : Lexeme
  pub l : Phrase
  pub was : List Event
  pub word : o.word ≡ W.OpenParenthesis
  pub list : is_comma_list is_parameter l ≡ true
  pub made : IsMade l r
  pub counted : width l ≡ count
  pub told : out ≡ emit l was
  pub owned : InOwner owner st Below was (o ∷ spell l r)

-- behind the `)` of the parameters
pub record BehindParameters (owner : Owner) (count : ℕ) (st : List Frame) (Below : List Event → List Lexeme → Type 0) (out : List Event) (r : List Lexeme) : Type 0 where
  pub o : Lexeme
  pub l : Phrase
  pub c : Lexeme
  pub was : List Event
  pub word : o.word ≡ W.OpenParenthesis
  pub close : c.word ≡ W.CloseParenthesis
  pub list : may_be_commas is_parameter l ≡ true
  pub made : IsMade l (c ∷ r)
  pub counted : width l ≡ count
  pub told : out ≡ emit l was
  pub owned : InOwner owner st Below was (o ∷ spell l (c ∷ r))

-- the body, between two statements
pub record InBody (owner : Owner) (parameters : ℕ) (count : ℕ) (st : List Frame) (Below : List Event → List Lexeme → Type 0) (out : List Event) (r : List Lexeme) : Type 0 where
  pub b : Lexeme
  pub s : Phrase
  pub was : List Event
  pub word : b.word ≡ W.OpenBrace
  pub list : is_list is_element s ≡ true
  pub made : IsMade s r
  pub counted : width s ≡ count
  pub told : out ≡ emit s was
  pub header : BehindParameters owner parameters st Below was (b ∷ spell s r)

-- STATEMENTS

pub record InScript (w : List Lexeme) (st : List Frame) (out : List Event) (r : List Lexeme) : Type 0 where
  pub l : Phrase
  pub alone : st ≡ []
  pub list : is_list is_element l ≡ true
  pub made : IsMade l r
  pub told : out ≡ emit l []
  pub whole : w ≡ spell l r

pub record InBlock (place : ℕ) (count : ℕ) (st : List Frame) (Below : List Event → List Lexeme → Type 0) (out : List Event) (r : List Lexeme) : Type 0 where
  pub o : Lexeme
  pub l : Phrase
  pub was : List Event
  pub start : o.start ≡ place
  pub word : o.word ≡ W.OpenBrace
  pub hole : top (λ f. takes_statement f || takes_block f) st ≡ true
  pub list : is_list is_statement l ≡ true
  pub made : IsMade l r
  pub counted : width l ≡ count
  pub told : out ≡ emit l was
  pub below : Below was (o ∷ spell l r)

pub record InExpression (st : List Frame) (Below : List Event → List Lexeme → Type 0) (out : List Event) (r : List Lexeme) : Type 0 where
  pub first : Next r (λ t. is_no_beginning t.word ≡ false)
  pub hole : top takes_statement st ≡ true
  pub below : Below out r

-- a statement that begins with such a word, and whose expression begins on its line
pub record InJump (word : Word) (place : ℕ) (st : List Frame) (Below : List Event → List Lexeme → Type 0) (out : List Event) (r : List Lexeme) : Type 0 where
  pub o : Lexeme
  pub start : o.start ≡ place
  pub is : o.word ≡ word
  pub hole : top takes_statement st ≡ true
  pub below : Below out (o ∷ r)

abbrev pub IsOnLineNext : List Lexeme → Type 0
IsOnLineNext r = Next r (λ t. t.line_before ≡ false)

-- what declarators stand in, and what is barred in them
abbrev pub takes_role : VarRole → Frame → Bool
takes_role V.Statement f = takes_statement f
takes_role V.Init f = is_for_init f

abbrev pub bars_role : VarRole → Bool
bars_role V.Statement = false
bars_role V.Init = true

pub record InDeclarators (role : VarRole) (place : ℕ) (count : ℕ) (st : List Frame) (Below : List Event → List Lexeme → Type 0) (out : List Event) (r : List Lexeme) : Type 0 where
  pub v : Lexeme
  pub prior : Prior
  pub was : List Event
  pub start : v.start ≡ place
  pub word : v.word ≡ W.Var
  pub hole : top (takes_role role) st ≡ true
  pub before : IsPrior is_declarator prior r
  pub bare : Bars (bars_role role) (has_bare_in (listed prior))
  pub counted : width (listed prior) ≡ count
  pub told : out ≡ emit (listed prior) was
  pub below : Below was (v ∷ spell_prior prior r)

abbrev pub is_declarators : Frame → Bool
is_declarators (F.Declarators role place count) = true
is_declarators _ = false

pub record InInitialised (n : Lexeme) (b : Bool) (st : List Frame) (Below : List Event → List Lexeme → Type 0) (out : List Event) (r : List Lexeme) : Type 0 where
  pub q : Lexeme
  pub name : n.word ≡ W.Name
  pub equals : q.word ≡ W.Assign
  pub bars : b ≡ top_bars st
  pub hole : top is_declarators st ≡ true
  pub below : Below out (n ∷ q ∷ r)

-- the word of a header
abbrev pub header_word : Header → Word
header_word C.If = W.If
header_word C.While = W.While
header_word C.DoWhile = W.While
header_word C.Switch = W.Switch

-- before the `(` of a header: of a `do`, its statement stands before
pub record InDo (place : ℕ) (st : List Frame) (Below : List Event → List Lexeme → Type 0) (out : List Event) (r : List Lexeme) : Type 0 where
  pub d : Lexeme
  pub s : Phrase
  pub w : Lexeme
  pub was : List Event
  pub start : d.start ≡ place
  pub do_word : d.word ≡ W.Do
  pub while_word : w.word ≡ W.While
  pub hole : top takes_statement st ≡ true
  pub statement : is_statement s ≡ true
  pub made : IsMade s (w ∷ r)
  pub told : out ≡ emit s was
  pub below : Below was (d ∷ spell s (w ∷ r))

abbrev pub AtHeader : Header → ℕ → List Frame → (List Event → List Lexeme → Type 0) → List Event → List Lexeme → Type 0
AtHeader C.If place st Below out r = InJump W.If place st Below out r
AtHeader C.While place st Below out r = InJump W.While place st Below out r
AtHeader C.DoWhile place st Below out r = InDo place st Below out r
AtHeader C.Switch place st Below out r = InJump W.Switch place st Below out r

-- behind that `(`
pub record InCondition (header : Header) (place : ℕ) (st : List Frame) (Below : List Event → List Lexeme → Type 0) (out : List Event) (r : List Lexeme) : Type 0 where
  pub o : Lexeme
  pub word : o.word ≡ W.OpenParenthesis
  pub header_read : AtHeader header place st Below out (o ∷ r)

-- behind the `)` of an `if`, a `while` or a `switch`
pub record BehindCondition (word : Word) (place : ℕ) (st : List Frame) (Below : List Event → List Lexeme → Type 0) (out : List Event) (r : List Lexeme) : Type 0 where
  pub o : Lexeme
  pub e : Phrase
  pub c : Lexeme
  pub was : List Event
  pub opens : o.word ≡ W.OpenParenthesis
  pub expression : is_expression e ≡ true
  pub close : c.word ≡ W.CloseParenthesis
  pub made : IsMade e (c ∷ r)
  pub told : out ≡ emit e was
  pub begun : InJump word place st Below was (o ∷ spell e (c ∷ r))

pub record InOtherwise (place : ℕ) (st : List Frame) (Below : List Event → List Lexeme → Type 0) (out : List Event) (r : List Lexeme) : Type 0 where
  pub s : Phrase
  pub l : Lexeme
  pub was : List Event
  pub statement : is_statement s ≡ true
  pub else_word : l.word ≡ W.Else
  pub made : IsMade s (l ∷ r)
  pub told : out ≡ emit s was
  pub test : BehindCondition W.If place st Below was (spell s (l ∷ r))

-- behind the `(` of a `for`
pub record InForInit (place : ℕ) (st : List Frame) (Below : List Event → List Lexeme → Type 0) (out : List Event) (r : List Lexeme) : Type 0 where
  pub o : Lexeme
  pub word : o.word ≡ W.OpenParenthesis
  pub begun : InJump W.For place st Below out (o ∷ r)

-- behind the first `;` of a `for`
pub record InForTest (place : ℕ) (st : List Frame) (Below : List Event → List Lexeme → Type 0) (out : List Event) (r : List Lexeme) : Type 0 where
  pub i : Phrase
  pub p : Lexeme
  pub was : List Event
  pub init : is_init i ≡ true
  pub bare : has_bare_in i ≡ false
  pub semicolon : p.word ≡ W.Semicolon
  pub made : IsMade i (p ∷ r)
  pub told : out ≡ emit i was
  pub begun : InForInit place st Below was (spell i (p ∷ r))

-- behind the second
pub record InForUpdate (place : ℕ) (st : List Frame) (Below : List Event → List Lexeme → Type 0) (out : List Event) (r : List Lexeme) : Type 0 where
  pub e : Phrase
  pub q : Lexeme
  pub was : List Event
  pub expression : may_be_expression e ≡ true
  pub semicolon : q.word ≡ W.Semicolon
  pub made : IsMade e (q ∷ r)
  pub told : out ≡ emit e was
  pub begun : InForTest place st Below was (spell e (q ∷ r))

-- behind the `)`
pub record InFor (place : ℕ) (st : List Frame) (Below : List Event → List Lexeme → Type 0) (out : List Event) (r : List Lexeme) : Type 0 where
  pub u : Phrase
  pub c : Lexeme
  pub was : List Event
  pub expression : may_be_expression u ≡ true
  pub close : c.word ≡ W.CloseParenthesis
  pub made : IsMade u (c ∷ r)
  pub told : out ≡ emit u was
  pub begun : InForUpdate place st Below was (spell u (c ∷ r))

-- how many clauses so far may be `default`
abbrev pub default_is : Bool → ℕ
default_is true = 1
default_is false = 0

-- a `switch`, between its clauses
pub record InSwitch (place : ℕ) (count : ℕ) (default : Bool) (st : List Frame) (Below : List Event → List Lexeme → Type 0) (out : List Event) (r : List Lexeme) : Type 0 where
  pub b : Lexeme
  pub l : Phrase
  pub was : List Event
  pub brace : b.word ≡ W.OpenBrace
  pub list : is_list is_clause l ≡ true
  pub defaults : default_count l ≤ default_is default
  pub made : IsMade l r
  pub counted : width l ≡ count
  pub told : out ≡ emit l was
  pub header : BehindCondition W.Switch place st Below was (b ∷ spell l r)

-- a clause of a `switch`: what stands below is the `switch`, which has counted a `default` before that clause is read
pub record InCase (place : ℕ) (st : List Frame) (Below : List Event → List Lexeme → Type 0) (out : List Event) (r : List Lexeme) : Type 0 where
  pub w : Lexeme
  pub start : w.start ≡ place
  pub word : w.word ≡ W.Case
  pub hole : top is_switch st ≡ true
  pub below : Below out (w ∷ r)

pub record InCaseBody (place : ℕ) (count : ℕ) (st : List Frame) (Below : List Event → List Lexeme → Type 0) (out : List Event) (r : List Lexeme) : Type 0 where
  pub e : Phrase
  pub c : Lexeme
  pub l : Phrase
  pub was : List Event
  pub expression : is_expression e ≡ true
  pub colon : c.word ≡ W.Colon
  pub list : is_list is_statement l ≡ true
  pub made-e : IsMade e (c ∷ spell l r)
  pub made : IsMade l r
  pub counted : width l ≡ count
  pub told : out ≡ emit l (emit e was)
  pub begun : InCase place st Below was (spell e (c ∷ spell l r))

-- behind `default`, and behind its `:`
pub record AtDefault (place : ℕ) (Below : List Event → List Lexeme → Type 0) (out : List Event) (r : List Lexeme) : Type 0 where
  pub w : Lexeme
  pub start : w.start ≡ place
  pub word : w.word ≡ W.Default
  pub below : Below out (w ∷ r)

pub record InDefault (place : ℕ) (count : ℕ) (Below : List Event → List Lexeme → Type 0) (out : List Event) (r : List Lexeme) : Type 0 where
  pub c : Lexeme
  pub l : Phrase
  pub was : List Event
  pub colon : c.word ≡ W.Colon
  pub list : is_list is_statement l ≡ true
  pub made : IsMade l r
  pub counted : width l ≡ count
  pub told : out ≡ emit l was
  pub begun : AtDefault place Below was (c ∷ spell l r)

-- a `try` whose block is read
pub record InHandled (place : ℕ) (st : List Frame) (Below : List Event → List Lexeme → Type 0) (out : List Event) (r : List Lexeme) : Type 0 where
  pub b : Phrase
  pub was : List Event
  pub block : is_block b ≡ true
  pub made : IsMade b r
  pub told : out ≡ emit b was
  pub begun : InJump W.Try place st Below was (spell b r)

-- behind `catch`, which stands at this place, behind its `(`, behind its name, and behind its `)`
pub record AtCatch (place : ℕ) (st : List Frame) (Below : List Event → List Lexeme → Type 0) (out : List Event) (r : List Lexeme) : Type 0 where
  pub w : Lexeme
  pub start : w.start ≡ place
  pub word : w.word ≡ W.Catch
  pub hole : top is_handled st ≡ true
  pub below : Below out (w ∷ r)

pub record AtCatchName (place : ℕ) (st : List Frame) (Below : List Event → List Lexeme → Type 0) (out : List Event) (r : List Lexeme) : Type 0 where
  pub o : Lexeme
  pub opens : o.word ≡ W.OpenParenthesis
  pub begun : AtCatch place st Below out (o ∷ r)

abbrev pub BehindCatchName : ℕ → Lexeme → List Frame → (List Event → List Lexeme → Type 0) → List Event → List Lexeme → Type 0
BehindCatchName place n st Below out r = (n.word ≡ W.Name) × AtCatchName place st Below out (n ∷ r)

pub record InCatch (place : ℕ) (n : Lexeme) (st : List Frame) (Below : List Event → List Lexeme → Type 0) (out : List Event) (r : List Lexeme) : Type 0 where
  pub c : Lexeme
  pub close : c.word ≡ W.CloseParenthesis
  pub named : BehindCatchName place n st Below out (c ∷ r)

-- behind `finally`
pub record InFinally (place : ℕ) (st : List Frame) (Below : List Event → List Lexeme → Type 0) (out : List Event) (r : List Lexeme) : Type 0 where
  pub h : Phrase
  pub w : Lexeme
  pub was : List Event
  pub handler : (is_absent h || is_catch h) ≡ true
  pub word : w.word ≡ W.Finally
  pub made : IsMade h (w ∷ r)
  pub told : out ≡ emit h was
  pub tried : InHandled place st Below was (spell h (w ∷ r))

-- ALL OPEN FORMS

-- The open forms, the innermost first, have taken the lexemes `w` up to `r`, and told `out`. A `default` counts in its
-- `switch` from its word on.
abbrev pub Open : List Frame → List Lexeme → List Event → List Lexeme → Type 0
Open [] w out r = ⊥
Open (F.Operator (P.Infix x) b ∷ st) w out r = InInfix x b st (Open st w) out r
Open (F.Operator (P.Prefix place x) b ∷ st) w out r = InPrefix place x b st (Open st w) out r
Open (F.Operator (P.New place) b ∷ st) w out r = InNew place b st (Open st w) out r
Open (F.Operator (P.Assignment x) b ∷ st) w out r = InAssignment x b st (Open st w) out r
Open (F.Operator P.Choice b ∷ st) w out r = InChoice b st (Open st w) out r
Open (F.Test ∷ st) w out r = InTest st (Open st w) out r
Open (F.Parenthesis place ∷ st) w out r = InParenthesis place st (Open st w) out r
Open (F.Index ∷ st) w out r = InIndex st (Open st w) out r
Open (F.Arguments I.Call count ∷ st) w out r = InCall count st (Open st w) out r
Open (F.Arguments (I.New place) count ∷ st) w out r = InNewCall place count st (Open st w) out r
Open (F.Elements place count ∷ st) w out r = InLiteral W.OpenBracket is_assigned place count st (Open st w) out r
Open (F.Object place count ∷ st) w out r = InLiteral W.OpenBrace is_entry place count st (Open st w) out r
Open (F.Entry place count k ∷ st) w out r = InEntry place count k st (Open st w) out r
Open (F.Parameters owner count ∷ st) w out r = ⊥
Open (F.Body owner parameters count ∷ st) w out r = InBody owner parameters count st (Open st w) out r
Open (F.Script ∷ st) w out r = InScript w st out r
Open (F.Block place count ∷ st) w out r = InBlock place count st (Open st w) out r
Open (F.Expression ∷ st) w out r = InExpression st (Open st w) out r
Open (F.Return place ∷ st) w out r = InJump W.Return place st (Open st w) out r × IsOnLineNext r
Open (F.Throw place ∷ st) w out r = InJump W.Throw place st (Open st w) out r × IsOnLineNext r
Open (F.Declarators role place count ∷ st) w out r = InDeclarators role place count st (Open st w) out r
Open (F.Initialised n b ∷ st) w out r = InInitialised n b st (Open st w) out r
Open (F.Condition header place ∷ st) w out r = InCondition header place st (Open st w) out r
Open (F.Then place ∷ st) w out r = BehindCondition W.If place st (Open st w) out r
Open (F.Otherwise place ∷ st) w out r = InOtherwise place st (Open st w) out r
Open (F.Do place ∷ st) w out r = InJump W.Do place st (Open st w) out r
Open (F.While place ∷ st) w out r = BehindCondition W.While place st (Open st w) out r
Open (F.ForInit place ∷ st) w out r = InForInit place st (Open st w) out r
Open (F.ForTest place ∷ st) w out r = InForTest place st (Open st w) out r
Open (F.ForUpdate place ∷ st) w out r = InForUpdate place st (Open st w) out r
Open (F.For place ∷ st) w out r = InFor place st (Open st w) out r
Open (F.Switch place count default ∷ st) w out r = InSwitch place count default st (Open st w) out r
Open (F.Case place ∷ st) w out r = InCase place st (Open st w) out r
Open (F.CaseBody place count ∷ st) w out r = InCaseBody place count st (Open st w) out r
Open (F.Default place count ∷ F.Switch at clauses default ∷ st) w out r = (default ≡ true) × InDefault place count (InSwitch at clauses false st (Open st w)) out r
Open (F.Default place count ∷ st) w out r = ⊥
Open (F.Try place ∷ st) w out r = InJump W.Try place st (Open st w) out r
Open (F.Handled place ∷ st) w out r = InHandled place st (Open st w) out r
Open (F.Catch place n ∷ st) w out r = InCatch place n st (Open st w) out r
Open (F.Finally place ∷ st) w out r = InFinally place st (Open st w) out r

-- WHAT A MODE SAYS

-- the shape of an expression
abbrev pub shape : Phrase → Shape
shape d = cond (is_target d) S.Target (cond (ends_postfix d) S.Postfix S.Plain)

-- the phrase may be the last part of the innermost open form
abbrev pub fit_in : Frame → Phrase → Bool
fit_in (F.Operator (P.Prefix place w) b) d = holds 14 d
fit_in (F.Operator (P.New place) b) d = is_constructed d
fit_in f d = nat_le (floor f) (level d)

abbrev pub fit : List Frame → Phrase → Bool
fit [] d = false
fit (f ∷ st) d = fit_in f d

-- an operand that was read, whose last operators may have ended, before `r`
pub record Operand (sh : Shape) (st : List Frame) (w : List Lexeme) (out : List Event) (r : List Lexeme) : Type 0 where
  pub d : Phrase
  pub was : List Event
  pub shaped : sh ≡ shape d
  pub fits : fit st d ≡ true
  pub bare : Bars (top_bars st) (has_bare_in d)
  pub hole : top takes_operand st ≡ true
  pub made : IsMade d r
  pub told : out ≡ emit d was
  pub around : Open st w was (spell d r)

-- an operand that was read: nothing that holds less tightly than postfix operators
pub record Read (sh : Shape) (st : List Frame) (w : List Lexeme) (out : List Event) (r : List Lexeme) : Type 0 where
  pub operand : Operand sh st w out r
  pub tight : holds 15 operand.d ≡ true
  pub primary : in_postfix sh ≡ false → holds 17 operand.d ≡ true
  pub behind_new : top is_new st ≡ true → holds 18 operand.d ≡ true
  pub behind_postfix : in_postfix sh ≡ true → top_floor st ≤ 15

-- behind the `.` of a member
pub record BehindPoint (st : List Frame) (w : List Lexeme) (out : List Event) (r : List Lexeme) : Type 0 where
  pub base : Phrase
  pub p : Lexeme
  pub was : List Event
  pub word : p.word ≡ W.Point
  pub tight : holds 17 base ≡ true
  pub tighter : top is_new st ≡ true → holds 18 base ≡ true
  pub hole : top takes_operand st ≡ true
  pub made : IsMade base (p ∷ r)
  pub told : out ≡ emit base was
  pub around : Open st w was (spell base (p ∷ r))

-- a phrase that has ended, which the innermost open form takes, before `r`
pub record Ended (st : List Frame) (w : List Lexeme) (out : List Event) (r : List Lexeme) : Type 0 where
  pub d : Phrase
  pub was : List Event
  pub taken : top (λ f. takes f d) st ≡ true
  pub made : IsMade d r
  pub told : out ≡ emit d was
  pub around : Open st w was (spell d r)

-- a statement that ends with `;` or with the empty spelling, which these words would continue, before `r`
pub record Unended (continued : Word → Bool) (st : List Frame) (w : List Lexeme) (out : List Event) (r : List Lexeme) : Type 0 where
  pub d : Ending → Phrase
  pub was : List Event
  pub statement : (z : Ending) → is_statement (d z) ≡ true
  pub hole : top takes_statement st ≡ true
  pub made : (z : Ending) (q : List Lexeme) → spell_ending z q ≡ r → IsEnded continued z q → IsMade (d z) q
  pub told : (z : Ending) → out ≡ emit (d z) was
  pub around : (z : Ending) (q : List Lexeme) → spell_ending z q ≡ r → Open st w was (spell (d z) q)

-- the innermost open form is this one, and below it these
abbrev pub On : Frame → List Frame → List Frame → Type 0
On f below st = st ≡ f ∷ below

-- what the mode says of the open forms, of what has been told and of what is to come
abbrev pub Holds : Mode → List Frame → List Lexeme → List Event → List Lexeme → Type 0
Holds M.Operand st w out r = (top takes_operand st ≡ true) × Open st w out r
Holds (M.After sh) st w out r = Read sh st w out r
Holds M.Member st w out r = BehindPoint st w out r
Holds M.Argument st w out r = (invocation : Invocation) × (below : List Frame) × On (F.Arguments invocation 0) below st × Open st w out r
Holds M.Element st w out r = (place : ℕ) × (count : ℕ) × (below : List Frame) × On (F.Elements place count) below st × Open st w out r
Holds M.Key st w out r = (place : ℕ) × (count : ℕ) × (below : List Frame) × On (F.Object place count) below st × Open st w out r
Holds M.EntryColon st w out r = (place : ℕ) × (count : ℕ) × (k : Lexeme) × (below : List Frame) × On (F.Entry place count k) below st × InKey place count k below (Open below w) out r
Holds (M.FunctionName place) st w out r = (f : Lexeme) × (f.start ≡ place) × (f.word ≡ W.Function) × (top takes_operand st ≡ true) × Open st w out (f ∷ r)
Holds (M.DeclarationName place) st w out r = (f : Lexeme) × (f.start ≡ place) × (f.word ≡ W.Function) × (top takes_declaration st ≡ true) × Open st w out (f ∷ r)
Holds M.OpenParameters st w out r = (owner : Owner) × (below : List Frame) × On (F.Parameters owner 0) below st × InOwner owner below (Open below w) out r
Holds M.FirstParameter st w out r = (owner : Owner) × (below : List Frame) × On (F.Parameters owner 0) below st × InParameters owner 0 First below (Open below w) out r
Holds M.Parameter st w out r = (owner : Owner) × (count : ℕ) × (below : List Frame) × (prior : Prior) × On (F.Parameters owner count) below st × InParameters owner count prior below (Open below w) out r
Holds M.AfterParameter st w out r = (owner : Owner) × (count : ℕ) × (below : List Frame) × On (F.Parameters owner count) below st × BehindParameter owner count below (Open below w) out r
Holds M.OpenBody st w out r = (owner : Owner) × (count : ℕ) × (below : List Frame) × On (F.Parameters owner count) below st × BehindParameters owner count below (Open below w) out r
Holds M.Statement st w out r = (top takes_statement st ≡ true) × Open st w out r
Holds M.Ended st w out r = Ended st w out r
Holds M.Semicolon st w out r = Unended continues_nothing st w out r
Holds M.DeclaratorName st w out r = (role : VarRole) × (place : ℕ) × (count : ℕ) × (below : List Frame) × On (F.Declarators role place count) below st × Open st w out r
Holds (M.AfterName n) st w out r = (role : VarRole) × (place : ℕ) × (count : ℕ) × (below : List Frame) × On (F.Declarators role place count) below st × (n.word ≡ W.Name) × Open st w out (n ∷ r)
Holds M.Returning st w out r = (place : ℕ) × (below : List Frame) × On (F.Return place) below st × InJump W.Return place below (Open below w) out r
Holds M.Throwing st w out r = (place : ℕ) × (below : List Frame) × On (F.Throw place) below st × InJump W.Throw place below (Open below w) out r
Holds M.OpenHeader st w out r = (header : Header) × (place : ℕ) × (below : List Frame) × On (F.Condition header place) below st × AtHeader header place below (Open below w) out r
Holds M.OpenSwitch st w out r = (place : ℕ) × (below : List Frame) × On (F.Switch place 0 false) below st × BehindCondition W.Switch place below (Open below w) out r
Holds M.Clause st w out r = (place : ℕ) × (count : ℕ) × (default : Bool) × (below : List Frame) × On (F.Switch place count default) below st × Open st w out r
Holds M.DefaultColon st w out r = (place : ℕ) × (at : ℕ) × (clauses : ℕ) × (below : List Frame) × On (F.Default place 0) (F.Switch at clauses true ∷ below) st × AtDefault place (InSwitch at clauses false below (Open below w)) out r
Holds M.OpenFor st w out r = (place : ℕ) × (below : List Frame) × On (F.ForInit place) below st × InJump W.For place below (Open below w) out r
Holds M.ForInit st w out r = (place : ℕ) × (below : List Frame) × On (F.ForInit place) below st × Open st w out r
Holds M.ForTest st w out r = (place : ℕ) × (below : List Frame) × On (F.ForTest place) below st × Open st w out r
Holds M.ForUpdate st w out r = (place : ℕ) × (below : List Frame) × On (F.ForUpdate place) below st × Open st w out r
Holds M.OpenBlock st w out r = (top takes_block st ≡ true) × Open st w out r
Holds (M.OpenCatch place) st w out r = AtCatch place st (Open st w) out r
Holds (M.CatchName place) st w out r = AtCatchName place st (Open st w) out r
Holds M.CloseCatch st w out r = (place : ℕ) × (n : Lexeme) × (below : List Frame) × On (F.Catch place n) below st × BehindCatchName place n below (Open below w) out r
Holds M.Done st w out r = (body : Phrase) × (end : Lexeme) × (st ≡ []) × (end.word ≡ W.End) × (is_list is_element body ≡ true) × IsMade body (end ∷ r) × (out ≡ emit body []) × (w ≡ spell body (end ∷ r))

-- a step of the machine leads to a state that holds
abbrev pub Step : List Lexeme → List Lexeme → Option State → Type 0
Step w r None = Unit {0}
Step w r (Some (At mode st out)) = Holds mode st w out r
