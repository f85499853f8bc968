-- Which forms the nodes may have that a phrase shows.
use Rattle.std.proofs.Common.{◌≡◌, ℕ, ◌<◌, Bool, true, false, ◌||◌, List, Option, Some, None, refl, ap, arith, leb-true}
use Rattle.std.proofs.lemmas.Bool.{and_parts}
use Rattle.rip_base.specs.declared.operator.BinaryOperator.TheVariants as B
use Rattle.rip_tree.specs.declared.form.Form.{Form}
use Rattle.rip_tree.specs.declared.form.Form.TheVariants as F
use Rattle.rip_grammar.specs.declared.word.Word.{Word}
use Rattle.rip_grammar.specs.declared.word.Word.TheVariants as W
use Rattle.rip_grammar.specs.declared.word.Lexeme.{Lexeme}
use Rattle.rip_grammar.specs.Phrases.{Phrase, More, CommaMore, Trailing, Declaration, Parameter}
use Rattle.rip_grammar.specs.Levels.{level, is_target}
use Rattle.rip_grammar.specs.Grammar.{holds, is_expression, is_assigned, is_constructed, is_nothing, is_absent, is_statement, is_element, is_block, is_entry, is_declarator, is_clause, is_catch, is_finally, is_list, is_comma_list, may_be_commas, may_end_in_comma, may_be_expression, is_init}
use Rattle.rip_parser.specs.Shows.{IsSingle, infix_form, prefix_form, postfix_form, assignment_form}

-- FORMS

-- a form that stands anywhere: no script, no declaration and no parameter
abbrev pub is_plain : Form → Bool
is_plain F.Script = false
is_plain (F.FunctionDeclaration head) = false
is_plain (F.Parameter p) = false
is_plain _ = true

-- a form that a list of statements and declarations has: no script and no parameter
abbrev pub is_listed : Form → Bool
is_listed F.Script = false
is_listed (F.Parameter p) = false
is_listed _ = true

-- a form below another: no script
abbrev pub is_below : Form → Bool
is_below F.Script = false
is_below _ = true

-- a node of the one form may have a child of the other: a script has declarations, a function has parameters too
abbrev pub may_have : Form → Form → Bool
may_have F.Script child = is_listed child
may_have (F.FunctionDeclaration head) child = is_below child
may_have (F.Function head) child = is_below child
may_have _ child = is_plain child

-- what passes the one test passes the other
abbrev pub Within : (Form → Bool) → (Form → Bool) → Type 0
Within p q = (f : Form) → p f ≡ true → q f ≡ true

pub plain_listed : Within is_plain is_listed
plain_listed F.Script e = cc
plain_listed (F.Parameter p) e = cc
plain_listed f e = refl

pub listed_below : Within is_listed is_below
listed_below F.Script e = cc
listed_below f e = refl

pub plain_held : (form : Form) → Within is_plain (may_have form)
plain_held F.Script f e = plain_listed f e
plain_held (F.FunctionDeclaration head) f e = listed_below f (plain_listed f e)
plain_held (F.Function head) f e = listed_below f (plain_listed f e)
plain_held other f e = e

-- PHRASES

-- a node in the row that a phrase shows may have this form
abbrev pub passes : Phrase → Form → Bool
passes (More l d) f = passes l f || passes d f
passes (CommaMore l c d) f = passes l f || passes d f
passes (Trailing l c) f = passes l f
passes (Declaration g n o l c b s d) f = is_listed f
passes (Parameter n) f = is_below f
passes _ f = is_plain f

one_within : (a b : Bool) → (a || b) ≡ true → (goal : Bool) → (a ≡ true → goal ≡ true) → (b ≡ true → goal ≡ true) → goal ≡ true
one_within true b e goal left right = left refl
one_within false b e goal left right = right e

-- no phrase shows a script
pub passes_below : (d : Phrase) → Within (passes d) is_below
passes_below (More l d) f e = one_within (passes l f) (passes d f) e (is_below f) (passes_below l f) (passes_below d f)
passes_below (CommaMore l c d) f e = one_within (passes l f) (passes d f) e (is_below f) (passes_below l f) (passes_below d f)
passes_below (Trailing l c) f e = passes_below l f e
passes_below (Declaration g n o l c b s d) f e = listed_below f e
passes_below (Parameter n) f e = e
passes_below d f e = listed_below f (plain_listed f e)

-- what passes such a test of phrases shows forms that pass such a test of forms
abbrev pub Tells : (Form → Bool) → (Phrase → Bool) → Type 0
Tells ok p = (d : Phrase) → p d ≡ true → Within (passes d) ok

pub level_tells : (d : Phrase) → 0 < level d → Within (passes d) is_plain
level_tells (More l d) some f e = absurd (omega arith)
level_tells (CommaMore l c d) some f e = absurd (omega arith)
level_tells (Trailing l c) some f e = absurd (omega arith)
level_tells (Declaration g n o l c b s d) some f e = absurd (omega arith)
level_tells (Parameter n) some f e = absurd (omega arith)
level_tells d some f e = e

pub holds_tells : (n : ℕ) → 0 < n → Tells is_plain (holds n)
holds_tells n some d h = level_tells d (omega (arith, leb-true n (level d) h))

pub expression_tells : Tells is_plain is_expression
expression_tells d h = holds_tells 1 (omega arith) d h

pub assigned_tells : Tells is_plain is_assigned
assigned_tells d h = holds_tells 2 (omega arith) d h

pub target_tells : Tells is_plain is_target
target_tells (More l d) h f e = cc
target_tells (CommaMore l c d) h f e = cc
target_tells (Trailing l c) h f e = cc
target_tells (Declaration g n o l c b s d) h f e = cc
target_tells (Parameter n) h f e = cc
target_tells d h f e = e

pub constructed_tells : Tells is_plain is_constructed
constructed_tells (More l d) h f e = cc
constructed_tells (CommaMore l c d) h f e = cc
constructed_tells (Trailing l c) h f e = cc
constructed_tells (Declaration g n o l c b s d) h f e = cc
constructed_tells (Parameter n) h f e = cc
constructed_tells d h f e = e

pub statement_tells : Tells is_plain is_statement
statement_tells (More l d) h f e = cc
statement_tells (CommaMore l c d) h f e = cc
statement_tells (Trailing l c) h f e = cc
statement_tells (Declaration g n o l c b s d) h f e = cc
statement_tells (Parameter n) h f e = cc
statement_tells d h f e = e

pub element_tells : Tells is_listed is_element
element_tells (More l d) h f e = cc
element_tells (CommaMore l c d) h f e = cc
element_tells (Trailing l c) h f e = cc
element_tells (Declaration g n o l c b s d) h f e = e
element_tells (Parameter n) h f e = cc
element_tells d h f e = plain_listed f e

pub block_tells : Tells is_plain is_block
block_tells (More l d) h f e = cc
block_tells (CommaMore l c d) h f e = cc
block_tells (Trailing l c) h f e = cc
block_tells (Declaration g n o l c b s d) h f e = cc
block_tells (Parameter n) h f e = cc
block_tells d h f e = e

pub entry_tells : Tells is_plain is_entry
entry_tells (More l d) h f e = cc
entry_tells (CommaMore l c d) h f e = cc
entry_tells (Trailing l c) h f e = cc
entry_tells (Declaration g n o l c b s d) h f e = cc
entry_tells (Parameter n) h f e = cc
entry_tells d h f e = e

pub declarator_tells : Tells is_plain is_declarator
declarator_tells (More l d) h f e = cc
declarator_tells (CommaMore l c d) h f e = cc
declarator_tells (Trailing l c) h f e = cc
declarator_tells (Declaration g n o l c b s d) h f e = cc
declarator_tells (Parameter n) h f e = cc
declarator_tells d h f e = e

pub clause_tells : Tells is_plain is_clause
clause_tells (More l d) h f e = cc
clause_tells (CommaMore l c d) h f e = cc
clause_tells (Trailing l c) h f e = cc
clause_tells (Declaration g n o l c b s d) h f e = cc
clause_tells (Parameter n) h f e = cc
clause_tells d h f e = e

pub maybe_tells : Tells is_plain may_be_expression
maybe_tells (More l d) h f e = cc
maybe_tells (CommaMore l c d) h f e = cc
maybe_tells (Trailing l c) h f e = cc
maybe_tells (Declaration g n o l c b s d) h f e = cc
maybe_tells (Parameter n) h f e = cc
maybe_tells d h f e = e

pub init_tells : Tells is_plain is_init
init_tells (More l d) h f e = cc
init_tells (CommaMore l c d) h f e = cc
init_tells (Trailing l c) h f e = cc
init_tells (Declaration g n o l c b s d) h f e = cc
init_tells (Parameter n) h f e = cc
init_tells d h f e = e

pub catch_tells : Tells is_plain (λ d. is_absent d || is_catch d)
catch_tells (More l d) h f e = cc
catch_tells (CommaMore l c d) h f e = cc
catch_tells (Trailing l c) h f e = cc
catch_tells (Declaration g n o l c b s d) h f e = cc
catch_tells (Parameter n) h f e = cc
catch_tells d h f e = e

pub finally_tells : Tells is_plain (λ d. is_absent d || is_finally d)
finally_tells (More l d) h f e = cc
finally_tells (CommaMore l c d) h f e = cc
finally_tells (Trailing l c) h f e = cc
finally_tells (Declaration g n o l c b s d) h f e = cc
finally_tells (Parameter n) h f e = cc
finally_tells d h f e = e

nothing_tells : Tells is_plain is_nothing
nothing_tells (More l d) h f e = cc
nothing_tells (CommaMore l c d) h f e = cc
nothing_tells (Trailing l c) h f e = cc
nothing_tells (Declaration g n o l c b s d) h f e = cc
nothing_tells (Parameter n) h f e = cc
nothing_tells d h f e = e

-- LISTS

pub list_tells : (ok : Form → Bool) (p : Phrase → Bool) → Within is_plain ok → Tells ok p → Tells ok (is_list p)
list_tells ok p plain tells (More l d) h f e =
    let parts = and_parts (is_list p l) (p d) h in
    one_within (passes l f) (passes d f) e (ok f) (list_tells ok p plain tells l parts.0 f) (tells d parts.1 f)
list_tells ok p plain tells (CommaMore l c d) h f e = cc
list_tells ok p plain tells (Trailing l c) h f e = cc
list_tells ok p plain tells (Declaration g n o l c b s d) h f e = cc
list_tells ok p plain tells (Parameter n) h f e = cc
list_tells ok p plain tells d h f e = plain f e

pub comma_list_tells : (p : Phrase → Bool) → Tells is_plain p → Tells is_plain (is_comma_list p)
comma_list_tells p tells (More l d) h f e =
    let parts = and_parts (is_nothing l) (p d) h in
    one_within (passes l f) (passes d f) e (is_plain f) (nothing_tells l parts.0 f) (tells d parts.1 f)
comma_list_tells p tells (CommaMore l c d) h f e =
    let parts = and_parts (is_comma_list p l) (p d) h in
    one_within (passes l f) (passes d f) e (is_plain f) (comma_list_tells p tells l parts.0 f) (tells d parts.1 f)
comma_list_tells p tells (Trailing l c) h f e = cc
comma_list_tells p tells (Declaration g n o l c b s d) h f e = cc
comma_list_tells p tells (Parameter n) h f e = cc
comma_list_tells p tells d h f e = e

pub commas_tells : (p : Phrase → Bool) → Tells is_plain p → Tells is_plain (may_be_commas p)
commas_tells p tells (More l d) h = comma_list_tells p tells (More l d) h
commas_tells p tells (CommaMore l c d) h = comma_list_tells p tells (CommaMore l c d) h
commas_tells p tells (Trailing l c) h = cc
commas_tells p tells (Declaration g n o l c b s d) h = cc
commas_tells p tells (Parameter n) h = cc
commas_tells p tells d h = λ f e. e

pub ending_tells : (p : Phrase → Bool) → Tells is_plain p → Tells is_plain (may_end_in_comma p)
ending_tells p tells (More l d) h = comma_list_tells p tells (More l d) h
ending_tells p tells (CommaMore l c d) h = comma_list_tells p tells (CommaMore l c d) h
ending_tells p tells (Trailing l c) h = comma_list_tells p tells l h
ending_tells p tells (Declaration g n o l c b s d) h = cc
ending_tells p tells (Parameter n) h = cc
ending_tells p tells d h = λ f e. e

-- WORDS

-- the form, if there is one, stands anywhere
abbrev pub is_plain_if : Option Form → Bool
is_plain_if None = true
is_plain_if (Some f) = is_plain f

pub infix_plain : (w : Word) → is_plain_if (infix_form w) ≡ true
infix_plain (W.Infix op) = refl
infix_plain (W.Logical op) = refl
infix_plain W.Comma = refl
infix_plain w = refl

pub prefix_plain : (w : Word) → is_plain_if (prefix_form w) ≡ true
prefix_plain (W.Prefix op) = refl
prefix_plain (W.Infix B.Add) = refl
prefix_plain (W.Infix B.Subtract) = refl
prefix_plain (W.Step op) = refl
prefix_plain w = refl

pub postfix_plain : (w : Word) → is_plain_if (postfix_form w) ≡ true
postfix_plain (W.Step op) = refl
postfix_plain w = refl

pub assignment_plain : (w : Word) → is_plain_if (assignment_form w) ≡ true
assignment_plain W.Assign = refl
assignment_plain (W.Compound op) = refl
assignment_plain w = refl

pub single_plain : (script units : List ℕ) (t : Lexeme) (w : Word) (shown : Form) → IsSingle script units t w shown → is_plain shown ≡ true
single_plain script units t W.This shown is = ap is_plain is
single_plain script units t W.Name shown is = ap is_plain is
single_plain script units t W.Null shown is = ap is_plain is
single_plain script units t W.True shown is = ap is_plain is
single_plain script units t W.False shown is = ap is_plain is
single_plain script units t W.Numeral shown is = ap is_plain is
single_plain script units t W.Text shown is = ap is_plain is.1
single_plain script units t w shown is = absurd is
