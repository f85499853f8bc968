-- Which tokens offend behind an expression: the table of the words that continue one is held against the rules (ECMA-262
-- 7.9.1).
use Rattle.std.specs.Prelude.{◌≡◌, true, false, ◌||◌, List, [], ◌∷◌, ◌⊎◌}
use Rattle.rip_grammar.specs.declared.word.Word.{Word}
use Rattle.rip_grammar.specs.declared.word.Word.TheVariants as W
use Rattle.rip_grammar.specs.declared.word.Lexeme.{Lexeme}
use Rattle.rip_grammar.specs.Words.{is_step, is_close, is_semicolon}
use Rattle.rip_grammar.specs.Phrases.{Phrase, Inserted, Single, Postfix, Expression, spell}
use Rattle.rip_grammar.specs.Semicolons.{Next, continues}
use Rattle.rip_grammar.specs.Grammar.{is_expression, is_element, IsMade}

-- An expression that begins with a name, and has a token with a line end before it behind that, is the name alone, or
-- the token's word continues an expression: any other offends.
abbrev pub OthersOffend : Type 0
OthersOffend =
    (e : Phrase) (r more : List Lexeme) (n t : Lexeme)
    → is_expression e ≡ true
    → IsMade e r
    → spell e r ≡ n ∷ t ∷ more
    → n.word ≡ W.Name
    → t.line_before ≡ true
    → (e ≡ Single n) ⊎ (continues false t.word ≡ true)

-- with each word that continues an expression, and a line end or none before it, some expression goes on behind a name
abbrev pub ContinuingGoesOn : Type 0
ContinuingGoesOn =
    (n t : Lexeme)
    → n.word ≡ W.Name
    → continues false t.word ≡ true
    → (e : Phrase) × (more : List Lexeme) × (is_expression e ≡ true) × IsMade e [] × (spell e [] ≡ n ∷ t ∷ more)

-- An expression that begins with a name and `++` or `--` is the name alone, or that with the operator behind it, or the
-- next word continues an expression that ends in a postfix operator: any other offends.
abbrev pub OthersOffendBehindPostfix : Type 0
OthersOffendBehindPostfix =
    (e : Phrase) (r more : List Lexeme) (n o t : Lexeme)
    → is_expression e ≡ true
    → IsMade e r
    → spell e r ≡ n ∷ o ∷ t ∷ more
    → n.word ≡ W.Name
    → is_step o.word ≡ true
    → (e ≡ Single n) ⊎ ((e ≡ Postfix (Single n) o) ⊎ (continues true t.word ≡ true))

-- no statement and no function declaration begins with this word
abbrev pub BeginsNone : Word → Type 0
BeginsNone w = (d : Phrase) (r : List Lexeme) → is_element d ≡ true → IsMade d r → Next (spell d r) (λ t. t.word ≡ w) → ⊥

-- with each word that continues an expression which ends in a postfix operator, some expression goes on behind one; or
-- it begins no statement, so that a `;` before it would help nothing
abbrev pub ContinuingGoesOnBehindPostfix : Type 0
ContinuingGoesOnBehindPostfix =
    (n o t : Lexeme)
    → n.word ≡ W.Name
    → is_step o.word ≡ true
    → o.line_before ≡ false
    → continues true t.word ≡ true
    → ((e : Phrase) × (more : List Lexeme) × (is_expression e ≡ true) × IsMade e [] × (spell e [] ≡ n ∷ o ∷ t ∷ more)) ⊎ BeginsNone t.word

-- The token offends behind the name: the name alone is the only expression that begins so (7.9.1).
abbrev pub Offends : Lexeme → Lexeme → Type 0
Offends n t = (e : Phrase) (r more : List Lexeme) → is_expression e ≡ true → IsMade e r → spell e r ≡ n ∷ t ∷ more → e ≡ Single n

-- behind a name, `;` is inserted before a token only where the token offends, and is `}` or the end or has a line end
-- before it; before `;` itself none is (7.9.1)
abbrev pub InsertedBehindName : Type 0
InsertedBehindName =
    (n t : Lexeme) (r : List Lexeme)
    → n.word ≡ W.Name
    → IsMade (Expression (Single n) Inserted) (t ∷ r)
    → ((is_close t.word || t.line_before) ≡ true) × (is_semicolon t.word ≡ false) × Offends n t

-- and where it is so, it is inserted
abbrev pub OffendingIsInserted : Type 0
OffendingIsInserted =
    (n t : Lexeme) (r : List Lexeme)
    → n.word ≡ W.Name
    → (is_close t.word || t.line_before) ≡ true
    → is_semicolon t.word ≡ false
    → Offends n t
    → IsMade (Expression (Single n) Inserted) (t ∷ r)
