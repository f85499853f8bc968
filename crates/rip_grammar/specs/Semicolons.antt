-- Where the empty spelling stands for `;` (ECMA-262 7.9), and what it looks at.
use Rattle.std.specs.Prelude.{◌≡◌, Bool, true, false, not, ◌&&◌, ◌||◌, List, [], ◌∷◌}
use Rattle.rip_grammar.specs.declared.word.Word.{Word}
use Rattle.rip_grammar.specs.declared.word.Word.TheVariants as W
use Rattle.rip_grammar.specs.declared.word.Lexeme.{Lexeme}
use Rattle.rip_grammar.specs.Words.{is_semicolon, is_close, is_in}
use Rattle.rip_grammar.specs.Phrases.{Ending, Written, Inserted, Phrase, More, CommaMore, Postfix, Prefix, Infix, Conditional, Assignment, Declarator, Initialised, Bindings}

-- the next lexeme is such a one
abbrev pub Next : List Lexeme → (Lexeme → Type 0) → Type 0
Next [] P = ⊥
Next (t ∷ r) P = P t

-- the expression ends in a postfix `++` or `--`
abbrev pub ends_postfix : Phrase → Bool
ends_postfix (Postfix e o) = true
ends_postfix (Prefix o e) = ends_postfix e
ends_postfix (Infix a o b) = ends_postfix b
ends_postfix (Conditional a q b c d) = ends_postfix d
ends_postfix (Assignment a o b) = ends_postfix b
ends_postfix _ = false

-- the words that continue an expression; `(` and `[` do not continue one that ends in a postfix operator
abbrev pub continues : Bool → Word → Bool
continues postfix (W.Infix op) = true
continues postfix (W.Logical op) = true
continues postfix (W.Compound op) = true
continues postfix W.Assign = true
continues postfix W.Question = true
continues postfix W.Comma = true
continues postfix W.Point = true
continues postfix W.OpenParenthesis = not postfix
continues postfix W.OpenBracket = not postfix
continues postfix _ = false

-- the words that continue a name in `var`
abbrev pub continues_name : Word → Bool
continues_name W.Comma = true
continues_name W.Assign = true
continues_name _ = false

-- the words that continue what stands before the end of a statement: declarators, or an expression
abbrev pub continues_behind : Phrase → Word → Bool
continues_behind (More l d) w = continues_behind d w
continues_behind (CommaMore l c d) w = continues_behind d w
continues_behind (Declarator n) w = continues_name w
continues_behind (Initialised n q e) w = continues (ends_postfix e) w
continues_behind e w = continues (ends_postfix e) w

-- no word continues `continue`, `break`, `return` without an expression, and `do S while (e)`
abbrev pub continues_nothing : Word → Bool
continues_nothing w = false

-- The empty spelling stands before this lexeme: it is `}`, or the end, or has a line end before it, and it is not `;`
-- and does not continue the statement (7.9.1).
abbrev pub is_inserted : (Word → Bool) → Lexeme → Bool
is_inserted continued t = (is_close t.word || t.line_before) && not (is_semicolon t.word) && not (continued t.word)

-- the statement ends here, before the rest
abbrev pub IsEnded : (Word → Bool) → Ending → List Lexeme → Type 0
IsEnded continued (Written t) r = t.word ≡ W.Semicolon
IsEnded continued Inserted r = Next r (λ t. is_inserted continued t ≡ true)

-- an `in` that stands outside parentheses, brackets, arguments, bodies and the middle of `? :`; none may stand so in
-- the init of a `for` (the forms NoIn of 11.8 to 11.14 and 12.2)
abbrev pub has_bare_in : Phrase → Bool
has_bare_in (Infix a o b) = is_in o.word || has_bare_in a || has_bare_in b
has_bare_in (Conditional a q b c d) = has_bare_in a || has_bare_in d
has_bare_in (Assignment a o b) = has_bare_in b
has_bare_in (Bindings v l) = has_bare_in l
has_bare_in (More l d) = has_bare_in l || has_bare_in d
has_bare_in (CommaMore l c d) = has_bare_in l || has_bare_in d
has_bare_in (Initialised n q e) = has_bare_in e
has_bare_in _ = false
