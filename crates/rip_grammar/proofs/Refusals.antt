-- Derivations that the rules do not make, whatever follows.
use Rattle.std.proofs.Common.{◌≡◌, ◌<◌, true, false, List, ◌∷◌, arith}
use Rattle.rip_base.specs.declared.operator.BinaryOperator.TheVariants as B
use Rattle.rip_grammar.specs.declared.word.Word.TheVariants as W
use Rattle.rip_grammar.specs.declared.word.Lexeme.{Lexeme}
use Rattle.rip_grammar.specs.Phrases.{Inserted, Phrase, Nothing, Single, NewCall, Call, Infix, Assignment, Block, Initialised, Expression, If, For, Bindings, Return, Declaration}
use Rattle.rip_grammar.specs.Grammar.{IsMade}
use Rattle.rip_grammar.proofs.Rows.{name, opening, closing, semicolon, on_line, behind_line, one, minus, equals}

-- false is not true
pub no : false ≡ true → ⊥
no e = cc

-- no `;` is made before a `(` that continues the expression, on the next line too
pub no_semicolon_before_a_call : (r : List Lexeme) → IsMade (Expression (Single (name 0)) Inserted) (behind_line W.OpenParenthesis 2 ∷ r) → ⊥
no_semicolon_before_a_call r made = no made.3

-- none is made between two names on one line
pub no_semicolon_on_a_line : (r : List Lexeme) → IsMade (Expression (Single (name 0)) Inserted) (name 2 ∷ r) → ⊥
no_semicolon_on_a_line r made = no made.3

-- what `return` gives begins on its line
pub no_return_across_a_line : (r : List Lexeme) → IsMade (Return (on_line W.Return 0) (Single (behind_line W.Numeral 7)) Inserted) r → ⊥
no_return_across_a_line r made = let across : true ≡ false = made.2 in cc

-- an `else` does not leave the inner `if`
pub no_else_to_the_outer_if : (r : List Lexeme) (s u : Phrase) → IsMade (If (on_line W.If 5) (opening 7) (Single (name 8)) (closing 9) s) (on_line W.Else 12 ∷ r) → ⊥
no_else_to_the_outer_if r s u made = let other : true ≡ false = made.7 in cc

-- subtraction does not group to the right
pub no_subtraction_to_the_right : (r : List Lexeme) → IsMade (Infix (Single (name 0)) (minus 1) (Infix (Single (name 2)) (minus 3) (Single (name 4)))) r → ⊥
no_subtraction_to_the_right r made = let tighter : 12 < 12 = made.2 in omega arith

-- assignment does not group to the left
pub no_assignment_to_the_left : (r : List Lexeme) → IsMade (Assignment (Assignment (Single (name 0)) (equals 1) (Single (name 2))) (equals 3) (Single (name 4))) r → ⊥
no_assignment_to_the_left r made = no made.0

-- `new` does not take the list of a call
pub no_call_to_new : (r : List Lexeme) → IsMade (NewCall (on_line W.New 0) (Call (Single (name 4)) (opening 5) Nothing (closing 6)) (opening 7) Nothing (closing 8)) r → ⊥
no_call_to_new r made = no made.1

-- no bare `in` stands in the init of a `for`
pub no_bare_in : (r : List Lexeme) (e u s : Phrase)
    → IsMade (For (on_line W.For 0) (opening 3) (Bindings (on_line W.Var 4) (one (Initialised (name 8) (equals 9) (Infix (Single (name 10)) (on_line (W.Infix B.In) 12) (Single (name 15)))))) (semicolon 16) e (semicolon 17) u (closing 18) s) r → ⊥
no_bare_in r e u s made = let bare : true ≡ false = made.3 in cc

-- no expression statement begins with `function`, and no declaration stands in a block
pub no_declaration_in_a_block : (r : List Lexeme) → IsMade (Block (on_line W.OpenBrace 0) (one (Declaration (on_line W.Function 1) (name 10) (opening 11) Nothing (closing 12) (on_line W.OpenBrace 13) Nothing (on_line W.CloseBrace 14))) (on_line W.CloseBrace 15)) r → ⊥
no_declaration_in_a_block r made = no made.1
