-- The lexemes of a script: its tokens with their words, and the end (ECMA-262 7.5 to 7.8).
use Rattle.std.specs.Prelude.{ℕ, false, List, [], ◌∷◌, ◌++◌, length, map}
use Rattle.rip_lexer.specs.declared.token.Token.{Token}
use Rattle.rip_grammar.specs.declared.word.Word.TheVariants as W
use Rattle.rip_grammar.specs.declared.word.Lexeme.{Lexeme}

-- a token with its word
abbrev pub lexeme_of : Token → Lexeme
lexeme_of token = record { word = token.word; start = token.start; count = token.count; line_before = token.line_before }

-- the end of a script of so many units
abbrev pub end_of : ℕ → Lexeme
end_of place = record { word = W.End; start = place; count = 0; line_before = false }

-- the lexemes of a script, the end behind its tokens
abbrev pub lexemes_of : List ℕ → List Token → List Lexeme
lexemes_of text tokens = map lexeme_of tokens ++ end_of (length text) ∷ []
