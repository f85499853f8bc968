-- The tables of words are held against the grammar: names are those that it has, and words are apart (ECMA-262 7.6, 7.7).
use Rattle.std.specs.Prelude.{◌≡◌, ℕ, Bool, true, false, List, ◌⊎◌}
use Rattle.rip_lexer.specs.declared.token.TokenKind.{TokenKind}
use Rattle.rip_lexer.specs.declared.token.TokenKind.TheVariants as K
use Rattle.rip_lexer.specs.Tokens.{IsSpelling}
use Rattle.rip_lexer.specs.Words.{is_among, punctuators, reserved_words, word_in}
use Rattle.rip_grammar.specs.declared.word.Word.TheVariants as W
use Rattle.rip_grammar.specs.Words.{is_identifier_name}

-- an IdentifierName is a name or a reserved word (7.6)
abbrev pub is_name_kind : TokenKind → Bool
is_name_kind K.Name = true
is_name_kind K.Reserved = true
is_name_kind _ = false

-- what may stand behind `.` and as a key are exactly the names and the reserved words
abbrev pub NamesAreIdentifiers : Type 0
NamesAreIdentifiers = (kind : TokenKind) (s : List ℕ) → IsSpelling kind s → is_identifier_name (word_in kind s) ≡ is_name_kind kind

-- no two punctuators are one word
abbrev pub MarksAreApart : Type 0
MarksAreApart =
    (s other : List ℕ)
    → is_among punctuators s ≡ true
    → is_among punctuators other ≡ true
    → word_in K.Punctuator s ≡ word_in K.Punctuator other
    → s ≡ other

-- no two reserved words are one word, but those that no rule has
abbrev pub ReservedAreApart : Type 0
ReservedAreApart =
    (s other : List ℕ)
    → is_among reserved_words s ≡ true
    → is_among reserved_words other ≡ true
    → word_in K.Reserved s ≡ word_in K.Reserved other
    → (s ≡ other) ⊎ (word_in K.Reserved s ≡ W.Unused)
