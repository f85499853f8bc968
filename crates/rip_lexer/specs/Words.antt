-- Names, reserved words and punctuators, as whole spellings, and the words that they are to the grammar (ECMA-262 7.6,
-- 7.6.1, 7.7).
use Rattle.std.specs.Prelude.{ℕ, Bool, false, ◌&&◌, if◌then◌else◌, List, [], ◌∷◌, ◌++◌, codes}
use Rattle.std.specs.Str.{bytes_eq}
use Rattle.std.specs.List.{list_any, list_all}
use Rattle.rip_base.specs.declared.operator.BinaryOperator.TheVariants as B
use Rattle.rip_base.specs.declared.operator.LogicalOperator.TheVariants as L
use Rattle.rip_base.specs.declared.operator.StepOperator.TheVariants as S
use Rattle.rip_base.specs.declared.operator.UnaryOperator.TheVariants as U
use Rattle.rip_grammar.specs.declared.word.Word.{Word}
use Rattle.rip_grammar.specs.declared.word.Word.TheVariants as W
use Rattle.rip_lexer.specs.Units.{is_name_start, is_name_unit}
use Rattle.rip_lexer.specs.declared.token.TokenKind.{TokenKind}
use Rattle.rip_lexer.specs.declared.token.TokenKind.TheVariants as K

-- a letter, `$` or `_`, and then these and digits (7.6)
abbrev pub is_word : List ℕ → Bool
is_word [] = false
is_word (c ∷ cs) = is_name_start c && list_all is_name_unit cs

-- a spelling and its word
pub record Entry : Type 0 where
  pub spelling : List ℕ
  pub word : Word

-- an entry of a table
abbrev pub entry : List ℕ → Word → Entry
entry spelling word = record { spelling = spelling; word = word }

-- the table has an entry with this spelling
abbrev pub is_among : List Entry → List ℕ → Bool
is_among entries s = list_any (λ (e : Entry). bytes_eq s e.spelling) entries

-- the word that a table has for a spelling, and another where it has none
abbrev pub look_up : Word → List Entry → List ℕ → Word
look_up other [] s = other
look_up other (e ∷ entries) s = if bytes_eq s e.spelling then e.word else look_up other entries s

-- the reserved words (7.6.1) by length, with those of strict code and the three literals; one of no rule is unused
unfoldable pub reserved_words : List Entry
reserved_words =
    entry (codes "do") W.Do ∷ entry (codes "if") W.If ∷ entry (codes "in") (W.Infix B.In)
    ∷ entry (codes "for") W.For ∷ entry (codes "new") W.New ∷ entry (codes "try") W.Try ∷ entry (codes "var") W.Var
    ∷ entry (codes "let") W.Unused
    ∷ entry (codes "case") W.Case ∷ entry (codes "else") W.Else ∷ entry (codes "null") W.Null
    ∷ entry (codes "this") W.This ∷ entry (codes "true") W.True
    ∷ entry (codes "void") (W.Prefix U.Void) ∷ entry (codes "enum") W.Unused ∷ entry (codes "with") W.Unused
    ∷ entry (codes "break") W.Break ∷ entry (codes "catch") W.Catch ∷ entry (codes "false") W.False
    ∷ entry (codes "throw") W.Throw ∷ entry (codes "while") W.While
    ∷ entry (codes "class") W.Unused ∷ entry (codes "const") W.Unused ∷ entry (codes "super") W.Unused
    ∷ entry (codes "yield") W.Unused
    ∷ entry (codes "delete") (W.Prefix U.Delete) ∷ entry (codes "return") W.Return ∷ entry (codes "switch") W.Switch
    ∷ entry (codes "typeof") (W.Prefix U.TypeOf)
    ∷ entry (codes "export") W.Unused ∷ entry (codes "import") W.Unused ∷ entry (codes "public") W.Unused
    ∷ entry (codes "static") W.Unused
    ∷ entry (codes "default") W.Default ∷ entry (codes "finally") W.Finally ∷ entry (codes "extends") W.Unused
    ∷ entry (codes "package") W.Unused ∷ entry (codes "private") W.Unused
    ∷ entry (codes "continue") W.Continue ∷ entry (codes "function") W.Function ∷ entry (codes "debugger") W.Unused
    ∷ entry (codes "interface") W.Unused ∷ entry (codes "protected") W.Unused
    ∷ entry (codes "instanceof") (W.Infix B.InstanceOf) ∷ entry (codes "implements") W.Unused ∷ []

-- the punctuators of four and three units
unfoldable pub long_punctuators : List Entry
long_punctuators =
    entry (codes ">>>=") (W.Compound B.ShiftRightUnsigned)
    ∷ entry (codes "===") (W.Infix B.StrictEqual) ∷ entry (codes "!==") (W.Infix B.StrictNotEqual)
    ∷ entry (codes ">>>") (W.Infix B.ShiftRightUnsigned)
    ∷ entry (codes "<<=") (W.Compound B.ShiftLeft) ∷ entry (codes ">>=") (W.Compound B.ShiftRight) ∷ []

-- those of two units
unfoldable pub double_punctuators : List Entry
double_punctuators =
    entry (codes "<=") (W.Infix B.LessOrEqual) ∷ entry (codes ">=") (W.Infix B.GreaterOrEqual)
    ∷ entry (codes "==") (W.Infix B.Equal) ∷ entry (codes "!=") (W.Infix B.NotEqual)
    ∷ entry (codes "++") (W.Step S.Increment) ∷ entry (codes "--") (W.Step S.Decrement)
    ∷ entry (codes "<<") (W.Infix B.ShiftLeft) ∷ entry (codes ">>") (W.Infix B.ShiftRight)
    ∷ entry (codes "&&") (W.Logical L.And) ∷ entry (codes "||") (W.Logical L.Or)
    ∷ entry (codes "+=") (W.Compound B.Add) ∷ entry (codes "-=") (W.Compound B.Subtract)
    ∷ entry (codes "*=") (W.Compound B.Multiply) ∷ entry (codes "%=") (W.Compound B.Remainder)
    ∷ entry (codes "/=") (W.Compound B.Divide) ∷ entry (codes "&=") (W.Compound B.BitAnd)
    ∷ entry (codes "|=") (W.Compound B.BitOr) ∷ entry (codes "^=") (W.Compound B.BitXor) ∷ []

-- those of one unit
unfoldable pub single_punctuators : List Entry
single_punctuators =
    entry (codes "{") W.OpenBrace ∷ entry (codes "}") W.CloseBrace ∷ entry (codes "(") W.OpenParenthesis
    ∷ entry (codes ")") W.CloseParenthesis
    ∷ entry (codes "[") W.OpenBracket ∷ entry (codes "]") W.CloseBracket ∷ entry (codes ".") W.Point
    ∷ entry (codes ";") W.Semicolon ∷ entry (codes ",") W.Comma
    ∷ entry (codes "<") (W.Infix B.Less) ∷ entry (codes ">") (W.Infix B.Greater) ∷ entry (codes "+") (W.Infix B.Add)
    ∷ entry (codes "-") (W.Infix B.Subtract)
    ∷ entry (codes "*") (W.Infix B.Multiply) ∷ entry (codes "/") (W.Infix B.Divide)
    ∷ entry (codes "%") (W.Infix B.Remainder)
    ∷ entry (codes "&") (W.Infix B.BitAnd) ∷ entry (codes "|") (W.Infix B.BitOr) ∷ entry (codes "^") (W.Infix B.BitXor)
    ∷ entry (codes "!") (W.Prefix U.Not) ∷ entry (codes "~") (W.Prefix U.BitNot) ∷ entry (codes "?") W.Question
    ∷ entry (codes ":") W.Colon ∷ entry (codes "=") W.Assign ∷ []

-- the punctuators (7.7), the longest first
unfoldable pub punctuators : List Entry
punctuators = long_punctuators ++ (double_punctuators ++ single_punctuators)

-- the word of a spelling of this kind
abbrev pub word_in : TokenKind → List ℕ → Word
word_in K.Name s = W.Name
word_in K.Reserved s = look_up W.Unused reserved_words s
word_in K.Numeral s = W.Numeral
word_in K.Text s = W.Text
word_in K.Punctuator s = look_up W.Unused punctuators s
