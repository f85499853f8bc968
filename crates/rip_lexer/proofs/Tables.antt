-- Each word of the tables has one spelling.
use Rattle.std.proofs.Common.{◌≡◌, ℕ, Bool, true, false, not, ◌||◌, List, [], bytes_eq, refl, sym, ap, ◌∙◌, ◌⊎◌, inl, inr, ⊎_elim}
use Rattle.std.specs.Prelude.{codes}
use Rattle.std.proofs.lemmas.Bool.{or_cases}
use Rattle.std.specs.Cmp.Lexicographic.{bytes_decides}
use Rattle.rip_base.specs.declared.operator.BinaryOperator.TheVariants as B
use Rattle.rip_base.specs.declared.operator.LogicalOperator.TheVariants as L
use Rattle.rip_base.specs.declared.operator.StepOperator.TheVariants as S
use Rattle.rip_base.specs.declared.operator.UnaryOperator.TheVariants as U
use Rattle.rip_lexer.specs.declared.token.TokenKind.TheVariants as K
use Rattle.rip_lexer.specs.Words.{is_among, look_up, punctuators, long_punctuators, double_punctuators, single_punctuators, reserved_words, word_in}
use Rattle.rip_lexer.proofs.Spellings.{among_all}
use Rattle.rip_grammar.specs.declared.word.Word.{Word}
use Rattle.rip_grammar.specs.declared.word.Word.TheVariants as W
use Rattle.rip_grammar.specs.Words.{is_identifier_name}
use Rattle.rip_lexer.specs.Tables.{NamesAreIdentifiers, MarksAreApart, ReservedAreApart}

abbrev spelling_of : Word → List ℕ
spelling_of W.OpenBrace = codes "{"
spelling_of W.CloseBrace = codes "}"
spelling_of W.OpenParenthesis = codes "("
spelling_of W.CloseParenthesis = codes ")"
spelling_of W.OpenBracket = codes "["
spelling_of W.CloseBracket = codes "]"
spelling_of W.Point = codes "."
spelling_of W.Semicolon = codes ";"
spelling_of W.Comma = codes ","
spelling_of W.Question = codes "?"
spelling_of W.Colon = codes ":"
spelling_of W.Assign = codes "="
spelling_of (W.Infix B.Multiply) = codes "*"
spelling_of (W.Infix B.Divide) = codes "/"
spelling_of (W.Infix B.Remainder) = codes "%"
spelling_of (W.Infix B.Add) = codes "+"
spelling_of (W.Infix B.Subtract) = codes "-"
spelling_of (W.Infix B.ShiftLeft) = codes "<<"
spelling_of (W.Infix B.ShiftRight) = codes ">>"
spelling_of (W.Infix B.ShiftRightUnsigned) = codes ">>>"
spelling_of (W.Infix B.Less) = codes "<"
spelling_of (W.Infix B.Greater) = codes ">"
spelling_of (W.Infix B.LessOrEqual) = codes "<="
spelling_of (W.Infix B.GreaterOrEqual) = codes ">="
spelling_of (W.Infix B.Equal) = codes "=="
spelling_of (W.Infix B.NotEqual) = codes "!="
spelling_of (W.Infix B.StrictEqual) = codes "==="
spelling_of (W.Infix B.StrictNotEqual) = codes "!=="
spelling_of (W.Infix B.BitAnd) = codes "&"
spelling_of (W.Infix B.BitXor) = codes "^"
spelling_of (W.Infix B.BitOr) = codes "|"
spelling_of (W.Infix B.InstanceOf) = codes "instanceof"
spelling_of (W.Infix B.In) = codes "in"
spelling_of (W.Logical L.And) = codes "&&"
spelling_of (W.Logical L.Or) = codes "||"
spelling_of (W.Compound B.Multiply) = codes "*="
spelling_of (W.Compound B.Divide) = codes "/="
spelling_of (W.Compound B.Remainder) = codes "%="
spelling_of (W.Compound B.Add) = codes "+="
spelling_of (W.Compound B.Subtract) = codes "-="
spelling_of (W.Compound B.ShiftLeft) = codes "<<="
spelling_of (W.Compound B.ShiftRight) = codes ">>="
spelling_of (W.Compound B.ShiftRightUnsigned) = codes ">>>="
spelling_of (W.Compound B.BitAnd) = codes "&="
spelling_of (W.Compound B.BitXor) = codes "^="
spelling_of (W.Compound B.BitOr) = codes "|="
spelling_of (W.Step S.Increment) = codes "++"
spelling_of (W.Step S.Decrement) = codes "--"
spelling_of (W.Prefix U.BitNot) = codes "~"
spelling_of (W.Prefix U.Not) = codes "!"
spelling_of (W.Prefix U.Delete) = codes "delete"
spelling_of (W.Prefix U.Void) = codes "void"
spelling_of (W.Prefix U.TypeOf) = codes "typeof"
spelling_of W.Null = codes "null"
spelling_of W.True = codes "true"
spelling_of W.False = codes "false"
spelling_of W.This = codes "this"
spelling_of W.Function = codes "function"
spelling_of W.New = codes "new"
spelling_of W.Var = codes "var"
spelling_of W.If = codes "if"
spelling_of W.Else = codes "else"
spelling_of W.Do = codes "do"
spelling_of W.While = codes "while"
spelling_of W.For = codes "for"
spelling_of W.Continue = codes "continue"
spelling_of W.Break = codes "break"
spelling_of W.Return = codes "return"
spelling_of W.Switch = codes "switch"
spelling_of W.Case = codes "case"
spelling_of W.Default = codes "default"
spelling_of W.Throw = codes "throw"
spelling_of W.Try = codes "try"
spelling_of W.Catch = codes "catch"
spelling_of W.Finally = codes "finally"
spelling_of _ = []

abbrev is_unused : Word → Bool
is_unused W.Unused = true
is_unused _ = false

unused : (w : Word) → is_unused w ≡ true → w ≡ W.Unused
unused W.Unused is = refl
unused _ is = absurd (cc)

opposite : (b : Bool) → not b ≡ true → b ≡ false
opposite true is = absurd (cc)
opposite false is = refl

reserved_are_names : (s : List ℕ) → is_among reserved_words s ≡ true → is_identifier_name (look_up W.Unused reserved_words s) ≡ true
unfolding reserved_words
reserved_are_names s among = among_all reserved_words (λ w. is_identifier_name (look_up W.Unused reserved_words w)) s among refl

marks_are_no_names : (s : List ℕ) → is_among punctuators s ≡ true → not (is_identifier_name (look_up W.Unused punctuators s)) ≡ true
unfolding punctuators long_punctuators double_punctuators single_punctuators
marks_are_no_names s among = among_all punctuators (λ w. not (is_identifier_name (look_up W.Unused punctuators w))) s among refl

pub names_are_identifiers : NamesAreIdentifiers
names_are_identifiers K.Name s is = refl
names_are_identifiers K.Reserved s is = reserved_are_names s is
names_are_identifiers K.Numeral s is = refl
names_are_identifiers K.Text s is = refl
names_are_identifiers K.Punctuator s is = opposite _ (marks_are_no_names s is)

mark_spelled : (s : List ℕ) → is_among punctuators s ≡ true → bytes_eq (spelling_of (look_up W.Unused punctuators s)) s ≡ true
unfolding punctuators long_punctuators double_punctuators single_punctuators
mark_spelled s among = among_all punctuators (λ w. bytes_eq (spelling_of (look_up W.Unused punctuators w)) w) s among refl

pub marks_are_apart : MarksAreApart
marks_are_apart s other is are same =
    sym ((bytes_decides (spelling_of (look_up W.Unused punctuators s)) s).0 (mark_spelled s is))
    ∙ ap spelling_of same
    ∙ (bytes_decides (spelling_of (look_up W.Unused punctuators other)) other).0 (mark_spelled other are)

reserved_spelled : (s : List ℕ) → is_among reserved_words s ≡ true → (is_unused (look_up W.Unused reserved_words s) || bytes_eq (spelling_of (look_up W.Unused reserved_words s)) s) ≡ true
unfolding reserved_words
reserved_spelled s among = among_all reserved_words (λ w. is_unused (look_up W.Unused reserved_words w) || bytes_eq (spelling_of (look_up W.Unused reserved_words w)) w) s among refl

-- a reserved word that no rule has, or one that is spelled as its word
reserved_known : (s : List ℕ) → is_among reserved_words s ≡ true → (look_up W.Unused reserved_words s ≡ W.Unused) ⊎ (spelling_of (look_up W.Unused reserved_words s) ≡ s)
reserved_known s among =
    ⊎_elim (λ none. inl (unused _ none)) (λ spelled. inr ((bytes_decides (spelling_of (look_up W.Unused reserved_words s)) s).0 spelled))
    (or_cases (is_unused (look_up W.Unused reserved_words s)) _ (reserved_spelled s among))

pub reserved_are_apart : ReservedAreApart
reserved_are_apart s other is are same = apart (reserved_known s is) (reserved_known other are)
  where
    apart : (look_up W.Unused reserved_words s ≡ W.Unused) ⊎ (spelling_of (look_up W.Unused reserved_words s) ≡ s) → (look_up W.Unused reserved_words other ≡ W.Unused) ⊎ (spelling_of (look_up W.Unused reserved_words other) ≡ other)
        → (s ≡ other) ⊎ (word_in K.Reserved s ≡ W.Unused)
    apart (inl none) known = inr none
    apart (inr spelled) (inl none) = inr (same ∙ none)
    apart (inr spelled) (inr spelled_too) = inl (sym spelled ∙ ap spelling_of same ∙ spelled_too)
