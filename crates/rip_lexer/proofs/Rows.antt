-- Words of spellings, as a table of rows.
use Rattle.std.proofs.Common.{◌≡◌, refl}
use Rattle.std.specs.Prelude.{codes}
use Rattle.rip_base.specs.declared.operator.BinaryOperator.TheVariants as B
use Rattle.rip_base.specs.declared.operator.LogicalOperator.TheVariants as L
use Rattle.rip_base.specs.declared.operator.StepOperator.TheVariants as S
use Rattle.rip_base.specs.declared.operator.UnaryOperator.TheVariants as U
use Rattle.rip_lexer.specs.declared.token.TokenKind.TheVariants as K
use Rattle.rip_grammar.specs.declared.word.Word.TheVariants as W
use Rattle.rip_lexer.specs.Words.{word_in, reserved_words, punctuators, long_punctuators, double_punctuators, single_punctuators}

-- a mark is read whole, a reserved word is that word, and one that no rule has is unused
pub words : (word_in K.Punctuator (codes ">>>=") ≡ W.Compound B.ShiftRightUnsigned) × (word_in K.Punctuator (codes ">>>") ≡ W.Infix B.ShiftRightUnsigned)
    × (word_in K.Punctuator (codes "=") ≡ W.Assign) × (word_in K.Punctuator (codes "==") ≡ W.Infix B.Equal) × (word_in K.Punctuator (codes "||") ≡ W.Logical L.Or)
    × (word_in K.Punctuator (codes "--") ≡ W.Step S.Decrement) × (word_in K.Punctuator (codes "~") ≡ W.Prefix U.BitNot) × (word_in K.Punctuator (codes "-") ≡ W.Infix B.Subtract)
    × (word_in K.Reserved (codes "in") ≡ W.Infix B.In) × (word_in K.Reserved (codes "instanceof") ≡ W.Infix B.InstanceOf) × (word_in K.Reserved (codes "typeof") ≡ W.Prefix U.TypeOf)
    × (word_in K.Reserved (codes "else") ≡ W.Else) × (word_in K.Reserved (codes "with") ≡ W.Unused) × (word_in K.Name (codes "of") ≡ W.Name)
unfolding reserved_words punctuators long_punctuators double_punctuators single_punctuators
words = (refl, refl, refl, refl, refl, refl, refl, refl, refl, refl, refl, refl, refl, refl)
