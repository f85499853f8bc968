-- The productions of the standard for two operands (ECMA-262 11.5 to 11.11, 11.14): the levels are held against them.
use Rattle.std.specs.Prelude.{◌≡◌, ℕ, true, List, ◌∷◌, Option, Some, None}
use Rattle.rip_base.specs.declared.operator.BinaryOperator.TheVariants as B
use Rattle.rip_base.specs.declared.operator.LogicalOperator.TheVariants as L
use Rattle.rip_grammar.specs.declared.word.Word.{Word}
use Rattle.rip_grammar.specs.declared.word.Word.TheVariants as W
use Rattle.rip_grammar.specs.declared.word.Lexeme.{Lexeme}
use Rattle.rip_grammar.specs.Phrases.{Phrase, Infix, spell}
use Rattle.rip_grammar.specs.Levels.{expression_level, assignment_level, logical_or_level, logical_and_level, bit_or_level, bit_xor_level, bit_and_level, equality_level, relational_level, shift_level, additive_level, multiplicative_level, unary_level, level}
use Rattle.rip_grammar.specs.Grammar.{holds, IsMade}

-- a production `A : A word B`, by the levels of A and of B
pub record Production : Type 0 where
  pub left : ℕ
  pub right : ℕ

-- the production of these levels
abbrev pub of : ℕ → ℕ → Option Production
of left right = Some (record { left = left; right = right })

-- the production that has this word between two operands
abbrev pub production : Word → Option Production
-- MultiplicativeExpression: * / % (11.5)
production (W.Infix B.Multiply) = of multiplicative_level unary_level
production (W.Infix B.Divide) = of multiplicative_level unary_level
production (W.Infix B.Remainder) = of multiplicative_level unary_level
-- AdditiveExpression: + - (11.6)
production (W.Infix B.Add) = of additive_level multiplicative_level
production (W.Infix B.Subtract) = of additive_level multiplicative_level
-- ShiftExpression: << >> >>> (11.7)
production (W.Infix B.ShiftLeft) = of shift_level additive_level
production (W.Infix B.ShiftRight) = of shift_level additive_level
production (W.Infix B.ShiftRightUnsigned) = of shift_level additive_level
-- RelationalExpression: < > <= >= instanceof in (11.8)
production (W.Infix B.Less) = of relational_level shift_level
production (W.Infix B.Greater) = of relational_level shift_level
production (W.Infix B.LessOrEqual) = of relational_level shift_level
production (W.Infix B.GreaterOrEqual) = of relational_level shift_level
production (W.Infix B.InstanceOf) = of relational_level shift_level
production (W.Infix B.In) = of relational_level shift_level
-- EqualityExpression: == != === !== (11.9)
production (W.Infix B.Equal) = of equality_level relational_level
production (W.Infix B.NotEqual) = of equality_level relational_level
production (W.Infix B.StrictEqual) = of equality_level relational_level
production (W.Infix B.StrictNotEqual) = of equality_level relational_level
-- BitwiseANDExpression, BitwiseXORExpression, BitwiseORExpression: & ^ | (11.10)
production (W.Infix B.BitAnd) = of bit_and_level equality_level
production (W.Infix B.BitXor) = of bit_xor_level bit_and_level
production (W.Infix B.BitOr) = of bit_or_level bit_xor_level
-- LogicalANDExpression, LogicalORExpression: && || (11.11)
production (W.Logical L.And) = of logical_and_level bit_or_level
production (W.Logical L.Or) = of logical_or_level logical_and_level
-- Expression: the comma (11.14)
production W.Comma = of expression_level assignment_level
production _ = None

-- what the rules make of two operands with a word between them, they make by its production
abbrev pub MadeByProduction : Type 0
MadeByProduction =
    (a b : Phrase) (o : Lexeme) (r : List Lexeme)
    → IsMade (Infix a o b) r
    → (p : Production) × (production o.word ≡ Some p) × (level (Infix a o b) ≡ p.left) × (holds p.left a ≡ true) × (holds p.right b ≡ true)

-- what a production makes of two operands, the rules make
abbrev pub ProductionMakes : Type 0
ProductionMakes =
    (a b : Phrase) (o : Lexeme) (r : List Lexeme) (p : Production)
    → production o.word ≡ Some p
    → holds p.left a ≡ true
    → holds p.right b ≡ true
    → IsMade a (o ∷ spell b r)
    → IsMade b r
    → IsMade (Infix a o b) r
