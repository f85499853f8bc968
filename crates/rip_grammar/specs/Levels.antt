-- How tightly phrases hold: the precedence of operators (ECMA-262 11).
use Rattle.std.specs.Prelude.{ℕ, min, Bool, true, false}
use Rattle.rip_base.specs.declared.operator.BinaryOperator.{BinaryOperator}
use Rattle.rip_base.specs.declared.operator.BinaryOperator.TheVariants as B
use Rattle.rip_base.specs.declared.operator.LogicalOperator.TheVariants as L
use Rattle.rip_grammar.specs.declared.word.Word.{Word}
use Rattle.rip_grammar.specs.declared.word.Word.TheVariants as W
use Rattle.rip_grammar.specs.Words.{is_name}
use Rattle.rip_grammar.specs.Phrases.{Phrase, Single, Array, Object, Parenthesized, Member, Index, New, NewCall, Call, Postfix, Prefix, Infix, Conditional, Assignment, Function}

-- THE LEVELS: an expression of the standard each, the loosest first; each holds all that hold tighter.

-- Expression (11.14)
abbrev pub expression_level : ℕ
expression_level = 1

-- AssignmentExpression (11.13)
abbrev pub assignment_level : ℕ
assignment_level = 2

-- ConditionalExpression (11.12)
abbrev pub conditional_level : ℕ
conditional_level = 3

-- LogicalORExpression (11.11)
abbrev pub logical_or_level : ℕ
logical_or_level = 4

-- LogicalANDExpression (11.11)
abbrev pub logical_and_level : ℕ
logical_and_level = 5

-- BitwiseORExpression (11.10)
abbrev pub bit_or_level : ℕ
bit_or_level = 6

-- BitwiseXORExpression (11.10)
abbrev pub bit_xor_level : ℕ
bit_xor_level = 7

-- BitwiseANDExpression (11.10)
abbrev pub bit_and_level : ℕ
bit_and_level = 8

-- EqualityExpression (11.9)
abbrev pub equality_level : ℕ
equality_level = 9

-- RelationalExpression (11.8)
abbrev pub relational_level : ℕ
relational_level = 10

-- ShiftExpression (11.7)
abbrev pub shift_level : ℕ
shift_level = 11

-- AdditiveExpression (11.6)
abbrev pub additive_level : ℕ
additive_level = 12

-- MultiplicativeExpression (11.5)
abbrev pub multiplicative_level : ℕ
multiplicative_level = 13

-- UnaryExpression (11.4)
abbrev pub unary_level : ℕ
unary_level = 14

-- PostfixExpression (11.3)
abbrev pub postfix_level : ℕ
postfix_level = 15

-- NewExpression (11.2.2)
abbrev pub new_level : ℕ
new_level = 16

-- CallExpression (11.2)
abbrev pub call_level : ℕ
call_level = 17

-- MemberExpression (11.2)
abbrev pub member_level : ℕ
member_level = 18

-- PrimaryExpression (11.1)
abbrev pub primary_level : ℕ
primary_level = 19

-- how tightly an operator with two operands holds (11.5 to 11.10)
abbrev pub operator_level : BinaryOperator → ℕ
operator_level B.Multiply = multiplicative_level
operator_level B.Divide = multiplicative_level
operator_level B.Remainder = multiplicative_level
operator_level B.Add = additive_level
operator_level B.Subtract = additive_level
operator_level B.ShiftLeft = shift_level
operator_level B.ShiftRight = shift_level
operator_level B.ShiftRightUnsigned = shift_level
operator_level B.Less = relational_level
operator_level B.Greater = relational_level
operator_level B.LessOrEqual = relational_level
operator_level B.GreaterOrEqual = relational_level
operator_level B.InstanceOf = relational_level
operator_level B.In = relational_level
operator_level B.Equal = equality_level
operator_level B.NotEqual = equality_level
operator_level B.StrictEqual = equality_level
operator_level B.StrictNotEqual = equality_level
operator_level B.BitAnd = bit_and_level
operator_level B.BitXor = bit_xor_level
operator_level B.BitOr = bit_or_level

-- how tightly a word between two operands holds, and 0 where it is none: the operators, `&&`, `||` and the comma, all
-- of which group to the left (11.5 to 11.11, 11.14)
abbrev pub binds : Word → ℕ
binds (W.Infix op) = operator_level op
binds (W.Logical L.And) = logical_and_level
binds (W.Logical L.Or) = logical_or_level
binds W.Comma = expression_level
binds _ = 0

-- how tightly an expression holds, and 0 where the phrase is none; a member of a call is a call (11.2)
abbrev pub level : Phrase → ℕ
level (Single t) = primary_level
level (Array o l c) = primary_level
level (Object o l c) = primary_level
level (Parenthesized o e c) = primary_level
level (Function f n o l c b s d) = primary_level
level (Member b p n) = min member_level (level b)
level (Index b o e c) = min member_level (level b)
level (NewCall w f o l c) = member_level
level (Call f o l c) = call_level
level (New w f) = new_level
level (Postfix e o) = postfix_level
level (Prefix o e) = unary_level
level (Infix a o b) = binds o.word
level (Conditional a q b c d) = conditional_level
level (Assignment a o b) = assignment_level
level _ = 0

-- a target of assignment, `++` and `--`: a name, `.name` or `[e]`, in parentheses too (8.7, 11.1.6)
abbrev pub is_target : Phrase → Bool
is_target (Single t) = is_name t.word
is_target (Member b p n) = true
is_target (Index b o e c) = true
is_target (Parenthesized o e c) = is_target e
is_target _ = false
