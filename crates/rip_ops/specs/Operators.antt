use Rattle.std.specs.Prelude.{not, Result, Ok}
use Rattle.std.specs.Ordering.{is_lt, is_gt, is_le, is_ge}
use Rattle.rip_base.specs.declared.operator.BinaryOperator.{BinaryOperator}
use Rattle.rip_base.specs.declared.operator.BinaryOperator.TheVariants.{Multiply, Divide, Remainder, Add, Subtract, ShiftLeft, ShiftRight, ShiftRightUnsigned, Less, Greater, LessOrEqual, GreaterOrEqual, InstanceOf, In, Equal, NotEqual, StrictEqual, StrictNotEqual, BitAnd, BitXor, BitOr}
use Rattle.rip_base.specs.declared.value.Value.{Value}
use Rattle.rip_base.specs.declared.value.Value.TheVariants.{Bool as Boolean}
use Rattle.rip_base.specs.declared.value.Numeral.{Numeral}
use Rattle.rip_base.specs.declared.value.Numeral.TheVariants.{NaN}
use Rattle.rip_base.specs.declared.value.Fault.{Fault}
use Rattle.rip_heap.specs.Conversions.{boolean_of, number_of, strictly_equal}
use Rattle.rip_heap.specs.World.{World}
use Rattle.rip_ops.specs.declared.operators.UnaryOp.{UnaryOp}
use Rattle.rip_ops.specs.declared.operators.UnaryOp.TheVariants.{Plus, Minus, Not, BitNot}
use Rattle.rip_ops.specs.Addition.{added}
use Rattle.rip_ops.specs.Arithmetic.{product, quotient, remainder, difference, shifted_left, shifted_right, shifted_right_unsigned, bits_and, bits_xor, bits_or, negative, bits_not}
use Rattle.rip_ops.specs.Equality.{loosely_equal, negated}
use Rattle.rip_ops.specs.Instances.{instance_of}
use Rattle.rip_ops.specs.Members.{contained}
use Rattle.rip_ops.specs.Numbers.{of_numbers, of_number}
use Rattle.rip_ops.specs.Order.{order_of, is_so}
use Rattle.rip_heap.specs.Outcome.{Outcome, Gives, number_or_fault, truth_or_fault}

-- an operator of numbers, of the two operands as numbers
abbrev pub calculating : World → (Numeral → Numeral → Result Numeral Fault) → Value → Value → Outcome
calculating w f a b = number_or_fault w (of_numbers w.pool f a b)

-- THE TABLE OF BINARY OPERATORS

-- the table of operators of two operands, a row each
abbrev pub binary : World → BinaryOperator → Value → Value → Outcome
-- 11.5.1 to 11.5.3
binary w Multiply a b = calculating w product a b
binary w Divide a b = calculating w quotient a b
binary w Remainder a b = calculating w remainder a b
-- 11.6.1, 11.6.2
binary w Add a b = added w a b
binary w Subtract a b = calculating w difference a b
-- 11.7.1 to 11.7.3
binary w ShiftLeft a b = calculating w shifted_left a b
binary w ShiftRight a b = calculating w shifted_right a b
binary w ShiftRightUnsigned a b = calculating w shifted_right_unsigned a b
-- 11.8.1 to 11.8.7
binary w Less a b = truth_or_fault w (is_so is_lt (order_of w.pool a b))
binary w Greater a b = truth_or_fault w (is_so is_gt (order_of w.pool a b))
binary w LessOrEqual a b = truth_or_fault w (is_so is_le (order_of w.pool a b))
binary w GreaterOrEqual a b = truth_or_fault w (is_so is_ge (order_of w.pool a b))
binary w InstanceOf a b = instance_of w a b
binary w In a b = contained w a b
-- 11.9.1, 11.9.2, 11.9.4, 11.9.5
binary w Equal a b = truth_or_fault w (loosely_equal w.pool a b)
binary w NotEqual a b = truth_or_fault w (negated (loosely_equal w.pool a b))
binary w StrictEqual a b = Gives (Boolean (strictly_equal w.pool a b)) w
binary w StrictNotEqual a b = Gives (Boolean (not (strictly_equal w.pool a b))) w
-- 11.10
binary w BitAnd a b = calculating w bits_and a b
binary w BitXor a b = calculating w bits_xor a b
binary w BitOr a b = calculating w bits_or a b

-- THE TABLE OF UNARY OPERATORS

-- the table of operators of one operand, a row each
abbrev pub unary : World → UnaryOp → Value → Outcome
-- 11.4.6 to 11.4.9
unary w Plus a = number_or_fault w (number_of w.pool a)
unary w Minus a = number_or_fault w (of_number w.pool negative a)
unary w BitNot a = number_or_fault w (of_number w.pool bits_not a)
unary w Not a = Gives (Boolean (not (boolean_of w.pool a))) w

-- what an operator of numbers gives; of the other operators nothing is asked
abbrev pub calculated : BinaryOperator → Numeral → Numeral → Result Numeral Fault
calculated Multiply x y = product x y
calculated Divide x y = quotient x y
calculated Remainder x y = remainder x y
calculated Subtract x y = difference x y
calculated ShiftLeft x y = shifted_left x y
calculated ShiftRight x y = shifted_right x y
calculated ShiftRightUnsigned x y = shifted_right_unsigned x y
calculated BitAnd x y = bits_and x y
calculated BitXor x y = bits_xor x y
calculated BitOr x y = bits_or x y
calculated Add x y = Ok NaN
calculated Less x y = Ok NaN
calculated Greater x y = Ok NaN
calculated LessOrEqual x y = Ok NaN
calculated GreaterOrEqual x y = Ok NaN
calculated InstanceOf x y = Ok NaN
calculated In x y = Ok NaN
calculated Equal x y = Ok NaN
calculated NotEqual x y = Ok NaN
calculated StrictEqual x y = Ok NaN
calculated StrictNotEqual x y = Ok NaN
