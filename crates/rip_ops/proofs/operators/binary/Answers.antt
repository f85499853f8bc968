use Rattle.std.proofs.Common.{◌≡◌, ◌⊎◌, inl, inr, Result, sym, subst}
use Rattle.rip_base.specs.declared.operator.BinaryOperator.{BinaryOperator}
use Rattle.rip_base.specs.declared.operator.BinaryOperator.TheVariants.{Multiply, Divide, Remainder, Subtract, ShiftLeft, ShiftRight, ShiftRightUnsigned, BitAnd, BitXor, BitOr}
use Rattle.rip_base.specs.declared.value.Value.{Value}
use Rattle.rip_base.specs.declared.value.Numeral.{Numeral}
use Rattle.rip_base.specs.declared.value.Fault.{Fault}
use Rattle.rip_heap.specs.declared.outcome.Abrupt.{Abrupt}
use Rattle.rip_heap.specs.World.{World}
use Rattle.rip_ops.specs.Numbers.{of_numbers}
use Rattle.rip_ops.specs.Operators.{binary, calculated}
use Rattle.rip_heap.specs.Outcome.{Answers, number_or_fault}
use Rattle.rip_ops.proofs.operators.binary.Goals as goal

-- what an operator of numbers answers is what its row says
abbrev Row : BinaryOperator → Type 0
Row op =
    (w : World) (a b : Value) (r : Result Numeral Fault) (done : Result Value Abrupt) → r ≡ of_numbers w.pool (calculated op) a b
    → Answers (number_or_fault w r) w done w → Answers (binary w op a b) w done w

multiply : Row Multiply
multiply w a b r done e h = subst (λ x. Answers (number_or_fault w x) w done w) e h

divide : Row Divide
divide w a b r done e h = subst (λ x. Answers (number_or_fault w x) w done w) e h

remain : Row Remainder
remain w a b r done e h = subst (λ x. Answers (number_or_fault w x) w done w) e h

subtract : Row Subtract
subtract w a b r done e h = subst (λ x. Answers (number_or_fault w x) w done w) e h

shift_left : Row ShiftLeft
shift_left w a b r done e h = subst (λ x. Answers (number_or_fault w x) w done w) e h

shift_right : Row ShiftRight
shift_right w a b r done e h = subst (λ x. Answers (number_or_fault w x) w done w) e h

shift_right_unsigned : Row ShiftRightUnsigned
shift_right_unsigned w a b r done e h = subst (λ x. Answers (number_or_fault w x) w done w) e h

bit_and : Row BitAnd
bit_and w a b r done e h = subst (λ x. Answers (number_or_fault w x) w done w) e h

bit_xor : Row BitXor
bit_xor w a b r done e h = subst (λ x. Answers (number_or_fault w x) w done w) e h

bit_or : Row BitOr
bit_or w a b r done e h = subst (λ x. Answers (number_or_fault w x) w done w) e h

row : (op : BinaryOperator) → ((op ≡ Multiply) ⊎ ((op ≡ Divide) ⊎ ((op ≡ Remainder) ⊎ ((op ≡ Subtract) ⊎ ((op ≡ ShiftLeft) ⊎ ((op ≡ ShiftRight) ⊎ ((op ≡ ShiftRightUnsigned) ⊎ ((op ≡ BitAnd) ⊎ ((op ≡ BitXor) ⊎ (op ≡ BitOr)))))))))) → Row op
row op (inl e) = subst Row (sym e) multiply
row op (inr (inl e)) = subst Row (sym e) divide
row op (inr (inr (inl e))) = subst Row (sym e) remain
row op (inr (inr (inr (inl e)))) = subst Row (sym e) subtract
row op (inr (inr (inr (inr (inl e))))) = subst Row (sym e) shift_left
row op (inr (inr (inr (inr (inr (inl e)))))) = subst Row (sym e) shift_right
row op (inr (inr (inr (inr (inr (inr (inl e))))))) = subst Row (sym e) shift_right_unsigned
row op (inr (inr (inr (inr (inr (inr (inr (inl e)))))))) = subst Row (sym e) bit_and
row op (inr (inr (inr (inr (inr (inr (inr (inr (inl e))))))))) = subst Row (sym e) bit_xor
row op (inr (inr (inr (inr (inr (inr (inr (inr (inr e))))))))) = subst Row (sym e) bit_or

pub returns-in-Multiply-clause-answers : goal.returns-in-Multiply-clause-answers
returns-in-Multiply-clause-answers c = row c.args.op c.in-Multiply.is c.args.heap.now c.args.a c.args.b c.of_numbers.result c.number_done.result c.of_numbers.ensures c.number_done.ensures
