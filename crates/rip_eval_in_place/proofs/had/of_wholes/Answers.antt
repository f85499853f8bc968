use Rattle.std.proofs.Common.{Ok, ap, ◌∙◌}
use Rattle.rip_base.specs.declared.value.Value.TheVariants.{Num}
use Rattle.rip_heap.specs.Outcome.{number_or_fault}
use Rattle.rip_ops.specs.Operators.{binary}
use Rattle.rip_eval_in_place.proofs.InPlace.{number_of_two}
use Rattle.rip_eval_in_place.proofs.had.of_wholes.Goals as goal

pub returns-in-BitAnd : goal.returns-in-BitAnd
returns-in-BitAnd c =
    let a = Num c.args.x in
    let b = Num c.args.y in
    number_of_two c.args.op a b (Ok c.bits_and.result) c.number-in-BitAnd.result
    (λ w. ap (λ op. binary w op a b) c.in-BitAnd.is ∙ ap (λ n. number_or_fault w n) c.bits_and.ensures) c.number-in-BitAnd.ensures

pub returns-in-BitOr : goal.returns-in-BitOr
returns-in-BitOr c =
    let a = Num c.args.x in
    let b = Num c.args.y in
    number_of_two c.args.op a b (Ok c.bits_or.result) c.number-in-BitOr.result
    (λ w. ap (λ op. binary w op a b) c.in-BitOr.is ∙ ap (λ n. number_or_fault w n) c.bits_or.ensures) c.number-in-BitOr.ensures

pub returns-in-BitXor : goal.returns-in-BitXor
returns-in-BitXor c =
    let a = Num c.args.x in
    let b = Num c.args.y in
    number_of_two c.args.op a b (Ok c.bits_xor.result) c.number-in-BitXor.result
    (λ w. ap (λ op. binary w op a b) c.in-BitXor.is ∙ ap (λ n. number_or_fault w n) c.bits_xor.ensures) c.number-in-BitXor.ensures

pub returns-in-ShiftLeft : goal.returns-in-ShiftLeft
returns-in-ShiftLeft c =
    let a = Num c.args.x in
    let b = Num c.args.y in
    number_of_two c.args.op a b (Ok c.shifted_left.result) c.number-in-ShiftLeft.result
    (λ w. ap (λ op. binary w op a b) c.in-ShiftLeft.is ∙ ap (λ n. number_or_fault w n) c.shifted_left.ensures) c.number-in-ShiftLeft.ensures

pub returns-in-ShiftRight : goal.returns-in-ShiftRight
returns-in-ShiftRight c =
    let a = Num c.args.x in
    let b = Num c.args.y in
    number_of_two c.args.op a b (Ok c.shifted_right.result) c.number-in-ShiftRight.result
    (λ w. ap (λ op. binary w op a b) c.in-ShiftRight.is ∙ ap (λ n. number_or_fault w n) c.shifted_right.ensures) c.number-in-ShiftRight.ensures

pub returns-in-ShiftRightUnsigned : goal.returns-in-ShiftRightUnsigned
returns-in-ShiftRightUnsigned c =
    let a = Num c.args.x in
    let b = Num c.args.y in
    number_of_two c.args.op a b (Ok c.shifted_right_unsigned.result) c.number-in-ShiftRightUnsigned.result
    (λ w. ap (λ op. binary w op a b) c.in-ShiftRightUnsigned.is ∙ ap (λ n. number_or_fault w n) c.shifted_right_unsigned.ensures) c.number-in-ShiftRightUnsigned.ensures
