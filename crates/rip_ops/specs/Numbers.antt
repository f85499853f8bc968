use Rattle.std.specs.Prelude.{Result, Ok, Err}
use Rattle.rip_base.specs.declared.value.Value.{Value}
use Rattle.rip_base.specs.declared.value.Numeral.{Numeral}
use Rattle.rip_base.specs.declared.value.Fault.{Fault}
use Rattle.rip_values.specs.Pool.{Texts}
use Rattle.rip_heap.specs.Conversions.{number_of}

-- two numbers, or the fault of the first that is none
abbrev pub pair_of : Result Numeral Fault → Result Numeral Fault → Result (Numeral × Numeral) Fault
pair_of (Err fault) y = Err fault
pair_of (Ok x) (Err fault) = Err fault
pair_of (Ok x) (Ok y) = Ok (x, y)

-- both operands to numbers, the left one first (ECMA-262 9.3)
abbrev pub numbers_of : Texts → Value → Value → Result (Numeral × Numeral) Fault
numbers_of pool a b = pair_of (number_of pool a) (number_of pool b)

-- what an operator of numbers gives of both numbers, or the fault
abbrev pub of_pair : {A : Type 0} → (Numeral → Numeral → Result A Fault) → Result (Numeral × Numeral) Fault → Result A Fault
of_pair f (Ok pair) = f pair.0 pair.1
of_pair f (Err fault) = Err fault

-- what an operator of numbers gives of two operands
abbrev pub of_numbers : {A : Type 0} → Texts → (Numeral → Numeral → Result A Fault) → Value → Value → Result A Fault
of_numbers pool f a b = of_pair f (numbers_of pool a b)

-- what an operator of numbers gives of one number, or the fault
abbrev pub of_result : (Numeral → Result Numeral Fault) → Result Numeral Fault → Result Numeral Fault
of_result f (Ok x) = f x
of_result f (Err fault) = Err fault

-- what an operator of numbers gives of one operand
abbrev pub of_number : Texts → (Numeral → Result Numeral Fault) → Value → Result Numeral Fault
of_number pool f a = of_result f (number_of pool a)
