-- The functions of `Math`, and the conversions to numbers.
use Rattle.std.specs.Prelude.{pos, Bool, true, false, List, [], ◌∷◌, Result, Ok, Err, fold, unsigned_abs}
use Rattle.std.specs.Int.{int_min, int_max}
use Rattle.rip_base.specs.declared.value.Value.{Value}
use Rattle.rip_base.specs.declared.value.Value.TheVariants.{Num as NumberValue}
use Rattle.rip_base.specs.declared.value.Numeral.{Numeral}
use Rattle.rip_base.specs.declared.value.Numeral.TheVariants.{Num, NaN}
use Rattle.rip_base.specs.declared.value.Fault.{Fault}
use Rattle.rip_base.specs.declared.value.Fault.TheVariants.{Infinite}
use Rattle.rip_values.specs.Pool.{Texts}
use Rattle.rip_heap.specs.Conversions.{number_of}
use Rattle.rip_heap.specs.Outcome.{Outcome, Gives, number_or_fault, truth_or_fault}
use Rattle.rip_heap.specs.World.{World}
use Rattle.rip_builtins.specs.Arguments.{argument, then_gives, then_tries}
use Rattle.rip_builtins.specs.declared.numbers.Extreme.{Extreme}
use Rattle.rip_builtins.specs.declared.numbers.Extreme.TheVariants.{Least, Greatest}

-- the absolute value; NaN stays
abbrev pub absolute : Numeral → Numeral
absolute (Num z) = Num (pos (unsigned_abs z))
absolute NaN = NaN

-- `Math.abs` (ECMA-262 15.8.2.1)
abbrev pub math_abs : World → List Value → Outcome
math_abs w args = number_or_fault w (then_gives (number_of w.pool (argument args 0)) absolute)

-- `Math.floor` (15.8.2.9): each number is whole, or NaN
abbrev pub math_floor : World → List Value → Outcome
math_floor w args = number_or_fault w (number_of w.pool (argument args 0))

-- the lesser or the greater of two numbers; NaN where one is NaN
abbrev pub extreme_of_two : Extreme → Numeral → Numeral → Numeral
extreme_of_two Least (Num x) (Num y) = Num (int_min x y)
extreme_of_two Greatest (Num x) (Num y) = Num (int_max x y)
extreme_of_two extreme x y = NaN

-- a first number, of what follows it
abbrev pub with_first : Result Numeral Fault → Result (List Numeral) Fault → Result (List Numeral) Fault
with_first first rest = then_tries first (λ x. then_gives rest (λ numbers. x ∷ numbers))

-- each value as a number, from left to right; the first fault counts
abbrev pub numbers_of : Texts → List Value → Result (List Numeral) Fault
numbers_of pool [] = Ok []
numbers_of pool (v ∷ rest) = with_first (number_of pool v) (numbers_of pool rest)

-- the least or the greatest of the numbers, of which there is none where there are no numbers
abbrev pub extreme_of : Extreme → List Numeral → Result Numeral Fault
extreme_of extreme [] = Err Infinite
extreme_of extreme (x ∷ rest) = Ok (fold (extreme_of_two extreme) x rest)

-- `Math.min` and `Math.max` (15.8.2.12, 15.8.2.11)
abbrev pub math_extreme : Extreme → World → List Value → Outcome
math_extreme extreme w args = number_or_fault w (then_tries (numbers_of w.pool args) (extreme_of extreme))

-- the number is NaN
abbrev pub is_nan : Numeral → Bool
is_nan (Num z) = false
is_nan NaN = true

-- `isNaN` (15.1.2.4)
abbrev pub is_nan_call : World → List Value → Outcome
is_nan_call w args = truth_or_fault w (then_gives (number_of w.pool (argument args 0)) is_nan)

-- `Number` (15.7.1.1)
abbrev pub number_call : World → List Value → Outcome
number_call w [] = Gives (NumberValue (pos 0)) w
number_call w (v ∷ rest) = number_or_fault w (number_of w.pool v)
