use Rattle.std.specs.Prelude.{◌≡◌, ◌≢◌, ℕ, ℤ, pos, negsuc, neg_ℤ, ◌*◌, ◌/◌, ◌%◌, ◌^◌, ◌+ℤ◌, ◌-ℤ◌, ◌*ℤ◌, Result, Ok, Err, ◌==◌, if◌then◌else◌, unsigned_abs, int_div, int_rem, bit_and, bit_or, bit_xor}
use Rattle.std.specs.Int.{int_div_euclid}
use Rattle.rip_base.specs.declared.value.Numeral.{Numeral}
use Rattle.rip_base.specs.declared.value.Numeral.TheVariants.{Num, NaN}
use Rattle.rip_base.specs.declared.value.Fault.{Fault}
use Rattle.rip_base.specs.declared.value.Fault.TheVariants.{NotWhole, Infinite, OutOfRange, Hole, NotInProfile, ObjectToPrimitive, BadArgument, LoneSurrogate, TextTooLong}
use Rattle.rip_heap.specs.Conversions.{ranged, uint32_of, int32_of}

-- What each operator of numbers gives: a number, NaN, or why it has none in the profile.

-- ECMA-262 11.5.1
abbrev pub product : Numeral → Numeral → Result Numeral Fault
product (Num x) (Num y) = ranged (x *ℤ y)
product x y = Ok NaN

-- ECMA-262 11.6.1, of numbers
abbrev pub sum : Numeral → Numeral → Result Numeral Fault
sum (Num x) (Num y) = ranged (x +ℤ y)
sum x y = Ok NaN

-- ECMA-262 11.6.2
abbrev pub difference : Numeral → Numeral → Result Numeral Fault
difference (Num x) (Num y) = ranged (x -ℤ y)
difference x y = Ok NaN

-- the quotient by a number other than 0: the whole number that times y is x, if there is one
abbrev pub whole_quotient : ℤ → ℤ → Result Numeral Fault
whole_quotient x y = if unsigned_abs (int_rem x y) == 0 then Ok (Num (int_div x y)) else Err NotWhole

-- ECMA-262 11.5.2
abbrev pub quotient : Numeral → Numeral → Result Numeral Fault
quotient (Num x) (Num y) =
    if unsigned_abs y == 0 then (if unsigned_abs x == 0 then Ok NaN else Err Infinite)
    else whole_quotient x y
quotient x y = Ok NaN

-- the same in the words of the row: the whole number that times y is x, if there is one; 0 by 0 is NaN, and another
-- number by 0 is infinite
abbrev pub IsQuotientOf : ℤ → ℤ → Result Numeral Fault → Type 0
IsQuotientOf x y (Ok (Num q)) = (y ≢ pos 0) × (q *ℤ y ≡ x)
IsQuotientOf x y (Ok NaN) = (y ≡ pos 0) × (x ≡ pos 0)
IsQuotientOf x y (Err NotWhole) = (y ≢ pos 0) × ((q : ℤ) → ¬ (q *ℤ y ≡ x))
IsQuotientOf x y (Err Infinite) = (y ≡ pos 0) × (x ≢ pos 0)
IsQuotientOf x y (Err OutOfRange) = ⊥
IsQuotientOf x y (Err Hole) = ⊥
IsQuotientOf x y (Err NotInProfile) = ⊥
IsQuotientOf x y (Err ObjectToPrimitive) = ⊥
IsQuotientOf x y (Err BadArgument) = ⊥
IsQuotientOf x y (Err LoneSurrogate) = ⊥
IsQuotientOf x y (Err TextTooLong) = ⊥

-- the same of two numbers, one of which may be NaN
abbrev pub IsQuotient : Numeral → Numeral → Result Numeral Fault → Type 0
IsQuotient (Num x) (Num y) answer = IsQuotientOf x y answer
IsQuotient (Num x) NaN answer = answer ≡ Ok NaN
IsQuotient NaN y answer = answer ≡ Ok NaN

-- ECMA-262 11.5.3: what truncated division leaves, with the sign of the dividend
abbrev pub remainder : Numeral → Numeral → Result Numeral Fault
remainder (Num x) (Num y) = if unsigned_abs y == 0 then Ok NaN else Ok (Num (int_rem x y))
remainder x y = Ok NaN

-- SHIFTS AND BITS

-- the count of a shift
abbrev pub count_of : Numeral → ℕ
count_of n = uint32_of n % 32

-- a whole number modulo 2^32, less 2^32 from 2^31 on
abbrev pub signed : ℕ → ℤ
signed n = int32_of (Num (pos n))

-- ECMA-262 11.7.1: times 2^count, modulo 2^32, signed
abbrev pub shifted_left : Numeral → Numeral → Result Numeral Fault
shifted_left x y = Ok (Num (signed (uint32_of x * 2 ^ count_of y)))

-- ECMA-262 11.7.2: divided by 2^count and rounded down
abbrev pub shifted_right : Numeral → Numeral → Result Numeral Fault
shifted_right x y = Ok (Num (int_div_euclid (int32_of x) (pos (2 ^ count_of y))))

-- ECMA-262 11.7.3: the same of the number modulo 2^32
abbrev pub shifted_right_unsigned : Numeral → Numeral → Result Numeral Fault
shifted_right_unsigned x y = Ok (Num (pos (uint32_of x / 2 ^ count_of y)))

-- ECMA-262 11.10, bit by bit of the two numbers modulo 2^32
abbrev pub bits_and : Numeral → Numeral → Result Numeral Fault
bits_and x y = Ok (Num (signed (bit_and (uint32_of x) (uint32_of y))))

-- bit by bit of the two numbers modulo 2^32
abbrev pub bits_xor : Numeral → Numeral → Result Numeral Fault
bits_xor x y = Ok (Num (signed (bit_xor (uint32_of x) (uint32_of y))))

-- bit by bit of the two numbers modulo 2^32
abbrev pub bits_or : Numeral → Numeral → Result Numeral Fault
bits_or x y = Ok (Num (signed (bit_or (uint32_of x) (uint32_of y))))

-- ONE OPERAND

-- ECMA-262 11.4.7
abbrev pub negative : Numeral → Result Numeral Fault
negative (Num x) = Ok (Num (neg_ℤ x))
negative NaN = Ok NaN

-- ECMA-262 11.4.8: all bits of ToInt32(x) turned, which is -1 - ToInt32(x)
abbrev pub bits_not : Numeral → Result Numeral Fault
bits_not x = Ok (Num (negsuc 0 -ℤ int32_of x))
