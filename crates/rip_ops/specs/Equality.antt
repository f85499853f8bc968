use Rattle.std.specs.Prelude.{Bool, true, false, not, Result, Ok, Err}
use Rattle.std.specs.Ordering.{int_eq}
use Rattle.rip_base.specs.declared.value.Value.{Value}
use Rattle.rip_base.specs.declared.value.Value.TheVariants.{Undefined, Null, Bool as Boolean, Num, NaN, Text, Object}
use Rattle.rip_base.specs.declared.value.Numeral.{Numeral}
use Rattle.rip_base.specs.declared.value.Numeral.TheVariants.{Num as Number}
use Rattle.rip_base.specs.declared.value.Fault.{Fault}
use Rattle.rip_base.specs.declared.value.Fault.TheVariants.{ObjectToPrimitive}
use Rattle.rip_values.specs.Pool.{Texts}
use Rattle.rip_heap.specs.Conversions.{strictly_equal}
use Rattle.rip_ops.specs.Numbers.{of_numbers}

-- the two numbers are one; NaN is equal to nothing
abbrev pub equal_numbers : Numeral → Numeral → Result Bool Fault
equal_numbers (Number x) (Number y) = Ok (int_eq x y)
equal_numbers x y = Ok false

-- what `==` asks of a value: null and undefined are absent, objects are no primitives, texts are compared by units
pub data Kind : Type 0 where
  Absent : Kind
  Numeric : Kind
  Textual : Kind
  Referred : Kind

-- the kind of a value
abbrev pub kind_of : Value → Kind
kind_of Undefined = Absent
kind_of Null = Absent
kind_of (Boolean b) = Numeric
kind_of (Num z) = Numeric
kind_of NaN = Numeric
kind_of (Text span) = Textual
kind_of (Object n) = Referred

-- the table of `==`, by the kinds of both sides
abbrev pub equal_by : Kind → Kind → Texts → Value → Value → Result Bool Fault
equal_by Absent Absent pool a b = Ok true
equal_by Absent Numeric pool a b = Ok false
equal_by Absent Textual pool a b = Ok false
equal_by Absent Referred pool a b = Ok false
equal_by Numeric Absent pool a b = Ok false
equal_by Textual Absent pool a b = Ok false
equal_by Referred Absent pool a b = Ok false
equal_by Referred Referred pool a b = Ok (strictly_equal pool a b)
equal_by Referred Numeric pool a b = Err ObjectToPrimitive
equal_by Referred Textual pool a b = Err ObjectToPrimitive
equal_by Numeric Referred pool a b = Err ObjectToPrimitive
equal_by Textual Referred pool a b = Err ObjectToPrimitive
equal_by Textual Textual pool a b = Ok (strictly_equal pool a b)
equal_by Numeric Numeric pool a b = of_numbers pool equal_numbers a b
equal_by Numeric Textual pool a b = of_numbers pool equal_numbers a b
equal_by Textual Numeric pool a b = of_numbers pool equal_numbers a b

-- `==` (ECMA-262 11.9.3): null and undefined are equal to each other and to nothing else; two texts and two objects are
-- compared as by `===`; booleans, numbers and a text beside one of them become numbers; an object beside a primitive
-- would have to become one
abbrev pub loosely_equal : Texts → Value → Value → Result Bool Fault
loosely_equal pool a b = equal_by (kind_of a) (kind_of b) pool a b

-- the other truth, or the fault
abbrev pub negated : Result Bool Fault → Result Bool Fault
negated (Ok truth) = Ok (not truth)
negated (Err fault) = Err fault
