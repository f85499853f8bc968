use Rattle.std.specs.Prelude.{Bool, true, false, ◌||◌, Option, None, Some, Result, Ok, Err, if◌then◌else◌}
use Rattle.std.specs.Cmp.Lexicographic.{slice_cmp}
use Rattle.std.specs.declared.cmp.Ordering.{Ordering}
use Rattle.std.specs.Ordering.{nat_cmp, int_cmp}
use Rattle.rip_base.specs.declared.value.Value.{Value}
use Rattle.rip_base.specs.declared.value.Value.TheVariants.{Undefined, Null, Bool as Boolean, Num, NaN, Text, Object}
use Rattle.rip_base.specs.declared.value.Numeral.{Numeral}
use Rattle.rip_base.specs.declared.value.Numeral.TheVariants.{Num as Number}
use Rattle.rip_base.specs.declared.value.Fault.{Fault}
use Rattle.rip_base.specs.declared.value.Fault.TheVariants.{ObjectToPrimitive}
use Rattle.rip_values.specs.Pool.{Texts, text_at}
use Rattle.rip_ops.specs.Numbers.{of_numbers}

-- the value is an object
abbrev pub is_object : Value → Bool
is_object Undefined = false
is_object Null = false
is_object (Boolean b) = false
is_object (Num z) = false
is_object NaN = false
is_object (Text span) = false
is_object (Object n) = true

-- the order of two numbers; NaN has none
abbrev pub order_of_numbers : Numeral → Numeral → Result (Option Ordering) Fault
order_of_numbers (Number x) (Number y) = Ok (Some (int_cmp x y))
order_of_numbers x y = Ok None

-- the order of two values that are not both texts
abbrev pub order_of_others : Texts → Value → Value → Result (Option Ordering) Fault
order_of_others pool a b = if is_object a || is_object b then Err ObjectToPrimitive else of_numbers pool order_of_numbers a b

-- the order of two values (ECMA-262 11.8.5): of two texts that of their units, of others that of their numbers. Both
-- are made primitive before either becomes a number
abbrev pub order_of : Texts → Value → Value → Result (Option Ordering) Fault
order_of pool (Text a) (Text b) = Ok (Some (slice_cmp nat_cmp (text_at pool a) (text_at pool b)))
order_of pool a b = order_of_others pool a b

-- the order passes the test; where there is none, nothing does
abbrev pub is_so : (Ordering → Bool) → Result (Option Ordering) Fault → Result Bool Fault
is_so test (Ok (Some order)) = Ok (test order)
is_so test (Ok None) = Ok false
is_so test (Err fault) = Err fault
