use Rattle.std.specs.Prelude.{ℕ, ◌||◌, ◌++◌, ◌+◌, Result, Ok, Err, nat_le, if◌then◌else◌}
use Rattle.rip_base.specs.declared.value.Value.{Value}
use Rattle.rip_base.specs.declared.value.Value.TheVariants.{Text}
use Rattle.rip_base.specs.declared.value.Fault.TheVariants.{ObjectToPrimitive, TextTooLong}
use Rattle.rip_base.specs.declared.value.Limit.TheVariants.{Units}
use Rattle.rip_heap.specs.declared.outcome.Halt.{Halt}
use Rattle.rip_heap.specs.declared.outcome.Halt.TheVariants.{Fault as HaltFault, Limit as HaltLimit}
use Rattle.rip_heap.specs.Conversions.{text_of_value, text_in, room_for_text}
use Rattle.rip_heap.specs.World.{World}
use Rattle.rip_ops.specs.Arithmetic.{sum}
use Rattle.rip_ops.specs.Numbers.{of_numbers}
use Rattle.rip_ops.specs.Order.{is_object}
use Rattle.rip_heap.specs.Outcome.{Outcome, Faults, after_text, judged, number_or_fault}

-- both operands to texts, the left one first, and then the two texts joined to a new one
abbrev pub joining : World → Value → Value → Outcome
joining w a b = after_text (text_of_value w a) (λ x v. after_text (text_of_value v b) (λ y u. judged u (text_in w a ++ text_in w b)))

-- of primitives: a text on either side, or else the sum of the numbers
abbrev pub added_primitives : World → Value → Value → Outcome
added_primitives w (Text x) b = joining w (Text x) b
added_primitives w a (Text y) = joining w a (Text y)
added_primitives w a b = number_or_fault w (of_numbers w.pool sum a b)

-- `+` (ECMA-262 11.6.1)
abbrev pub added : World → Value → Value → Outcome
added w a b = if is_object a || is_object b then Faults ObjectToPrimitive else added_primitives w a b

-- where there is room for a numeral, whether there is some for a text of so many units behind it
abbrev pub room_behind : World → ℕ → ℕ → Result (Unit {0}) Halt → Result (Unit {0}) Halt
room_behind w numeral text (Err halt) = Err halt
room_behind w numeral text (Ok room) =
    if nat_le text w.pool.text_limit then
    (if nat_le (w.pool.used + numeral + text) w.pool.limit then Ok tt else Err (HaltLimit Units))
    else Err (HaltFault TextTooLong)

-- whether a numeral of so many units, and then it and a text of so many joined, can be made
abbrev pub room_for : World → ℕ → ℕ → Result (Unit {0}) Halt
room_for w numeral text = room_behind w numeral (text + numeral) (room_for_text w.pool numeral)
