-- The makers of errors with a message (ECMA-262 15.11.1.1).
use Rattle.std.specs.Prelude.{ℕ, [], ◌∷◌, Option, None, Some, ◌+◌, nat_le, if◌then◌else◌}
use Rattle.rip_base.specs.declared.value.Span.{Span}
use Rattle.rip_base.specs.declared.value.Value.{Value}
use Rattle.rip_base.specs.declared.value.Value.TheVariants.{Text, Object as ObjectValue}
use Rattle.rip_base.specs.declared.value.Fault.{Fault}
use Rattle.rip_base.specs.declared.value.Limit.TheVariants.{Cells}
use Rattle.rip_values.specs.declared.fixed.FixedText.TheVariants.{Message}
use Rattle.rip_heap.specs.declared.class.Class.{Class}
use Rattle.rip_heap.specs.Conversions.{span_of, text_of_value, text_fault}
use Rattle.rip_heap.specs.Objects.{adding}
use Rattle.rip_heap.specs.Outcome.{Outcome, Gives, Faults, Exceeds, after_text}
use Rattle.rip_heap.specs.World.{World, Object, paid, cost_of_object, cost_of_property}

-- an error with its message as an own property
abbrev pub error_object : Class → Span → Object
error_object class message = record {
  class = class;
  proto = None;
  code = None;
  properties = record { name = span_of Message; value = Text message } ∷ [];
  elements = [];
}

-- what an error with its message costs, in cells
abbrev pub cost_of_error : ℕ
cost_of_error = cost_of_object + cost_of_property

-- the error behind all others, at its cells
abbrev pub error_made : Class → Span → World → Outcome
error_made class message w =
    Gives (ObjectValue (adding (error_object class message) w).0) (adding (error_object class message) (paid cost_of_error w)).1

-- the outcome, where there is no fault
abbrev pub unless_fault : Option Fault → Outcome → Outcome
unless_fault None outcome = outcome
unless_fault (Some fault) outcome = Faults fault

-- a new error whose message is the text of the value, in one step: a fault of the conversion comes before the charges,
-- and cells are judged before the units of the text
abbrev pub new_error : Class → World → Value → Outcome
new_error class w v = unless_fault (text_fault w.pool v) (
    if nat_le (w.cells + cost_of_error) w.limit then after_text (text_of_value w v) (error_made class) else Exceeds Cells)
