-- The arguments of a call, and what follows their conversions.
use Rattle.std.specs.Prelude.{ℕ, ℤ, List, Option, None, Some, Result, Ok, Err, slice_get, unwrap_or}
use Rattle.rip_base.specs.declared.value.Value.{Value}
use Rattle.rip_base.specs.declared.value.Value.TheVariants.{Undefined, Object}
use Rattle.rip_base.specs.declared.value.Fault.{Fault}
use Rattle.rip_heap.specs.Conversions.{number_of, integer_of}
use Rattle.rip_heap.specs.Outcome.{Outcome, Gives, Faults, Exceeds}
use Rattle.rip_heap.specs.World.{World}
use Rattle.rip_base.specs.declared.value.Limit.TheVariants.{Cells}
use Rattle.rip_values.specs.Pool.{Texts}

-- the argument at this place; one that is absent is undefined (ECMA-262 15)
abbrev pub argument : List Value → ℕ → Value
argument args place = unwrap_or (slice_get args place) Undefined

-- a value or a fault, in a world that stays as it is
abbrev pub value_or_fault : World → Result Value Fault → Outcome
value_or_fault w (Ok v) = Gives v w
value_or_fault w (Err fault) = Faults fault

-- what is made of what was found, if it was
abbrev pub then_gives : {A B : Type 0} → Result A Fault → (A → B) → Result B Fault
then_gives (Ok x) f = Ok (f x)
then_gives (Err fault) f = Err fault

-- the same, of what may have a fault of its own
abbrev pub then_tries : {A B : Type 0} → Result A Fault → (A → Result B Fault) → Result B Fault
then_tries (Ok x) f = f x
then_tries (Err fault) f = Err fault

-- ToInteger of a value (9.4)
abbrev pub integer_in : Texts → Value → Result ℤ Fault
integer_in pool v = then_gives (number_of pool v) integer_of

-- a new object, or that it would pass the limit of cells
abbrev pub object_or_limit : Option (ℕ × World) → Outcome
object_or_limit None = Exceeds Cells
object_or_limit (Some made) = Gives (Object made.0) made.1
