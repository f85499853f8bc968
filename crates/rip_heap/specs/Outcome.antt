-- How operators and built-in functions end.
use Rattle.std.specs.Prelude.{◌≡◌, Bool, List, ℕ, length, nat_le, Option, None, Some, Result, Ok, Err, if◌then◌else◌}
use Rattle.rip_base.specs.declared.value.Span.{Span}
use Rattle.rip_base.specs.declared.value.Value.{Value}
use Rattle.rip_base.specs.declared.value.Value.TheVariants.{Bool as Boolean, Text}
use Rattle.rip_base.specs.declared.value.Numeral.{Numeral}
use Rattle.rip_base.specs.declared.value.Refused.{Refused}
use Rattle.rip_base.specs.declared.value.Refused.TheVariants.{Limit as RefusedAt, Memory as RefusedMemory}
use Rattle.rip_base.specs.Values.{value_of_number}
use Rattle.rip_base.specs.declared.value.Fault.{Fault}
use Rattle.rip_base.specs.declared.value.Fault.TheVariants.{TextTooLong}
use Rattle.rip_base.specs.declared.value.Limit.{Limit}
use Rattle.rip_base.specs.declared.value.Limit.TheVariants.{Units}
use Rattle.rip_heap.specs.declared.outcome.Abrupt.{Abrupt}
use Rattle.rip_heap.specs.declared.outcome.Abrupt.TheVariants.{TypeError, Fault as AtFault, Limit as AtLimit, Memory}
use Rattle.rip_heap.specs.declared.outcome.Halt.{Halt}
use Rattle.rip_heap.specs.declared.outcome.Halt.TheVariants.{Fault as HaltFault, Limit as HaltLimit}
use Rattle.rip_heap.specs.Texts.{new_text}
use Rattle.rip_heap.specs.World.{World}

-- how an operator or a built-in function ends: with a value and the world after it, with a TypeError to be thrown, with a fault, or with a
-- limit that would be passed
pub data Outcome : Type 0 where
  Gives : Value → World → Outcome
  Throws : Outcome
  Faults : Fault → Outcome
  Exceeds : Limit → Outcome

-- the answer is this outcome; where it is no value the world is as before. Memory is never wanting
abbrev pub Answers : Outcome → World → Result Value Abrupt → World → Type 0
Answers outcome old (Ok v) new = outcome ≡ Gives v new
Answers outcome old (Err TypeError) new = (outcome ≡ Throws) × (new ≡ old)
Answers outcome old (Err (AtFault fault)) new = (outcome ≡ Faults fault) × (new ≡ old)
Answers outcome old (Err (AtLimit limit)) new = (outcome ≡ Exceeds limit) × (new ≡ old)
Answers outcome old (Err Memory) new = ⊥

-- why an operation has no value where a conversion halts
abbrev pub cause_of_halt : Halt → Abrupt
cause_of_halt (HaltFault fault) = AtFault fault
cause_of_halt (HaltLimit limit) = AtLimit limit

-- why it has none where a charge is refused
abbrev pub cause_of_refusal : Refused → Abrupt
cause_of_refusal (RefusedAt limit) = AtLimit limit
cause_of_refusal RefusedMemory = Memory

-- a number or a fault, in a world that stays as it is
abbrev pub number_or_fault : World → Result Numeral Fault → Outcome
number_or_fault w (Ok n) = Gives (value_of_number n) w
number_or_fault w (Err fault) = Faults fault

-- a truth or a fault, in a world that stays as it is
abbrev pub truth_or_fault : World → Result Bool Fault → Outcome
truth_or_fault w (Ok truth) = Gives (Boolean truth) w
truth_or_fault w (Err fault) = Faults fault

-- how an operator ends where a conversion halts
abbrev pub halting : Halt → Outcome
halting (HaltFault fault) = Faults fault
halting (HaltLimit limit) = Exceeds limit

abbrev pub after_span : Result Span Halt → World → (Span → World → Outcome) → Outcome
after_span (Ok span) w further = further span w
after_span (Err halt) w further = halting halt

-- what follows a conversion to text, or how it halts
abbrev pub after_text : Result Span Halt × World → (Span → World → Outcome) → Outcome
after_text made further = after_span made.0 made.1 further

abbrev pub text_or_limit : Option (Span × World) → Outcome
text_or_limit None = Exceeds Units
text_or_limit (Some made) = Gives (Text made.0) made.1

-- a new text, whose length is judged before it is charged
abbrev pub judged : World → List ℕ → Outcome
judged w text = if nat_le (length text) w.pool.text_limit then text_or_limit (new_text w text) else Faults TextTooLong
