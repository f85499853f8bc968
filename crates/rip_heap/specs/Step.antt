use Rattle.std.specs.Prelude.{◌≡◌, Option, None, Some, Result, Ok, Err}
use Rattle.rip_base.specs.declared.value.Limit.{Limit}
use Rattle.rip_base.specs.declared.value.Limit.TheVariants.{Cells}
use Rattle.rip_base.specs.declared.value.Refused.{Refused}
use Rattle.rip_base.specs.declared.value.Refused.TheVariants.{Limit as At, Memory}
use Rattle.rip_heap.specs.World.{World}

-- What an answer says of the step `step` that a call stands for, of the world before and of the one after it. A limit
-- comes exactly where the step is none, and then nothing is changed; nor is it at want of memory.

-- the call makes something, and answers it
abbrev pub Makes : {A : Type 0} → Limit → Option (A × World) → World → Result A Refused → World → Type 0
Makes limit step old (Ok made) new = step ≡ Some (made, new)
Makes limit step old (Err (At l)) new = (l ≡ limit) × (step ≡ None) × (new ≡ old)
Makes limit step old (Err Memory) new = new ≡ old

-- the answer is not want of memory
abbrev pub TakesNoMemory : {A : Type 0} → Result A Refused → Type 0
TakesNoMemory (Ok made) = Unit {0}
TakesNoMemory (Err (At l)) = Unit {0}
TakesNoMemory (Err Memory) = ⊥

-- the call changes something
abbrev pub Changes : Option World → World → Result (Unit {0}) Refused → World → Type 0
Changes step old (Ok done) new = step ≡ Some new
Changes step old (Err (At l)) new = (l ≡ Cells) × (step ≡ None) × (new ≡ old)
Changes step old (Err Memory) new = new ≡ old

-- the call charges, and takes no memory
abbrev pub Charges : Option World → World → Result (Unit {0}) Limit → World → Type 0
Charges step old (Ok done) new = step ≡ Some new
Charges step old (Err l) new = (l ≡ Cells) × (step ≡ None) × (new ≡ old)
