-- What putting bytes to a sink does.
use Rattle.std.specs.Prelude.{◌≡◌, ℕ, List, Option, Result, Ok, Err}
use Rattle.rip_outer.specs.Outside.{Rose, Front, also}
use Rattle.rip_outer.specs.declared.writing.SinkError.{SinkError}
use Rattle.rip_outer.specs.declared.writing.SinkError.TheVariants.{Failed, Memory}

-- the bytes were added, a front of them where the answer is Failed, and none for want of memory
abbrev pub Takes : {A : Type 0} → Result A SinkError → List ℕ → Option (List ℕ) → Option (List ℕ) → Type 0
Takes (Ok done) bytes old new = new ≡ also bytes old
Takes (Err Failed) bytes old new = Front bytes old new
Takes (Err Memory) bytes old new = new ≡ old

-- the count rose where the answer is Failed, and else is as it was
abbrev pub CountsPut : {A : Type 0} → Result A SinkError → ℕ → ℕ → Type 0
CountsPut (Ok done) old new = new ≡ old
CountsPut (Err Failed) old new = Rose old new
CountsPut (Err Memory) old new = new ≡ old
