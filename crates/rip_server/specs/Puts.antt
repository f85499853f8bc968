-- What is put to the sink.
use Rattle.std.specs.Prelude.{◌≡◌, ℕ, List, Option, Result, Ok, Err}
use Rattle.rip_outer.specs.Outside.{Rose, Front, also}
use Rattle.rip_log.specs.Entries.{Recorded}
use Rattle.rip_log.specs.Histories.{history_text}
use Rattle.rip_server.specs.declared.halt.Halt.{Halt}
use Rattle.rip_server.specs.declared.halt.Halt.TheVariants.{Outside, Memory}

-- the bytes were put, or a front of them where the turn stops
abbrev pub IsPut : {A : Type 0} → Result A Halt → List ℕ → Option (List ℕ) → Option (List ℕ) → Type 0
IsPut (Ok done) bytes old new = new ≡ also bytes old
IsPut (Err halt) bytes old new = Front bytes old new

-- the lines of entries were put, or a front of them where the turn stops
abbrev pub Logged : {A : Type 0} → Result A Halt → List Recorded → Option (List ℕ) → Option (List ℕ) → Type 0
Logged r entries old new = IsPut r (history_text entries) old new

-- the count rose where the outside stops the turn, and else is as it was
abbrev pub Counts : {A : Type 0} → Result A Halt → ℕ → ℕ → Type 0
Counts (Ok done) old new = new ≡ old
Counts (Err Outside) old new = Rose old new
Counts (Err Memory) old new = new ≡ old
