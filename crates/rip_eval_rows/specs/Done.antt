-- Parts that come to their completion by themselves: no cut falls in them, no limit of depth is met, and no host is asked.
use Rattle.std.specs.Prelude.{◌≡◌, ℕ, ◌+◌, ◌<◌}
use Rattle.rip_heap.specs.World.{World}
use Rattle.rip_eval_rows.specs.declared.completion.Completion.{Completion}
use Rattle.rip_eval_rows.specs.declared.part.Part.{Part}
use Rattle.rip_eval_rows.specs.Row.{Row, Ends, Asks, Again, Table}
use Rattle.rip_eval_rows.specs.Stack.{Open}

-- a row comes to this completion and this world, and its parts take so many units: it ends there; or a part of it, for
-- which some depth is left, takes one unit and comes to some completion, and what is left of the row comes there
pub data Comes (t : Table) : Row → ℕ → Completion → World → Type 0 where
  Ended : (c : Completion) (w : World) → Comes t (Ends c w) 0 c w
  Went : (part : Part) (w : World) (go : Completion → World → Row) (n m : ℕ) (d c : Completion) (y x : World) → 0 < part.room
      → Comes t (t.row part w) n d y → Comes t (go d y) m c x → Comes t (Asks part w go) (1 + n + m) c x
  Turned : (part : Part) (w : World) (o : Open) (n m : ℕ) (d c : Completion) (y x : World) → 0 < part.room
      → Comes t (t.row part w) n d y → Comes t (t.rest o d y) m c x → Comes t (Again part w o) (1 + n + m) c x

-- a part for which some depth is left comes to this completion and this world with so many units, of which the first is
-- its own
abbrev pub Done : Table → Part → ℕ → World → Completion → World → Type 0
Done t part units w c x = (n : ℕ) × (units ≡ n + 1) × (0 < part.room) × Comes t (t.row part w) n c x
