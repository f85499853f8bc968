-- What a try may leave of the world: texts more.
use Rattle.std.specs.Prelude.{◌≡◌, ℕ, List, length}
use Rattle.rip_heap.specs.World.{World}
use Rattle.rip_values.specs.Pool.{with_text}

-- x is world w with texts more behind all others, each unit of which was charged, and nothing else was changed
pub record AddsTexts (w x : World) : Type 0 where
  pub more : List ℕ
  pub is : x ≡ record w { pool = with_text w.pool more (length more) }
