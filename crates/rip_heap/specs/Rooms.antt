-- What a heap's rows have room for. No public clause cites this.
use Rattle.std.specs.Prelude.{◌≡◌, ℕ, ◌+◌, ◌≤◌}

-- how many cells were spent on what lies in rows, and for how many there is room
pub record Rooms : Type 0 where
  pub spent : ℕ
  pub room : ℕ

-- the rows with so many cells more spent
abbrev pub spending : ℕ → Rooms → Rooms
spending cells rooms = record rooms { spent = rooms.spent + cells }

-- what lies in the rows was paid for by cells that were charged, and there is room for all that may be charged
pub record ArePaid (limit cells : ℕ) (rooms : Rooms) : Type 0 where
  pub spent : rooms.spent ≤ cells
  pub room : rooms.room ≡ limit
