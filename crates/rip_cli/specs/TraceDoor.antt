-- The door at which a trace comes.
use Rattle.std.specs.Prelude.{◌+◌, ◌<◌, ◌≤◌, ℕ, Bool, List, length, map, Some}
use Rattle.std.specs.List.{AllByRecursion}
use Rattle.rip_outer.specs.Connections.{Telling, knocked}
use Rattle.rip_outer.specs.KnockLists.{FitsPiece}
use Rattle.rip_outer.specs.MemoryDoor.{hushed_by}
use Rattle.rip_outer.specs.declared.connections.TraceKnock.{TraceKnock}
use Rattle.rip_outer.specs.declared.connections.TraceKnock.TheVariants.{Opened, Bytes, Gone, Quiet}

-- the knocks that came, those that are left as they were given, and whether each connection was shut, by its number
pub record Bringing : Type 0 where
  pub came : List TraceKnock
  pub left : List TraceKnock
  pub shut : List Bool

-- the knocks that are left as they will come
abbrev pub left_of : Bringing → List TraceKnock
left_of d = map (hushed_by d.shut) d.left

-- what it tells: the knocks that came, and those that are left
abbrev pub telling_of : Bringing → Telling
telling_of d = record { told = Some (map knocked d.came); left = Some (left_of d) }

-- a piece has 1 to 4,096 bytes, and the number of a connection that is opened is below this
abbrev pub IsWithin : ℕ → TraceKnock → Type 0
IsWithin n (Opened c) = c < n
IsWithin n (Bytes c bytes) = FitsPiece (Bytes c bytes)
IsWithin n (Gone c) = Unit {0}
IsWithin n Quiet = Unit {0}

-- what came has room for all that is left, whose pieces fit and whose connections can be marked
pub record IsKept (came : List TraceKnock) (room : ℕ) (left : List TraceKnock) (shut : List Bool) : Type 0 where
  pub within : AllByRecursion (IsWithin (length shut)) left
  pub room_left : length came + length left ≤ room
