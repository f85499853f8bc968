-- What a door in memory is, and how it keeps its parts.
use Rattle.std.specs.Prelude.{◌≡◌, ◌≤◌, ◌<◌, ◌+◌, ◌-◌, ◌↔◌, ℕ, Bool, true, false, not, if◌then◌else◌, List, [], ◌∷◌, ◌++◌, length, map, get_or, count_by, Option, Some}
use Rattle.rip_outer.specs.Outside.{one_more}
use Rattle.rip_outer.specs.Calls.{new_calls, failures_left}
use Rattle.rip_outer.specs.declared.listed.Calls.{Calls}
use Rattle.rip_outer.specs.declared.connections.TraceKnock.{TraceKnock}
use Rattle.rip_outer.specs.declared.connections.TraceKnock.TheVariants.{Opened, Bytes, Gone, Quiet}
use Rattle.rip_outer.specs.Connections.{Told, Telling, knocked, is_opening, IsShut}
use Rattle.rip_outer.specs.KnockLists.{EachFollows}

-- a door in memory: the knocks told and those left, the busy of each knock and failure, the bytes sent to each
-- connection, the shuts, the calls of `next` and of `send`, and how many of them failed
pub record DoorState : Type 0 where
  pub told : List TraceKnock
  pub left : List TraceKnock
  pub busy : List Bool
  pub sent : List (List ℕ)
  pub shuts : List (ℕ × ℕ)
  pub next_calls : Calls
  pub send_calls : Calls
  pub faults : ℕ

-- a door as it is made of these knocks, whose listed calls fail
abbrev pub new_door : List TraceKnock → List ℕ → List ℕ → DoorState
new_door knocks failing_next failing_send = record {
  told = [];
  left = knocks;
  busy = [];
  sent = [];
  shuts = [];
  next_calls = new_calls failing_next;
  send_calls = new_calls failing_send;
  faults = 0;
}

-- what it tells
abbrev pub telling_of : DoorState → Telling
telling_of s = record { told = Some (map knocked s.told); left = Some s.left }

-- the bytes sent to a connection, none where none were
abbrev pub sent_to : DoorState → ℕ → Option (List ℕ)
sent_to s c = Some (get_or s.sent c [])

-- a connection that may be named: it was opened and isn't shut
abbrev pub IsOpen : DoorState → ℕ → Type 0
IsOpen s c = (c < length s.sent) × ¬ IsShut s.shuts c

-- HOW IT IS KEPT

-- the knock as it comes, where the connections are shut for which it is so listed
abbrev pub hushed_by : List Bool → TraceKnock → TraceKnock
hushed_by shut (Opened c) = Opened c
hushed_by shut (Bytes c bytes) = (if get_or shut c false then Quiet else Bytes c bytes)
hushed_by shut (Gone c) = (if get_or shut c false then Quiet else Gone c)
hushed_by shut Quiet = Quiet

-- connections of a door in memory: the bytes sent to each, whether it was shut, the shuts, and how many more have room
pub record ConnectionsState : Type 0 where
  pub sent : List (List ℕ)
  pub is_shut : List Bool
  pub shuts : List (ℕ × ℕ)
  pub room : ℕ

-- none yet, with room for so many
abbrev pub no_connections : ℕ → ConnectionsState
no_connections room = record { sent = []; is_shut = []; shuts = []; room = room }

-- the connections after a knock was told: one more where it opened one
abbrev pub after_knock : ConnectionsState → TraceKnock → ConnectionsState
after_knock s (Opened c) = record s { sent = s.sent ++ [] ∷ []; is_shut = s.is_shut ++ false ∷ []; room = s.room - 1 }
after_knock s (Bytes c bytes) = s
after_knock s (Gone c) = s
after_knock s Quiet = s

-- what the connections keep: as many marks as connections, and room for more and for the shuts of all
pub record AreConnections (sent : List (List ℕ)) (is_shut : List Bool) (shuts : List (ℕ × ℕ)) (room sent_room shut_room shuts_room : ℕ) : Type 0 where
  pub marked : length is_shut ≡ length sent
  pub sent_fit : length sent + room ≤ sent_room
  pub marks_fit : length is_shut + room ≤ shut_room
  pub shuts_fit : length shuts + count_by not is_shut + room ≤ shuts_room

-- the marks are set for the connections that were shut
abbrev pub AreMarks : List (ℕ × ℕ) → List Bool → Type 0
AreMarks shuts is_shut = (c : ℕ) → IsShut shuts c ↔ (get_or is_shut c false ≡ true)

-- what a door in memory keeps, whose connections are these, and whose rows of knocks told and of busy have so much room
pub record IsMemoryDoor (told left : List TraceKnock) (busy : List Bool) (connections : ConnectionsState) (next_calls : Calls) (told_room busy_room : ℕ) : Type 0 where
  pub follows : EachFollows (map knocked told) left
  pub numbered : length connections.sent ≡ count_by is_opening (map knocked told)
  pub marked : length connections.is_shut ≡ length connections.sent
  pub shut_ones : AreMarks connections.shuts connections.is_shut
  pub told_fit : length told + length left ≤ told_room
  pub busy_fit : length busy + length left + failures_left next_calls ≤ busy_room
  pub connections_fit : length left ≤ connections.room
