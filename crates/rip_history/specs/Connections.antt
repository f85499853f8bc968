-- The connections that are there, and what a knock changes of them.
use Rattle.std.specs.Prelude.{ℕ, ◌+◌, ◌==◌, ◌&&◌, ◌||◌, Bool, true, false, not, nat_le, nat_lt, List, [], ◌∷◌, ◌++◌, length, map, Option, Some, None, if◌then◌else◌}
use Rattle.std.specs.List.{filter, list_any}
use Rattle.rip_outer.specs.Connections.{Told, lost}
use Rattle.rip_outer.specs.declared.connections.TraceKnock.{TraceKnock}
use Rattle.rip_outer.specs.declared.connections.TraceKnock.TheVariants.{Opened, Bytes, Gone, Quiet}
use Rattle.rip_log.specs.Entries.{Recorded}

-- ---- what the server does

-- it puts an entry to the log; it sends bytes on a connection; it sends, and finds the connection gone; it shuts one
pub data Act : Type 0 where
  puts : Recorded → Act
  sends : ℕ → List ℕ → Act
  loses : ℕ → Act
  shuts : ℕ → Act

-- the entries that are put
abbrev pub put_in : List Act → List Recorded
put_in [] = []
put_in (puts e ∷ acts) = e ∷ put_in acts
put_in (sends c bytes ∷ acts) = put_in acts
put_in (loses c ∷ acts) = put_in acts
put_in (shuts c ∷ acts) = put_in acts

-- the bytes that are sent on a connection
abbrev pub sent_in : ℕ → List Act → List ℕ
sent_in c [] = []
sent_in c (puts e ∷ acts) = sent_in c acts
sent_in c (sends d bytes ∷ acts) = if d == c then bytes ++ sent_in c acts else sent_in c acts
sent_in c (loses d ∷ acts) = sent_in c acts
sent_in c (shuts d ∷ acts) = sent_in c acts

-- the sends that find their connection gone, as a door tells them
abbrev pub lost_in : List Act → List Told
lost_in [] = []
lost_in (puts e ∷ acts) = lost_in acts
lost_in (sends d bytes ∷ acts) = lost_in acts
lost_in (loses d ∷ acts) = lost d ∷ lost_in acts
lost_in (shuts d ∷ acts) = lost_in acts

-- the connections that are shut
abbrev pub shut_in : List Act → List ℕ
shut_in [] = []
shut_in (puts e ∷ acts) = shut_in acts
shut_in (sends d bytes ∷ acts) = shut_in acts
shut_in (loses d ∷ acts) = shut_in acts
shut_in (shuts d ∷ acts) = d ∷ shut_in acts

-- the entries, put one after another
abbrev pub all_put : List Recorded → List Act
all_put es = map puts es

-- ---- the connections

-- an answer that is owed: to be sent when the batch of this session is done, and whether the connection is shut behind it
pub record Owed : Type 0 where
  pub session : ℕ
  pub close : Bool

-- a connection: its number, the bytes that came and are not taken, and the answer that is owed on it, if one is
pub record Connection : Type 0 where
  pub number : ℕ
  pub unread : List ℕ
  pub owed : Option Owed

-- how many were opened, and those that are there, by number
pub record Connections : Type 0 where
  pub opened : ℕ
  pub there : List Connection

-- no connection yet
abbrev pub no_connections : Connections
no_connections = record { opened = 0; there = [] }

-- the connection of this number is there
abbrev pub is_there : ℕ → List Connection → Bool
is_there c cs = list_any (λ (d : Connection). d.number == c) cs

-- the bytes of it that are not taken
abbrev pub unread_of : ℕ → List Connection → List ℕ
unread_of c [] = []
unread_of c (d ∷ cs) = if d.number == c then d.unread else unread_of c cs

-- it is there no more
abbrev pub without : ℕ → List Connection → List Connection
without c cs = filter (λ (d : Connection). not (d.number == c)) cs

-- it is changed so
abbrev pub changed : ℕ → (Connection → Connection) → List Connection → List Connection
changed c f cs = map (λ (d : Connection). if d.number == c then f d else d) cs

-- the first on which an answer is owed for the batch of this session, and whether it is shut behind that
abbrev pub owed_for : ℕ → ℕ → Option Owed → Option (ℕ × Bool) → Option (ℕ × Bool)
owed_for n c None others = others
owed_for n c (Some o) others = if o.session == n then Some (c, o.close) else others

abbrev pub owing : ℕ → List Connection → Option (ℕ × Bool)
owing n [] = None
owing n (d ∷ cs) = owed_for n d.number d.owed (owing n cs)

-- ---- a knock

-- at most so many connections are there, and at most so many bytes of one are not taken
abbrev pub most_connections : ℕ
most_connections = 64

abbrev pub most_unread : ℕ
most_unread = 77824

-- a connection is opened: where as many are there as may be, it is shut at once; one with another number than the next is
-- none
abbrev pub after_opened : ℕ → Connections → Connections
after_opened c k =
    if not (c == k.opened) then k
    else if nat_le most_connections (length k.there) then record k { opened = k.opened + 1 }
    else record { opened = k.opened + 1; there = k.there ++ record { number = c; unread = []; owed = None } ∷ [] }

abbrev pub opened_acts : ℕ → Connections → List Act
opened_acts c k = if c == k.opened && nat_le most_connections (length k.there) then shuts c ∷ [] else []

-- with so many bytes more the connection would overflow
abbrev pub overflows : ℕ → List ℕ → Connections → Bool
overflows c piece k = nat_lt most_unread (length (unread_of c k.there) + length piece)

-- a piece comes: it is fed to its connection, or the connection overflows, and is shut; a piece of none that is there is
-- nothing
abbrev pub after_piece : ℕ → List ℕ → Connections → Connections
after_piece c piece k =
    if not (is_there c k.there) then k
    else if overflows c piece k then record k { there = without c k.there }
    else record k { there = changed c (λ (d : Connection). record d { unread = d.unread ++ piece }) k.there }

abbrev pub piece_acts : ℕ → List ℕ → Connections → List Act
piece_acts c piece k = if is_there c k.there && overflows c piece k then shuts c ∷ [] else []

-- the connections after a knock, or where the door is closed: one that is gone is forgotten
abbrev pub after_knock : Option TraceKnock → Connections → Connections
after_knock None k = k
after_knock (Some (Opened c)) k = after_opened c k
after_knock (Some (Bytes c piece)) k = after_piece c piece k
after_knock (Some (Gone c)) k = record k { there = without c k.there }
after_knock (Some Quiet) k = k

-- what is done at it
abbrev pub knock_acts : Option TraceKnock → Connections → List Act
knock_acts None k = []
knock_acts (Some (Opened c)) k = opened_acts c k
knock_acts (Some (Bytes c piece)) k = piece_acts c piece k
knock_acts (Some (Gone c)) k = []
knock_acts (Some Quiet) k = []

-- ---- an answer

-- an answer is sent on a connection, and behind it the connection is shut where it is to be; or it is found gone
abbrev pub answer_acts : Bool → Bool → ℕ → List ℕ → List Act
answer_acts true close c bytes = loses c ∷ []
answer_acts false true c bytes = sends c bytes ∷ shuts c ∷ []
answer_acts false false c bytes = sends c bytes ∷ []

-- the connections after that: no answer is owed on this one, and it is there no more where it was found gone or is shut
abbrev pub after_answer : Bool → Bool → ℕ → List Connection → List Connection
after_answer gone close c cs =
    if gone || close then without c cs else changed c (λ (d : Connection). record d { owed = None }) cs
