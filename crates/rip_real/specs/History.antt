-- The calls of the outside and what each answered, and what they tell.
use Rattle.std.specs.Prelude.{◌≡◌, ◌+◌, ◌==◌, ℕ, Bool, false, cond, if◌then◌else◌, List, [], ◌∷◌, map, flat_map, count_by, Option, Some, None, refl}
use Rattle.std.specs.Coded.{Coded, code_by, coded×, coded_ℕ, coded_bool, coded_list}
use Rattle.rip_outer.specs.declared.connections.Knock.{Knock}
use Rattle.rip_outer.specs.declared.connections.Knock.TheVariants as knock
use Rattle.rip_outer.specs.declared.connections.Sent.{Sent}
use Rattle.rip_outer.specs.declared.connections.Sent.TheVariants as answer
use Rattle.rip_outer.specs.Connections.{Told, Telling, knocked, is_knock, telling, loses, busy_told}

-- one call of an object of the outside, and what it answered
pub data Deed : Type 0 where
  -- a door answered this knock with these bytes in the room, when it was asked with this busy
  next : Knock → List ℕ → Bool → Deed
  -- a door answered this when it was to send these bytes to a connection
  send : Sent → ℕ → List ℕ → Deed
  -- a door shut a connection
  shut : ℕ → Deed
  -- files were asked for this name
  read : List ℕ → Deed
  -- a sink wrote these bytes
  put : List ℕ → Deed
  -- a clock gave this moment, or random words gave this word
  give : ℕ → Deed

-- what an object of the outside stands for: what was done, and how often the outside failed
pub record HostState : Type 0 where
  pub deeds : List Deed
  pub faults : ℕ

-- an object as it is made
abbrev pub new_state : HostState
new_state = record { deeds = []; faults = 0 }

-- WHAT A DOOR TELLS

-- what a call tells of knocks, and of connections that a send found gone
abbrev pub told_of : Deed → List Told
told_of (next k room busy) = map knocked (telling k room)
told_of (send s c bytes) = loses s c
told_of (shut c) = []
told_of (read name) = []
told_of (put bytes) = []
told_of (give n) = []

-- all that was told
abbrev pub told_in : List Deed → List Told
told_in deeds = flat_map told_of deeds

-- nothing is told of what will come
abbrev pub telling_of : List Deed → Telling
telling_of deeds = record { told = Some (told_in deeds); left = None }

-- the busy of a knock
abbrev pub busy_of : Deed → List Bool
busy_of (next k room busy) = busy_told k busy
busy_of (send s c bytes) = []
busy_of (shut c) = []
busy_of (read name) = []
busy_of (put bytes) = []
busy_of (give n) = []

-- the busy of each knock
abbrev pub busy_in : List Deed → Option (List Bool)
busy_in deeds = Some (flat_map busy_of deeds)

-- bytes count as sent where the answer is Done
abbrev pub taken : Sent → List ℕ → List ℕ
taken answer.Done bytes = bytes
taken answer.Gone bytes = []
taken answer.Failed bytes = []
taken answer.Memory bytes = []

-- the bytes that a call sent to connection c
abbrev pub sent_of : ℕ → Deed → List ℕ
sent_of c (next k room busy) = []
sent_of c (send s d bytes) = (if d == c then taken s bytes else [])
sent_of c (shut d) = []
sent_of c (read name) = []
sent_of c (put bytes) = []
sent_of c (give n) = []

-- all bytes sent to connection c
abbrev pub sent_in : List Deed → ℕ → Option (List ℕ)
sent_in deeds c = Some (flat_map (sent_of c) deeds)

-- the shuts among these calls, where n knocks were told before them: each with the number of knocks told before it
abbrev pub shuts_after : ℕ → List Deed → List (ℕ × ℕ)
shuts_after n [] = []
shuts_after n (next k room busy ∷ deeds) = shuts_after (n + count_by is_knock (told_of (next k room busy))) deeds
shuts_after n (send s c bytes ∷ deeds) = shuts_after n deeds
shuts_after n (shut c ∷ deeds) = (c, n) ∷ shuts_after n deeds
shuts_after n (read name ∷ deeds) = shuts_after n deeds
shuts_after n (put bytes ∷ deeds) = shuts_after n deeds
shuts_after n (give m ∷ deeds) = shuts_after n deeds

-- all shuts
abbrev pub shuts_in : List Deed → List (ℕ × ℕ)
shuts_in deeds = shuts_after 0 deeds

-- WHAT FILES, A SINK, A CLOCK AND RANDOM WORDS TELL

-- the name that a call asked for
abbrev pub name_of : Deed → List (List ℕ)
name_of (next k room busy) = []
name_of (send s c bytes) = []
name_of (shut c) = []
name_of (read name) = name ∷ []
name_of (put bytes) = []
name_of (give n) = []

-- all names asked
abbrev pub names_in : List Deed → Option (List (List ℕ))
names_in deeds = Some (flat_map name_of deeds)

-- the bytes that a call wrote
abbrev pub written_of : Deed → List ℕ
written_of (next k room busy) = []
written_of (send s c bytes) = []
written_of (shut c) = []
written_of (read name) = []
written_of (put bytes) = bytes
written_of (give n) = []

-- all bytes written
abbrev pub written_in : List Deed → Option (List ℕ)
written_in deeds = Some (flat_map written_of deeds)

-- the number that a call gave
abbrev pub given_of : Deed → List ℕ
given_of (next k room busy) = []
given_of (send s c bytes) = []
given_of (shut c) = []
given_of (read name) = []
given_of (put bytes) = []
given_of (give n) = n ∷ []

-- all numbers given
abbrev pub given_in : List Deed → Option (List ℕ)
given_in deeds = Some (flat_map given_of deeds)

-- HOW THE LOGIC STORES A HISTORY

abbrev Parts : Type 0
Parts = ℕ × (ℕ × (ℕ × (Bool × List ℕ)))

abbrev to_parts : Deed → Parts
to_parts (next (knock.Opened c) room busy) = (0, (c, (0, (busy, room))))
to_parts (next (knock.Bytes c n) room busy) = (1, (c, (n, (busy, room))))
to_parts (next (knock.Gone c) room busy) = (2, (c, (0, (busy, room))))
to_parts (next knock.Quiet room busy) = (3, (0, (0, (busy, room))))
to_parts (next knock.Closed room busy) = (4, (0, (0, (busy, room))))
to_parts (next knock.Failed room busy) = (5, (0, (0, (busy, room))))
to_parts (send answer.Done c bytes) = (6, (c, (0, (false, bytes))))
to_parts (send answer.Gone c bytes) = (7, (c, (0, (false, bytes))))
to_parts (send answer.Failed c bytes) = (8, (c, (0, (false, bytes))))
to_parts (send answer.Memory c bytes) = (9, (c, (0, (false, bytes))))
to_parts (shut c) = (10, (c, (0, (false, []))))
to_parts (read name) = (11, (0, (0, (false, name))))
to_parts (put bytes) = (12, (0, (0, (false, bytes))))
to_parts (give n) = (13, (n, (0, (false, []))))

abbrev from_parts : Parts → Deed
from_parts p =
    cond (p.0 == 0) (next (knock.Opened p.1.0) p.1.1.1.1 p.1.1.1.0) (cond (p.0 == 1) (next (knock.Bytes p.1.0 p.1.1.0) p.1.1.1.1 p.1.1.1.0)
    (cond (p.0 == 2) (next (knock.Gone p.1.0) p.1.1.1.1 p.1.1.1.0) (cond (p.0 == 3) (next knock.Quiet p.1.1.1.1 p.1.1.1.0)
    (cond (p.0 == 4) (next knock.Closed p.1.1.1.1 p.1.1.1.0) (cond (p.0 == 5) (next knock.Failed p.1.1.1.1 p.1.1.1.0)
    (cond (p.0 == 6) (send answer.Done p.1.0 p.1.1.1.1) (cond (p.0 == 7) (send answer.Gone p.1.0 p.1.1.1.1)
    (cond (p.0 == 8) (send answer.Failed p.1.0 p.1.1.1.1) (cond (p.0 == 9) (send answer.Memory p.1.0 p.1.1.1.1)
    (cond (p.0 == 10) (shut p.1.0) (cond (p.0 == 11) (read p.1.1.1.1) (cond (p.0 == 12) (put p.1.1.1.1) (give p.1.0)))))))))))))

pub from_parts-to_parts : (d : Deed) → from_parts (to_parts d) ≡ d
from_parts-to_parts (next (knock.Opened c) room busy) = refl
from_parts-to_parts (next (knock.Bytes c n) room busy) = refl
from_parts-to_parts (next (knock.Gone c) room busy) = refl
from_parts-to_parts (next knock.Quiet room busy) = refl
from_parts-to_parts (next knock.Closed room busy) = refl
from_parts-to_parts (next knock.Failed room busy) = refl
from_parts-to_parts (send answer.Done c bytes) = refl
from_parts-to_parts (send answer.Gone c bytes) = refl
from_parts-to_parts (send answer.Failed c bytes) = refl
from_parts-to_parts (send answer.Memory c bytes) = refl
from_parts-to_parts (shut c) = refl
from_parts-to_parts (read name) = refl
from_parts-to_parts (put bytes) = refl
from_parts-to_parts (give n) = refl

abbrev pub deeds_code : Coded (List Deed)
deeds_code = coded_list (code_by Parts (coded× coded_ℕ (coded× coded_ℕ (coded× coded_ℕ (coded× coded_bool (coded_list coded_ℕ))))) to_parts from_parts from_parts-to_parts)
