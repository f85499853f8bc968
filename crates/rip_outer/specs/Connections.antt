-- What a door tells of its connections.
use Rattle.std.specs.Prelude.{◌≡◌, ◌==◌, ℕ, ◌≤◌, Bool, true, false, if◌then◌else◌, List, [], ◌∷◌, ◌++◌, length, map, take, count_by, All, Contains, Option, Some, None, option_map}
use Rattle.rip_outer.specs.Outside.{Rose, Front, also, before}
use Rattle.rip_outer.specs.declared.connections.TraceKnock.{TraceKnock}
use Rattle.rip_outer.specs.declared.connections.TraceKnock.TheVariants as trace
use Rattle.rip_outer.specs.declared.connections.Knock.{Knock}
use Rattle.rip_outer.specs.declared.connections.Knock.TheVariants.{Opened, Bytes, Gone, Quiet, Closed, Failed}
use Rattle.rip_outer.specs.declared.connections.Sent.{Sent}
use Rattle.rip_outer.specs.declared.connections.Sent.TheVariants as sent

-- one thing that a door tells: a knock, or that a send found its connection gone
pub data Told : Type 0 where
  knocked : TraceKnock → Told
  lost : ℕ → Told

-- what a door has told, and the knocks that it will tell if nothing more is shut and no send finds its connection gone
pub record Telling : Type 0 where
  pub told : Option (List Told)
  pub left : Option (List TraceKnock)

-- the door told these knocks from the old to the new
pub record Goes (old new : Telling) (ks : List TraceKnock) : Type 0 where
  pub told : new.told ≡ also (map knocked ks) old.told
  pub left : old.left ≡ before ks new.left

-- what a knock tells, with the first bytes of the room; that it is over is told by what is left
abbrev pub telling : Knock → List ℕ → List TraceKnock
telling (Opened c) room = trace.Opened c ∷ []
telling (Bytes c n) room = trace.Bytes c (take n room) ∷ []
telling (Gone c) room = trace.Gone c ∷ []
telling Quiet room = trace.Quiet ∷ []
telling Closed room = []
telling Failed room = []

-- a piece has 1 to 4,096 bytes
abbrev pub FitsRoom : Knock → Type 0
FitsRoom (Opened c) = Unit {0}
FitsRoom (Bytes c n) = (1 ≤ n) × (n ≤ 4096)
FitsRoom (Gone c) = Unit {0}
FitsRoom Quiet = Unit {0}
FitsRoom Closed = Unit {0}
FitsRoom Failed = Unit {0}

-- it tells that a connection was opened
abbrev pub is_opening : Told → Bool
is_opening (knocked (trace.Opened c)) = true
is_opening (knocked (trace.Bytes c bytes)) = false
is_opening (knocked (trace.Gone c)) = false
is_opening (knocked trace.Quiet) = false
is_opening (lost c) = false

-- it is a knock
abbrev pub is_knock : Told → Bool
is_knock (knocked k) = true
is_knock (lost c) = false

-- c is among the connections that were shut
abbrev pub IsShut : List (ℕ × ℕ) → ℕ → Type 0
IsShut shuts c = Contains (map (λ s. s.0) shuts) c

-- c was opened and is neither gone nor shut
pub record IsLive (told : List Told) (shuts : List (ℕ × ℕ)) (c : ℕ) : Type 0 where
  pub opened : Contains told (knocked (trace.Opened c))
  pub not_gone : ¬ Contains told (knocked (trace.Gone c))
  pub not_lost : ¬ Contains told (lost c)
  pub not_shut : ¬ IsShut shuts c

-- connections are numbered 0, 1, 2 in the order of their opening, and a piece or a going comes of a live one alone
abbrev pub IsAllowedAfter : List Told → List (ℕ × ℕ) → TraceKnock → Type 0
IsAllowedAfter told shuts (trace.Opened c) = c ≡ count_by is_opening told
IsAllowedAfter told shuts (trace.Bytes c bytes) = IsLive told shuts c
IsAllowedAfter told shuts (trace.Gone c) = IsLive told shuts c
IsAllowedAfter told shuts trace.Quiet = Unit {0}

-- the same of what a knock tells, where the door tells its knocks and shuts
abbrev pub AreAllowed : Option (List Told) → Option (List (ℕ × ℕ)) → List TraceKnock → Type 0
AreAllowed None shuts ks = Unit {0}
AreAllowed (Some told) None ks = Unit {0}
AreAllowed (Some told) (Some shuts) ks = All (IsAllowedAfter told shuts) ks

-- the busy of a knock is told unless it is Closed
abbrev pub busy_told : Knock → Bool → List Bool
busy_told (Opened c) busy = busy ∷ []
busy_told (Bytes c n) busy = busy ∷ []
busy_told (Gone c) busy = busy ∷ []
busy_told Quiet busy = busy ∷ []
busy_told Closed busy = []
busy_told Failed busy = busy ∷ []

-- the count rose where the answer is Failed, and else is as it was
abbrev pub CountsKnock : Knock → ℕ → ℕ → Type 0
CountsKnock (Opened c) old new = new ≡ old
CountsKnock (Bytes c n) old new = new ≡ old
CountsKnock (Gone c) old new = new ≡ old
CountsKnock Quiet old new = new ≡ old
CountsKnock Closed old new = new ≡ old
CountsKnock Failed old new = Rose old new

-- a send tells that its connection is gone, where it found it so
abbrev pub loses : Sent → ℕ → List Told
loses sent.Done c = []
loses sent.Gone c = lost c ∷ []
loses sent.Failed c = []
loses sent.Memory c = []

-- a send adds its bytes with Done, a front of them with Failed, and else nothing
abbrev pub Sends : Sent → List ℕ → Option (List ℕ) → Option (List ℕ) → Type 0
Sends sent.Done bytes old new = new ≡ also bytes old
Sends sent.Gone bytes old new = new ≡ old
Sends sent.Failed bytes old new = Front bytes old new
Sends sent.Memory bytes old new = new ≡ old

-- the count rose where the answer is Failed, and else is as it was
abbrev pub CountsSent : Sent → ℕ → ℕ → Type 0
CountsSent sent.Done old new = new ≡ old
CountsSent sent.Gone old new = new ≡ old
CountsSent sent.Failed old new = Rose old new
CountsSent sent.Memory old new = new ≡ old

-- what comes in place of a knock once c is gone or shut: a piece or a going of c is Quiet
abbrev pub hush : ℕ → TraceKnock → TraceKnock
hush c (trace.Opened d) = trace.Opened d
hush c (trace.Bytes d bytes) = (if d == c then trace.Quiet else trace.Bytes d bytes)
hush c (trace.Gone d) = (if d == c then trace.Quiet else trace.Gone d)
hush c trace.Quiet = trace.Quiet

-- the knocks that are left once c is gone or shut
abbrev pub hushed : ℕ → List TraceKnock → List TraceKnock
hushed c ks = map (hush c) ks

-- what is left after a send to c: it is hushed where the send found c gone, and else is as it was
abbrev pub left_after : Sent → ℕ → Option (List TraceKnock) → Option (List TraceKnock)
left_after sent.Done c left = left
left_after sent.Gone c left = option_map (hushed c) left
left_after sent.Failed c left = left
left_after sent.Memory c left = left

-- the shuts grow by c, with the number of knocks told before, where the door tells both
abbrev pub also_shut : ℕ → Option (List Told) → Option (List (ℕ × ℕ)) → Option (List (ℕ × ℕ))
also_shut c None shuts = None
also_shut c (Some told) shuts = also ((c, count_by is_knock told) ∷ []) shuts
