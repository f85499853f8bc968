-- What a server does in a turn, and what is told of it outside.
use Rattle.std.specs.Prelude.{◌≡◌, ◌⊎◌, ℕ, ◌+◌, ◌<◌, ◌^◌, Bool, List, [], ◌∷◌, length, Option, Some, None, IfSome, Result, Ok, Err}
use Rattle.rip_outer.specs.Connections.{Goes}
use Rattle.rip_outer.specs.Outside.{Rose, also, IsOver as NothingLeft}
use Rattle.rip_outer.specs.declared.connections.TraceKnock.{TraceKnock}
use Rattle.rip_history.specs.Parts.{Meaning}
use Rattle.rip_history.specs.Run.{Site, State, Coming, after_turn, turn_acts, IsTurn}
use Rattle.rip_history.specs.Runs.{IsAsking, IsAskedBefore, IsOver, IsBrokenTurn}
use Rattle.rip_history.specs.Services.{Service}
use Rattle.rip_server.specs.Acts.{Seen, Did, Stopped}
use Rattle.rip_server.specs.declared.halt.Halt.{Halt}
use Rattle.rip_server.specs.declared.halt.Halt.TheVariants.{Outside, Memory}
use Rattle.rip_server.specs.declared.turn.server.TurnEnd.{TurnEnd}
use Rattle.rip_server.specs.declared.turn.server.TurnEnd.TheVariants.{On, Over}

-- ---- the outside

-- a clock, or random words: what was told, and what each call from now on gives, where it tells them
pub record Source : Type 0 where
  pub told : Option (List ℕ)
  pub coming : ℕ → Option ℕ

abbrev pub source : Option (List ℕ) → (ℕ → Option ℕ) → Source
source told coming = record { told = told; coming = coming }

-- all that is outside of a server: what door and sink tell, clock and words, and how often door and sink failed
pub record Outer : Type 0 where
  pub seen : Seen
  pub clock : Source
  pub words : Source
  pub door_faults : ℕ
  pub sink_faults : ℕ

abbrev pub outer : Seen → Source → Source → ℕ → ℕ → Outer
outer seen clock words door_faults sink_faults =
    record { seen = seen; clock = clock; words = words; door_faults = door_faults; sink_faults = sink_faults }

-- these are the first of what was coming from this call on
abbrev pub Come : ℕ → List ℕ → (ℕ → Option ℕ) → Type 0
Come from [] coming = Unit {0}
Come from (x ∷ xs) coming = IfSome (coming from) (λ (y : ℕ). x ≡ y) × Come (from + 1) xs coming

-- a clock or words gave these, the first of what was coming
pub record Gives (xs : List ℕ) (old new : Source) : Type 0 where
  pub told : new.told ≡ also xs old.told
  pub first : Come 0 xs old.coming
  pub others : (j : ℕ) → new.coming j ≡ old.coming (length xs + j)

-- ---- a knock

-- nothing is left where the door is closed
abbrev pub ClosedSo : Option TraceKnock → Option (List TraceKnock) → Type 0
ClosedSo None left = NothingLeft left
ClosedSo (Some k) left = Unit {0}

abbrev pub knocks_of : Option TraceKnock → List TraceKnock
knocks_of None = []
knocks_of (Some k) = k ∷ []

-- a door is asked before a turn of a server that stands so, and tells this knock, or is closed
pub record Knocks (s : State) (knock : Option TraceKnock) (old new : Seen) : Type 0 where
  pub busy : List Bool
  pub asks : IsAskedBefore knock s busy
  pub asked : new.asked ≡ also busy old.asked
  pub goes : Goes old.telling new.telling (knocks_of knock)
  pub closed : ClosedSo knock new.telling.left
  pub sent : (c : ℕ) → new.sent c ≡ old.sent c
  pub shut : new.shut ≡ old.shut
  pub held : new.held ≡ old.held

-- a door is asked, and fails
pub record FailsAsked (s : State) (old new : Seen) : Type 0 where
  pub busy : Bool
  pub asks : IsAsking s busy
  pub asked : new.asked ≡ also (busy ∷ []) old.asked
  pub goes : Goes old.telling new.telling []
  pub sent : (c : ℕ) → new.sent c ≡ old.sent c
  pub shut : new.shut ≡ old.shut
  pub held : new.held ≡ old.held

-- ---- a turn

-- a turn is over, or the run with it: the door is closed and nothing is to be done
abbrev pub EndsSo : TurnEnd → Option TraceKnock → State → Type 0
EndsSo On knock s = ¬ IsOver knock s
EndsSo Over knock s = IsOver knock s

-- what is told of a turn: its knock, all that is done behind that, its moment, of at most 53 bits, and the words that are drawn
pub record TellsTurn (site : Site) (turn : ℕ) (s : State) (t : Coming) (old new : Outer) : Type 0 where
  pub knocked : Seen
  pub knocks : Knocks s t.knock old.seen knocked
  pub did : Did (turn_acts site turn t s) knocked new.seen
  pub moment : Gives (t.moment ∷ []) old.clock new.clock
  pub timely : t.moment < 2 ^ 53
  pub words : Gives t.words old.words new.words

-- a turn was made, and all that it does was done; so the server stands
pub record Turned (site : Site) (turn : ℕ) (s : State) (end : TurnEnd) (Stands : State → Type 0) (old new : Outer) : Type 0 where
  pub coming : Coming
  pub turn_is : IsTurn site turn s coming
  pub stands : Stands (after_turn site turn coming s)
  pub ends : EndsSo end coming.knock (after_turn site turn coming s)
  pub tells : TellsTurn site turn s coming old new

-- a turn whose moment was told, or not yet, stops: the door fails as it is asked, and then neither moment nor words were
-- asked for; or a front of what the turn does is done behind the knock
pub data StopsIn (site : Site) (turn : ℕ) (s : State) (t : Coming) (moments : List ℕ) (old new : Seen) : Type 0 where
  at_knock : t.knock ≡ None → turn_acts site turn t s ≡ [] → moments ≡ [] → t.words ≡ [] → FailsAsked s old new → StopsIn site turn s t moments old new
  behind : (knocked : Seen) → Knocks s t.knock old knocked → Stopped (turn_acts site turn t s) knocked new → StopsIn site turn s t moments old new

-- a turn was broken off; its moment was told, or not yet
pub record Halted (site : Site) (turn : ℕ) (s : State) (old new : Outer) : Type 0 where
  pub coming : Coming
  pub broken : IsBrokenTurn site turn s coming
  pub moments : List ℕ
  pub stops : StopsIn site turn s coming moments old.seen new.seen
  pub at : (moments ≡ []) ⊎ (moments ≡ coming.moment ∷ [])
  pub moment : Gives moments old.clock new.clock
  pub timely : coming.moment < 2 ^ 53
  pub words : Gives coming.words old.words new.words

-- what a turn comes to
abbrev pub TurnsTo : Site → ℕ → State → Result TurnEnd Halt → (State → Type 0) → Outer → Outer → Type 0
TurnsTo site turn s (Ok end) Stands old new = Turned site turn s end Stands old new
TurnsTo site turn s (Err halt) Stands old new = Halted site turn s old new

-- the count of the door or of the sink rose where the outside stops a turn, and else both are as they were
abbrev pub Faults : {A : Type 0} → Result A Halt → ℕ → ℕ → ℕ → ℕ → Type 0
Faults (Ok done) door door_new sink sink_new = (door_new ≡ door) × (sink_new ≡ sink)
Faults (Err Outside) door door_new sink sink_new = (Rose door door_new × (sink_new ≡ sink)) ⊎ ((door_new ≡ door) × Rose sink sink_new)
Faults (Err Memory) door door_new sink sink_new = (door_new ≡ door) × (sink_new ≡ sink)

-- what is served, in the words of the machine
abbrev pub site_of : Meaning → Service → ℕ → List ℕ → Site
site_of meaning service limit page = record { meaning = meaning; service = service; limit = limit; page = page }
