-- Runs of the machine that a server follows: whole ones, and ones that break off.
use Rattle.std.specs.Prelude.{◌≡◌, ◌≢◌, ◌⊎◌, ℕ, ◌+◌, ◌≤◌, Bool, true, false, List, [], ◌∷◌, ◌++◌, length, map, Option, Some, None}
use Rattle.rip_outer.specs.Connections.{Told, knocked}
use Rattle.rip_outer.specs.declared.connections.TraceKnock.{TraceKnock}
use Rattle.rip_log.specs.Entries.{ended}
use Rattle.rip_history.specs.Connections.{Act, puts, lost_in, shut_in}
use Rattle.rip_history.specs.Course.{HandledDraw}
use Rattle.rip_history.specs.Run.{Site, State, first_state, busy_in, AreHandledSo, Advance, AreAdvancedSo, Coming, knocked_at, handled_at, after_turn, turn_acts, IsTurn, AreQuiet, asked_in}

-- how a server stands after turns, the first of which has this number
abbrev pub after_turns : Site → ℕ → State → List Coming → State
after_turns site turn s [] = s
after_turns site turn s (t ∷ ts) = after_turns site (turn + 1) (after_turn site turn t s) ts

-- what is done in them
abbrev pub turns_acts : Site → ℕ → State → List Coming → List Act
turns_acts site turn s [] = []
turns_acts site turn s (t ∷ ts) = turn_acts site turn t s ++ turns_acts site (turn + 1) (after_turn site turn t s) ts

abbrev pub AreTurns : Site → ℕ → State → List Coming → Type 0
AreTurns site turn s [] = Unit {0}
AreTurns site turn s (t ∷ ts) = IsTurn site turn s t × AreTurns site (turn + 1) (after_turn site turn t s) ts

-- something is to be done: a session is busy, or a connection has something to handle. So a door is asked before a turn
pub data IsAsking (s : State) : Bool → Type 0 where
  nothing : busy_in s.history ≡ [] → AreQuiet (let k = s.connections in k.there) → IsAsking s false
  sessions : busy_in s.history ≢ [] → IsAsking s true
  requests : ¬ AreQuiet (let k = s.connections in k.there) → IsAsking s true

-- a turn with this knock, after which the server stands so, is the last: the door is closed, no session is busy, and no
-- connection has anything to handle
pub record IsOver (knock : Option TraceKnock) (s : State) : Type 0 where
  pub closed : knock ≡ None
  pub idle : busy_in s.history ≡ []
  pub quiet : AreQuiet (let k = s.connections in k.there)

-- none of these turns is the last
abbrev pub GoOn : Site → ℕ → State → List Coming → Type 0
GoOn site turn s [] = Unit {0}
GoOn site turn s (t ∷ ts) =
    let next = after_turn site turn t s in
    (¬ IsOver t.knock next) × GoOn site (turn + 1) next ts

-- the last of these turns is the first that is the last
abbrev pub EndsOver : Site → ℕ → State → List Coming → Type 0
EndsOver site turn s [] = ⊥
EndsOver site turn s (t ∷ []) = IsOver t.knock (after_turn site turn t s)
EndsOver site turn s (t ∷ u ∷ ts) =
    let next = after_turn site turn t s in
    (¬ IsOver t.knock next) × EndsOver site (turn + 1) next (u ∷ ts)

-- there are no more than may be, where that is said
abbrev pub AreAtMost : Option ℕ → List Coming → Type 0
AreAtMost None ts = Unit {0}
AreAtMost (Some most) ts = length ts ≤ most

-- how a run of at most so many turns stops: with 0 at the end of the first turn that is the last; with 3 after as many
-- turns as may be, none of which is
pub data StopsWith (site : Site) (most : Option ℕ) (ts : List Coming) : ℕ → Type 0 where
  over : EndsOver site 1 first_state ts → AreAtMost most ts → StopsWith site most ts 0
  spent : GoOn site 1 first_state ts → most ≡ Some (length ts) → StopsWith site most ts 3

-- a run, and all that is done in it: its status is put at last
pub record IsRun (site : Site) (most : Option ℕ) (ts : List Coming) (status : ℕ) (acts : List Act) : Type 0 where
  pub turns : AreTurns site 1 first_state ts
  pub stops : StopsWith site most ts status
  pub done : acts ≡ turns_acts site 1 first_state ts ++ puts (ended (length ts) status) ∷ []

-- ---- a run that breaks off

-- of the busy sessions the first go on, once no connection has anything to handle
pub record IsAdvancedFirst (site : Site) (turn moment : ℕ) (s : State) (advances : List Advance) : Type 0 where
  pub quiet : AreQuiet (let k = s.connections in k.there)
  pub first : List ℕ
  pub others : List ℕ
  pub busy : busy_in s.history ≡ first ++ others
  pub advanced : AreAdvancedSo site turn moment s first advances

-- a turn that breaks off: requests are handled, and perhaps some sessions go on
pub record IsBrokenTurn (site : Site) (turn : ℕ) (s : State) (t : Coming) : Type 0 where
  pub handled : AreHandledSo site turn t.moment (knocked_at t s) t.handlings
  pub words : HandledDraw site.limit turn t.moment s.history (asked_in t.handlings) t.words []
  pub advanced : (t.advances ≡ []) ⊎ IsAdvancedFirst site turn t.moment (handled_at site turn t s) t.advances

-- a run that breaks off in a turn, and all that was done in it: a front of what the turns do
pub record IsBroken (site : Site) (ts : List Coming) (t : Coming) (acts : List Act) : Type 0 where
  pub turns : AreTurns site 1 first_state ts
  pub go_on : GoOn site 1 first_state ts
  pub last : IsBrokenTurn site (length ts + 1) (after_turns site 1 first_state ts) t
  pub others : List Act
  pub front : turns_acts site 1 first_state ts ++ turn_acts site (length ts + 1) t (after_turns site 1 first_state ts) ≡ acts ++ others

-- ---- what a door tells and is asked

abbrev pub knock_told : Option TraceKnock → List Told
knock_told None = []
knock_told (Some k) = knocked k ∷ []

-- what is told in turns: the knock of each, then the sends that find their connection gone
abbrev pub turns_told : Site → ℕ → State → List Coming → List Told
turns_told site turn s [] = []
turns_told site turn s (t ∷ ts) =
    knock_told t.knock ++ lost_in (turn_acts site turn t s) ++ turns_told site (turn + 1) (after_turn site turn t s) ts

-- the connections that are shut in them, each with the number of knocks that were told before
abbrev pub knocks_by : ℕ → Option TraceKnock → ℕ
knocks_by n None = n
knocks_by n (Some k) = n + 1

abbrev pub turns_shut : Site → ℕ → ℕ → State → List Coming → List (ℕ × ℕ)
turns_shut site turn knocks s [] = []
turns_shut site turn knocks s (t ∷ ts) =
    let now = knocks_by knocks t.knock in
    map (λ (c : ℕ). (c, now)) (shut_in (turn_acts site turn t s)) ++ turns_shut site (turn + 1) now (after_turn site turn t s) ts

-- what a door is asked before a turn whose knock is this: nothing is told of the asking where it is closed
abbrev pub IsAskedBefore : Option TraceKnock → State → List Bool → Type 0
IsAskedBefore None s asked = asked ≡ []
IsAskedBefore (Some k) s asked = (busy : Bool) × (asked ≡ busy ∷ []) × IsAsking s busy

-- before each of these turns
abbrev pub AreAsked : Site → ℕ → State → List Coming → List Bool → Type 0
AreAsked site turn s [] asked = asked ≡ []
AreAsked site turn s (t ∷ ts) asked =
    (first others : List Bool) × (asked ≡ first ++ others) × IsAskedBefore t.knock s first
    × AreAsked site (turn + 1) (after_turn site turn t s) ts others
