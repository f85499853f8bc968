-- In which turns of a run the requests of a connection are handled: each in the first in which its bytes have come and no
-- answer is owed on the connection.
use Rattle.std.specs.Prelude.{ℕ, ◌+◌, ◌-◌, ◌==◌, ◌&&◌, Bool, is_some, nat_le, List, [], ◌∷◌, ◌++◌, length, map, Option, None, if◌then◌else◌}
use Rattle.std.specs.List.{list_any}
use Rattle.rip_http.specs.Stream.{all_fed}
use Rattle.rip_outer.specs.declared.connections.TraceKnock.{TraceKnock}
use Rattle.rip_history.specs.Connections.{Connection, Connections}
use Rattle.rip_history.specs.Handlings.{Answered, AreHandled, Request, at_once, never, when_done}
use Rattle.rip_history.specs.Run.{Coming, Handling, Site, State, after_handling, after_turn, first_state, knocked_at}
use Rattle.rip_history.specs.Runs.{AreTurns}
use Rattle.rip_law_history.specs.Streams.{fed_by}

-- ---- when bytes have come

-- how many bytes come on a connection with a knock
abbrev pub size_by : ℕ → Option TraceKnock → Connections → ℕ
size_by c knock k = length (all_fed (fed_by c knock k))

-- and in each of turns, the first of which has this number
abbrev pub sizes_on : Site → ℕ → ℕ → State → List Coming → List ℕ
sizes_on site c turn s [] = []
sizes_on site c turn s (t ∷ ts) = size_by c t.knock s.connections ∷ sizes_on site c (turn + 1) (after_turn site turn t s) ts

-- of turns in which so many come, the first of which has this number, the first by which this many have come
abbrev pub come_turn : ℕ → ℕ → List ℕ → ℕ
come_turn turn size [] = turn
come_turn turn size (n ∷ ns) = if nat_le size n then turn else come_turn (turn + 1) (size - n) ns

-- ---- when a request is answered

-- an answer is owed on a connection
abbrev pub owes : ℕ → List Connection → Bool
owes c cs = list_any (λ (d : Connection). d.number == c && is_some d.owed) cs

-- of turns, the first of which has this number, the first at whose end none is owed
abbrev pub answered_from : Site → ℕ → ℕ → State → List Coming → Answered
answered_from site c turn s [] = never
answered_from site c turn s (t ∷ ts) =
    let next = after_turn site turn t s in
    if owes c (let k = next.connections in k.there) then answered_from site c (turn + 1) next ts else when_done turn

-- a request is answered at once, or so where an answer is owed behind it
abbrev pub answered_behind : ℕ → Answered → State → Answered
answered_behind c owed next = if owes c (let k = next.connections in k.there) then owed else at_once

-- ---- the requests of a connection

-- a request that is handled, refused heads included: in which turn, and when it came and is answered
pub record Turned : Type 0 where
  pub turn : ℕ
  pub request : Request

-- behind so many bytes of a connection, what is handled on it in a turn: `came` tells by which turn so many bytes have come,
-- and `owed` when an answer is given that is then owed
abbrev pub turned_in : Site → ℕ → (ℕ → ℕ) → ℕ → ℕ → Answered → ℕ → State → List Handling → List Turned
turned_in site c came turn moment owed size s [] = []
turned_in site c came turn moment owed size s (h ∷ hs) =
    let next = after_handling site turn moment s h in
    if h.connection == c
    then record { turn = turn; request = record { came = came (size + h.size); answered = answered_behind c owed next } }
    ∷ turned_in site c came turn moment owed (size + h.size) next hs
    else turned_in site c came turn moment owed size next hs

-- how many bytes were handled then
abbrev pub size_behind : ℕ → ℕ → List Handling → ℕ
size_behind c size [] = size
size_behind c size (h ∷ hs) = size_behind c (if h.connection == c then size + h.size else size) hs

-- and in turns, the first of which has this number
abbrev pub turned_from : Site → ℕ → (ℕ → ℕ) → ℕ → ℕ → State → List Coming → List Turned
turned_from site c came turn size s [] = []
turned_from site c came turn size s (t ∷ ts) =
    turned_in site c came turn t.moment (answered_from site c turn s (t ∷ ts)) size (knocked_at t s) t.handlings
    ++ turned_from site c came (turn + 1) (size_behind c size t.handlings) (after_turn site turn t s) ts

-- those of a run
abbrev pub turned_on : Site → ℕ → List Coming → List Turned
turned_on site c ts = turned_from site c (λ size. come_turn 1 size (sizes_on site c 1 first_state ts)) 1 0 first_state ts

-- ---- the law

-- in each run, after any of its turns, each of them is handled in the first turn in which it may be
abbrev pub TurnsAreLeast : Type 0
TurnsAreLeast =
    (site : Site) (ts : List Coming) (c : ℕ) → AreTurns site 1 first_state ts
    → AreHandled None (map (λ (x : Turned). x.request) (turned_on site c ts)) (map (λ (x : Turned). x.turn) (turned_on site c ts))
