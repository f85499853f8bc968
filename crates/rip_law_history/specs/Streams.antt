-- What is handled on a connection is what is asked in the bytes that came on it.
use Rattle.std.specs.Prelude.{◌≡◌, ◌≢◌, ◌⊎◌, ℕ, ◌+◌, ◌==◌, ◌&&◌, true, not, List, [], ◌∷◌, ◌++◌, length, Option, Some, None, if◌then◌else◌}
use Rattle.std.specs.List.{AllByRecursion}
use Rattle.rip_http.specs.Stream.{waits, Requests, Deed, fed, took, Does, all_fed, all_taken}
use Rattle.rip_outer.specs.declared.connections.TraceKnock.{TraceKnock}
use Rattle.rip_outer.specs.declared.connections.TraceKnock.TheVariants.{Opened, Bytes, Gone, Quiet}
use Rattle.rip_history.specs.Connections.{Connection, Connections, is_there, unread_of, overflows}
use Rattle.rip_history.specs.Run.{Site, State, first_state, Arrived, refused, message, Handling, Coming, handled_at, after_turn, IsTurn}
use Rattle.rip_history.specs.Runs.{after_turns, AreTurns}

-- the piece that a knock brings to a connection, where it is there and does not overflow
abbrev pub fed_by : ℕ → Option TraceKnock → Connections → List Deed
fed_by c None k = []
fed_by c (Some (Opened d)) k = []
fed_by c (Some (Bytes d piece)) k = if d == c && (is_there d k.there && not (overflows d piece k)) then fed piece ∷ [] else []
fed_by c (Some (Gone d)) k = []
fed_by c (Some Quiet) k = []

-- the message that is taken where it is handled
abbrev pub took_by : ℕ → Arrived → List Deed
took_by size (refused r) = []
took_by size (message m x) = took (record { message = m; size = size }) ∷ []

-- the messages that are taken from a connection
abbrev pub taken_on : ℕ → List Handling → List Deed
taken_on c [] = []
taken_on c (h ∷ hs) = (if h.connection == c then took_by h.size h.arrived else []) ++ taken_on c hs

-- what is done with a connection in turns, the first of which has this number
abbrev pub deeds_on : Site → ℕ → ℕ → State → List Coming → List Deed
deeds_on site c turn s [] = []
deeds_on site c turn s (t ∷ ts) =
    (fed_by c t.knock s.connections ++ taken_on c t.handlings) ++ deeds_on site c (turn + 1) (after_turn site turn t s) ts

-- the messages that were handled on a connection stand one behind the other at the front of the bytes that came on it, and
-- where it is there these are left
pub record IsStream (site : Site) (ts : List Coming) (c : ℕ) : Type 0 where
  pub left : List ℕ
  pub does : Does [] (deeds_on site c 1 first_state ts) left
  pub unread : (let k = (after_turns site 1 first_state ts).connections in is_there c k.there ≡ true → left ≡ unread_of c k.there)

-- so it is in each run of the machine, after any of its turns
abbrev pub StreamsAreHandled : Type 0
StreamsAreHandled = (site : Site) (ts : List Coming) (c : ℕ) → AreTurns site 1 first_state ts → IsStream site ts c

-- what is done with a connection in turns, and in the next up to where no connection has anything to handle
abbrev pub deeds_up_to : Site → ℕ → List Coming → Coming → List Deed
deeds_up_to site c ts t =
    deeds_on site c 1 first_state ts
    ++ (fed_by c t.knock (let s = after_turns site 1 first_state ts in s.connections) ++ taken_on c t.handlings)

-- an answer is owed on the connection, or the requests of all bytes that came on it are those that were handled
abbrev pub IsServed : Site → List Coming → Coming → Connection → Type 0
IsServed site ts t d =
    (d.owed ≢ None) ⊎ Requests (all_fed (deeds_up_to site d.number ts t)) (all_taken (deeds_up_to site d.number ts t)) waits

-- so it is of each connection that is there, in each turn of a run, before the busy sessions go on
abbrev pub NothingIsLeft : Type 0
NothingIsLeft =
    (site : Site) (ts : List Coming) (t : Coming) → AreTurns site 1 first_state ts → IsTurn site (length ts + 1) (after_turns site 1 first_state ts) t
    → AllByRecursion (IsServed site ts t) (let k = (handled_at site (length ts + 1) t (after_turns site 1 first_state ts)).connections in k.there)
