-- The requests that knocks ask.
use Rattle.std.specs.Prelude.{◌≡◌, ◌⊎◌, ℕ, ◌+◌, ◌≤◌, ◌==◌, List, [], ◌∷◌, ◌++◌, length, Option, Some, None, if◌then◌else◌}
use Rattle.rip_outer.specs.declared.connections.TraceKnock.{TraceKnock}
use Rattle.rip_outer.specs.declared.connections.TraceKnock.TheVariants.{Opened, Bytes, Gone, Quiet}
use Rattle.rip_http.specs.Stream.{Next, waits, refuses, takes, Sent, Requests}
use Rattle.rip_history.specs.Run.{Site, first_state, Coming}
use Rattle.rip_history.specs.Runs.{AreTurns}
use Rattle.rip_law_server.specs.Ending.{requests_in}

-- the bytes that knocks bring to the connection of this number
abbrev pub bytes_on : ℕ → List TraceKnock → List ℕ
bytes_on c [] = []
bytes_on c (Opened d ∷ ks) = bytes_on c ks
bytes_on c (Bytes d piece ∷ ks) = if c == d then piece ++ bytes_on c ks else bytes_on c ks
bytes_on c (Gone d ∷ ks) = bytes_on c ks
bytes_on c (Quiet ∷ ks) = bytes_on c ks

-- connections are opened with the next number; one with another number is none, and brings nothing
abbrev pub bytes_opened : ℕ → ℕ → List TraceKnock → List ℕ
bytes_opened c next ks = if c == next then bytes_on c ks else []

abbrev pub next_behind : ℕ → ℕ → ℕ
next_behind c next = if c == next then next + 1 else next

-- how many are asked: each message, and a refused head behind them
abbrev pub count_at : Next → ℕ
count_at waits = 0
count_at (refuses n r) = 1
count_at (takes n m) = 0

abbrev pub asked_count : List Sent → Next → ℕ
asked_count sent last = length sent + count_at last

-- knocks, of which the first opens the connection of this number, ask so many requests: those of the bytes that come on each
-- connection that they open, up to the first head that is refused
abbrev pub AreAsked : ℕ → List TraceKnock → ℕ → Type 0
AreAsked next [] total = total ≡ 0
AreAsked next (Opened c ∷ ks) total =
    (sent : List Sent) × (last : Next) × (others : ℕ) × Requests (bytes_opened c next ks) sent last
    × (total ≡ asked_count sent last + others) × AreAsked (next_behind c next) ks others
AreAsked next (Bytes c piece ∷ ks) total = AreAsked next ks total
AreAsked next (Gone c ∷ ks) total = AreAsked next ks total
AreAsked next (Quiet ∷ ks) total = AreAsked next ks total

-- how many bytes come in knocks
abbrev pub byte_count : List TraceKnock → ℕ
byte_count [] = 0
byte_count (Opened c ∷ ks) = byte_count ks
byte_count (Bytes c piece ∷ ks) = length piece + byte_count ks
byte_count (Gone c ∷ ks) = byte_count ks
byte_count (Quiet ∷ ks) = byte_count ks

-- a bound of the requests that knocks ask from the first connection on: so many are asked, or no more bytes than so many come,
-- of which each request has one at least
abbrev pub AskNoMore : List TraceKnock → ℕ → Type 0
AskNoMore ks requests = AreAsked 0 ks requests ⊎ (byte_count ks ≤ requests)

-- the knocks of turns
abbrev pub knocked : Option TraceKnock → List TraceKnock
knocked None = []
knocked (Some k) = k ∷ []

abbrev pub knocks_of : List Coming → List TraceKnock
knocks_of [] = []
knocks_of (t ∷ ts) = knocked t.knock ++ knocks_of ts

-- in a run no more requests are handled than its knocks ask
abbrev pub RequestsAreAsked : Type 0
RequestsAreAsked =
    (site : Site) (ts : List Coming) (total : ℕ) → AreTurns site 1 first_state ts → AskNoMore (knocks_of ts) total
    → requests_in ts ≤ total
