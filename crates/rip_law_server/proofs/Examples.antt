-- The definitions at small cases, by computing.
use Rattle.std.proofs.Common.{◌≡◌, List, [], ◌∷◌, refl}
use Rattle.rip_outer.specs.declared.connections.TraceKnock.{TraceKnock}
use Rattle.rip_outer.specs.declared.connections.TraceKnock.TheVariants.{Opened, Bytes, Quiet}
use Rattle.rip_http.specs.Stream.{waits}
use Rattle.rip_law_server.specs.Asked.{AreAsked, byte_count, bytes_on}
use Rattle.rip_law_server.specs.Ending.{slices, turns_enough}

-- 1,000 units are of one turn, and one unit more is of a second
one_turn : slices 1000 ≡ 1
one_turn = refl

two_turns : slices 1001 ≡ 2
two_turns = refl

-- where a batch has its units in 64,001 turns, three turns are enough for two knocks, and as many more for each request
no_request : turns_enough 64000065 2 0 ≡ 3
no_request = refl

two_requests : turns_enough 64000065 2 2 ≡ 128005
two_requests = refl

-- a connection on which nothing comes asks nothing
silent : AreAsked 0 (Opened 0 ∷ Quiet ∷ []) 0
silent = ([], waits, 0, record { rest = []; splits = refl; next = refl; is_last = tt }, refl, refl)

-- pieces are of their own connections
abbrev pieces : List TraceKnock
pieces = Bytes 1 (7 ∷ []) ∷ Bytes 0 (8 ∷ 9 ∷ []) ∷ []

first_pieces : bytes_on 0 pieces ≡ 8 ∷ 9 ∷ []
first_pieces = refl

all_bytes : byte_count pieces ≡ 3
all_bytes = refl
