-- The laws of messages.
use Rattle.std.specs.Prelude.{◌≡◌, ℕ, ◌≤◌, List, [], ◌++◌, length, Some, ◌↔◌}
use Rattle.rip_http.specs.Heads.{IsHeadEnd, head_end}
use Rattle.rip_http.specs.Stream.{Next, takes, refuses, IsNext, IsLast, Requests, Sent, Deed, Does, Splits, all_fed, all_taken, ended_within}
use Rattle.rip_http.specs.declared.request.Message.{Message}
use Rattle.rip_http.specs.declared.request.RefusedHead.{RefusedHead}

-- the search finds the end of a head, and nothing else
abbrev pub HeadEndIsFound : Type 0
HeadEndIsFound = (bytes : List ℕ) (n : ℕ) → (head_end bytes ≡ Some n) ↔ IsHeadEnd bytes n

-- one thing stands at the front of bytes
abbrev pub NextIsOne : Type 0
NextIsOne = (bytes : List ℕ) (x y : Next) → IsNext bytes x → IsNext bytes y → x ≡ y

-- a stream has one list of requests
abbrev pub RequestsAreOne : Type 0
RequestsAreOne =
    (bytes : List ℕ) (a b : List Sent) (x y : Next) → Requests bytes a x → Requests bytes b y
    → (a ≡ b) × (x ≡ y)

-- however the bytes were cut and whenever messages were taken, once no more is to be taken, the
-- messages are those of the whole stream
abbrev pub CutsDoNotMatter : Type 0
CutsDoNotMatter =
    (deeds : List Deed) (rest : List ℕ) (last : Next)
    → Does [] deeds rest → IsNext rest last → IsLast last
    → Requests (all_fed deeds) (all_taken deeds) last

-- in mid-stream, what was taken begins the stream, whatever comes
abbrev pub TakenStands : Type 0
TakenStands =
    (deeds : List Deed) (rest more : List ℕ) → Does [] deeds rest
    → Splits (all_fed deeds ++ more) (all_taken deeds) (rest ++ more)

-- the messages that can be taken of a stream's first bytes are those that end within them
abbrev pub EndsTell : Type 0
EndsTell =
    (deeds : List Deed) (rest more : List ℕ) (sent : List Sent) (x y : Next)
    → Does [] deeds rest → IsNext rest x → IsLast x → Requests (all_fed deeds ++ more) sent y
    → all_taken deeds ≡ ended_within (length (all_fed deeds)) sent

-- a message that has come stays, and so does a refusal, whatever comes behind it
abbrev pub ComeStays : Type 0
ComeStays =
    (bytes more : List ℕ)
    → ((n : ℕ) (m : Message) → IsNext bytes (takes n m)
    → (n ≤ length bytes) × IsNext (bytes ++ more) (takes n m))
    × ((n : ℕ) (r : RefusedHead) → IsNext bytes (refuses n r)
    → IsNext (bytes ++ more) (refuses n r))
