-- What a connection answers, by what stands at the front of its unread bytes.
use Rattle.std.specs.Prelude.{◌≡◌, ℕ, List, drop}
use Rattle.rip_http.specs.Stream.{waits, refuses, takes, IsNext, code_of}
use Rattle.rip_http.specs.declared.request.Message.{Message as Request}
use Rattle.rip_http.specs.declared.request.RefusedHead.{RefusedHead}
use Rattle.rip_http.specs.declared.conn.Taken.{Taken}
use Rattle.rip_http.specs.declared.conn.Taken.TheVariants.{Message, NotYet, Refused, Memory}

-- what is answered, from the unread bytes before and those left
abbrev pub IsTaken : List ℕ → List ℕ → Taken → Type 0
IsTaken unread left (Message m) = (n : ℕ) × IsNext unread (takes n m) × (left ≡ drop n unread)
IsTaken unread left NotYet = IsNext unread waits × (left ≡ unread)
IsTaken unread left (Refused code) =
    (n : ℕ) × (r : RefusedHead) × IsNext unread (refuses n r)
    × (code ≡ code_of r.refusal) × (left ≡ unread)
IsTaken unread left Memory = (n : ℕ) × (m : Request) × IsNext unread (takes n m) × (left ≡ unread)
