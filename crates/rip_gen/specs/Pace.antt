-- Requests that come one after another, each right behind the answer to the one before.
use Rattle.std.specs.Prelude.{◌≡◌, ℕ, ◌+◌, List, [], ◌∷◌, Option, Some, None}
use Rattle.rip_data.specs.Datum.{Tree}
use Rattle.rip_wire.specs.Batches.{Contents}
use Rattle.rip_wire.specs.declared.ending.Ending.{Ending}
use Rattle.rip_log.specs.Entries.{Recorded, opened, admitted, served, done, ended}

-- an entry, where the request before it was answered in this turn, or its answer is awaited, and what holds behind it: a
-- session is opened in the second turn behind the answer, since the line that opens its connection takes one; a batch is
-- admitted in the turn behind it; calls are served, and then it is done, which answers it; the run ends in the turn behind
-- the last answer
pub data Paces : Option ℕ → Recorded → Option ℕ → Type 0 where
  opens : (last turn session id seed time : ℕ) → turn ≡ last + 2 → Paces (Some last) (opened turn session id seed time) None
  admits : (last turn session : ℕ) (batch : Contents) → turn ≡ last + 1 → Paces (Some last) (admitted turn session batch) None
  serves : (turn session batch number : ℕ) (name : List ℕ) (args : List Tree) (time : ℕ) (reply : Tree) → Paces None (served turn session batch number name args time reply) None
  answers : (turn session batch : ℕ) (how : Option Ending) → Paces None (done turn session batch how) (Some turn)
  ends : (last turn status : ℕ) → turn ≡ last + 1 → Paces (Some last) (ended turn status) (Some last)

-- the entries of a history, where this holds before the first
pub data ArePaced : Option ℕ → List Recorded → Type 0 where
  none : (now : Option ℕ) → ArePaced now []
  more : (now next : Option ℕ) (entry : Recorded) (history : List Recorded) → Paces now entry next → ArePaced next history → ArePaced now (entry ∷ history)

-- a whole history: turns are numbered from 1, and no request is before the first
abbrev pub IsPaced : List Recorded → Type 0
IsPaced history = ArePaced (Some 0) history
