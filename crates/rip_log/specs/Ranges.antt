-- Which entries a log may have.
use Rattle.std.specs.Prelude.{◌≡◌, ◌⊎◌, ℕ, ◌<◌, ◌≤◌, ◌^◌, List, Option, Some, None, ⊤}
use Rattle.rip_wire.specs.Batches.{IsBatch}
use Rattle.rip_wire.specs.Calls.{IsCallText}
use Rattle.rip_wire.specs.Items.{AreArgs}
use Rattle.rip_wire.specs.Names.{IsName}
use Rattle.rip_wire.specs.declared.ending.Ending.{Ending}
use Rattle.rip_wire.specs.declared.ending.Ending.TheVariants as E
use Rattle.rip_log.specs.Parts.{IsReply, IsNoneOrCallText}
use Rattle.rip_log.specs.Entries.{Recorded, opened, admitted, served, done, closed, ended}

-- a number of 64 bits: a turn, a moment
abbrev pub IsLong : ℕ → Type 0
IsLong n = n < 2 ^ 64

-- a number of 32 bits: the ordinal of a session, the place of an item, the number of a call, a seed
abbrev pub IsShort : ℕ → Type 0
IsShort n = n < 2 ^ 32

-- how a batch ended; that a client closed a session is an entry of its own
abbrev pub IsEnding : Ending → Type 0
IsEnding (E.Mismatch item number reported made) = IsShort item × IsShort number × IsCallText reported × IsNoneOrCallText made
IsEnding (E.BadReport item kind) = IsShort item
IsEnding (E.Limit item limit) = IsShort item
IsEnding (E.Fault item fault) = IsShort item
IsEnding (E.Memory item) = IsShort item
IsEnding E.Closed = ⊥

-- well, or so
abbrev pub IsNoneOrEnding : Option Ending → Type 0
IsNoneOrEnding None = ⊤
IsNoneOrEnding (Some ending) = IsEnding ending

-- a call that was served: batches are numbered from 1
pub record IsServed (n k : ℕ) (call : List ℕ) (moment : ℕ) : Type 0 where
  pub from_one : 1 ≤ n
  pub bounded : n < 2 ^ 53
  pub number : IsShort k
  pub name : IsName call
  pub time : IsLong moment

-- all is over, or the turns are spent
abbrev pub IsStatus : ℕ → Type 0
IsStatus status = (status ≡ 0) ⊎ (status ≡ 3)

-- an entry whose parts are in range; the batch of an opening is 0
abbrev pub IsRecorded : Recorded → Type 0
IsRecorded (opened turn session id seed time) = IsLong turn × IsShort session × (id < 2 ^ 128) × IsShort seed × IsLong time
IsRecorded (admitted turn session batch) = IsLong turn × IsShort session × IsBatch batch
IsRecorded (served turn session batch number name args time reply) =
    IsLong turn × IsShort session × IsServed batch number name time × AreArgs args × IsReply reply
IsRecorded (done turn session batch how) = IsLong turn × IsShort session × (batch < 2 ^ 53) × IsNoneOrEnding how
IsRecorded (closed turn session) = IsLong turn × IsShort session
IsRecorded (ended turn status) = IsLong turn × IsStatus status
