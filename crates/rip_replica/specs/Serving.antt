-- A call is served.
use Rattle.std.specs.Prelude.{◌≡◌, ℕ, List, [], ◌∷◌, ◌++◌, map, Option, None, Some}
use Rattle.rip_data.specs.Datum.{Tree, trees_in}
use Rattle.rip_wire.specs.Answers.{served_of}
use Rattle.rip_wire.specs.Items.{AreArgs}
use Rattle.rip_log.specs.Entries.{recorded_of}
use Rattle.rip_log.specs.Entries as entry
use Rattle.rip_history.specs.Parts.{Fact, passes, serves, finishes, Given}
use Rattle.rip_history.specs.Services.{Called, Service}
use Rattle.rip_history.specs.declared.sessions.Made.{Made}
use Rattle.rip_history.specs.declared.sessions.Slice.{Slice}
use Rattle.rip_replica.specs.declared.works.Call.{Call}

-- this is the call of an item that comes to this
abbrev pub IsCallOf : Fact → Option Call → Type 0
IsCallOf passes None = Unit {0}
IsCallOf passes (Some call) = ⊥
IsCallOf (serves number name args) None = ⊥
IsCallOf (serves number name args) (Some call) = (call.number ≡ number) × (call.name ≡ name) × (trees_in call.args ≡ args)
IsCallOf (finishes how) None = Unit {0}
IsCallOf (finishes how) (Some call) = ⊥

-- what the call is given
abbrev pub given_to : Service → List Called → ℕ → List ℕ → List Tree → Given
given_to service calls time name args = record { time = time; reply = service calls (name, args) }

-- the call was served with this: its entry and its answer are there, and the service replies as after it
pub record IsServed (slice : Slice) (batch number : ℕ) (name : List ℕ) (args : List Tree) (g : Given) (calls : List Called) (old new : Made)
    (Replies : List Called → Type 0) : Type 0 where
  pub entries : map recorded_of new.entries.items
      ≡ map recorded_of old.entries.items ++ entry.served slice.turn slice.session batch number name args g.time g.reply ∷ []
  pub served : map served_of new.served.items ≡ map served_of old.served.items ++ record { number = number; time = g.time; reply = g.reply } ∷ []
  pub replies : Replies (calls ++ (name, args) ∷ [])

-- nothing was served
pub record IsUnserved (calls : List Called) (old new : Made) (Replies : List Called → Type 0) : Type 0 where
  pub entries : map recorded_of new.entries.items ≡ map recorded_of old.entries.items
  pub served : map served_of new.served.items ≡ map served_of old.served.items
  pub replies : Replies calls

-- the args of a call are in range
abbrev pub HasArgs : Option Call → Type 0
HasArgs None = Unit {0}
HasArgs (Some call) = AreArgs (trees_in call.args)
