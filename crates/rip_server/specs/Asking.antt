-- A knock at the door: private to this crate.
use Rattle.std.specs.Prelude.{◌≡◌, ◌≢◌, ◌⊎◌, ℕ, Bool, true, false, List, take, Option, Some, None, Result, Ok, Err}
use Rattle.rip_outer.specs.declared.connections.Knock.{Knock}
use Rattle.rip_outer.specs.declared.connections.Knock.TheVariants.{Opened, Bytes, Gone, Quiet, Closed, Failed}
use Rattle.rip_outer.specs.declared.connections.TraceKnock.{TraceKnock}
use Rattle.rip_outer.specs.declared.connections.TraceKnock.TheVariants as trace
use Rattle.rip_history.specs.Connections.{Connections as Links, after_knock, knock_acts}
use Rattle.rip_history.specs.Run.{State}
use Rattle.rip_server.specs.Acts.{Seen, Did, Stopped}
use Rattle.rip_server.specs.declared.halt.Halt.{Halt}
use Rattle.rip_server.specs.Turning.{Knocks, FailsAsked}

-- what a door tells by a knock, with the bytes of its room; one that fails tells nothing
abbrev pub knock_of : Knock → List ℕ → Option TraceKnock
knock_of (Opened c) room = Some (trace.Opened c)
knock_of (Bytes c n) room = Some (trace.Bytes c (take n room))
knock_of (Gone c) room = Some (trace.Gone c)
knock_of Quiet room = Some trace.Quiet
knock_of Closed room = None
knock_of Failed room = Some trace.Quiet

-- the door is closed exactly where there is no knock
abbrev pub IsClosedBy : Bool → Option TraceKnock → Type 0
IsClosedBy true knock = knock ≡ None
IsClosedBy false knock = knock ≢ None

-- a knock came, or the door is closed; the connections are then those after it
pub record Knocked (s : State) (closed : Bool) (After : Links → Type 0) (old new : Seen) : Type 0 where
  pub knock : Option TraceKnock
  pub closes : IsClosedBy closed knock
  pub mid : Seen
  pub knocks : Knocks s knock old mid
  pub did : Did (knock_acts knock s.connections) mid new
  pub after : After (after_knock knock s.connections)

-- a knock came, and the turn stops in what is done at it
pub record StopsAtKnock (s : State) (old new : Seen) : Type 0 where
  pub knock : Option TraceKnock
  pub mid : Seen
  pub knocks : Knocks s knock old mid
  pub stopped : Stopped (knock_acts knock s.connections) mid new

-- what comes of asking the door
abbrev pub KnocksSo : State → Result Bool Halt → (Links → Type 0) → Seen → Seen → Type 0
KnocksSo s (Ok closed) After old new = Knocked s closed After old new
KnocksSo s (Err halt) After old new = FailsAsked s old new ⊎ StopsAtKnock s old new
