-- What the sessions of an application have taken of the limits of its manifest.
use Rattle.std.specs.Prelude.{◌≡◌, ℕ, ◌≤◌, Some}
use Rattle.rip_limits.specs.declared.limits.Limits.{Limits}
use Rattle.rip_app.specs.App.{Loaded}
use Rattle.rip_heap.specs.World.{World}
use Rattle.rip_host.specs.declared.browser.Browser.{Browser}
use Rattle.rip_history.specs.Run.{State}
use Rattle.rip_history.specs.Stages.{Stage}
use Rattle.rip_table.specs.Ordinals.{get_at}
use Rattle.rip_table.specs.Rolls.{seats}
use Rattle.rip_table.specs.Seats.{Held}
use Rattle.rip_table.specs.declared.roll.seat.Seat.TheVariants.{Live}
use Rattle.rip_server.specs.declared.turn.server.Server.{Server}
use Rattle.rip_server.specs.Standing.{IsServer}
use Rattle.rip_session.specs.declared.application.Session.{Session}
use Rattle.rip_replica.specs.Cuts.{CutAfter, StandsDone, StandsEnded}
use Rattle.rip_session.specs.Application.{IsPageWithin, StandsAt, doing_of, meaning_of_app, runs_of}
use Rattle.rip_session.specs.Limits.{PassesNoLimit}
use Rattle.rip_headline.specs.declared.limits.counts.Used.{Used}
use Rattle.rip_headline.specs.Within.{used_in}

-- the cells and the units are within these limits
pub record IsAllowed (limits : Limits) (u : Used) : Type 0 where
  pub cells : u.cells ≤ limits.cells
  pub units : u.units ≤ limits.units

-- the nodes and attributes, the depth, the bytes that wait and the undelivered replies are too
pub record IsPageAllowed (limits : Limits) (u : Used) : Type 0 where
  pub nodes : u.nodes ≤ limits.nodes
  pub depth : u.depth ≤ limits.depth
  pub waiting : u.waiting ≤ limits.queue
  pub replies : u.replies ≤ limits.replies

-- these are the counts of the world and the page, and of the depth that is open, in which the last batch of a session is cut after
-- the units that it got
pub record IsUsedAtCut (app : Loaded) (st : Stage) (u : Used) : Type 0 where
  pub depth : ℕ
  pub world : World
  pub page : Browser
  pub cut : CutAfter (doing_of app st.seed st.time) st.batches st.given st.units depth world page
  pub used : u ≡ used_in world depth page

-- these are the counts of the world and the page, where nothing of the depth is open, in which a session stands whose last batch is
-- done and that lives
pub record IsUsedBehind (app : Loaded) (st : Stage) (u : Used) : Type 0 where
  pub world : World
  pub page : Browser
  pub stands : StandsDone (doing_of app st.seed st.time) st.batches st.given world page
  pub used : u ≡ used_in world 0 page

-- and in which one stands that has ended
pub record IsUsedAtEnd (app : Loaded) (st : Stage) (u : Used) : Type 0 where
  pub world : World
  pub page : Browser
  pub stands : StandsEnded (doing_of app st.seed st.time) st.batches st.given st.lacking world page
  pub used : u ≡ used_in world 0 page

-- in each server of an application, of whose sessions so many may live, that stands as the machine of turns does, the heap, the
-- page and the runs of each session that lives pass no limit of the manifest
abbrev pub SessionsStayWithin : Type 0
SessionsStayWithin = (app : Loaded) (live : ℕ) (server : Server Session) (state : State)
    → IsServer (λ (session : Session) (st : Stage). StandsAt app session.replica st) (meaning_of_app app) live server state
    → (n : ℕ) (held : Held Session) → get_at n (seats server.roll) ≡ Some (Live held)
    → PassesNoLimit app.manifest.limits held.value.session.replica.heap
    × IsPageWithin app.manifest.limits (runs_of app) held.value.session.replica
