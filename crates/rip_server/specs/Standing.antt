-- How a server stands.
use Rattle.std.specs.Prelude.{◌≡◌, ℕ, ◌≤◌}
use Rattle.rip_history.specs.Parts.{Meaning}
use Rattle.rip_history.specs.Run.{State}
use Rattle.rip_history.specs.Stages.{Stage}
use Rattle.rip_server.specs.Links.{links_of, AreLinks}
use Rattle.rip_table.specs.Rolls.{IsSound, IsAtRest, IsRollOf}
use Rattle.rip_server.specs.declared.turn.server.Server.{Server}

-- its connections are numbered in the order of their opening and open at the door; no more were opened than turns were
-- made; and it is between two turns
pub record IsReady {T : Type 0} (open_at : ℕ → Type 0) (server : Server T) : Type 0 where
  pub links : AreLinks open_at (links_of server.connections)
  pub opened : server.connections.opened ≤ server.turns
  pub sound : IsSound server.roll
  pub rest : IsAtRest server.roll

-- it stands as the machine does: its connections, and its sessions, of which so many may live, are those of this state
pub record IsServer {T : Type 0} (stands : T → Stage → Type 0) (m : Meaning) (limit : ℕ) (server : Server T) (s : State) : Type 0 where
  pub connections : links_of server.connections ≡ s.connections
  pub roll : IsRollOf stands m limit server.roll s.history s.stages
