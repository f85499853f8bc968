use Rattle.std.proofs.Common.{◌≡◌, ℕ, List, length}
use Rattle.rip_log.specs.Entries.{Recorded}
use Rattle.rip_history.specs.Run.{State, called_so_far}
use Rattle.rip_history.specs.Services.{Service}
use Rattle.rip_history.specs.Stages.{Stage}
use Rattle.rip_table.specs.Rolls.{IsRollOf, IsSound, waiting}
use Rattle.rip_server.specs.Acts.{seen}
use Rattle.rip_server.specs.Links.{AreLinks, links_of}
use Rattle.rip_server.specs.Handling.{state_of, AreAt}
use Rattle.rip_server.specs.Turning.{site_of}
use Rattle.rip_server.proofs.AdvanceLemmas.{Walked}
use Rattle.rip_server.proofs.turn.advance.advance_all.Given as goal

-- the first of the busy sessions went on, and the others wait
abbrev pub invariant-loop-session : goal.invariant-loop-session
invariant-loop-session g l = record {
  links : AreLinks (g.D.Door.is_open l.door) (links_of l.connections);
  opened : l.connections.opened ≡ l.fn.connections.opened;
  sound : IsSound l.roll;
  door : g.D.Door.count l.door ≡ g.D.Door.count l.fn.door;
  sink : g.K.Sink.count l.out ≡ g.K.Sink.count l.fn.out;
  walked : (meant : Service) (limit : ℕ) (h : List Recorded) (stages : List Stage)
      → IsRollOf (g.S.Sessions.stands l.sessions) (g.S.Sessions.meaning l.sessions) limit l.fn.roll h stages
      → g.V.Service.replies_as l.fn.service meant (called_so_far h)
      → Walked (site_of (g.S.Sessions.meaning l.sessions) meant limit l.page) l.at.turn l.at.time (waiting l.fn.roll) (waiting l.roll)
      (state_of (links_of l.fn.connections) h stages)
      (λ (s : State). AreAt (g.S.Sessions.stands l.sessions) (g.S.Sessions.meaning l.sessions) limit l.connections l.roll s
      × g.V.Service.replies_as l.service meant (called_so_far s.history))
      (seen (g.D.Door.sent l.fn.door) (g.D.Door.knocks l.fn.door) (g.D.Door.shuts l.fn.door) (g.D.Door.asked l.fn.door) (g.K.Sink.held l.fn.out))
      (seen (g.D.Door.sent l.door) (g.D.Door.knocks l.door) (g.D.Door.shuts l.door) (g.D.Door.asked l.door) (g.K.Sink.held l.out));
}

abbrev pub decreases-loop-session : goal.decreases-loop-session
decreases-loop-session g l = length (waiting l.roll)
