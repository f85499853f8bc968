use Rattle.std.proofs.Common.{◌≡◌, ℕ, List}
use Rattle.std.specs.Prelude.{Ok}
use Rattle.rip_log.specs.Entries.{Recorded}
use Rattle.rip_history.specs.Run.{Site, State}
use Rattle.rip_history.specs.Stages.{Stage}
use Rattle.rip_table.specs.Rolls.{IsRollOf, IsSound, IsAtRest}
use Rattle.rip_server.specs.Acts.{seen}
use Rattle.rip_server.specs.Links.{AreLinks, links_of, there_of}
use Rattle.rip_server.specs.Handling.{state_of, AreAt, HandledSo, IsQuietBefore, weight_from}
use Rattle.rip_server.specs.Turning.{source}
use Rattle.rip_server.proofs.turn.handle.handle_all.Given as goal

-- so far requests were handled, and no connection before the place has anything to handle
abbrev pub invariant-loop-place : goal.invariant-loop-place
invariant-loop-place g l = record {
  links : AreLinks (g.D.Door.is_open l.door) (links_of l.connections);
  opened : l.connections.opened ≡ l.fn.connections.opened;
  sound : IsSound l.roll;
  rest : IsAtRest l.roll;
  door : g.D.Door.count l.door ≡ g.D.Door.count l.fn.door;
  sink : g.K.Sink.count l.out ≡ g.K.Sink.count l.fn.out;
  handled : (site : Site) (h : List Recorded) (stages : List Stage)
      → IsRollOf (g.S.Sessions.stands l.sessions) (g.S.Sessions.meaning l.sessions) site.limit l.fn.roll h stages
      → HandledSo site l.at.turn l.at.time (state_of (links_of l.fn.connections) h stages) (Ok l.place)
      (λ (place : ℕ) (s : State). AreAt (g.S.Sessions.stands l.sessions) (g.S.Sessions.meaning l.sessions) site.limit l.connections l.roll s × IsQuietBefore place s)
      (seen (g.D.Door.sent l.fn.door) (g.D.Door.knocks l.fn.door) (g.D.Door.shuts l.fn.door) (g.D.Door.asked l.fn.door) (g.K.Sink.held l.fn.out))
      (seen (g.D.Door.sent l.door) (g.D.Door.knocks l.door) (g.D.Door.shuts l.door) (g.D.Door.asked l.door) (g.K.Sink.held l.out))
      (source (g.W.Words.told l.fn.words) (g.W.Words.coming l.fn.words)) (source (g.W.Words.told l.words) (g.W.Words.coming l.words));
}

abbrev pub decreases-loop-place : goal.decreases-loop-place
decreases-loop-place g l = weight_from l.place (there_of l.connections.list.items)
