use Rattle.std.proofs.Common.{◌≡◌, ◌≤◌, ◌-◌, []}
use Rattle.rip_history.specs.Run.{State, first_state, called_so_far}
use Rattle.rip_history.specs.Services.{Service}
use Rattle.rip_server.specs.Acts.{seen}
use Rattle.rip_server.specs.Standing.{IsReady, IsServer}
use Rattle.rip_server.specs.Turning.{outer, source, site_of}
use Rattle.rip_serve.proofs.RunLemmas.{Went}
use Rattle.rip_serve.proofs.serving.make_turns.Given as goal

abbrev pub invariant-loop-server : goal.invariant-loop-server
invariant-loop-server g l =
    let sessions = l.site.sessions.now in
    let limit = l.site.limit in
    record {
      ready : IsReady (g.D.Door.is_open l.door) l.server;
      few : l.server.turns ≤ l.turns;
      door : g.D.Door.count l.door ≡ g.D.Door.count l.fn.door;
      sink : g.K.Sink.count l.out ≡ g.K.Sink.count l.fn.out;
      went : (meant : Service)
          → IsServer (g.S.Sessions.stands sessions) (g.S.Sessions.meaning sessions) limit l.fn.server first_state
          → g.V.Service.replies_as l.fn.service meant []
          → Went (site_of (g.S.Sessions.meaning sessions) meant limit l.site.page.now) l.server.turns
          (λ (next : State). IsServer (g.S.Sessions.stands sessions) (g.S.Sessions.meaning sessions) limit l.server next
          × g.V.Service.replies_as l.service meant (called_so_far next.history))
          (outer (seen (g.D.Door.sent l.fn.door) (g.D.Door.knocks l.fn.door) (g.D.Door.shuts l.fn.door) (g.D.Door.asked l.fn.door) (g.K.Sink.held l.fn.out))
          (source (g.C.Clock.told l.fn.clock) (g.C.Clock.coming l.fn.clock)) (source (g.W.Words.told l.fn.words) (g.W.Words.coming l.fn.words))
          (g.D.Door.count l.fn.door) (g.K.Sink.count l.fn.out))
          (outer (seen (g.D.Door.sent l.door) (g.D.Door.knocks l.door) (g.D.Door.shuts l.door) (g.D.Door.asked l.door) (g.K.Sink.held l.out))
          (source (g.C.Clock.told l.clock) (g.C.Clock.coming l.clock)) (source (g.W.Words.told l.words) (g.W.Words.coming l.words))
          (g.D.Door.count l.door) (g.K.Sink.count l.out));
    }

abbrev pub decreases-loop-server : goal.decreases-loop-server
decreases-loop-server g l = l.turns - l.server.turns
