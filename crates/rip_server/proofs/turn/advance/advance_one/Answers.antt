use Rattle.std.proofs.Common.{refl}
use Rattle.rip_server.proofs.TellLemmas.{stepped}
use Rattle.rip_server.proofs.turn.advance.advance_one.Goals as goal

pub returns-clause-advanced : goal.returns-clause-advanced
returns-clause-advanced g c = λ meant limit h stages is replies.
    stepped (g.S.Sessions.stands c.args.sessions.now) (g.S.Sessions.meaning c.args.sessions.now) meant limit c.args.page.now c.args.at.turn c.args.at.time c.args.session
    c.args.connections.now c.tell.new.connections c.advance-advanced.new.self h stages c.advance-advanced.result (g.V.Service.replies_as c.advance-advanced.new.service meant) c.tell.result _ _
    c.tell.ensures.opened (c.advance-advanced.ensures.went_on limit h stages meant is replies refl) c.tell.ensures.told
