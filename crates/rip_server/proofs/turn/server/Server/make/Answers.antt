use Rattle.rip_server.proofs.RollLemmas.{first_roll}
use Rattle.rip_server.proofs.turn.server.Server.make.Goals as goal

pub returns-clause-stands : goal.returns-clause-stands
returns-clause-stands g c = λ sessions.
    record {
      connections = c.make.ensures;
      roll = first_roll (g.S.Sessions.stands sessions) (g.S.Sessions.meaning sessions) c.args.limit c.in_ok-make.field-0 c.in_ok-make.ensures.kept;
    }
