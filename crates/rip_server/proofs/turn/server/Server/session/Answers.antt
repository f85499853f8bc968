-- The roll's session.
use Rattle.rip_server.proofs.turn.server.Server.session.Goals as goal

pub returns-clause-lives : goal.returns-clause-lives
returns-clause-lives g c = λ sessions limit state is. c.session.ensures.lives limit state.history is.roll.kept

pub returns-clause-stands : goal.returns-clause-stands
returns-clause-stands g c = λ sessions limit state is. c.session.ensures.stands sessions limit state.history state.stages is.roll
