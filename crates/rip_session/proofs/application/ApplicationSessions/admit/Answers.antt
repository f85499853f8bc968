use Rattle.std.proofs.Common.{refl}
use Rattle.rip_wire.specs.Batches.{contents_of}
use Rattle.rip_history.specs.Stages.{with_batch}
use Rattle.rip_session.specs.Application.{doing_of}
use Rattle.rip_session.proofs.SessionLemmas.{admit_stands, done_by}
use Rattle.rip_session.proofs.application.ApplicationSessions.admit.Goals as goal

pub returns-in-Ok-clause-admitted : goal.returns-in-Ok-clause-admitted
returns-in-Ok-clause-admitted c = λ st at may.
    admit_stands c.args.self.now.app.now st (with_batch (contents_of c.args.batch) st) c.args.session.now.replica c.admit.new.replica at c.admit.ensures.world.0 c.admit.ensures.world.1 c.admit.ensures.place may.lives
    (c.admit.ensures.next c.args.self.now.app.now.program (doing_of c.args.self.now.app.now) st (contents_of c.args.batch) (done_by c.args.self.now.app.now) refl c.in-Ok.ensures at.stage may)
    (c.admit.ensures.rooms c.args.self.now.app.now.program)
