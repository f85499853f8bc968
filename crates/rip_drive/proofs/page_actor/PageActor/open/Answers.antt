use Rattle.rip_session.specs.Kept.{fits-goes, goes-fits}
use Rattle.rip_drive.proofs.Played.{opened_so}
use Rattle.rip_drive.proofs.page_actor.PageActor.open.Goals as goal

pub play_next-requires : goal.play_next-requires
play_next-requires c = fits-goes c.args.self.now.session.replica.host c.args.self.now.session.replica.heap c.args.self.now.session.goes

pub invariant_of-self : goal.invariant_of-self
invariant_of-self c = (goes-fits c.play_next.new.replica.host c.play_next.new.replica.heap c.play_next.ensures.fits, tt)

pub returns : goal.returns
returns c =
    opened_so c.args.self.now.app c.program-program.result.now c.args.self.now.session.replica c.play_next.new.replica c.args.store.now c.play_next.new.service c.play_next.result c.program-program.ensures
    c.play_next.ensures.batch.0 c.play_next.ensures.batch.1 c.play_next.ensures.full c.play_next.ensures.runs c.play_next.ensures.plans c.play_next.ensures.begun c.play_next.ensures.whole
