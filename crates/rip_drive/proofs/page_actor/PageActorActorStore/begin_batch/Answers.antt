use Rattle.rip_drive.specs.Actors.{page_session}
use Rattle.rip_drive.proofs.Played.{turned_so}
use Rattle.rip_drive.proofs.page_actor.PageActorActorStore.begin_batch.Goals as goal

pub returns : goal.returns
unfolding page_session
returns c =
    turned_so c.args.self.now.app c.args.number c.args.self.now.session.replica c.open_batch.new.replica (record {
      plans = c.open_batch.ensures.items.0;
      items = c.open_batch.ensures.items.1;
      begun = c.open_batch.ensures.items.2;
      number = c.open_batch.ensures.number;
      evaluator = c.open_batch.ensures.runs.0;
      full = c.open_batch.ensures.runs.1;
      world = c.open_batch.ensures.world.0;
      page = c.open_batch.ensures.world.1;
    })
