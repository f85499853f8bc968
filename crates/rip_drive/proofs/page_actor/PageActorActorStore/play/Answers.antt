use Rattle.std.proofs.Common.{◌∙◌, [], ◌∷◌, ◌++◌, ap}
use Rattle.rip_session.specs.Kept.{fits-goes, goes-fits}
use Rattle.rip_wire.specs.Items.{reported_of}
use Rattle.rip_session.specs.Tasks.{Task}
use Rattle.rip_drive.specs.Actors.{page_session}
use Rattle.rip_drive.proofs.Played.{goes_same, played_so}
use Rattle.rip_drive.proofs.page_actor.PageActorActorStore.play.Goals as goal

pub work_of-requires : goal.work_of-requires
work_of-requires c = c.requires

pub invariant_of-self : goal.invariant_of-self
invariant_of-self c = record {
  goes = goes_same c.args.self.now.session.replica.host c.put_item.new.replica.host c.args.self.now.session.replica.heap c.put_item.new.replica.heap
      c.args.self.now.session.goes c.put_item.ensures.world.1 c.put_item.ensures.world.0;
}

pub play_next-requires : goal.play_next-requires
play_next-requires c =
    fits-goes c.put_item.new.replica.host c.put_item.new.replica.heap
    (goes_same c.args.self.now.session.replica.host c.put_item.new.replica.host c.args.self.now.session.replica.heap c.put_item.new.replica.heap
    c.args.self.now.session.goes c.put_item.ensures.world.1 c.put_item.ensures.world.0)

pub invariant_of-self-2 : goal.invariant_of-self-2
invariant_of-self-2 c = (goes-fits c.play_next.new.replica.host c.play_next.new.replica.heap c.play_next.ensures.fits, tt)

pub returns : goal.returns
unfolding page_session
returns c =
    let old = c.args.self.now.session.replica in
    played_so c.args.self.now.app c.program-program.result.now (reported_of c.args.item) old c.put_item.new.replica c.play_next.new.replica c.args.store.now c.play_next.new.service c.in_ok-over.over c.program-program.ensures
    (record {
      batch = c.in_ok-put_item.ensures.batch ∙ ap (λ (w : Task). old.runner.planner.batch.items ++ w ∷ []) c.in_ok-work.ensures;
      items = c.put_item.ensures.items.0;
      begun = c.put_item.ensures.items.1;
      number = c.put_item.ensures.number;
      evaluator = c.put_item.ensures.runs.0;
      full = c.put_item.ensures.runs.1;
      world = c.put_item.ensures.world.0;
      page = c.put_item.ensures.world.1;
    })
    (record {
      batch = ap (λ v. v.items) c.play_next.ensures.batch.0;
      number = c.play_next.ensures.batch.1;
      begun = c.in_ok-over.ensures.begun;
      runs = c.play_next.ensures.runs;
      full = c.play_next.ensures.full;
      plans = c.play_next.ensures.plans;
      whole = c.in_ok-over.ensures.whole;
    })
