use Rattle.rip_drive.proofs.Played.{opened_always}
use Rattle.rip_drive.proofs.page_actor.PageActorOpenable.play_opening.Goals as goal

pub returns : goal.returns
returns c = opened_always c.args.self.now c.open.new.self c.args.store.now c.open.new.store c.open.result c.open.ensures
