use Rattle.std.proofs.Common.{refl}
use Rattle.rip_drive.proofs.page_actor.PageActor.make.Goals as goal

pub returns : goal.returns
returns c = (refl, c.in_ok-session.ensures)
