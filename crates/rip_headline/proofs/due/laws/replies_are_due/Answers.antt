use Rattle.rip_headline.proofs.DueTold.{told_due}
use Rattle.rip_headline.proofs.due.laws.replies_are_due.Goals as goal

pub returns : goal.returns
returns g c = told_due _ _
