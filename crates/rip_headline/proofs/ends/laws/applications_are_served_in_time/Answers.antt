use Rattle.rip_headline.proofs.InTime.{applications_end_in_time}
use Rattle.rip_headline.proofs.ends.laws.applications_are_served_in_time.Goals as goal

pub returns : goal.returns
returns c = applications_end_in_time
