use Rattle.rip_headline.proofs.InTime.{runs_end_in_time}
use Rattle.rip_headline.proofs.ends.laws.runs_end_in_time.Goals as goal

pub returns : goal.returns
returns c = runs_end_in_time
