use Rattle.rip_headline.proofs.Serves.{serves_end_in_time}
use Rattle.rip_headline.proofs.replays.serves_end_in_time.Goals as goal

pub returns : goal.returns
returns c = serves_end_in_time
