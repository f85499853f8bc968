use Rattle.rip_headline.proofs.ReplaysLemmas.{replays_end_in_time}
use Rattle.rip_headline.proofs.replays.replays_end_in_time.Goals as goal

pub returns : goal.returns
returns c = replays_end_in_time
