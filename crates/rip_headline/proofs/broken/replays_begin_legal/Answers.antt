use Rattle.rip_headline.proofs.Begins.{replays_begin_legal}
use Rattle.rip_headline.proofs.broken.replays_begin_legal.Goals as goal

pub returns : goal.returns
returns c = replays_begin_legal
