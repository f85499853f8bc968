use Rattle.rip_headline.proofs.HeadlineLemmas.{sessions_are_isolated}
use Rattle.rip_headline.proofs.headline.sessions_are_isolated.Goals as goal

pub returns : goal.returns
returns c = sessions_are_isolated
