use Rattle.rip_headline.proofs.Going.{done_go_no_further, ended_are_alike, shorter_stopped}
use Rattle.rip_headline.proofs.isolation.sessions_go_alike.Goals as goal

pub returns-clause-no_further : goal.returns-clause-no_further
returns-clause-no_further c = done_go_no_further

pub returns-clause-stopped : goal.returns-clause-stopped
returns-clause-stopped c = shorter_stopped

pub returns-clause-ended : goal.returns-clause-ended
returns-clause-ended c = ended_are_alike
