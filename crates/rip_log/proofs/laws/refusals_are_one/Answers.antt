use Rattle.rip_log.proofs.HistoryLemmas.{refusals}
use Rattle.rip_log.proofs.laws.refusals_are_one.Goals as goal

pub returns : goal.returns
returns c = refusals
