use Rattle.rip_log.proofs.HistoryLemmas.{logs}
use Rattle.rip_log.proofs.laws.logs_tell_histories.Goals as goal

pub returns : goal.returns
returns c = logs
