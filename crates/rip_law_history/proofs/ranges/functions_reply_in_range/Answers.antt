use Rattle.rip_law_history.proofs.ServiceLemmas.{functions_reply_in_range}
use Rattle.rip_law_history.proofs.ranges.functions_reply_in_range.Goals as goal

pub returns : goal.returns
returns c = functions_reply_in_range
