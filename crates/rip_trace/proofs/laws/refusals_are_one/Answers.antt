use Rattle.rip_trace.proofs.TraceLemmas.{refusals}
use Rattle.rip_trace.proofs.laws.refusals_are_one.Goals as goal

pub returns : goal.returns
returns c = refusals
