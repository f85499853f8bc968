use Rattle.rip_trace.proofs.TraceLemmas.{traces}
use Rattle.rip_trace.proofs.laws.traces_are_one.Goals as goal

pub returns : goal.returns
returns c = traces
