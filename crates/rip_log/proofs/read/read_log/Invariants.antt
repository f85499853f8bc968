use Rattle.std.proofs.Common.{length}
use Rattle.rip_log.proofs.HistoryLemmas.{Progress}
use Rattle.rip_log.proofs.read.read_log.Given as goal

-- what is read and what is left make up the whole
abbrev pub invariant-loop-rest : goal.invariant-loop-rest
invariant-loop-rest l = Progress l.fn.text l.entries.items l.rest

abbrev pub decreases-loop-rest : goal.decreases-loop-rest
decreases-loop-rest l = length l.rest
