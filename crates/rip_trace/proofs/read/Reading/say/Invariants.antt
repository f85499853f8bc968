use Rattle.std.proofs.Common.{length}
use Rattle.rip_trace.proofs.RequestLemmas.{Saying}
use Rattle.rip_trace.proofs.read.Reading.say.Given as goal

-- the pieces so far came, and the rest is left
abbrev pub invariant-loop-rest : goal.invariant-loop-rest
invariant-loop-rest l = Saying l.initial.self l.fn.c l.fn.bytes l.self l.rest

abbrev pub decreases-loop-rest : goal.decreases-loop-rest
decreases-loop-rest l = length l.rest
