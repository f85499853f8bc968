use Rattle.rip_gen.proofs.PaceLemmas.{PacedTo}
use Rattle.rip_gen.proofs.generate.pace.check_pace.Given as goal

abbrev pub invariant-loop-entry : goal.invariant-loop-entry
invariant-loop-entry l = PacedTo l.entries l.entry-index l.answered
