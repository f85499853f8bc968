use Rattle.rip_gen.proofs.CountLemmas.{Counted}
use Rattle.rip_gen.proofs.generate.count.many.Given as goal

abbrev pub invariant-loop-entry : goal.invariant-loop-entry
invariant-loop-entry l = Counted l.kind l.entries l.entry-index l.many
