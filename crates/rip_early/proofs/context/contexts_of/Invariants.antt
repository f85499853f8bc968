use Rattle.rip_early.specs.Contexts.{AreContexts}
use Rattle.rip_early.proofs.context.contexts_of.Given as goal

abbrev pub invariant-loop-id : goal.invariant-loop-id
invariant-loop-id l = AreContexts l.tree l.id l.contexts.items
