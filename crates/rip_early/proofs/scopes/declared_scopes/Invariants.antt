use Rattle.rip_early.specs.Gathered.{AreGathered}
use Rattle.rip_early.proofs.scopes.declared_scopes.Given as goal

abbrev pub invariant-loop-id : goal.invariant-loop-id
invariant-loop-id l = AreGathered l.tree 0 l.id l.scopes.items
