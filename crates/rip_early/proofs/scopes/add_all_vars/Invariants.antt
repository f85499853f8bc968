use Rattle.std.proofs.Common.{length}
use Rattle.rip_early.specs.Gathered.{AreGathered}
use Rattle.rip_early.proofs.scopes.add_all_vars.Given as goal

abbrev pub invariant-loop-id : goal.invariant-loop-id
invariant-loop-id l = AreGathered l.tree l.id-index (length l.tree.branches) l.scopes.items
