use Rattle.rip_early.specs.Indexed.{names_of}
use Rattle.rip_early.specs.Least.{IsLeast}
use Rattle.rip_early.proofs.Earliest.{mistakes_before}
use Rattle.rip_early.proofs.script.script_mistake.Given as goal

abbrev pub invariant-loop-id : goal.invariant-loop-id
invariant-loop-id l = IsLeast (mistakes_before (names_of l.top) l.tree l.id) l.least
