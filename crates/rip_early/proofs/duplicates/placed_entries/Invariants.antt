use Rattle.std.proofs.Common.{◌≡◌, take}
use Rattle.rip_early.specs.Mistakes.{placed_entry}
use Rattle.rip_early.proofs.Repeating.{placed_among}
use Rattle.rip_early.proofs.duplicates.placed_entries.Given as goal

abbrev pub invariant-loop-child : goal.invariant-loop-child
invariant-loop-child l = l.names.items ≡ placed_among (placed_entry l.tree) l.tree (take l.child-index l.links)
