use Rattle.std.proofs.Common.{◌≡◌, ◌++◌, map}
use Rattle.std.specs.List.{range_with_len}
use Rattle.rip_early.specs.Indexed.{names_of}
use Rattle.rip_early.specs.Scopes.{scoping_at}
use Rattle.rip_early.proofs.program.push_scoping.Given as goal

abbrev pub invariant-loop-id : goal.invariant-loop-id
invariant-loop-id l = l.scoping.items ≡ l.initial.scoping.items ++ map (scoping_at (names_of l.top) l.tree) (range_with_len 0 l.id)
