use Rattle.std.proofs.Common.{◌≡◌}
use Rattle.rip_heap.specs.Arrays.{elements_at}
use Rattle.rip_builtins.specs.Arrays.{first_equal}
use Rattle.rip_builtins.proofs.arrays.first_equal.Given as goal

abbrev pub invariant-loop-place : goal.invariant-loop-place
invariant-loop-place l = first_equal l.heap.pool l.v (elements_at l.heap l.array) l.place ≡ first_equal l.heap.pool l.v (elements_at l.heap l.array) l.from
