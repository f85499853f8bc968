use Rattle.std.proofs.Common.{◌≡◌, take}
use Rattle.rip_heap.specs.Arrays.{elements_at}
use Rattle.rip_heap.specs.Growth.{Grows}
use Rattle.rip_builtins.specs.Pieces.{joined_in, with_units}
use Rattle.rip_builtins.proofs.joining.add_pieces.Given as goal

abbrev pub invariant-loop-place : goal.invariant-loop-place
invariant-loop-place l =
    (l.heap ≡ with_units l.fn.heap (joined_in (take l.end l.fn.heap.pool.units) l.fn.separator (take l.place (elements_at l.fn.heap l.array)))) × Grows l.fn.heap l.heap
