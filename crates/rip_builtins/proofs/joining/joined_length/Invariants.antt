use Rattle.std.proofs.Common.{◌≡◌, length, min, take}
use Rattle.rip_heap.specs.Arrays.{elements_at}
use Rattle.rip_builtins.specs.Pieces.{joined_in}
use Rattle.rip_builtins.proofs.joining.joined_length.Given as goal

abbrev pub invariant-loop-place : goal.invariant-loop-place
invariant-loop-place l = l.length ≡ min (length (joined_in l.heap.pool.units l.fn.separator (take l.place (elements_at l.heap l.array)))) l.most
