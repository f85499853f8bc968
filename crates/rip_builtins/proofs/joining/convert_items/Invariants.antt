use Rattle.std.proofs.Common.{◌≡◌, drop}
use Rattle.rip_heap.specs.Arrays.{elements_at}
use Rattle.rip_heap.specs.Growth.{Grows}
use Rattle.rip_builtins.specs.Joining.{converted}
use Rattle.rip_builtins.proofs.joining.convert_items.Given as goal

abbrev pub invariant-loop-place : goal.invariant-loop-place
invariant-loop-place l =
    (converted l.fn.heap (elements_at l.fn.heap l.array) ≡ converted l.heap (drop l.place (elements_at l.fn.heap l.array))) × (l.heap.objects ≡ l.fn.heap.objects) × Grows l.fn.heap l.heap
