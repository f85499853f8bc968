use Rattle.std.proofs.Common.{◌≡◌, drop}
use Rattle.rip_heap.specs.Arrays.{elements_at}
use Rattle.rip_builtins.specs.Joining.{all_charged}
use Rattle.rip_builtins.proofs.joining.all_charged_behind.Given as goal

abbrev pub invariant-loop-place : goal.invariant-loop-place
invariant-loop-place l =
    all_charged l.heap.pool l.before (elements_at l.heap l.array) ≡ all_charged l.heap.pool l.used (drop l.place (elements_at l.heap l.array))
