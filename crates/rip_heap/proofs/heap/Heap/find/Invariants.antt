use Rattle.std.proofs.Common.{◌≡◌, ◌+◌}
use Rattle.std.specs.Option.{option_map_or}
use Rattle.std.specs.Prelude.{option_and_then}
use Rattle.rip_heap.specs.Objects.{find}
use Rattle.rip_heap.specs.Sound.{HaveOlderProtos}
use Rattle.rip_heap.proofs.heap.Heap.find.Given as goal

abbrev pub invariant-loop-at : goal.invariant-loop-at
invariant-loop-at l =
    (option_and_then (λ number. find l.self number l.name) l.at ≡ find l.self l.object l.name)
    × HaveOlderProtos l.self.objects

abbrev pub decreases-loop-at : goal.decreases-loop-at
decreases-loop-at l = option_map_or (λ number. number + 1) l.at 0
