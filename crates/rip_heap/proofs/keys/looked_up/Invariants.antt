use Rattle.std.proofs.Common.{◌≡◌, ◌+◌}
use Rattle.std.specs.Option.{option_map_or}
use Rattle.rip_heap.specs.Keys.{looked_up}
use Rattle.rip_heap.specs.Sound.{HaveOlderProtos}
use Rattle.rip_heap.proofs.LookUpLemmas.{beyond}
use Rattle.rip_heap.proofs.keys.looked_up.Given as goal

abbrev pub invariant-loop-at : goal.invariant-loop-at
invariant-loop-at l =
    (beyond l.at (λ number. looked_up l.heap number l.name) ≡ looked_up l.heap l.object l.name)
    × HaveOlderProtos l.heap.objects

abbrev pub decreases-loop-at : goal.decreases-loop-at
decreases-loop-at l = option_map_or (λ number. number + 1) l.at 0
