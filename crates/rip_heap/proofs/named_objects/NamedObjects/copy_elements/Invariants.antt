use Rattle.std.proofs.Common.{◌≡◌, ◌-◌, slice_get, slice_range}
use Rattle.rip_heap.specs.Arrays.{elements_of}
use Rattle.rip_heap.specs.NamedObjects.{with_more, with_paid_edit}
use Rattle.rip_heap.proofs.named_objects.NamedObjects.copy_elements.Given as goal

abbrev pub invariant-loop-place : goal.invariant-loop-place
invariant-loop-place l =
    l.self ≡ with_paid_edit l.initial.self l.to (with_more (slice_range (elements_of (slice_get l.initial.self.objects l.at)) l.first l.place)) (l.place - l.first)
