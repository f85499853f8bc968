use Rattle.std.proofs.Common.{◌≡◌, take}
use Rattle.rip_heap.specs.NamedObjects.{with_more, with_paid_edit}
use Rattle.rip_heap.proofs.named_objects.NamedObjects.push_elements.Given as goal

abbrev pub invariant-loop-item : goal.invariant-loop-item
invariant-loop-item l = l.self ≡ with_paid_edit l.initial.self l.at (with_more (take l.item-index l.items)) l.item-index
