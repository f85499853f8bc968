use Rattle.std.proofs.Common.{◌-◌, ◌≡◌, ◌<◌}
use Rattle.rip_heap_region.specs.Pages.{slot_at}
use Rattle.rip_heap_region.specs.Chains.{IfOneOf, places_of}
use Rattle.rip_heap_region.proofs.chains.chain.place_before.Given as goal

abbrev pub invariant-loop-next : goal.invariant-loop-next
invariant-loop-next l = record {
  here : IfOneOf l.at (places_of l.pages.properties l.fn.chain);
  below : l.at < l.place;
  next : l.next ≡ (slot_at l.pages.properties l.at).next;
}

abbrev pub decreases-loop-next : goal.decreases-loop-next
decreases-loop-next l = l.place - l.at
