use Rattle.std.proofs.Common.{◌≡◌, ◌-◌, ◌<◌, length}
use Rattle.rip_heap_region.specs.Pages.{slot_at}
use Rattle.rip_heap_region.specs.Segments.{end_of}
use Rattle.rip_heap_region.proofs.segments.array.seat.Given as goal

abbrev pub invariant-loop-first : goal.invariant-loop-first
invariant-loop-first l = record {
  inside : l.at < length l.pages.elements;
  here : l.first ≡ slot_at l.pages.elements l.at;
  begun : 0 < (slot_at l.pages.elements l.at).name.count;
  owned : (slot_at l.pages.elements l.at).link ≡ (slot_at l.pages.elements (l.top - 1)).link;
  reached : l.place < end_of (slot_at l.pages.elements l.at);
}

abbrev pub decreases-loop-first : goal.decreases-loop-first
decreases-loop-first l = l.at
