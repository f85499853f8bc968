use Rattle.std.proofs.Common.{◌-◌, ◌≤◌, arith, ap, length}
use Rattle.rip_heap_region.specs.declared.pages.slot.Slot.{Slot}
use Rattle.rip_heap_region.specs.Pages.{slot_at}
use Rattle.rip_heap_region.specs.Segments.{IsTop, end_of}
use Rattle.rip_heap_region.proofs.SegmentLemmas.{end-within}
use Rattle.rip_heap_region.proofs.segments.array.places.Goals as goal

pub overflow_add-result : goal.overflow_add-result
overflow_add-result c =
    let top : IsTop c.args.pages.now.elements c.args.top = c.requires.top (omega arith) in
    let most : end_of (slot_at c.args.pages.now.elements (c.args.top - 1)) ≤ length c.args.pages.now.elements =
    end-within c.args.pages.now.elements (c.args.top - 1) c.requires.segments (omega (arith, top.some, top.there)) top.begun in
    omega (arith, most, c.len-len.ensures, ap (λ (s : Slot). s.name.start) c.get-first.ensures, ap (λ (s : Slot). s.name.count) c.get-first.ensures)
