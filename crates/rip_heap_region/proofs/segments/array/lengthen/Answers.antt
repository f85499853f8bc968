use Rattle.std.proofs.Common.{◌-◌, ◌+◌, ◌≤◌, arith, ap, length}
use Rattle.rip_heap_region.specs.declared.pages.slot.Slot.{Slot}
use Rattle.rip_heap_region.specs.Pages.{slot_at}
use Rattle.rip_heap_region.specs.Segments.{blank_of}
use Rattle.rip_heap_region.proofs.SegmentLemmas.{lengthened}
use Rattle.rip_heap_region.proofs.segments.array.lengthen.Goals as goal

pub overflow_add-name : goal.overflow_add-name
overflow_add-name c =
    let top = c.requires.top in
    let most : c.args.top - 1 + (slot_at c.args.pages.now.elements (c.args.top - 1)).name.count ≤ length c.args.pages.now.elements =
    (c.requires.segments (c.args.top - 1) (omega (arith, top.some, top.there)) top.begun).within in
    omega (arith, most, c.requires.room, c.room-room.ensures, ap (λ (s : Slot). s.name.count) c.get-first.ensures)

pub returns : goal.returns
returns c =
    let top = c.requires.top in
    lengthened c.args.pages.now c.set.new.self c.push.new.self (c.args.top - 1) c.get-first.result.now (record (blank_of c.args.owner) { value = c.args.value })
    (omega (arith, top.some, top.there)) c.get-first.ensures c.set.ensures c.push.ensures
