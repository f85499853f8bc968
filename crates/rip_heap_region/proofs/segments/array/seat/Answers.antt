use Rattle.std.proofs.Common.{◌-◌}
use Rattle.rip_heap_region.specs.Pages.{slot_at}
use Rattle.rip_heap_region.proofs.SegmentLemmas.{seat-here}
use Rattle.rip_heap_region.proofs.segments.array.seat.Goals as goal

pub returns : goal.returns
returns c =
    let i = c.loop-first.invariant in
    seat-here c.args.pages.now.elements c.loop-first.at c.args.place (slot_at c.args.pages.now.elements (c.args.top - 1)).link c.loop-first.first.now
    c.requires.segments i.inside i.begun i.here i.owned c.loop-first-test.false i.reached
