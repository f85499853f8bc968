use Rattle.rip_heap_region.proofs.SegmentLemmas.{begun-more, begun-room}
use Rattle.rip_heap_region.proofs.segments.array.begin.Goals as goal

pub loop-preserved : goal.loop-preserved
loop-preserved c =
    begun-more c.args.pages.now c.loop.pages c.push-in-loop.new.self c.args.first c.loop.counter c.args.first.link c.loop.invariant c.push-in-loop.ensures

pub push-requires-in-loop : goal.push-requires-in-loop
push-requires-in-loop c = record {
  room = begun-room c.args.pages.now c.loop.pages c.args.first c.loop.counter c.args.more c.args.first.link c.loop.invariant c.requires.room c.loop-test.true;
}
