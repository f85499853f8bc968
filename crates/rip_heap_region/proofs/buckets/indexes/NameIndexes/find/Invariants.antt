use Rattle.std.proofs.Common.{length}
use Rattle.rip_heap_region.specs.Blocks.{buckets_at}
use Rattle.rip_heap_region.proofs.PlaceLemmas.{PlaceWalk}
use Rattle.rip_heap_region.proofs.buckets.indexes.NameIndexes.find.Given as goal

abbrev pub invariant-loop-left : goal.invariant-loop-left
invariant-loop-left l = PlaceWalk l.pool l.name l.pages.properties l.fn.chain (length (buckets_at l.self.blocks l.index l.owner)) l.left l.found

abbrev pub decreases-loop-left : goal.decreases-loop-left
decreases-loop-left l = l.left
