use Rattle.std.specs.Prelude.{take}
use Rattle.rip_heap_region.specs.Chains.{places_of, properties_of}
use Rattle.rip_heap_region.specs.Blocks.{OthersStay, buckets_at}
use Rattle.rip_heap_region.specs.NameIndex.{IsPlaced}
use Rattle.rip_heap_region.proofs.PlaceLemmas.{ChainWalk}
use Rattle.rip_heap_region.proofs.buckets.indexes.NameIndexes.fill.Given as goal

abbrev pub invariant-loop-number : goal.invariant-loop-number
invariant-loop-number l = record {
  walk : ChainWalk l.fn.pages l.pages l.fn.chain l._number l.place;
  index : IsPlaced l.pool l.pages.properties (take l._number (places_of l.fn.pages.properties l.fn.chain)) (take l._number (properties_of l.fn.pages.properties l.fn.chain))
      (buckets_at l.self.blocks l.index l.owner);
  others : OthersStay l.owner l.fn.self.blocks l.self.blocks;
}
