use Rattle.std.proofs.Common.{ap}
use Rattle.rip_heap_region.specs.declared.pages.slot.Slot.{Slot}
use Rattle.rip_heap_region.proofs.ChainLemmas.{place_within}
use Rattle.rip_heap_region.specs.Blocks.{buckets_at}
use Rattle.rip_heap_region.proofs.PlaceLemmas.{index_dropped}
use Rattle.rip_heap_region.proofs.buckets.indexes.NameIndexes.drop_name.Goals as goal

pub get-requires : goal.get-requires
get-requires c = record {
  within = place_within c.args.pages.now.properties c.args.chain c.requires.among.number c.args.place c.requires.chain c.requires.among.is;
}

pub returns-clause-index : goal.returns-clause-index
returns-clause-index c = λ pool number there h.
    index_dropped pool c.args.pages.now.properties c.relink_chain.new.pages.properties c.args.chain number c.args.place c.get.result.now.link
    (buckets_at c.args.self.now.blocks c.args.index c.args.owner) _ c.requires.chain there (ap (λ (s : Slot). s.link) c.get.ensures) c.relink.ensures.buckets c.relink_chain.ensures.each h
