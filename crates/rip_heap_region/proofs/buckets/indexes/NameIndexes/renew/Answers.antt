use Rattle.std.proofs.Common.{subst, sym}
use Rattle.rip_heap_region.specs.Chains.{places_of, properties_of}
use Rattle.rip_heap_region.specs.NameIndex.{IsIndexAt}
use Rattle.rip_heap_region.proofs.PlaceLemmas.{links_then, made_or_none, only_chain}
use Rattle.rip_heap_region.proofs.buckets.indexes.NameIndexes.renew.Goals as goal

pub fill-requires : goal.fill-requires
fill-requires c = record {
  chain = only_chain c.args.pages.now.properties c.extend.new.pages.properties c.args.chain c.extend.ensures.only c.requires.chain;
}

pub returns-clause-links : goal.returns-clause-links
returns-clause-links c =
    links_then c.args.pages.now.properties c.extend.new.pages.properties c.fill.new.pages.properties c.args.chain c.extend.ensures.only c.extend.ensures.links c.fill.ensures.links

pub returns-clause-index : goal.returns-clause-index
returns-clause-index c =
    let pages = c.args.pages.now.properties in
    subst (λ index. IsIndexAt c.args.pool.now c.fill.new.pages.properties (places_of pages c.args.chain) (properties_of pages c.args.chain) c.fill.new.self.blocks index c.args.owner)
    (sym c.unwrap_or.ensures)
    (made_or_none c.args.pool.now pages c.extend.new.pages.properties c.fill.new.pages.properties c.args.chain c.fill.new.self.blocks c.args.owner c.fill.result c.extend.ensures.only c.fill.ensures.index)
