use Rattle.std.proofs.Common.{◌<◌, arith}
use Rattle.rip_heap_region.proofs.ChainLemmas.{places_count}
use Rattle.rip_heap_region.proofs.PlaceLemmas.{chain_walk_links, chain_walk_within, relinking_begun, relinking_step}
use Rattle.rip_heap_region.proofs.buckets.index.relink_chain.Goals as goal

pub loop-number-init : goal.loop-number-init
loop-number-init c = relinking_begun c.args.place c.args.link c.args.pages.now c.args.chain

pub relink_slot-at-requires : goal.relink_slot-at-requires
relink_slot-at-requires c = record {
  within = chain_walk_within c.args.pages.now c.loop-number.pages c.args.chain c.loop-number._number c.loop-number.at c.requires.chain c.loop-number.invariant.walk c.loop-number-test.true;
}

pub loop-number-preserved : goal.loop-number-preserved
loop-number-preserved c =
    relinking_step c.args.place c.args.link c.args.pages.now c.loop-number.pages c.relink_slot-at.new.pages c.args.chain c.loop-number._number c.loop-number.at c.relink_slot-at.result
    c.requires.chain c.loop-number.invariant c.loop-number-test.true c.relink_slot-at.ensures.next c.relink_slot-at.ensures.slot

pub returns-clause-links : goal.returns-clause-links
returns-clause-links c = chain_walk_links c.args.pages.now c.loop-number.pages c.args.chain c.loop-number._number c.loop-number.at c.loop-number.invariant.walk

pub returns-clause-each : goal.returns-clause-each
returns-clause-each c = λ i lt.
    let low : i < c.loop-number._number = omega (arith, lt, places_count c.args.pages.now.properties c.args.chain, c.loop-number-test.false) in
    c.loop-number.invariant.done i low lt
