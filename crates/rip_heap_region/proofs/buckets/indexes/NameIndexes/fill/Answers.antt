use Rattle.std.proofs.Common.{◌<◌, ◌/◌, ◌∙◌, ap, arith}
use Rattle.rip_heap_region.specs.declared.pages.slot.Slot.{Slot}
use Rattle.rip_heap_region.proofs.PlaceLemmas.{chain_walk_begun, chain_walk_step, chain_walk_within, fill_step, filled_whole, placed_empty, placed_some}
use Rattle.rip_heap_region.proofs.buckets.indexes.NameIndexes.fill.Goals as goal

pub loop-number-init : goal.loop-number-init
loop-number-init c =
    let some : 0 < c.args.chain.count / 2 = omega (arith, c.if-chain-lt2.false) in
    record {
      walk = chain_walk_begun c.args.pages.now c.args.chain;
      index = placed_empty c.args.pool.now c.args.pages.now.properties _ (c.args.chain.count / 2) some c.in_ok-index.ensures.buckets;
      others = c.open.ensures.others;
    }

pub get-slot-requires : goal.get-slot-requires
get-slot-requires c = record {
  within = chain_walk_within c.args.pages.now c.loop-number.pages c.args.chain c.loop-number._number c.loop-number.place c.requires.chain c.loop-number.invariant.walk c.loop-number-test.true;
}

pub take_up-requires-clause-some : goal.take_up-requires-clause-some
take_up-requires-clause-some c = placed_some c.args.pool.now c.loop-number.pages.properties _ _ _ c.loop-number.invariant.index

pub take_up-requires-clause-within : goal.take_up-requires-clause-within
take_up-requires-clause-within c = chain_walk_within c.args.pages.now c.loop-number.pages c.args.chain c.loop-number._number c.loop-number.place c.requires.chain c.loop-number.invariant.walk c.loop-number-test.true

pub loop-number-preserved : goal.loop-number-preserved
loop-number-preserved c =
    let old = c.args.pages.now in
    let now = c.loop-number.pages in
    let new = c.take_up.new.pages in
    let n = c.loop-number._number in
    let at = c.loop-number.place in
    let w = c.loop-number.invariant.walk in
    record {
      walk = chain_walk_step old now new c.args.chain n at _ c.requires.chain w c.loop-number-test.true c.take_up.ensures.row c.take_up.ensures.only c.take_up.ensures.links
          (ap (λ (s : Slot). s.next) c.get-slot.ensures);
      index = fill_step c.args.pool.now old now new c.args.chain n at _ _ c.requires.chain w c.loop-number-test.true c.in_ok-take_up.ensures.index c.loop-number.invariant.index;
      others = λ index other differ. c.take_up.ensures.others index other differ ∙ c.loop-number.invariant.others index other differ;
    }

pub returns-clause-index : goal.returns-clause-index
returns-clause-index c =
    filled_whole c.args.pool.now c.loop-number.pages.properties c.args.pages.now.properties c.args.chain c.loop-number._number _ c.loop-number-test.false c.loop-number.invariant.index
