use Rattle.std.proofs.Common.{◌≡◌, ◌-◌, ◌<◌, ◌∙◌, true, Result, Ok, Err, length, arith, sym}
use Rattle.std.specs.Prelude.{OnOk, is_ok}
use Rattle.rip_heap_region.proofs.ChainLemmas.{place_within}
use Rattle.rip_heap_region.specs.Blocks.{buckets_at}
use Rattle.rip_heap_region.proofs.PlaceLemmas.{last_taken_up}
use Rattle.rip_heap_region.proofs.buckets.indexes.NameIndexes.extend.Goals as goal

on_ok : {A E P : Type 0} (r : Result A E) → is_ok r ≡ true → OnOk r P → P
on_ok (Ok x) is h = h
on_ok (Err e) is h = absurd (cc)

pub get-requires : goal.get-requires
get-requires c = record {
  within = place_within c.args.pages.now.properties c.args.chain (c.args.chain.count - 1) c.args.chain.last c.requires.chain (c.requires.chain.last c.requires.some);
}

pub take_up-requires-clause-within : goal.take_up-requires-clause-within
take_up-requires-clause-within c =
    place_within c.args.pages.now.properties c.args.chain (c.args.chain.count - 1) c.args.chain.last c.requires.chain (c.requires.chain.last c.requires.some)

pub returns-clause-index : goal.returns-clause-index
returns-clause-index c = λ done.
    let buckets = buckets_at c.args.self.now.blocks c.args.index c.args.owner in
    let some : 0 < length buckets = omega (arith, c.if-buckets-eq0.false, c.count-buckets.ensures) in
    last_taken_up c.args.pool.now c.args.pages.now.properties c.take_up.new.pages.properties c.args.chain buckets _ c.requires.some c.requires.chain some
    (on_ok c.take_up.result (sym c.is_ok.ensures.value ∙ done) c.take_up.ensures.index) c.requires.index
