use Rattle.std.proofs.Common.{◌≡◌, ◌∙◌, ◌+◌, suc, true, false, Some, sym, ap, arith, slice_get}
use Rattle.std.specs.Prelude.{option_and_then, option_map}
use Rattle.rip_heap_region.specs.declared.pages.slot.Slot.{Slot}
use Rattle.rip_heap_region.specs.Pages.{slot_at}
use Rattle.rip_heap_region.specs.Chains.{places_of, properties_of, property_in}
use Rattle.rip_heap_region.specs.Names.{same_text}
use Rattle.rip_heap_region.proofs.ChainLemmas.{place_within, properties_count, properties_get}
use Rattle.rip_heap_region.proofs.NameLemmas.{found_nowhere, found_there, none_more}
use Rattle.rip_heap_region.proofs.WalkLemmas.{walk_next}
use Rattle.rip_heap_region.proofs.chains.names.find.Goals as goal

pub get-slot-requires : goal.get-slot-requires
get-slot-requires c =
    record { within = place_within c.args.pages.now.properties c.args.chain c.loop-passed.passed c.loop-passed.at c.requires.chain (c.loop-passed.invariant.here c.loop-passed-test.true) }

pub returns-then-is_named : goal.returns-then-is_named
returns-then-is_named c =
    let slots = c.args.pages.now.properties in
    let here = c.loop-passed.invariant.here c.loop-passed-test.true in
    let property : slice_get (properties_of slots c.args.chain) c.loop-passed.passed ≡ Some (property_in (slot_at slots c.loop-passed.at)) =
    properties_get slots c.args.chain c.loop-passed.passed ∙ ap (λ place. option_map (λ p. property_in (slot_at slots p)) place) here in
    let named : same_text c.args.pool.now (slot_at slots c.loop-passed.at).name c.args.name ≡ true =
    ap (λ (slot : Slot). same_text c.args.pool.now slot.name c.args.name) (sym c.get-slot.ensures) ∙ sym c.is_named.ensures ∙ c.if-is_named.true in
    sym here
    ∙ sym (ap (λ place. option_and_then (slice_get (places_of slots c.args.chain)) place)
    (found_there c.args.pool.now c.args.name (properties_of slots c.args.chain) c.loop-passed.passed (property_in (slot_at slots c.loop-passed.at)) c.loop-passed.invariant.none property named))

pub loop-passed-preserved : goal.loop-passed-preserved
loop-passed-preserved c =
    let slots = c.args.pages.now.properties in
    let here = c.loop-passed.invariant.here c.loop-passed-test.true in
    let more : suc c.loop-passed.passed ≡ c.loop-passed.passed + 1 = omega arith in
    let property : slice_get (properties_of slots c.args.chain) c.loop-passed.passed ≡ Some (property_in (slot_at slots c.loop-passed.at)) =
    properties_get slots c.args.chain c.loop-passed.passed ∙ ap (λ place. option_map (λ p. property_in (slot_at slots p)) place) here in
    let other : same_text c.args.pool.now (slot_at slots c.loop-passed.at).name c.args.name ≡ false =
    ap (λ (slot : Slot). same_text c.args.pool.now slot.name c.args.name) (sym c.get-slot.ensures) ∙ sym c.is_named.ensures ∙ c.if-is_named.false in
    record {
      within = omega (arith, c.loop-passed-test.true);
      here = λ lt. ap (λ k. slice_get (places_of slots c.args.chain) k) (sym more)
          ∙ walk_next slots c.args.chain.first c.args.chain.count c.loop-passed.passed c.loop-passed.at here (omega (arith, lt)) ∙ ap (λ (slot : Slot). Some slot.next) (sym c.get-slot.ensures);
      none = none_more c.args.pool.now c.args.name (properties_of slots c.args.chain) c.loop-passed.passed (property_in (slot_at slots c.loop-passed.at)) c.loop-passed.invariant.none property other;
    }

pub returns : goal.returns
returns c =
    let slots = c.args.pages.now.properties in
    sym (ap (λ place. option_and_then (slice_get (places_of slots c.args.chain)) place)
    (found_nowhere c.args.pool.now c.args.name (properties_of slots c.args.chain) c.loop-passed.passed (omega (arith, c.loop-passed.invariant.within, c.loop-passed-test.false, properties_count slots c.args.chain)) c.loop-passed.invariant.none))
