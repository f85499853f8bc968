use Rattle.std.proofs.Common.{◌≡◌, ◌∙◌, ◌-◌, suc, length, slice_get, Some, sym, ap, arith}
use Rattle.rip_heap_region.specs.declared.pages.slot.Slot.{Slot}
use Rattle.rip_heap_region.specs.Chains.{places_of}
use Rattle.rip_heap_region.proofs.ChainLemmas.{place_below, place_first, place_next, place_number, place_order, place_within}
use Rattle.rip_heap_region.proofs.WalkLemmas.{rising_below}
use Rattle.rip_heap_region.proofs.chains.chain.place_before.Goals as goal

pub get-requires : goal.get-requires
get-requires c =
    record { within = place_within c.args.pages.now.properties c.args.chain 0 c.args.chain.first c.requires.chain (place_first c.args.pages.now.properties c.args.chain c.args.place c.requires.among) }

pub loop-next-init : goal.loop-next-init
loop-next-init c =
    let slots = c.args.pages.now.properties in
    let first = place_first slots c.args.chain c.args.place c.requires.among in
    record {
      here = record { number = 0; is = first };
      below = place_below slots c.args.chain 0 c.requires.among.number c.args.chain.first c.args.place c.requires.chain first c.requires.among.is (omega arith) (λ e. c.requires.later (sym e));
      next = ap (λ (slot : Slot). slot.next) c.get.ensures;
    }

pub get-requires-in-loop-next : goal.get-requires-in-loop-next
get-requires-in-loop-next c =
    let slots = c.args.pages.now.properties in
    let next = place_next slots c.args.chain c.loop-next.invariant.here.number c.loop-next.at c.requires.among.number c.args.place c.requires.chain c.loop-next.invariant.here.is c.requires.among.is c.loop-next.invariant.below
    ∙ ap (λ q. Some q) (sym c.loop-next.invariant.next) in
    record { within = place_within slots c.args.chain (suc c.loop-next.invariant.here.number) c.loop-next.next c.requires.chain next }

pub loop-next-smaller : goal.loop-next-smaller
loop-next-smaller c =
    let slots = c.args.pages.now.properties in
    let next = place_next slots c.args.chain c.loop-next.invariant.here.number c.loop-next.at c.requires.among.number c.args.place c.requires.chain c.loop-next.invariant.here.is c.requires.among.is c.loop-next.invariant.below
    ∙ ap (λ q. Some q) (sym c.loop-next.invariant.next) in
    let on = rising_below 0 (length slots) (places_of slots c.args.chain) c.loop-next.invariant.here.number (suc c.loop-next.invariant.here.number) c.loop-next.at c.loop-next.next c.requires.chain.rising (omega arith) c.loop-next.invariant.here.is next in
    omega (arith, on, c.loop-next.invariant.below)

pub loop-next-preserved : goal.loop-next-preserved
loop-next-preserved c =
    let slots = c.args.pages.now.properties in
    let next = place_next slots c.args.chain c.loop-next.invariant.here.number c.loop-next.at c.requires.among.number c.args.place c.requires.chain c.loop-next.invariant.here.is c.requires.among.is c.loop-next.invariant.below
    ∙ ap (λ q. Some q) (sym c.loop-next.invariant.next) in
    let order = place_order slots c.args.chain c.loop-next.invariant.here.number c.requires.among.number c.loop-next.at c.args.place c.requires.chain c.loop-next.invariant.here.is c.requires.among.is c.loop-next.invariant.below in
    record {
      here = record { number = suc c.loop-next.invariant.here.number; is = next };
      below = place_below slots c.args.chain (suc c.loop-next.invariant.here.number) c.requires.among.number c.loop-next.next c.args.place c.requires.chain next c.requires.among.is (omega (arith, order)) c.loop-next-test.true;
      next = ap (λ (slot : Slot). slot.next) c.get-in-loop-next.ensures;
    }

pub returns : goal.returns
returns c =
    let slots = c.args.pages.now.properties in
    let next = place_next slots c.args.chain c.loop-next.invariant.here.number c.loop-next.at c.requires.among.number c.args.place c.requires.chain c.loop-next.invariant.here.is c.requires.among.is c.loop-next.invariant.below
    ∙ ap (λ q. Some q) (sym c.loop-next.invariant.next) in
    λ number there.
    let here = place_number slots c.args.chain number (suc c.loop-next.invariant.here.number) c.args.place c.requires.chain there (next ∙ ap (λ q. Some q) c.loop-next-test.false) in
    let before : number - 1 ≡ c.loop-next.invariant.here.number = omega (arith, here) in
    ap (λ k. slice_get (places_of slots c.args.chain) k) before ∙ c.loop-next.invariant.here.is
