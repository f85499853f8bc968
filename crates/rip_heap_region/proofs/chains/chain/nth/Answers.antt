use Rattle.std.proofs.Common.{rules, ◌≡◌, ◌∙◌, ◌+◌, ◌-◌, ◌≤◌, ◌⊎◌, inl, inr, suc, slice_get, Some, sym, ap, arith}
use Rattle.std.proofs.lemmas.Option.{slice_get_past}
use Rattle.rip_heap_region.specs.Chains.{places_of}
use Rattle.rip_heap_region.proofs.ChainLemmas.{chain_far, place_at_once, place_within, places_count}
use Rattle.rip_heap_region.proofs.WalkLemmas.{walk_next}
use Rattle.rip_heap_region.proofs.chains.chain.nth.Goals as goal
use Rattle.rip_heap_region.proofs.chains.chain.nth.Goals.{then-loop-passed-test+else-chain-at, else-loop-passed-test}

pub returns-then-number-chain : goal.returns-then-number-chain
returns-then-number-chain c =
    sym (slice_get_past (places_of c.args.pages.now.properties c.args.chain) c.args.number (omega (arith, places_count c.args.pages.now.properties c.args.chain, c.if-number-chain.true)))

pub get-requires : goal.get-requires
get-requires c = record { within = place_within c.args.pages.now.properties c.args.chain c.loop-passed.passed c.loop-passed.at c.requires.chain c.loop-passed.invariant.here }

pub loop-passed-preserved : goal.loop-passed-preserved
loop-passed-preserved c =
    let more : suc c.loop-passed.passed ≡ c.loop-passed.passed + 1 = omega arith in
    record {
      within = omega arith;
      here = ap (λ k. slice_get (places_of c.args.pages.now.properties c.args.chain) k) (sym more)
          ∙ walk_next c.args.pages.now.properties c.args.chain.first c.args.chain.count c.loop-passed.passed c.loop-passed.at c.loop-passed.invariant.here (omega arith)
          ∙ ap (λ slot. Some slot.next) (sym c.get.ensures);
    }

pub overflow_sub-chain : goal.overflow_sub-chain
overflow_sub-chain c =
    omega (
      arith,
      chain_far c.args.pages.now.properties c.args.chain c.loop-passed.passed c.loop-passed.at c.requires.chain (omega (arith, c.loop-passed.invariant.within, c.if-number-chain.false)) c.loop-passed.invariant.here,
      c.loop-passed.invariant.within,
      c.if-number-chain.false,
    )

pub overflow_add-result : goal.overflow_add-result
overflow_add-result c =
    let bound =
    (place_at_once c.args.pages.now.properties c.args.chain c.loop-passed.passed c.loop-passed.at c.args.number c.requires.chain c.loop-passed.invariant.within (omega (arith, c.if-number-chain.false)) c.loop-passed.invariant.here
    (elim c.loop-passed-test.branch [ then-loop-passed-test+else-chain-at w ↦ inr (omega (arith, w.if-chain-at.false)) | else-loop-passed-test w ↦ inl (omega (arith, w.loop-passed-test.false)) ])).1 in
    search (bound, rules)

pub returns : goal.returns
returns c =
    (place_at_once c.args.pages.now.properties c.args.chain c.loop-passed.passed c.loop-passed.at c.args.number c.requires.chain c.loop-passed.invariant.within (omega (arith, c.if-number-chain.false)) c.loop-passed.invariant.here
    (elim c.loop-passed-test.branch [ then-loop-passed-test+else-chain-at w ↦ inr (omega (arith, w.if-chain-at.false)) | else-loop-passed-test w ↦ inl (omega (arith, w.loop-passed-test.false)) ])).0
