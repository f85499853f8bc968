-- What is known of chains in a row of slots.
use Rattle.std.proofs.Common.{◌≡◌, ◌≢◌, ℕ, zero, suc, ◌+◌, ◌-◌, ◌<◌, ◌≤◌, ◌⊎◌, inl, inr, List, [], ◌∷◌, ◌++◌, length, Some, refl, sym, ap, ◌∙◌, subst, arith, map, slice_get}
use Rattle.std.specs.Prelude.{option_map, slice_index_or}
use Rattle.std.proofs.lemmas.Bool.{cases_lt}
use Rattle.std.proofs.lemmas.List.{get_or_append_left, length-map}
use Rattle.std.proofs.lemmas.Option.{get_or_from_slice_get, none-some, same_Some, slice_get-get_or, slice_get-map, slice_get_within}
use Rattle.rip_heap_region.specs.declared.pages.slot.Slot.{Slot}
use Rattle.rip_heap_region.specs.Pages.{slot_at}
use Rattle.rip_heap_region.specs.declared.chains.chain.Chain.{Chain}
use Rattle.rip_heap_region.specs.Chains.{Apart, AreChains, AreHung, IfOneOf, IsChain, OnlyLinks, Rising, chain_at, places_of, properties_at, properties_of, property_in}
use Rattle.rip_heap_region.proofs.WalkLemmas.{map_like, properties_frame, rising_apart, rising_below, rising_long, rising_weaker, rising_within, walk_count, walk_first, walk_frame, walk_next}

-- ONE CHAIN

-- a place of a chain lies in the row
pub place_within : (slots : List Slot) (chain : Chain) (k p : ℕ) → IsChain slots chain → slice_get (places_of slots chain) k ≡ Some p → p < length slots
place_within slots chain k p here is = (rising_within 0 (length slots) (places_of slots chain) k p here.rising is).1

-- a chain has so many places
pub places_count : (slots : List Slot) (chain : Chain) → length (places_of slots chain) ≡ chain.count
places_count slots chain = walk_count slots chain.first chain.count

-- and so many properties
pub properties_count : (slots : List Slot) (chain : Chain) → length (properties_of slots chain) ≡ chain.count
properties_count slots chain = length-map (places_of slots chain) (λ p. property_in (slot_at slots p)) ∙ places_count slots chain

-- a property of a chain stands at the place of that number
pub properties_get : (slots : List Slot) (chain : Chain) (k : ℕ) → slice_get (properties_of slots chain) k ≡ option_map (λ p. property_in (slot_at slots p)) (slice_get (places_of slots chain) k)
properties_get slots chain k = slice_get-map (λ p. property_in (slot_at slots p)) (places_of slots chain) k

-- places that rise are distinct
pub rising_distinct : (from to : ℕ) (places : List ℕ) (i j p : ℕ) → Rising from to places → slice_get places i ≡ Some p → slice_get places j ≡ Some p → i ≡ j
rising_distinct from to places i j p rise one other = by (cases_lt i j) (cases_lt j i)
  where
    by : (i < j) ⊎ (j ≤ i) → (j < i) ⊎ (i ≤ j) → i ≡ j
    by (inl lt) either = absurd (omega (arith, rising_below from to places i j p p rise lt one other))
    by (inr ge) (inl lt) = absurd (omega (arith, rising_below from to places j i p p rise lt other one))
    by (inr ge) (inr le) = omega (arith, ge, le)

-- a chain is no longer than the row
pub chain_long : (slots : List Slot) (chain : Chain) → IsChain slots chain → chain.count ≤ length slots
chain_long slots chain here = omega (arith, rising_long 0 (length slots) (places_of slots chain) (omega arith) here.rising, places_count slots chain)

-- where one of its places is known, a chain has a first one
pub chain_some : (slots : List Slot) (chain : Chain) (place : ℕ) → IfOneOf place (places_of slots chain) → 0 < chain.count
chain_some slots chain place among = omega (arith, slice_get_within (places_of slots chain) among.number place among.is, places_count slots chain)

pub place_first : (slots : List Slot) (chain : Chain) (place : ℕ) → IfOneOf place (places_of slots chain) → slice_get (places_of slots chain) 0 ≡ Some chain.first
place_first slots chain place among = walk_first slots chain.first chain.count (chain_some slots chain place among)

-- the number of a place in a chain
pub place_number : (slots : List Slot) (chain : Chain) (i j p : ℕ) → IsChain slots chain → slice_get (places_of slots chain) i ≡ Some p → slice_get (places_of slots chain) j ≡ Some p → i ≡ j
place_number slots chain i j p here one other = rising_distinct 0 (length slots) (places_of slots chain) i j p here.rising one other

-- places that stand in this order in the row have their numbers in it too
pub place_order : (slots : List Slot) (chain : Chain) (i j p q : ℕ) → IsChain slots chain → slice_get (places_of slots chain) i ≡ Some p → slice_get (places_of slots chain) j ≡ Some q → p < q → i < j
place_order slots chain i j p q here one other lt = by (cases_lt i j) (cases_lt j i)
  where
    by : (i < j) ⊎ (j ≤ i) → (j < i) ⊎ (i ≤ j) → i < j
    by (inl less) either = less
    by (inr ge) (inl more) = absurd (omega (arith, lt, rising_below 0 (length slots) (places_of slots chain) j i q p here.rising more other one))
    by (inr ge) (inr le) =
        let e : i ≡ j = omega (arith, ge, le) in
        let same : p ≡ q = same_Some p q (sym one ∙ ap (λ k. slice_get (places_of slots chain) k) e ∙ other) in
        absurd (omega (arith, lt, same))

-- of two places that differ, the one of the lower number stands before the other
pub place_below : (slots : List Slot) (chain : Chain) (i j p q : ℕ) → IsChain slots chain → slice_get (places_of slots chain) i ≡ Some p → slice_get (places_of slots chain) j ≡ Some q → i ≤ j → p ≢ q → p < q
place_below slots chain i j p q here one other le ne = by (cases_lt i j)
  where
    by : (i < j) ⊎ (j ≤ i) → p < q
    by (inl lt) = rising_below 0 (length slots) (places_of slots chain) i j p q here.rising lt one other
    by (inr ge) =
        let e : i ≡ j = omega (arith, ge, le) in
        absurd (ne (same_Some p q (sym one ∙ ap (λ k. slice_get (places_of slots chain) k) e ∙ other)))

-- what a place leads to, where another one of the chain is behind it
pub place_next : (slots : List Slot) (chain : Chain) (i at j place : ℕ) → IsChain slots chain → slice_get (places_of slots chain) i ≡ Some at → slice_get (places_of slots chain) j ≡ Some place
    → at < place → slice_get (places_of slots chain) (suc i) ≡ Some (slot_at slots at).next
place_next slots chain i at j place here one other lt =
    let order = place_order slots chain i j at place here one other lt in
    let low = slice_get_within (places_of slots chain) j place other in
    walk_next slots chain.first chain.count i at one (omega (arith, order, low, places_count slots chain))

-- the last place of a chain is at least so far behind another one as there are places between
pub chain_far : (slots : List Slot) (chain : Chain) (k at : ℕ) → IsChain slots chain → k < chain.count → slice_get (places_of slots chain) k ≡ Some at → at + (chain.count - 1) ≤ chain.last + k
chain_far slots chain k at here lt is =
    rising_apart 0 (length slots) (places_of slots chain) k (chain.count - 1) at chain.last here.rising (omega (arith, lt)) is (here.last (omega (arith, lt)))

-- where it is no farther, the places from there on have no gap
pub place_at_once : (slots : List Slot) (chain : Chain) (passed at number : ℕ) → IsChain slots chain → passed ≤ number → number < chain.count → slice_get (places_of slots chain) passed ≡ Some at
    → (number ≤ passed) ⊎ (chain.last - at ≤ chain.count - 1 - passed) → (Some (at + (number - passed)) ≡ slice_get (places_of slots chain) number) × (at + (number - passed) ≤ chain.last)
place_at_once slots chain passed at number here le lt is (inl all) =
    let e : passed ≡ number = omega (arith, le, all) in
    let none : at + (number - passed) ≡ at = omega (arith, e) in
    (ap (λ p. Some p) none ∙ sym is ∙ ap (λ k. slice_get (places_of slots chain) k) e, omega (arith, none, chain_far slots chain passed at here (omega (arith, le, lt)) is, e, lt))
place_at_once slots chain passed at number here le lt is (inr ends) =
    let place = slice_index_or (places_of slots chain) number 0 in
    let there : slice_get (places_of slots chain) number ≡ Some place = slice_get-get_or (places_of slots chain) number 0 (omega (arith, lt, places_count slots chain)) in
    let least = rising_apart 0 (length slots) (places_of slots chain) passed number at place here.rising le is there in
    let most = chain_far slots chain number place here lt there in
    let far = chain_far slots chain passed at here (omega (arith, le, lt)) is in
    let e : place ≡ at + (number - passed) = omega (arith, le, lt, ends, least, most, far) in
    (sym (there ∙ ap (λ p. Some p) e), omega (arith, e, most, lt))

-- a chain of which the places are the same is one still, in a row that is no shorter
pub chain_kept : (old new : List Slot) (chain : Chain) → length old ≤ length new → places_of new chain ≡ places_of old chain → IsChain old chain → IsChain new chain
chain_kept old new chain le same here = record {
  rising = subst (λ places. Rising 0 (length new) places) (sym same) (rising_weaker 0 0 (length old) (length new) (places_of old chain) (omega arith) le here.rising);
  last = λ some. ap (λ places. slice_get places (chain.count - 1)) same ∙ here.last some;
}

pub apart_kept : (ps qs ps' qs' : List ℕ) → ps' ≡ ps → qs' ≡ qs → Apart ps qs → Apart ps' qs'
apart_kept ps qs ps' qs' one other apart = λ i j p here there. apart i j p (ap (λ xs. slice_get xs i) (sym one) ∙ here) (ap (λ xs. slice_get xs j) (sym other) ∙ there)

-- CHAINS THAT BELONG TOGETHER

abbrev pub no_chain : Chain
no_chain = record { first = 0; last = 0; count = 0 }

-- one of them is a chain
pub chain_of : (chains : List Chain) (slots : List Slot) (at : ℕ) (chain : Chain) → AreChains chains slots → slice_get chains at ≡ Some chain → IsChain slots chain
chain_of chains slots at chain are is = subst (λ c. IsChain slots c) (get_or_from_slice_get chains at chain no_chain is) (are.each at (slice_get_within chains at chain is))

-- a chain alone
pub chain_alone : (slots : List Slot) (chain : Chain) → IsChain slots chain → AreChains (chain ∷ []) slots
chain_alone slots chain here = record {
  each = λ i lt. each i (cases_lt 0 i) lt;
  apart = λ i j li lj ne. absurd (ne (omega (arith, li, lj)));
}
  where
    each : (i : ℕ) → (0 < i) ⊎ (i ≤ 0) → i < 1 → IsChain slots (chain_at (chain ∷ []) i)
    each i (inl more) lt = absurd (omega (arith, more, lt))
    each i (inr none) lt =
        let e : 0 ≡ i = omega (arith, none) in
        subst (λ k. IsChain slots (chain_at (chain ∷ []) k)) e here

-- an empty chain more
pub chains_more : (chains : List Chain) (slots : List Slot) → AreChains chains slots → AreChains (chains ++ record { first = 0; last = 0; count = 0 } ∷ []) slots
chains_more chains slots are = record {
  each = λ i lt. each i (cases_lt i (length chains));
  apart = λ i j li lj ne. apart i j ne (cases_lt i (length chains)) (cases_lt j (length chains));
}
  where
    more : List Chain
    more = chains ++ no_chain ∷ []

    before : (i : ℕ) → i < length chains → chain_at more i ≡ chain_at chains i
    before i lt = get_or_append_left chains (no_chain ∷ []) no_chain i lt

    behind : (i : ℕ) → length chains ≤ i → chain_at more i ≡ no_chain
    behind i ge = none chains i ge
      where
        none : (cs : List Chain) (k : ℕ) → length cs ≤ k → slice_index_or (cs ++ no_chain ∷ []) k no_chain ≡ no_chain
        none [] zero le = refl
        none [] (suc k) le = refl
        none (c ∷ cs) zero le = absurd (omega (arith, le))
        none (c ∷ cs) (suc k) le = none cs k (omega (arith, le))

    each : (i : ℕ) → (i < length chains) ⊎ (length chains ≤ i) → IsChain slots (chain_at more i)
    each i (inl lt) = subst (λ c. IsChain slots c) (sym (before i lt)) (are.each i lt)
    each i (inr ge) = subst (λ c. IsChain slots c) (sym (behind i ge)) (record { rising = tt; last = λ some. absurd (omega (arith, some)) })

    apart : (i j : ℕ) → i ≢ j → (i < length chains) ⊎ (length chains ≤ i) → (j < length chains) ⊎ (length chains ≤ j) → Apart (places_of slots (chain_at more i)) (places_of slots (chain_at more j))
    apart i j ne (inl one) (inl other) =
        apart_kept (places_of slots (chain_at chains i)) (places_of slots (chain_at chains j)) (places_of slots (chain_at more i)) (places_of slots (chain_at more j))
        (ap (places_of slots) (before i one)) (ap (places_of slots) (before j other)) (are.apart i j one other ne)
    apart i j ne (inl one) (inr end) = λ a b p here there. none-some p (ap (λ c. slice_get (places_of slots c) b) (sym (behind j end)) ∙ there)
    apart i j ne (inr end) either = λ a b p here there. none-some p (ap (λ c. slice_get (places_of slots c) a) (sym (behind i end)) ∙ here)

-- where nothing but links is other than before, the chains hang as before
pub hung_by_links : (chains : List Chain) (old new : List Slot) → OnlyLinks old new → AreChains chains old → AreHung chains new (map (places_of old) chains) (map (properties_of old) chains)
hung_by_links chains old new same are = record {
  hang = record {
    each = λ i lt. chain_kept old new (chain_at chains i) (omega (arith, same.size)) (places i lt) (are.each i lt);
    apart = λ i j li lj ne. apart_kept (places_of old (chain_at chains i)) (places_of old (chain_at chains j)) (places_of new (chain_at chains i)) (places_of new (chain_at chains j)) (places i li) (places j lj) (are.apart i j li lj ne);
  };
  stand = map_like (places_of new) (places_of old) chains no_chain places;
  hold = map_like (properties_of new) (properties_of old) chains no_chain properties;
}
  where
    places : (i : ℕ) → i < length chains → places_of new (chain_at chains i) ≡ places_of old (chain_at chains i)
    places i lt =
        walk_frame old new (chain_at chains i).first (chain_at chains i).count
        (λ k p less there. same.nexts p (place_within old (chain_at chains i) k p (are.each i lt) there))

    properties : (i : ℕ) → i < length chains → properties_of new (chain_at chains i) ≡ properties_of old (chain_at chains i)
    properties i lt =
        ap (properties_at new) (places i lt)
        ∙ properties_frame old new (places_of old (chain_at chains i)) (λ k p there. same.properties p (place_within old (chain_at chains i) k p (are.each i lt) there))
