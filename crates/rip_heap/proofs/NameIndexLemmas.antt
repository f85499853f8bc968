-- What indexes of names keep when texts are added and taken back.
use Rattle.std.proofs.Common.{◌≡◌, ℕ, zero, suc, ◌+◌, ◌-◌, ◌<◌, ◌≤◌, List, [], ◌∷◌, length, refl, sym, ap, ◌∙◌, subst, arith, drop, slice_range, take}
use Rattle.std.specs.Prelude.{slice_index}
use Rattle.std.proofs.lemmas.List.{take-append-drop, take-take, take_all}
use Rattle.rip_base.specs.declared.value.Span.{Span}
use Rattle.rip_values.specs.Pool.{Texts, IsSpan, KeepsTexts, cut_pool, text_at}
use Rattle.rip_heap_region.specs.declared.pages.property.Property.{Property}
use Rattle.rip_heap_region.specs.declared.pages.slot.Slot.{Slot}
use Rattle.rip_heap_region.specs.Pages.{Paged, slot_at}
use Rattle.rip_heap_region.specs.Chains.{chain_at, places_of, properties_of}
use Rattle.rip_heap_region.specs.Blocks.{ListedBlocks, buckets_at}
use Rattle.rip_heap_region.specs.NameIndex.{bucket_of, bucket_at, name_at, IsIndex, IsIndexOf, IsLast}
use Rattle.rip_heap.specs.HeadSlots.{index_in}
use Rattle.rip_heap.specs.NamedObjects.{first_texts}
use Rattle.rip_heap.specs.Region.{AreIndexes, chains_in}
use Rattle.rip_heap.proofs.ScopeSlotLemmas.{part-append, part-length}

-- WHAT STAYS

IsLast-like : (f g : ℕ → ℕ) (b c to v w : ℕ) → c ≡ b → w ≡ v → ((k : ℕ) → k < to → g k ≡ f k) → IsLast f b to v → IsLast g c to w
IsLast-like f g b c to v w same-bucket same-place same h = record {
  within = omega (arith, h.within, same-place);
  apart = λ k low high is. h.apart k (omega (arith, low, same-place)) high (sym (same k high) ∙ is ∙ same-bucket);
  last = λ some.
      let place : w - 1 ≡ v - 1 = omega (arith, same-place) in
      let below : v - 1 < to = omega (arith, some, same-place, h.within) in
      ap g place ∙ same (v - 1) below ∙ h.last (omega (arith, some, same-place)) ∙ sym same-bucket;
}

-- other properties with the same names, as texts, have the same index
pub index_like : (p q : Texts) (ps qs : List Property) (buckets before : List ℕ) → length qs ≡ length ps
    → ((k : ℕ) → k < length ps → text_at q (name_at qs k) ≡ text_at p (name_at ps k))
    → ((k : ℕ) → k < length ps → IsSpan q (name_at qs k))
    → IsIndex p ps buckets before → IsIndex q qs buckets before
index_like p q ps qs buckets before size same spans h =
    let f = bucket_at p (length buckets) ps in
    let g = bucket_at q (length buckets) qs in
    let alike : (k : ℕ) → k < length ps → g k ≡ f k = λ k lt. ap (bucket_of (length buckets)) (same k lt) in
    record {
      some = h.some;
      spans = λ k lt. spans k (omega (arith, lt, size));
      all = h.all ∙ sym size;
      heads = λ b lt. subst (λ n. IsLast g b n (slice_index buckets b)) (sym size)
          (IsLast-like f g b b (length ps) (slice_index buckets b) (slice_index buckets b) refl refl alike (h.heads b lt));
      links = λ i lt.
          let below : i < length ps = omega (arith, lt, size) in
          IsLast-like f g (f i) (g i) i (slice_index before i) (slice_index before i) (alike i below) refl
          (λ k low. alike k (omega (arith, low, below))) (h.links i below);
    }

-- texts are only added
pub index_grows : (p q : Texts) (ps : List Property) (buckets before : List ℕ) → KeepsTexts p q → length p.units ≤ length q.units
    → IsIndex p ps buckets before → IsIndex q ps buckets before
index_grows p q ps buckets before keeps longer h =
    index_like p q ps ps buckets before refl
    (λ k lt. keeps (name_at ps k) (h.spans k lt))
    (λ k lt. let lies : (name_at ps k).start + (name_at ps k).count ≤ length p.units = h.spans k lt in omega (arith, lies, longer)) h

cut_shorter : {X : Type 0} (k : ℕ) (xs : List X) → length (take k xs) ≤ length xs
cut_shorter zero xs = omega arith
cut_shorter (suc k) [] = omega arith
cut_shorter (suc k) (x ∷ xs) = omega (arith, cut_shorter k xs)

-- where each text stands there are no fewer units
pub kept_longer : (p q : Texts) → KeepsTexts p q → length p.units ≤ length q.units
kept_longer p q keeps =
    let whole : Span = record { start = 0; count = length p.units } in
    let same : length (text_at q whole) ≡ length (text_at p whole) = ap length (keeps whole (omega arith)) in
    let here : length (text_at p whole) ≡ length p.units = part-length p.units 0 (length p.units) (omega arith) in
    let there : length (text_at q whole) ≤ length q.units = cut_shorter (0 + length p.units - 0) q.units in
    omega (arith, same, here, there)

-- THE INDEXES OF ALL OBJECTS

-- no buckets are an index of any properties
pub index_none : (p : Texts) (slots : List Slot) (places : List ℕ) (ps : List Property) (buckets : List ℕ) → buckets ≡ [] → IsIndexOf p slots places ps buckets
index_none p slots places ps buckets none = subst (IsIndexOf p slots places ps) (sym none) tt

-- texts are only added
index_kept : (p q : Texts) (slots : List Slot) (places : List ℕ) (ps : List Property) (buckets : List ℕ) → KeepsTexts p q → length p.units ≤ length q.units
    → IsIndexOf p slots places ps buckets → IsIndexOf q slots places ps buckets
index_kept p q slots places ps [] keeps longer h = tt
index_kept p q slots places ps (b ∷ buckets) keeps longer h = record {
  numbers = h.numbers;
  before = h.before;
  index = index_grows p q ps h.numbers h.before keeps longer h.index;
  placed = h.placed;
  links = h.links;
}

indexes_kept : (p q : Texts) (pages : Paged) (blocks : ListedBlocks) → KeepsTexts p q → AreIndexes p pages blocks → AreIndexes q pages blocks
indexes_kept p q pages blocks keeps h = λ i lt.
    index_kept p q pages.properties (places_of pages.properties (chain_at (chains_in pages) i)) (properties_of pages.properties (chain_at (chains_in pages) i))
    (buckets_at blocks (index_in (slot_at pages.objects i)) i) keeps (kept_longer p q keeps) (h i lt)

-- no indexes are those of any objects
pub indexes_none : (p : Texts) (pages : Paged) (blocks : ListedBlocks) → ((i owner : ℕ) → buckets_at blocks i owner ≡ []) → AreIndexes p pages blocks
indexes_none p pages blocks none = λ i lt.
    index_none p pages.properties (places_of pages.properties (chain_at (chains_in pages) i)) (properties_of pages.properties (chain_at (chains_in pages) i))
    (buckets_at blocks (index_in (slot_at pages.objects i)) i) (none (index_in (slot_at pages.objects i)) i)

-- THE FIRST TEXTS

-- the first texts stand in all texts
first_kept : (p : Texts) (n : ℕ) → KeepsTexts (first_texts p n) p
first_kept p n span lies =
    ap (λ units. slice_range units span.start (span.start + span.count)) (sym (take-append-drop n p.units))
    ∙ part-append (take n p.units) (drop n p.units) span.start span.count lies

-- what are indexes with the first texts alone are so with all
pub indexes_of_first : (p : Texts) (n : ℕ) (pages : Paged) (blocks : ListedBlocks) → AreIndexes (first_texts p n) pages blocks → AreIndexes p pages blocks
indexes_of_first p n pages blocks h = indexes_kept (first_texts p n) p pages blocks (first_kept p n) h

-- where the first texts are all texts, what are indexes with these are so with those
pub indexes_of_all : (p : Texts) (n : ℕ) (pages : Paged) (blocks : ListedBlocks) → n ≡ length p.units → AreIndexes p pages blocks → AreIndexes (first_texts p n) pages blocks
indexes_of_all p n pages blocks all h =
    indexes_kept p (first_texts p n) pages blocks
    (λ span lies. ap (λ units. slice_range units span.start (span.start + span.count)) (take_all n p.units (omega (arith, all)))) h

-- the first texts are the same when more are added
pub indexes_grown : (p q : Texts) (n : ℕ) (pages : Paged) (blocks : ListedBlocks) → n ≤ length p.units → KeepsTexts p q
    → AreIndexes (first_texts p n) pages blocks → AreIndexes (first_texts q n) pages blocks
indexes_grown p q n pages blocks within keeps h =
    let all : 0 + n - 0 ≡ n = omega arith in
    let same : take n q.units ≡ take n p.units = ap (λ k. take k q.units) (sym all) ∙ keeps (record { start = 0; count = n }) (omega (arith, within)) ∙ ap (λ k. take k p.units) all in
    subst (λ units. AreIndexes (record { units = units; used = 0; limit = 0; text_limit = 0 }) pages blocks) (sym same) h

-- the first texts are the same when those behind them are taken back
pub indexes_cut : (p : Texts) (n end used : ℕ) (pages : Paged) (blocks : ListedBlocks) → n ≤ end
    → AreIndexes (first_texts p n) pages blocks → AreIndexes (first_texts (cut_pool p end used) n) pages blocks
indexes_cut p n end used pages blocks within h =
    subst (λ units. AreIndexes (record { units = units; used = 0; limit = 0; text_limit = 0 }) pages blocks) (sym (take-take n end p.units within)) h
