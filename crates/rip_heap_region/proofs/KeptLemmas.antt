-- What leaves an index as it is: more texts, other values, and what is done to the chains of others.
use Rattle.std.proofs.Common.{◌≡◌, ◌≢◌, ℕ, zero, suc, ◌+◌, ◌-◌, ◌<◌, ◌≤◌, ◌⊎◌, inl, inr, List, [], ◌∷◌, length, refl, sym, ap, ◌∙◌, subst, arith, take}
use Rattle.std.specs.Prelude.{slice_index, slice_index_or}
use Rattle.std.proofs.lemmas.Bool.{cases_eq}
use Rattle.std.proofs.lemmas.List.{get_or-set_other, get_or-set_same, length-set, length-take-le}
use Rattle.rip_base.specs.declared.value.Span.{Span}
use Rattle.rip_base.specs.declared.value.Value.{Value}
use Rattle.rip_base.specs.declared.value.Value.TheVariants.{Undefined}
use Rattle.rip_values.specs.Pool.{Texts, IsSpan, KeepsTexts, text_at}
use Rattle.rip_heap_region.specs.declared.pages.property.Property.{Property}
use Rattle.rip_heap_region.specs.declared.pages.slot.Slot.{Slot}
use Rattle.rip_heap_region.specs.Pages.{slot_at}
use Rattle.rip_heap_region.specs.Chains.{Apart, Rising, SameLinks, with_value}
use Rattle.rip_heap_region.specs.Blocks.{ListedBlocks, OthersStay, buckets_at}
use Rattle.rip_heap_region.specs.NameIndex.{IsIndexAt, IsIndexOf, IsPlaced, OthersKeepLinks, name_at}
use Rattle.rip_heap_region.proofs.NameIndexLemmas.{index_like}
use Rattle.rip_heap_region.proofs.PlaceLemmas.{get_at, placed_none, rising_in}

-- the links of the slots at these places are as before
pub record LinksKept (places : List ℕ) (old new : List Slot) : Type 0 where
  pub each : (i : ℕ) → i < length places → (slot_at new (slice_index places i)).link ≡ (slot_at old (slice_index places i)).link

pub kept_same : (places : List ℕ) (slots : List Slot) → LinksKept places slots slots
kept_same places slots = record { each = λ i lt. refl }

-- where all links are
pub kept_all : (places : List ℕ) (old new : List Slot) (from : ℕ) → Rising from (length old) places → SameLinks old new → LinksKept places old new
kept_all places old new from rise same = record { each = λ i lt. same (slice_index places i) (rising_in from (length old) places i rise lt) }

-- where those of other places are
pub kept_apart : (places others : List ℕ) (old new : List Slot) (from : ℕ) → Rising from (length old) places → Apart others places → OthersKeepLinks others old new → LinksKept places old new
kept_apart places others old new from rise apart same = record {
  each = λ i lt. same (slice_index places i) (rising_in from (length old) places i rise lt) (λ j is. apart j i (slice_index places i) is (get_at places i lt));
}

-- names that stand for the same texts have the same index
placed_like : (p q : Texts) (old new : List Slot) (places : List ℕ) (ps qs : List Property) (buckets : List ℕ) → length qs ≡ length ps
    → ((k : ℕ) → k < length ps → text_at q (name_at qs k) ≡ text_at p (name_at ps k))
    → ((k : ℕ) → k < length ps → IsSpan p (name_at ps k) → IsSpan q (name_at qs k))
    → LinksKept places old new → IsPlaced p old places ps buckets → IsPlaced q new places qs buckets
placed_like p q old new places ps qs buckets size same spans links h = record {
  numbers = h.numbers;
  before = h.before;
  index = index_like p q ps qs h.numbers h.before size same (λ k lt. spans k lt (h.index.spans k lt)) h.index;
  placed = h.placed;
  links = λ i lt. links.each i lt ∙ h.links i lt;
}

-- what is done to an index is done to what is kept
index_edited : (p q : Texts) (old new : List Slot) (places : List ℕ) (ps qs : List Property) (buckets : List ℕ) → (IsPlaced p old places ps buckets → IsPlaced q new places qs buckets)
    → IsIndexOf p old places ps buckets → IsIndexOf q new places qs buckets
index_edited p q old new places ps qs [] edit h = tt
index_edited p q old new places ps qs (b ∷ buckets) edit h = edit h

cut_shorter : (k : ℕ) (xs : List ℕ) → length (take k xs) ≤ length xs
cut_shorter zero xs = omega arith
cut_shorter (suc k) [] = omega arith
cut_shorter (suc k) (x ∷ xs) = omega (arith, cut_shorter k xs)

-- where each text stands there are no fewer units
kept_longer : (p q : Texts) → KeepsTexts p q → length p.units ≤ length q.units
kept_longer p q keeps =
    let whole : Span = record { start = 0; count = length p.units } in
    let same : length (text_at q whole) ≡ length (text_at p whole) = ap length (keeps whole (omega arith)) in
    let all : 0 + length p.units - 0 ≡ length p.units = omega arith in
    let here : length (text_at p whole) ≡ length p.units = length-take-le (0 + length p.units - 0) p.units (omega arith) ∙ all in
    let there : length (text_at q whole) ≤ length q.units = cut_shorter (0 + length p.units - 0) q.units in
    omega (arith, same, here, there)

-- texts are only added, and links are as before
pub index_stays : (p q : Texts) (old new : List Slot) (places : List ℕ) (ps : List Property) (listed : ListedBlocks) (index owner : ℕ) → KeepsTexts p q → LinksKept places old new
    → IsIndexAt p old places ps listed index owner → IsIndexAt q new places ps listed index owner
index_stays p q old new places ps listed index owner keeps links h =
    index_edited p q old new places ps ps (buckets_at listed index owner)
    (λ placed.
    placed_like p q old new places ps ps (buckets_at listed index owner) refl
    (λ k lt. keeps (name_at ps k) (placed.index.spans k lt))
    (λ k lt lies. let within : (name_at ps k).start + (name_at ps k).count ≤ length p.units = lies in omega (arith, within, kept_longer p q keeps)) links placed) h

-- a property gets another value, and links are as before
pub index_valued : (p : Texts) (old new : List Slot) (places : List ℕ) (ps : List Property) (number : ℕ) (v : Value) (listed : ListedBlocks) (index owner : ℕ) → LinksKept places old new
    → IsIndexAt p old places ps listed index owner → IsIndexAt p new places (with_value ps number v) listed index owner
index_valued p old new places ps number v listed index owner links h =
    index_edited p p old new places ps (with_value ps number v) (buckets_at listed index owner)
    (placed_like p p old new places ps (with_value ps number v) (buckets_at listed index owner) (length-set ps number valued)
    (λ k lt. ap (text_at p) (named k (cases_eq k number) lt))
    (λ k lt lies. subst (IsSpan p) (sym (named k (cases_eq k number) lt)) lies) links) h
  where
    none : Property
    none = record { name = record { start = 0; count = 0 }; value = Undefined }

    valued : Property
    valued = record (slice_index_or ps number (record { name = record { start = 0; count = 0 }; value = v })) { value = v }

    -- past the end another default has the same name
    name_same : (xs : List Property) (k : ℕ) → (slice_index_or xs k (record { name = record { start = 0; count = 0 }; value = v })).name ≡ name_at xs k
    name_same [] k = refl
    name_same (x ∷ xs) zero = refl
    name_same (x ∷ xs) (suc k) = name_same xs k

    named : (k : ℕ) → (k ≡ number) ⊎ (k ≢ number) → k < length ps → name_at (with_value ps number v) k ≡ name_at ps k
    named k (inl is) lt =
        ap (name_at (with_value ps number v)) is ∙ ap (λ (x : Property). x.name) (get_or-set_same ps number valued none (omega (arith, lt, is)))
        ∙ name_same ps number ∙ sym (ap (name_at ps) is)
    named k (inr other) lt = ap (λ (x : Property). x.name) (get_or-set_other ps number k valued none other)

-- what was done to an index of another owner
pub index_of_other : (p : Texts) (slots : List Slot) (places : List ℕ) (ps : List Property) (old new : ListedBlocks) (owner index other : ℕ) → other ≢ owner → OthersStay owner old new
    → IsIndexAt p slots places ps old index other → IsIndexAt p slots places ps new index other
index_of_other p slots places ps old new owner index other differ stay h = subst (IsIndexOf p slots places ps) (sym (stay index other differ)) h

-- the properties and places that were told are those that the layer below tells now
pub index_at_same : (p : Texts) (slots : List Slot) (places places' : List ℕ) (ps ps' : List Property) (listed : ListedBlocks) (index owner : ℕ) → places' ≡ places → ps' ≡ ps
    → IsIndexAt p slots places ps listed index owner → IsIndexAt p slots places' ps' listed index owner
index_at_same p slots places places' ps ps' listed index owner is same h =
    subst (λ xs. IsIndexAt p slots xs ps' listed index owner) (sym is) (subst (λ xs. IsIndexAt p slots places xs listed index owner) (sym same) h)

-- no indexes are those of any properties
pub index_at_none : (p : Texts) (slots : List Slot) (places : List ℕ) (ps : List Property) (listed : ListedBlocks) (index owner : ℕ) → buckets_at listed index owner ≡ []
    → IsIndexAt p slots places ps listed index owner
index_at_none p slots places ps listed index owner none = placed_none p slots places ps (buckets_at listed index owner) (ap length none)
