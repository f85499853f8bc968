-- Indexes by the places at which properties stand: what a change of links leaves, and what is added and taken away.
use Rattle.std.proofs.Common.{◌≡◌, ◌≢◌, ℕ, zero, suc, ◌+◌, ◌-◌, ◌<◌, ◌≤◌, true, false, ◌⊎◌, inl, inr, List, [], ◌∷◌, ◌++◌, length, map, None, Some, Result, Ok, Err, refl, sym, ap, ◌∙◌, subst, arith, replicate, take, slice_get}
use Rattle.std.specs.Prelude.{◌==◌, IfOk, if◌then◌else◌, option_and_then, remove, slice_index, slice_index_or, slice_set}
use Rattle.std.specs.Result.{result_unwrap_or}
use Rattle.std.proofs.lemmas.Bool.{cases_eq, cases_lt, cases_order}
use Rattle.std.proofs.lemmas.Bool.Decides.{nat_tests}
use Rattle.std.proofs.lemmas.Grind.{same_number_lists}
use Rattle.std.proofs.lemmas.List.Edits.{get_or-remove_above, get_or-remove_below, length-remove}
use Rattle.std.proofs.lemmas.List.{get_or-map, get_or-set_other, get_or-set_same, get_or_append_left, get_or_at, get_or_past, get_or-take, length-append, length-map, length-set, length-take-le, map-set, take_all, take_more}
use Rattle.std.proofs.lemmas.Option.{get_or_from_slice_get, slice_get-get_or, slice_get_within}
use Rattle.rip_base.specs.declared.value.Span.{Span}
use Rattle.rip_base.specs.declared.value.Value.TheVariants.{Undefined}
use Rattle.rip_values.specs.Pool.{Texts, IsSpan, text_at}
use Rattle.rip_heap_region.specs.declared.pages.property.Property.{Property}
use Rattle.rip_heap_region.specs.declared.pages.slot.Slot.{Slot}
use Rattle.rip_heap_region.specs.declared.pages.for_rows.Row.TheVariants.{Properties}
use Rattle.rip_heap_region.specs.Pages.{Paged, no_slot, slot_at, with_row}
use Rattle.rip_heap_region.specs.declared.chains.chain.Chain.{Chain}
use Rattle.rip_heap_region.specs.Chains.{IsChain, OnlyLinks, Rising, places_of, properties_of, property_in}
use Rattle.rip_heap_region.specs.Names.{same_text, place_of}
use Rattle.rip_heap_region.proofs.ChainLemmas.{chain_kept, place_within, places_count}
use Rattle.rip_heap_region.proofs.WalkLemmas.{map_like, properties_frame, rising_below, rising_within, walk_first, walk_frame, walk_next}
use Rattle.rip_heap_region.specs.Blocks.{ListedBlocks, buckets_at, relinked}
use Rattle.rip_heap_region.specs.NameIndex.{IsIndexAt, IsIndexOf, IsLast, IsPlaced, OthersKeepLinks, bucket_at, bucket_of, name_at, to_place}
use Rattle.rip_heap_region.proofs.NameIndexLemmas.{Walked, empty_index, index_added, index_removed, others, place_found, place_none, shifted, shifted-here, shifted-high, shifted-low, walk_begun, walk_found, walk_passed}

-- ONLY LINKS CHANGE

pub only_same : (slots : List Slot) → OnlyLinks slots slots
only_same slots = record { size = refl; nexts = λ p lt. refl; properties = λ p lt. refl }

pub only_then : (a b c : List Slot) → OnlyLinks a b → OnlyLinks b c → OnlyLinks a c
only_then a b c h g = record {
  size = g.size ∙ h.size;
  nexts = λ p lt. g.nexts p (omega (arith, lt, h.size)) ∙ h.nexts p lt;
  properties = λ p lt. g.properties p (omega (arith, lt, h.size)) ∙ h.properties p lt;
}

-- a slot gets another link
pub only_set : (slots : List Slot) (at v : ℕ) → OnlyLinks slots (slice_set slots at (record (slot_at slots at) { link = v }))
only_set slots at v = record {
  size = length-set slots at linked;
  nexts = λ p lt. next p lt (cases_eq p at);
  properties = λ p lt. property p lt (cases_eq p at);
}
  where
    linked : Slot
    linked = record (slot_at slots at) { link = v }

    there : (p : ℕ) → p ≡ at → p < length slots → slot_at (slice_set slots at linked) p ≡ linked
    there p is lt = ap (slot_at (slice_set slots at linked)) is ∙ get_or-set_same slots at linked no_slot (omega (arith, is, lt))

    next : (p : ℕ) → p < length slots → (p ≡ at) ⊎ (p ≢ at) → (slot_at (slice_set slots at linked) p).next ≡ (slot_at slots p).next
    next p lt (inl is) = ap (λ (s : Slot). s.next) (there p is lt) ∙ ap (λ q. (slot_at slots q).next) (sym is)
    next p lt (inr other) = ap (λ (s : Slot). s.next) (get_or-set_other slots at p linked no_slot other)

    property : (p : ℕ) → p < length slots → (p ≡ at) ⊎ (p ≢ at) → property_in (slot_at (slice_set slots at linked) p) ≡ property_in (slot_at slots p)
    property p lt (inl is) = ap property_in (there p is lt) ∙ ap (λ q. property_in (slot_at slots q)) (sym is)
    property p lt (inr other) = ap property_in (get_or-set_other slots at p linked no_slot other)

-- the link that it gets, and those of the others
pub link_set : (slots : List Slot) (at v : ℕ) → at < length slots → (slot_at (slice_set slots at (record (slot_at slots at) { link = v })) at).link ≡ v
link_set slots at v lt = ap (λ (s : Slot). s.link) (get_or-set_same slots at (record (slot_at slots at) { link = v }) no_slot lt)

pub link_other : (slots : List Slot) (at v p : ℕ) → p ≢ at → (slot_at (slice_set slots at (record (slot_at slots at) { link = v })) p).link ≡ (slot_at slots p).link
link_other slots at v p other = ap (λ (s : Slot). s.link) (get_or-set_other slots at p (record (slot_at slots at) { link = v }) no_slot other)

-- also past the end
next_same : (old new : List Slot) (p : ℕ) → OnlyLinks old new → (slot_at new p).next ≡ (slot_at old p).next
next_same old new p h = by (cases_lt p (length old))
  where
    by : (p < length old) ⊎ (length old ≤ p) → (slot_at new p).next ≡ (slot_at old p).next
    by (inl lt) = h.nexts p lt
    by (inr le) =
        ap (λ (s : Slot). s.next) (get_or_past new p no_slot (omega (arith, le, h.size))) ∙ sym (ap (λ (s : Slot). s.next) (get_or_past old p no_slot le))

property_same : (old new : List Slot) (p : ℕ) → OnlyLinks old new → property_in (slot_at new p) ≡ property_in (slot_at old p)
property_same old new p h = by (cases_lt p (length old))
  where
    by : (p < length old) ⊎ (length old ≤ p) → property_in (slot_at new p) ≡ property_in (slot_at old p)
    by (inl lt) = h.properties p lt
    by (inr le) = ap property_in (get_or_past new p no_slot (omega (arith, le, h.size))) ∙ sym (ap property_in (get_or_past old p no_slot le))

pub only_places : (old new : List Slot) (chain : Chain) → OnlyLinks old new → places_of new chain ≡ places_of old chain
only_places old new chain h = walk_frame old new chain.first chain.count (λ i p lt is. next_same old new p h)

pub only_properties : (old new : List Slot) (chain : Chain) → OnlyLinks old new → properties_of new chain ≡ properties_of old chain
only_properties old new chain h =
    ap (λ places. map (λ place. property_in (slot_at new place)) places) (only_places old new chain h)
    ∙ properties_frame old new (places_of old chain) (λ i p is. property_same old new p h)

pub only_chain : (old new : List Slot) (chain : Chain) → OnlyLinks old new → IsChain old chain → IsChain new chain
only_chain old new chain h is = chain_kept old new chain (omega (arith, h.size)) (only_places old new chain h) is

-- PLACES THAT RISE

pub get_at : (places : List ℕ) (i : ℕ) → i < length places → slice_get places i ≡ Some (slice_index places i)
get_at places i lt = slice_get-get_or places i 0 lt

pub rising_lower : (from to : ℕ) (places : List ℕ) (i j : ℕ) → Rising from to places → i < j → j < length places → slice_index places i < slice_index places j
rising_lower from to places i j rise lt within =
    rising_below from to places i j (slice_index places i) (slice_index places j) rise lt (get_at places i (omega (arith, lt, within))) (get_at places j within)

pub rising_in : (from to : ℕ) (places : List ℕ) (i : ℕ) → Rising from to places → i < length places → slice_index places i < to
rising_in from to places i rise lt = (rising_within from to places i (slice_index places i) rise (get_at places i lt)).1

-- two of them are different
pub rising_apart : (from to : ℕ) (places : List ℕ) (i j : ℕ) → Rising from to places → i ≢ j → i < length places → j < length places → slice_index places i ≢ slice_index places j
rising_apart from to places i j rise differ one other = by (cases_order i j)
  where
    by : (i ≡ j) ⊎ ((i < j) ⊎ (j < i)) → slice_index places i ≢ slice_index places j
    by (inl is) = absurd (differ is)
    by (inr (inl lt)) = λ same. omega (arith, same, rising_lower from to places i j rise lt other)
    by (inr (inr gt)) = λ same. omega (arith, same, rising_lower from to places j i rise gt one)

-- NUMBERS THAT STAND FOR PLACES

pub to_place_next : (places : List ℕ) (v n : ℕ) → v ≡ n + 1 → to_place places v ≡ slice_index places n + 1
to_place_next places zero n is = absurd (omega (arith, is))
to_place_next places (suc v) n is = let same : v ≡ n = omega (arith, is) in ap (λ k. slice_index places k + 1) same

-- a number that leads to a place is some
pub to_place_some : (places : List ℕ) (v : ℕ) → 0 < to_place places v → 0 < v
to_place_some places zero some = absurd (omega (arith, some))
to_place_some places (suc v) some = omega arith

pub to_place_none : (places : List ℕ) (v : ℕ) → to_place places v ≡ 0 → v ≡ 0
to_place_none places zero none = refl
to_place_none places (suc v) none = absurd (omega (arith, none))

to_place_front : (places : List ℕ) (p v : ℕ) → v ≤ length places → to_place (places ++ p ∷ []) v ≡ to_place places v
to_place_front places p zero le = refl
to_place_front places p (suc v) le = ap (λ q. q + 1) (get_or_append_left places (p ∷ []) 0 v (omega (arith, le)))

-- a lower number leads below
pub to_place_below : (from to : ℕ) (places : List ℕ) (v n : ℕ) → Rising from to places → v ≤ n → n < length places → to_place places v < slice_index places n + 1
to_place_below from to places zero n rise le lt = omega arith
to_place_below from to places (suc v) n rise le lt = omega (arith, rising_lower from to places v n rise (omega (arith, le)) lt)

pub relinked_here : (place link v : ℕ) → v ≡ place + 1 → relinked place link v ≡ link
relinked_here place link zero is = absurd (omega (arith, is))
relinked_here place link (suc v) is =
    let test : (v == place) ≡ true = grind (arith, nat_tests) in
    ap (λ t. if t then link else suc v) test

pub relinked_other : (place link v : ℕ) → v ≢ place + 1 → relinked place link v ≡ v
relinked_other place link zero other = refl
relinked_other place link (suc v) other =
    let test : (v == place) ≡ false = grind (arith, nat_tests) in
    ap (λ t. if t then link else suc v) test

-- where the property of number k is gone, what stands for its place stands for that of its link
to_place_shifted : (from to : ℕ) (places : List ℕ) (k link v : ℕ) → Rising from to places → k < length places → link ≤ k → v ≤ length places
    → to_place (remove places k) (shifted (k + 1) link v) ≡ relinked (slice_index places k) (to_place places link) (to_place places v)
to_place_shifted from to places k link v rise within low le = by (cases_order v (k + 1))
  where
    left : List ℕ
    left = remove places k

    front : (n : ℕ) → n ≤ k → to_place (remove places k) n ≡ to_place places n
    front zero le = refl
    front (suc n) le = ap (λ q. q + 1) (get_or-remove_below places k 0 n (omega (arith, le)) within)

    behind : (n : ℕ) → k < n → to_place (remove places k) n ≡ slice_index places n + 1
    behind zero lt = absurd (omega (arith, lt))
    behind (suc n) lt =
        let next : n + 1 ≡ suc n = omega arith in
        ap (λ q. q + 1) (get_or-remove_above places k 0 n (omega (arith, lt)) within ∙ ap (slice_index places) next)

    before : (n : ℕ) → n ≤ k → to_place places n ≢ slice_index places k + 1
    before n le = λ same. omega (arith, same, to_place_below from to places n k rise le within)

    by : (v ≡ k + 1) ⊎ ((v < k + 1) ⊎ (k + 1 < v)) → to_place (remove places k) (shifted (k + 1) link v) ≡ relinked (slice_index places k) (to_place places link) (to_place places v)
    by (inl is) =
        ap (to_place (remove places k)) (shifted-here (k + 1) link v is) ∙ front link low
        ∙ sym (relinked_here (slice_index places k) (to_place places link) (to_place places v) (to_place_next places v k is))
    by (inr (inl lt)) =
        ap (to_place (remove places k)) (shifted-low (k + 1) link v lt) ∙ front v (omega (arith, lt))
        ∙ sym (relinked_other (slice_index places k) (to_place places link) (to_place places v) (before v (omega (arith, lt))))
    by (inr (inr gt)) =
        let one : v ≡ (v - 1) + 1 = omega (arith, gt) in
        let place = to_place_next places v (v - 1) one in
        ap (to_place (remove places k)) (shifted-high (k + 1) link v gt) ∙ behind (v - 1) (omega (arith, gt)) ∙ sym place
        ∙ sym (relinked_other (slice_index places k) (to_place places link) (to_place places v)
        (λ same. omega (arith, same, place, rising_lower from to places k (v - 1) rise (omega (arith, gt)) (omega (arith, le, gt)))))

-- WHAT IS MADE

map_zeros : (n : ℕ) → map (to_place []) (replicate n 0) ≡ replicate n 0
map_zeros zero = refl
map_zeros (suc n) = ap (λ xs. 0 ∷ xs) (map_zeros n)

-- buckets with nothing in them
pub placed_empty : (p : Texts) (slots : List Slot) (buckets : List ℕ) (n : ℕ) → 0 < n → buckets ≡ replicate n 0 → IsPlaced p slots [] [] buckets
placed_empty p slots buckets n some is = record {
  numbers = replicate n 0;
  before = [];
  index = empty_index p (replicate n 0) [] n some refl refl;
  placed = map_zeros n ∙ sym is;
  links = λ i lt. absurd (omega (arith, lt));
}

-- one property more, of which the bucket was found
pub placed_added : (p : Texts) (slots slots' : List Slot) (places : List ℕ) (ps : List Property) (place : ℕ) (x : Property) (buckets buckets' : List ℕ) (b : ℕ)
    → IsPlaced p slots places ps buckets → length ps ≡ length places → IsSpan p x.name → b ≡ bucket_of (length buckets) (text_at p x.name) → b < length buckets
    → buckets' ≡ slice_set buckets b (place + 1)
    → ((i : ℕ) → i < length places → (slot_at slots' (slice_index places i)).link ≡ (slot_at slots (slice_index places i)).link)
    → (slot_at slots' place).link ≡ slice_index buckets b
    → IsPlaced p slots' (places ++ place ∷ []) (ps ++ x ∷ []) buckets'
placed_added p slots slots' places ps place x buckets buckets' b h same lies is-bucket within is-buckets others link = record {
  numbers = slice_set h.numbers b (length ps + 1);
  before = h.before ++ slice_index h.numbers b ∷ [];
  index = index_added p ps x h.numbers h.before (slice_set h.numbers b (length ps + 1)) (h.before ++ slice_index h.numbers b ∷ []) b h.index lies
      (is-bucket ∙ ap (λ n. bucket_of n (text_at p x.name)) (sym size)) low refl refl;
  placed = map-set (to_place more) h.numbers b (length ps + 1) ∙ (λ t. slice_set (stay t) b (newest t)) ∙ sym is-buckets;
  links = λ i lt. by i (omega (arith, lt, length-append places (place ∷ []))) (cases_lt i (length places));
}
  where
    more : List ℕ
    more = places ++ place ∷ []

    size : length h.numbers ≡ length buckets
    size = sym (length-map h.numbers (to_place places)) ∙ ap length h.placed

    low : b < length h.numbers
    low = omega (arith, within, size)

    front : (i : ℕ) → i < length h.numbers → to_place (places ++ place ∷ []) (slice_index h.numbers i) ≡ to_place places (slice_index h.numbers i)
    front i lt = to_place_front places place (slice_index h.numbers i) (omega (arith, (h.index.heads i lt).within, same))

    stay : map (to_place (places ++ place ∷ [])) h.numbers ≡ buckets
    stay = map_like (to_place (places ++ place ∷ [])) (to_place places) h.numbers 0 front ∙ h.placed

    newest : to_place (places ++ place ∷ []) (length ps + 1) ≡ place + 1
    newest = to_place_next (places ++ place ∷ []) (length ps + 1) (length ps) refl ∙ ap (λ q. q + 1) (get_or_at places place [] 0 (length ps) (sym same))

    last : slice_index buckets b ≡ to_place places (slice_index h.numbers b)
    last = ap (λ xs. slice_index xs b) (sym h.placed) ∙ get_or-map (to_place places) h.numbers b 0 0 low

    by : (i : ℕ) → i < length places + 1 → (i < length places) ⊎ (length places ≤ i)
        → (slot_at slots' (slice_index (places ++ place ∷ []) i)).link ≡ to_place (places ++ place ∷ []) (slice_index (h.before ++ slice_index h.numbers b ∷ []) i)
    by i end (inl lt) =
        let there : i < length h.before = omega (arith, lt, h.index.all, same) in
        let before : slice_index (h.before ++ slice_index h.numbers b ∷ []) i ≡ slice_index h.before i = get_or_append_left h.before (slice_index h.numbers b ∷ []) 0 i there in
        ap (λ q. (slot_at slots' q).link) (get_or_append_left places (place ∷ []) 0 i lt) ∙ others i lt ∙ h.links i lt
        ∙ sym (ap (to_place (places ++ place ∷ [])) before ∙ to_place_front places place (slice_index h.before i) (omega (arith, (h.index.links i (omega (arith, lt, same))).within, lt)))
    by i end (inr le) =
        let is : i ≡ length places = omega (arith, end, le) in
        let before : slice_index (h.before ++ slice_index h.numbers b ∷ []) i ≡ slice_index h.numbers b = get_or_at h.before (slice_index h.numbers b) [] 0 i (omega (arith, is, h.index.all, same)) in
        ap (λ q. (slot_at slots' q).link) (get_or_at places place [] 0 i (sym is)) ∙ link ∙ last
        ∙ sym (ap (to_place (places ++ place ∷ [])) before ∙ front b low)

-- WHAT IS TAKEN AWAY

pub placed_removed : (p : Texts) (from to : ℕ) (slots slots' : List Slot) (places : List ℕ) (ps : List Property) (k : ℕ) (buckets buckets' : List ℕ)
    → IsPlaced p slots places ps buckets → Rising from to places → length ps ≡ length places → k < length places
    → buckets' ≡ map (relinked (slice_index places k) (slot_at slots (slice_index places k)).link) buckets
    → ((i : ℕ) → i < length places
    → (slot_at slots' (slice_index places i)).link ≡ relinked (slice_index places k) (slot_at slots (slice_index places k)).link (slot_at slots (slice_index places i)).link)
    → IsPlaced p slots' (remove places k) (remove ps k) buckets'
placed_removed p from to slots slots' places ps k buckets buckets' h rise same within is-buckets each = record {
  numbers = map (shifted (k + 1) link) h.numbers;
  before = map (shifted (k + 1) link) (remove h.before k);
  index = index_removed p ps h.numbers h.before (map (shifted (k + 1) link) h.numbers) (map (shifted (k + 1) link) (remove h.before k)) k h.index (omega (arith, within, same))
      (length-map h.numbers (shifted (k + 1) link)) (λ i lt. get_or-map (shifted (k + 1) link) h.numbers i 0 0 lt)
      (length-map (remove h.before k) (shifted (k + 1) link)) (λ i lt. get_or-map (shifted (k + 1) link) (remove h.before k) i 0 0 lt);
  placed = made ∙ sym is-buckets;
  links = λ i lt. linked i (omega (arith, lt, fewer)) (cases_lt i k);
}
  where
    link : ℕ
    link = slice_index h.before k

    linked-to : (slot_at slots (slice_index places k)).link ≡ to_place places (slice_index h.before k)
    linked-to = h.links k within

    low : slice_index h.before k ≤ k
    low = (h.index.links k (omega (arith, within, same))).within

    fewer : length (remove places k) + 1 ≡ length places
    fewer = length-remove places k within

    -- a number that stands for a place
    stands : (v : ℕ) → v ≤ length places
        → to_place (remove places k) (shifted (k + 1) (slice_index h.before k) v) ≡ relinked (slice_index places k) (slot_at slots (slice_index places k)).link (to_place places v)
    stands v le =
        to_place_shifted from to places k (slice_index h.before k) v rise within low le
        ∙ ap (λ l. relinked (slice_index places k) l (to_place places v)) (sym linked-to)

    size : length h.numbers ≡ length buckets
    size = sym (length-map h.numbers (to_place places)) ∙ ap length h.placed

    left : List ℕ
    left = map (to_place (remove places k)) (map (shifted (k + 1) (slice_index h.before k)) h.numbers)

    right : List ℕ
    right = map (relinked (slice_index places k) (slot_at slots (slice_index places k)).link) buckets

    shown : (i : ℕ) → i < length h.numbers → slice_index left i ≡ slice_index right i
    shown i lt =
        get_or-map (to_place (remove places k)) (map (shifted (k + 1) (slice_index h.before k)) h.numbers) i 0 0 (omega (arith, lt, length-map h.numbers (shifted (k + 1) (slice_index h.before k))))
        ∙ ap (to_place (remove places k)) (get_or-map (shifted (k + 1) (slice_index h.before k)) h.numbers i 0 0 lt)
        ∙ stands (slice_index h.numbers i) (omega (arith, (h.index.heads i lt).within, same))
        ∙ ap (relinked (slice_index places k) (slot_at slots (slice_index places k)).link)
        (sym (get_or-map (to_place places) h.numbers i 0 0 lt) ∙ ap (λ xs. slice_index xs i) h.placed)
        ∙ sym (get_or-map (relinked (slice_index places k) (slot_at slots (slice_index places k)).link) buckets i 0 0 (omega (arith, lt, size)))

    count : length left ≡ length h.numbers
    count = length-map (map (shifted (k + 1) (slice_index h.before k)) h.numbers) (to_place (remove places k)) ∙ length-map h.numbers (shifted (k + 1) (slice_index h.before k))

    made : left ≡ right
    made = same_number_lists left right
        (count ∙ size ∙ sym (length-map buckets (relinked (slice_index places k) (slot_at slots (slice_index places k)).link)))
        (λ i lt. shown i (omega (arith, lt, count)))

    linked : (i : ℕ) → i + 1 < length places → (i < k) ⊎ (k ≤ i)
        → (slot_at slots' (slice_index (remove places k) i)).link ≡ to_place (remove places k) (slice_index (map (shifted (k + 1) (slice_index h.before k)) (remove h.before k)) i)
    linked i end side =
        place ∙ each j j-in ∙ ap (relinked (slice_index places k) (slot_at slots (slice_index places k)).link) (h.links j j-in)
        ∙ sym (ap (to_place (remove places k)) (get_or-map (shifted (k + 1) (slice_index h.before k)) (remove h.before k) i 0 0 there ∙ ap (shifted (k + 1) (slice_index h.before k)) before)
        ∙ stands (slice_index h.before j) (omega (arith, (h.index.links j (omega (arith, j-in, same))).within, j-in)))
      where
        -- the number that it had before
        had : (i < k) ⊎ (k ≤ i) → ℕ
        had (inl lt) = i
        had (inr le) = i + 1

        j : ℕ
        j = had side

        j-in : had side < length places
        j-in = inside side
          where
            inside : (s : (i < k) ⊎ (k ≤ i)) → had s < length places
            inside (inl lt) = omega (arith, end)
            inside (inr le) = end

        there : i < length (remove h.before k)
        there = omega (arith, length-remove h.before k (omega (arith, within, same, h.index.all)), h.index.all, same, end)

        place : (slot_at slots' (slice_index (remove places k) i)).link ≡ (slot_at slots' (slice_index places (had side))).link
        place = at side
          where
            at : (s : (i < k) ⊎ (k ≤ i)) → (slot_at slots' (slice_index (remove places k) i)).link ≡ (slot_at slots' (slice_index places (had s))).link
            at (inl lt) = ap (λ q. (slot_at slots' q).link) (get_or-remove_below places k 0 i lt within)
            at (inr le) = ap (λ q. (slot_at slots' q).link) (get_or-remove_above places k 0 i le within)

        before : slice_index (remove h.before k) i ≡ slice_index h.before (had side)
        before = at side
          where
            known : k < length h.before
            known = omega (arith, within, same, h.index.all)

            at : (s : (i < k) ⊎ (k ≤ i)) → slice_index (remove h.before k) i ≡ slice_index h.before (had s)
            at (inl lt) = get_or-remove_below h.before k 0 i lt known
            at (inr le) = get_or-remove_above h.before k 0 i le known

-- WHERE THERE MAY BE NO INDEX

-- an index has buckets
pub placed_there : (p : Texts) (slots : List Slot) (places : List ℕ) (ps : List Property) (buckets : List ℕ) → 0 < length buckets → IsIndexOf p slots places ps buckets → IsPlaced p slots places ps buckets
placed_there p slots places ps [] some h = absurd (omega (arith, some))
placed_there p slots places ps (b ∷ buckets) some h = h

pub placed_kept : (p : Texts) (slots : List Slot) (places : List ℕ) (ps : List Property) (buckets : List ℕ) → IsPlaced p slots places ps buckets → IsIndexOf p slots places ps buckets
placed_kept p slots places ps [] h = tt
placed_kept p slots places ps (b ∷ buckets) h = h

-- where there are none, nothing is kept
pub placed_none : (p : Texts) (slots : List Slot) (places : List ℕ) (ps : List Property) (buckets : List ℕ) → length buckets ≡ 0 → IsIndexOf p slots places ps buckets
placed_none p slots places ps [] none = tt
placed_none p slots places ps (b ∷ buckets) none = absurd (omega (arith, none))

-- A WALK ALONG THE LINKS

-- the name of a property of a chain is that of its slot
pub name_of_slot : (slots : List Slot) (chain : Chain) (k : ℕ) → k < length (places_of slots chain) → name_at (properties_of slots chain) k ≡ (slot_at slots (slice_index (places_of slots chain) k)).name
name_of_slot slots chain k lt =
    ap (λ (x : Property). x.name)
    (get_or-map (λ place. property_in (slot_at slots place)) (places_of slots chain) k 0 (record { name = record { start = 0; count = 0 }; value = Undefined }) lt)

pub chain_counts : (slots : List Slot) (chain : Chain) → length (properties_of slots chain) ≡ length (places_of slots chain)
chain_counts slots chain = length-map (places_of slots chain) (λ place. property_in (slot_at slots place))

-- the walk by numbers that a walk along the links of a chain's slots stands for: `left` is the next place, and `found` the
-- one that was found, both counted from 1
pub record PlaceWalk (p : Texts) (name : Span) (slots : List Slot) (chain : Chain) (n left found : ℕ) : Type 0 where
  pub number : ℕ
  pub least : ℕ
  pub walked : Walked (λ k. same_text p (name_at (properties_of slots chain) k) name) (bucket_at p n (properties_of slots chain)) (bucket_of n (text_at p name)) (length (properties_of slots chain)) number least
  pub leads : left ≡ to_place (places_of slots chain) number
  pub some : least < length (properties_of slots chain) → found ≡ slice_index (places_of slots chain) least + 1
  pub none : length (properties_of slots chain) ≤ least → found ≡ 0

numbers_count : (p : Texts) (slots : List Slot) (places : List ℕ) (ps : List Property) (buckets : List ℕ) (h : IsPlaced p slots places ps buckets) → length h.numbers ≡ length buckets
numbers_count p slots places ps buckets h = sym (length-map h.numbers (to_place places)) ∙ ap length h.placed

pub place_walk_begun : (p : Texts) (name : Span) (slots : List Slot) (chain : Chain) (buckets : List ℕ) (b left : ℕ) → IsPlaced p slots (places_of slots chain) (properties_of slots chain) buckets
    → b ≡ bucket_of (length buckets) (text_at p name) → b < length buckets → left ≡ slice_index buckets b → PlaceWalk p name slots chain (length buckets) left 0
place_walk_begun p name slots chain buckets b left h bucket within is = record {
  number = slice_index h.numbers b;
  least = length (properties_of slots chain);
  walked = walk_begun (λ k. same_text p (name_at (properties_of slots chain) k) name) (bucket_at p (length buckets) (properties_of slots chain)) (bucket_of (length buckets) (text_at p name))
      (length (properties_of slots chain)) (slice_index h.numbers b) (λ k differ. others p name (length buckets) (properties_of slots chain) k differ)
      (subst (λ c. IsLast (bucket_at p (length buckets) (properties_of slots chain)) c (length (properties_of slots chain)) (slice_index h.numbers b)) bucket
      (subst (λ n. IsLast (bucket_at p n (properties_of slots chain)) b (length (properties_of slots chain)) (slice_index h.numbers b)) size (h.index.heads b low)));
  leads = is ∙ ap (λ xs. slice_index xs b) (sym h.placed) ∙ get_or-map (to_place (places_of slots chain)) h.numbers b 0 0 low;
  some = λ lt. absurd (omega (arith, lt));
  none = λ le. refl;
}
  where
    size : length h.numbers ≡ length buckets
    size = numbers_count p slots (places_of slots chain) (properties_of slots chain) buckets h

    low : b < length h.numbers
    low = omega (arith, within, size)

-- what is known of the next place
pub record WalkStep (p : Texts) (slots : List Slot) (chain : Chain) (n number left : ℕ) : Type 0 where
  pub some : 0 < number
  pub low : number - 1 < length (places_of slots chain)
  pub place : slice_index (places_of slots chain) (number - 1) ≡ left - 1
  pub before : ℕ
  pub link : (slot_at slots (left - 1)).link ≡ to_place (places_of slots chain) before
  pub last : IsLast (bucket_at p n (properties_of slots chain)) (bucket_at p n (properties_of slots chain) (number - 1)) (number - 1) before
  pub named : name_at (properties_of slots chain) (number - 1) ≡ (slot_at slots (left - 1)).name

pub walk_step : (p : Texts) (name : Span) (slots : List Slot) (chain : Chain) (buckets : List ℕ) (left found : ℕ) → IsPlaced p slots (places_of slots chain) (properties_of slots chain) buckets
    → (w : PlaceWalk p name slots chain (length buckets) left found) → 0 < left → WalkStep p slots chain (length buckets) w.number left
walk_step p name slots chain buckets left found h w more = record {
  some = positive;
  low = low;
  place = place;
  before = slice_index h.before (w.number - 1);
  link = ap (λ q. (slot_at slots q).link) (sym place) ∙ h.links (w.number - 1) low;
  last = subst (λ n. IsLast (bucket_at p n (properties_of slots chain)) (bucket_at p n (properties_of slots chain) (w.number - 1)) (w.number - 1) (slice_index h.before (w.number - 1)))
      (numbers_count p slots (places_of slots chain) (properties_of slots chain) buckets h) (h.index.links (w.number - 1) (omega (arith, low, chain_counts slots chain)));
  named = name_of_slot slots chain (w.number - 1) low ∙ ap (λ q. (slot_at slots q).name) place;
}
  where
    positive : 0 < w.number
    positive = to_place_some (places_of slots chain) w.number (omega (arith, more, w.leads))

    low : w.number - 1 < length (places_of slots chain)
    low = omega (arith, w.walked.within, chain_counts slots chain, positive)

    place : slice_index (places_of slots chain) (w.number - 1) ≡ left - 1
    place = omega (arith, w.leads, to_place_next (places_of slots chain) w.number (w.number - 1) (omega (arith, positive)))

-- the next place lies in the row
pub walk_within : (p : Texts) (name : Span) (slots : List Slot) (chain : Chain) (buckets : List ℕ) (left found : ℕ) → IsChain slots chain → IsPlaced p slots (places_of slots chain) (properties_of slots chain) buckets
    → PlaceWalk p name slots chain (length buckets) left found → 0 < left → left - 1 < length slots
walk_within p name slots chain buckets left found is h w more =
    let step = walk_step p name slots chain buckets left found h w more in
    omega (arith, step.place, rising_in 0 (length slots) (places_of slots chain) (w.number - 1) is.rising step.low)

-- the link leads below it
pub walk_lower : (p : Texts) (name : Span) (slots : List Slot) (chain : Chain) (buckets : List ℕ) (left found : ℕ) → IsChain slots chain → IsPlaced p slots (places_of slots chain) (properties_of slots chain) buckets
    → PlaceWalk p name slots chain (length buckets) left found → 0 < left → (slot_at slots (left - 1)).link < left
walk_lower p name slots chain buckets left found is h w more =
    let step = walk_step p name slots chain buckets left found h w more in
    omega (arith, step.link, step.place, more, to_place_below 0 (length slots) (places_of slots chain) step.before (w.number - 1) is.rising step.last.within step.low)

pub place_walk_found : (p : Texts) (name : Span) (slots : List Slot) (chain : Chain) (buckets : List ℕ) (left found : ℕ) → IsPlaced p slots (places_of slots chain) (properties_of slots chain) buckets
    → PlaceWalk p name slots chain (length buckets) left found → 0 < left → same_text p (slot_at slots (left - 1)).name name ≡ true
    → PlaceWalk p name slots chain (length buckets) (slot_at slots (left - 1)).link left
place_walk_found p name slots chain buckets left found h w more passes =
    let step = walk_step p name slots chain buckets left found h w more in
    record {
      number = step.before;
      least = w.number - 1;
      walked = walk_found (λ k. same_text p (name_at (properties_of slots chain) k) name) (bucket_at p (length buckets) (properties_of slots chain)) (bucket_of (length buckets) (text_at p name))
          (length (properties_of slots chain)) w.number step.before w.least (λ k differ. others p name (length buckets) (properties_of slots chain) k differ) step.some w.walked step.last
          (ap (λ s. same_text p s name) step.named ∙ passes);
      leads = step.link;
      some = λ lt. omega (arith, step.place, more);
      none = λ le. absurd (omega (arith, le, step.low, chain_counts slots chain));
    }

pub place_walk_passed : (p : Texts) (name : Span) (slots : List Slot) (chain : Chain) (buckets : List ℕ) (left found : ℕ) → IsPlaced p slots (places_of slots chain) (properties_of slots chain) buckets
    → PlaceWalk p name slots chain (length buckets) left found → 0 < left → same_text p (slot_at slots (left - 1)).name name ≡ false
    → PlaceWalk p name slots chain (length buckets) (slot_at slots (left - 1)).link found
place_walk_passed p name slots chain buckets left found h w more fails =
    let step = walk_step p name slots chain buckets left found h w more in
    record {
      number = step.before;
      least = w.least;
      walked = walk_passed (λ k. same_text p (name_at (properties_of slots chain) k) name) (bucket_at p (length buckets) (properties_of slots chain)) (bucket_of (length buckets) (text_at p name))
          (length (properties_of slots chain)) w.number step.before w.least (λ k differ. others p name (length buckets) (properties_of slots chain) k differ) step.some w.walked step.last
          (ap (λ s. same_text p s name) step.named ∙ fails);
      leads = step.link;
      some = w.some;
      none = w.none;
    }

-- a walk that is at its end has found the first place of the name
pub place_walk_ended : (p : Texts) (name : Span) (slots : List Slot) (chain : Chain) (n found : ℕ) → PlaceWalk p name slots chain n 0 found → 0 < found
    → Some (found - 1) ≡ option_and_then (slice_get (places_of slots chain)) (place_of p name (properties_of slots chain))
place_walk_ended p name slots chain n found w more = by (cases_lt w.least (length (properties_of slots chain)))
  where
    by : (w.least < length (properties_of slots chain)) ⊎ (length (properties_of slots chain) ≤ w.least)
        → Some (found - 1) ≡ option_and_then (slice_get (places_of slots chain)) (place_of p name (properties_of slots chain))
    by (inl lt) =
        let down : w.number ≡ 0 = to_place_none (places_of slots chain) w.number (sym w.leads) in
        let there = place_found p name (properties_of slots chain) (bucket_at p n (properties_of slots chain)) (bucket_of n (text_at p name)) w.least
        (subst (λ k. Walked (λ k. same_text p (name_at (properties_of slots chain) k) name) (bucket_at p n (properties_of slots chain)) (bucket_of n (text_at p name)) (length (properties_of slots chain)) k w.least) down w.walked) lt in
        let place : found - 1 ≡ slice_index (places_of slots chain) w.least = omega (arith, w.some lt) in
        ap (λ q. Some q) place ∙ sym (get_at (places_of slots chain) w.least (omega (arith, lt, chain_counts slots chain)))
        ∙ sym (ap (λ o. option_and_then (slice_get (places_of slots chain)) o) there)
    by (inr le) = absurd (omega (arith, more, w.none le))

pub place_walk_nowhere : (p : Texts) (name : Span) (slots : List Slot) (chain : Chain) (n found : ℕ) → PlaceWalk p name slots chain n 0 found → found ≡ 0
    → None ≡ option_and_then (slice_get (places_of slots chain)) (place_of p name (properties_of slots chain))
place_walk_nowhere p name slots chain n found w nothing = by (cases_lt w.least (length (properties_of slots chain)))
  where
    by : (w.least < length (properties_of slots chain)) ⊎ (length (properties_of slots chain) ≤ w.least)
        → None ≡ option_and_then (slice_get (places_of slots chain)) (place_of p name (properties_of slots chain))
    by (inl lt) = absurd (omega (arith, nothing, w.some lt))
    by (inr le) =
        let down : w.number ≡ 0 = to_place_none (places_of slots chain) w.number (sym w.leads) in
        let there = place_none p name (properties_of slots chain) (bucket_at p n (properties_of slots chain)) (bucket_of n (text_at p name)) w.least
        (subst (λ k. Walked (λ k. same_text p (name_at (properties_of slots chain) k) name) (bucket_at p n (properties_of slots chain)) (bucket_of n (text_at p name)) (length (properties_of slots chain)) k w.least) down w.walked) le in
        sym (ap (λ o. option_and_then (slice_get (places_of slots chain)) o) there)

-- A WALK ALONG A CHAIN

-- a row in which only links were set
pub row_then : (old now new : Paged) → now ≡ with_row Properties now.properties old → new ≡ with_row Properties new.properties now → new ≡ with_row Properties new.properties old
row_then old now new one other = other ∙ ap (with_row Properties new.properties) one

pub set_row : (now new : Paged) (slots : List Slot) → new ≡ with_row Properties slots now → new ≡ with_row Properties new.properties now
set_row now new slots set = set ∙ ap (λ xs. with_row Properties xs now) (sym (ap (λ (p : Paged). p.properties) set))

pub set_only : (now new : Paged) (at v : ℕ) → new ≡ with_row Properties (slice_set now.properties at (record (slot_at now.properties at) { link = v })) now → OnlyLinks now.properties new.properties
set_only now new at v set = subst (OnlyLinks now.properties) (sym (ap (λ (p : Paged). p.properties) set)) (only_set now.properties at v)

pub set_here : (now new : Paged) (at v : ℕ) → at < length now.properties → new ≡ with_row Properties (slice_set now.properties at (record (slot_at now.properties at) { link = v })) now → (slot_at new.properties at).link ≡ v
set_here now new at v lt set = ap (λ (p : Paged). (slot_at p.properties at).link) set ∙ link_set now.properties at v lt

pub set_other : (now new : Paged) (at v p : ℕ) → p ≢ at → new ≡ with_row Properties (slice_set now.properties at (record (slot_at now.properties at) { link = v })) now
    → (slot_at new.properties p).link ≡ (slot_at now.properties p).link
set_other now new at v p other set = ap (λ (q : Paged). (slot_at q.properties p).link) set ∙ link_other now.properties at v p other

-- after the first n properties of a chain, of which only links were set
pub record ChainWalk (old now : Paged) (chain : Chain) (n at : ℕ) : Type 0 where
  pub row : now ≡ with_row Properties now.properties old
  pub only : OnlyLinks old.properties now.properties
  pub rest : (p : ℕ) → ((i : ℕ) → i < n → slice_get (places_of old.properties chain) i ≢ Some p) → (slot_at now.properties p).link ≡ (slot_at old.properties p).link
  pub next : n < chain.count → slice_get (places_of old.properties chain) n ≡ Some at

pub chain_walk_begun : (old : Paged) (chain : Chain) → ChainWalk old old chain 0 chain.first
chain_walk_begun old chain = record {
  row = refl;
  only = only_same old.properties;
  rest = λ p none. refl;
  next = λ some. walk_first old.properties chain.first chain.count some;
}

pub chain_walk_within : (old now : Paged) (chain : Chain) (n at : ℕ) → IsChain old.properties chain → ChainWalk old now chain n at → n < chain.count → at < length now.properties
chain_walk_within old now chain n at is w lt =
    let low = place_within old.properties chain n at is (w.next lt) in
    omega (arith, low, w.only.size)

pub chain_walk_step : (old now new : Paged) (chain : Chain) (n at next : ℕ) → IsChain old.properties chain → ChainWalk old now chain n at → n < chain.count → new ≡ with_row Properties new.properties now
    → OnlyLinks now.properties new.properties → ((p : ℕ) → p ≢ at → (slot_at new.properties p).link ≡ (slot_at now.properties p).link) → next ≡ (slot_at now.properties at).next
    → ChainWalk old new chain (n + 1) next
chain_walk_step old now new chain n at next is w lt row only links leads = record {
  row = row_then old now new w.row row;
  only = only_then old.properties now.properties new.properties w.only only;
  rest = λ p none.
      links p (λ here. none n (omega arith) (w.next lt ∙ ap (λ q. Some q) (sym here))) ∙ w.rest p (λ i low. none i (omega (arith, low)));
  next = λ more.
      let one : n + 1 ≡ suc n = omega arith in
      let there = walk_next old.properties chain.first chain.count n at (w.next lt) (omega (arith, more)) in
      ap (slice_get (places_of old.properties chain)) one ∙ there
      ∙ ap (λ q. Some q) (sym (w.only.nexts at (place_within old.properties chain n at is (w.next lt))) ∙ sym leads);
}

pub chain_walk_links : (old now : Paged) (chain : Chain) (n at : ℕ) → ChainWalk old now chain n at → OthersKeepLinks (places_of old.properties chain) old.properties now.properties
chain_walk_links old now chain n at w p lt none = w.rest p (λ i low. none i)

-- the links of the first n properties were changed alike
pub record Relinking (place link : ℕ) (old now : Paged) (chain : Chain) (n at : ℕ) : Type 0 where
  pub walk : ChainWalk old now chain n at
  pub done : (i : ℕ) → i < n → i < length (places_of old.properties chain)
      → (slot_at now.properties (slice_index (places_of old.properties chain) i)).link ≡ relinked place link (slot_at old.properties (slice_index (places_of old.properties chain) i)).link

pub relinking_begun : (place link : ℕ) (old : Paged) (chain : Chain) → Relinking place link old old chain 0 chain.first
relinking_begun place link old chain = record { walk = chain_walk_begun old chain; done = λ i low lt. absurd (omega (arith, low)) }

pub relinking_step : (place link : ℕ) (old now new : Paged) (chain : Chain) (n at next : ℕ) → IsChain old.properties chain → Relinking place link old now chain n at → n < chain.count
    → next ≡ (slot_at now.properties at).next
    → new ≡ with_row Properties (slice_set now.properties at (record (slot_at now.properties at) { link = relinked place link (slot_at now.properties at).link })) now
    → Relinking place link old new chain (n + 1) next
relinking_step place link old now new chain n at next is w lt leads set = record {
  walk = chain_walk_step old now new chain n at next is w.walk lt (set_row now new (slice_set now.properties at (record (slot_at now.properties at) { link = relinked place link (slot_at now.properties at).link })) set)
      (set_only now new at (relinked place link (slot_at now.properties at).link) set) (λ p other. set_other now new at (relinked place link (slot_at now.properties at).link) p other set) leads;
  done = λ i low within. by i within (cases_order i n) low;
}
  where
    places : List ℕ
    places = places_of old.properties chain

    here : slice_index (places_of old.properties chain) n ≡ at
    here = get_or_from_slice_get (places_of old.properties chain) n at 0 (w.walk.next lt)

    count : length (places_of old.properties chain) ≡ chain.count
    count = places_count old.properties chain

    apart : (i j : ℕ) → i < length (places_of old.properties chain) → j < length (places_of old.properties chain) → i ≢ j → slice_index (places_of old.properties chain) i ≢ slice_index (places_of old.properties chain) j
    apart i j one other differ = rising_apart 0 (length old.properties) (places_of old.properties chain) i j is.rising differ one other

    by : (i : ℕ) → i < length (places_of old.properties chain) → (i ≡ n) ⊎ ((i < n) ⊎ (n < i)) → i < n + 1
        → (slot_at new.properties (slice_index (places_of old.properties chain) i)).link ≡ relinked place link (slot_at old.properties (slice_index (places_of old.properties chain) i)).link
    by i within (inl same) low =
        let there : slice_index (places_of old.properties chain) i ≡ at = ap (slice_index (places_of old.properties chain)) same ∙ here in
        let old-link : (slot_at now.properties at).link ≡ (slot_at old.properties at).link =
        w.walk.rest at (λ j less got.
        apart j n (omega (arith, less, same, within)) (omega (arith, same, within)) (λ e. omega (arith, e, less))
        (get_or_from_slice_get (places_of old.properties chain) j at 0 got ∙ sym here)) in
        ap (λ q. (slot_at new.properties q).link) there
        ∙ set_here now new at (relinked place link (slot_at now.properties at).link) (chain_walk_within old now chain n at is w.walk lt) set
        ∙ ap (relinked place link) (old-link ∙ ap (λ q. (slot_at old.properties q).link) (sym there))
    by i within (inr (inl less)) low =
        set_other now new at (relinked place link (slot_at now.properties at).link) (slice_index (places_of old.properties chain) i)
        (λ e. apart i n within (omega (arith, lt, count)) (λ same. omega (arith, same, less)) (e ∙ sym here)) set
        ∙ w.done i less within
    by i within (inr (inr gt)) low = absurd (omega (arith, gt, low))

-- the next property of a chain is taken up
pub taken_up : (p : Texts) (old new : List Slot) (chain : Chain) (number place : ℕ) (name : Span) (buckets buckets' : List ℕ) (b : ℕ) → IsChain old chain
    → slice_get (places_of old chain) number ≡ Some place → name ≡ (slot_at old place).name → IsSpan p name
    → b ≡ bucket_of (length buckets) (text_at p name) → b < length buckets → buckets' ≡ slice_set buckets b (place + 1)
    → ((q : ℕ) → q ≢ place → (slot_at new q).link ≡ (slot_at old q).link) → (slot_at new place).link ≡ slice_index buckets b
    → IsPlaced p old (take number (places_of old chain)) (take number (properties_of old chain)) buckets
    → IsPlaced p new (take (number + 1) (places_of old chain)) (take (number + 1) (properties_of old chain)) buckets'
taken_up p old new chain number place name buckets buckets' b is there named lies bucket low made others link h =
    subst (λ xs. IsPlaced p new xs (take (number + 1) (properties_of old chain)) buckets') (sym places-more)
    (subst (λ ys. IsPlaced p new (take number (places_of old chain) ++ place ∷ []) ys buckets') (sym (take_more (properties_of old chain) number none within'))
    (placed_added p old new (take number (places_of old chain)) (take number (properties_of old chain)) place (slice_index_or (properties_of old chain) number none) buckets buckets' b h
    counts (subst (IsSpan p) (sym same-name) lies) (bucket ∙ ap (λ s. bucket_of (length buckets) (text_at p s)) (sym same-name)) low made
    (λ i lt. others (slice_index (take number (places_of old chain)) i) (differs i lt)) link))
  where
    none : Property
    none = record { name = record { start = 0; count = 0 }; value = Undefined }

    within : number < length (places_of old chain)
    within = slice_get_within (places_of old chain) number place there

    within' : number < length (properties_of old chain)
    within' = omega (arith, within, chain_counts old chain)

    here : slice_index (places_of old chain) number ≡ place
    here = get_or_from_slice_get (places_of old chain) number place 0 there

    places-more : take (number + 1) (places_of old chain) ≡ take number (places_of old chain) ++ place ∷ []
    places-more = take_more (places_of old chain) number 0 within ∙ ap (λ q. take number (places_of old chain) ++ q ∷ []) here

    counts : length (take number (properties_of old chain)) ≡ length (take number (places_of old chain))
    counts = length-take-le number (properties_of old chain) (omega (arith, within')) ∙ sym (length-take-le number (places_of old chain) (omega (arith, within)))

    same-name : (slice_index_or (properties_of old chain) number none).name ≡ name
    same-name = name_of_slot old chain number within ∙ ap (λ q. (slot_at old q).name) here ∙ sym named

    differs : (i : ℕ) → i < length (take number (places_of old chain)) → slice_index (take number (places_of old chain)) i ≢ place
    differs i lt =
        let less : i < number = omega (arith, lt, length-take-le number (places_of old chain) (omega (arith, within))) in
        λ same. rising_apart 0 (length old) (places_of old chain) i number is.rising (λ e. omega (arith, e, less)) (omega (arith, less, within)) within
        (sym (get_or-take number (places_of old chain) i 0 less) ∙ same ∙ sym here)

-- the same with a chain's places as they were before the walk
pub fill_step : (p : Texts) (old now new : Paged) (chain : Chain) (n at : ℕ) (buckets buckets' : List ℕ) → IsChain old.properties chain → ChainWalk old now chain n at → n < chain.count
    → ((chain : Chain) (number : ℕ) → IsChain now.properties chain → slice_get (places_of now.properties chain) number ≡ Some at
    → IsPlaced p now.properties (take number (places_of now.properties chain)) (take number (properties_of now.properties chain)) buckets
    → IsPlaced p new.properties (take (number + 1) (places_of now.properties chain)) (take (number + 1) (properties_of now.properties chain)) buckets')
    → IsPlaced p now.properties (take n (places_of old.properties chain)) (take n (properties_of old.properties chain)) buckets
    → IsPlaced p new.properties (take (n + 1) (places_of old.properties chain)) (take (n + 1) (properties_of old.properties chain)) buckets'
fill_step p old now new chain n at buckets buckets' is w lt step h =
    let places = only_places old.properties now.properties chain w.only in
    let properties = only_properties old.properties now.properties chain w.only in
    subst (λ xs. IsPlaced p new.properties (take (n + 1) xs) (take (n + 1) (properties_of old.properties chain)) buckets') places
    (subst (λ xs. IsPlaced p new.properties (take (n + 1) (places_of now.properties chain)) (take (n + 1) xs) buckets') properties
    (step chain n (only_chain old.properties now.properties chain w.only is) (ap (λ xs. slice_get xs n) places ∙ w.next lt)
    (subst (λ xs. IsPlaced p now.properties (take n xs) (take n (properties_of now.properties chain)) buckets) (sym places)
    (subst (λ xs. IsPlaced p now.properties (take n (places_of old.properties chain)) (take n xs) buckets) (sym properties) h))))

-- an index has buckets
pub placed_some : (p : Texts) (slots : List Slot) (places : List ℕ) (ps : List Property) (buckets : List ℕ) → IsPlaced p slots places ps buckets → 0 < length buckets
placed_some p slots places ps buckets h = omega (arith, h.index.some, numbers_count p slots places ps buckets h)

-- all were taken up
pub filled_whole : (p : Texts) (slots : List Slot) (old : List Slot) (chain : Chain) (n : ℕ) (buckets : List ℕ) → chain.count ≤ n
    → IsPlaced p slots (take n (places_of old chain)) (take n (properties_of old chain)) buckets → IsPlaced p slots (places_of old chain) (properties_of old chain) buckets
filled_whole p slots old chain n buckets le h =
    subst (λ xs. IsPlaced p slots xs (properties_of old chain) buckets) (take_all n (places_of old chain) (omega (arith, le, places_count old chain)))
    (subst (λ xs. IsPlaced p slots (take n (places_of old chain)) xs buckets) (take_all n (properties_of old chain) (omega (arith, le, places_count old chain, chain_counts old chain))) h)

-- the last one was taken up
pub last_taken_up : (p : Texts) (old new : List Slot) (chain : Chain) (buckets buckets' : List ℕ) → 0 < chain.count → IsChain old chain → 0 < length buckets
    → ((other : Chain) (number : ℕ) → IsChain old other → slice_get (places_of old other) number ≡ Some chain.last
    → IsPlaced p old (take number (places_of old other)) (take number (properties_of old other)) buckets
    → IsPlaced p new (take (number + 1) (places_of old other)) (take (number + 1) (properties_of old other)) buckets')
    → IsIndexOf p old (take (chain.count - 1) (places_of old chain)) (take (chain.count - 1) (properties_of old chain)) buckets
    → IsIndexOf p new (places_of old chain) (properties_of old chain) buckets'
last_taken_up p old new chain buckets buckets' some is more step h =
    placed_kept p new (places_of old chain) (properties_of old chain) buckets'
    (filled_whole p new old chain (chain.count - 1 + 1) buckets' (omega arith)
    (step chain (chain.count - 1) is (is.last some)
    (placed_there p old (take (chain.count - 1) (places_of old chain)) (take (chain.count - 1) (properties_of old chain)) buckets more h)))

-- one is taken away
pub index_dropped : (p : Texts) (old new : List Slot) (chain : Chain) (number place link : ℕ) (buckets buckets' : List ℕ) → IsChain old chain
    → slice_get (places_of old chain) number ≡ Some place → link ≡ (slot_at old place).link → buckets' ≡ map (relinked place link) buckets
    → ((i : ℕ) → i < length (places_of old chain)
    → (slot_at new (slice_index (places_of old chain) i)).link ≡ relinked place link (slot_at old (slice_index (places_of old chain) i)).link)
    → IsIndexOf p old (places_of old chain) (properties_of old chain) buckets
    → IsIndexOf p new (remove (places_of old chain) number) (remove (properties_of old chain) number) buckets'
index_dropped p old new chain number place link [] buckets' is there linked made each h =
    placed_none p new (remove (places_of old chain) number) (remove (properties_of old chain) number) buckets' (ap length made)
index_dropped p old new chain number place link (b ∷ buckets) buckets' is there linked made each h =
    let here : slice_index (places_of old chain) number ≡ place = get_or_from_slice_get (places_of old chain) number place 0 there in
    let same : relinked place link ≡ relinked (slice_index (places_of old chain) number) (slot_at old (slice_index (places_of old chain) number)).link =
    λ t. relinked (sym here t) ((linked ∙ ap (λ q. (slot_at old q).link) (sym here)) t) in
    placed_kept p new (remove (places_of old chain) number) (remove (properties_of old chain) number) buckets'
    (placed_removed p 0 (length old) old new (places_of old chain) (properties_of old chain) number (b ∷ buckets) buckets' h is.rising (chain_counts old chain)
    (slice_get_within (places_of old chain) number place there)
    (made ∙ ap (λ f. map f (b ∷ buckets)) same)
    (λ i lt. each i lt ∙ ap (λ f. f (slot_at old (slice_index (places_of old chain) i)).link) same))

-- what keeps the links of all but these places, and then again, does
pub links_then : (old mid new : List Slot) (chain : Chain) → OnlyLinks old mid → OthersKeepLinks (places_of old chain) old mid → OthersKeepLinks (places_of mid chain) mid new → OthersKeepLinks (places_of old chain) old new
links_then old mid new chain only one other p lt none =
    other p (omega (arith, lt, only.size)) (λ i is. none i (ap (λ xs. slice_get xs i) (sym (only_places old mid chain only)) ∙ is)) ∙ one p lt none

-- what was made for a chain of which only links were set before, or nothing
pub made_or_none : {E : Type 0} (p : Texts) (old mid new : List Slot) (chain : Chain) (listed : ListedBlocks) (owner : ℕ) (r : Result ℕ E) → OnlyLinks old mid
    → IfOk r (λ index. IsPlaced p new (places_of mid chain) (properties_of mid chain) (buckets_at listed index owner))
    → IsIndexAt p new (places_of old chain) (properties_of old chain) listed (result_unwrap_or r 0) owner
made_or_none p old mid new chain listed owner (Ok index) only h =
    placed_kept p new (places_of old chain) (properties_of old chain) (buckets_at listed index owner)
    (subst (λ xs. IsPlaced p new xs (properties_of old chain) (buckets_at listed index owner)) (only_places old mid chain only)
    (subst (λ xs. IsPlaced p new (places_of mid chain) xs (buckets_at listed index owner)) (only_properties old mid chain only) h))
made_or_none p old mid new chain listed owner (Err e) only h = tt
