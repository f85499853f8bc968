-- What a change of one row of a region is for the objects that lie in it.
use Rattle.std.proofs.Common.{◌≡◌, ◌≢◌, ℕ, zero, suc, ◌+◌, ◌-◌, ◌^◌, ◌<◌, ◌≤◌, ◌⊎◌, inl, inr, true, false, List, [], ◌∷◌, ◌++◌, length, Option, None, Some, refl, sym, ap, ◌∙◌, subst, arith, slice_get, slice_index_or}
use Rattle.std.specs.List.{position_or_len}
use Rattle.std.specs.Prelude.{IfSome, cond, map, nat_lt, option_and_then, option_map, slice_set, slice_index, remove, take}
use Rattle.std.proofs.lemmas.Bool.{cases_eq, cases_lt}
use Rattle.std.proofs.lemmas.Bool.Decides.{nat_tests}
use Rattle.std.proofs.lemmas.List.{get_or_append_left, get_or_past, get_or-set_other, get_or-set_same, length-append, length-map, length-set, map-append, take-append-le, take_all}
use Rattle.std.proofs.lemmas.Option.{same_Some, slice_get-get_or, none-some, slice_get-map}
use Rattle.rip_values.specs.Pool.{IsSpan, Texts}
use Rattle.rip_heap_region.specs.declared.pages.property.Property.{Property}
use Rattle.rip_heap_region.specs.declared.pages.slot.Slot.{Slot}
use Rattle.rip_heap_region.specs.declared.pages.for_rows.Row.TheVariants.{Objects, Properties}
use Rattle.rip_heap_region.specs.Pages.{Paged, filled, no_slot, slot_at, with_row}
use Rattle.rip_heap_region.specs.declared.chains.chain.Chain.{Chain}
use Rattle.rip_heap_region.specs.Chains.{AreChains, AreHung, IfOneOf, IsChain, OnlyLinks, SameLinks, chain_at, places_of, properties_of, property_in}
use Rattle.rip_heap_region.specs.Chains.{with_value as chain_with_value}
use Rattle.rip_heap_region.proofs.ChainLemmas.{chain_of, chains_more, hung_by_links, place_within, places_count, properties_count, properties_get}
use Rattle.rip_heap_region.specs.Segments.{AreArrays, lists_from}
use Rattle.rip_heap_region.proofs.ListLemmas.{arrays_more, lists_more}
use Rattle.rip_heap_region.specs.Blocks.{ListedBlocks, OthersStay, buckets_at}
use Rattle.rip_heap_region.specs.NameIndex.{IsIndex, IsIndexAt, IsIndexOf, IsLast, IsPlaced, OthersKeepLinks, bucket_at, name_at}
use Rattle.rip_heap.specs.declared.stored.StoredObject.{StoredObject}
use Rattle.rip_heap.specs.HeadSlots.{IsStorable, array_in, chain_in, head_in, index_in, slot_of, with_chain}
use Rattle.rip_heap.specs.Names.{place_of, same_text}
use Rattle.rip_heap.specs.Objects.{with_value}
use Rattle.rip_heap.specs.Rooms.{Rooms}
use Rattle.rip_heap.specs.ScopeSlots.{AreScopes, LieWithin, scope_head_in}
use Rattle.rip_heap.specs.Region.{AreIndexes, AreRows, IndexesStay, Kept, arrays_in, chains_in, listed, valued, with_bare, with_properties, without}
use Rattle.rip_heap.proofs.HeadRowLemmas.{arrays_with_chain, arrays_with_slot, chains_with_chain, chains_with_slot, heads_with_chain, heads_with_slot, indexes_with_chain}
use Rattle.rip_heap.proofs.HeadLemmas.{index_of_slot, index_with_chain}

-- LISTS

pub map_set : {A B : Type 0} (f : A → B) (xs : List A) (at : ℕ) (y : A) → map f (slice_set xs at y) ≡ slice_set (map f xs) at (f y)
map_set f [] at y = refl
map_set f (x ∷ xs) zero y = refl
map_set f (x ∷ xs) (suc at) y = ap (λ r. f x ∷ r) (map_set f xs at y)

pub set_kept : {A : Type 0} (xs : List A) (at : ℕ) (y : A) → slice_get xs at ≡ Some y → slice_set xs at y ≡ xs
set_kept [] at y is = refl
set_kept (x ∷ xs) zero y is = ap (λ z. z ∷ xs) (sym (same_Some x y is))
set_kept (x ∷ xs) (suc at) y is = ap (λ r. x ∷ r) (set_kept xs at y is)

-- what is read of a list is as before where what is read of the one that was put in is
pub map_kept : {A B : Type 0} (f : A → B) (xs : List A) (at : ℕ) (y s : A) → slice_get xs at ≡ Some s → f y ≡ f s → map f (slice_set xs at y) ≡ map f xs
map_kept f xs at y s is same = map_set f xs at y ∙ set_kept (map f xs) at (f y) (slice_get-map f xs at ∙ ap (option_map f) is ∙ ap Some (sym same))

pub at_map : {A B : Type 0} (f : A → B) (xs : List A) (i : ℕ) (d : A) (e : B) → i < length xs → slice_index_or (map f xs) i e ≡ f (slice_index_or xs i d)
at_map f [] i d e lt = absurd (omega (arith, lt))
at_map f (x ∷ xs) zero d e lt = refl
at_map f (x ∷ xs) (suc i) d e lt = at_map f xs i d e (omega (arith, lt))

-- of lists that differ in one place alone, what is read elsewhere
pub read_other : {A B : Type 0} (f g : A → B) (xs xs' : List A) (at i : ℕ) (d : A) (y e : B) → map f xs' ≡ slice_set (map g xs) at y → length xs' ≡ length xs
    → i < length xs → i ≢ at → f (slice_index_or xs' i d) ≡ g (slice_index_or xs i d)
read_other f g xs xs' at i d y e is long lt ne =
    sym (at_map f xs' i d e (omega (arith, lt, long))) ∙ ap (λ ys. slice_index_or ys i e) is ∙ get_or-set_other (map g xs) at i y e ne ∙ at_map g xs i d e lt

-- and there
pub read_there : {A B : Type 0} (f g : A → B) (xs xs' : List A) (at : ℕ) (d : A) (y e : B) → map f xs' ≡ slice_set (map g xs) at y → length xs' ≡ length xs
    → at < length xs → f (slice_index_or xs' at d) ≡ y
read_there f g xs xs' at d y e is long lt =
    sym (at_map f xs' at d e (omega (arith, lt, long))) ∙ ap (λ ys. slice_index_or ys at e) is ∙ get_or-set_same (map g xs) at y e (omega (arith, lt, length-map xs g))

-- AN INDEX

-- the links are those of before
pub index_linked : (pool : Texts) (slots slots' : List Slot) (places : List ℕ) (ps : List Property) (buckets : List ℕ) → IsIndexOf pool slots places ps buckets
    → ((i : ℕ) → i < length places → (slot_at slots' (slice_index places i)).link ≡ (slot_at slots (slice_index places i)).link) → IsIndexOf pool slots' places ps buckets
index_linked pool slots slots' places ps [] h same = tt
index_linked pool slots slots' places ps (b ∷ buckets) h same = record {
  numbers = h.numbers;
  before = h.before;
  index = h.index;
  placed = h.placed;
  links = λ i lt. same i lt ∙ h.links i lt;
}

last_alike : (f g : ℕ → ℕ) (bucket to v : ℕ) → ((k : ℕ) → g k ≡ f k) → IsLast f bucket to v → IsLast g bucket to v
last_alike f g bucket to v same h = record {
  within = h.within;
  apart = λ k le lt is. h.apart k le lt (sym (same k) ∙ is);
  last = λ some. same (v - 1) ∙ h.last some;
}

-- the names are those of before
index_named : (pool : Texts) (ps qs : List Property) (buckets before : List ℕ) → length qs ≡ length ps → ((k : ℕ) → name_at qs k ≡ name_at ps k) → IsIndex pool ps buckets before → IsIndex pool qs buckets before
index_named pool ps qs buckets before long same h = record {
  some = h.some;
  spans = λ k lt. subst (λ n. IsSpan pool n) (sym (same k)) (h.spans k (omega (arith, lt, long)));
  all = h.all ∙ sym long;
  heads = λ b lt. subst (λ n. IsLast (bucket_at pool (length buckets) qs) b n (slice_index buckets b)) (sym long)
      (last_alike _ _ _ _ _ alike (h.heads b lt));
  links = λ i lt. last_alike _ _ _ _ _ alike
      (subst (λ b. IsLast (bucket_at pool (length buckets) ps) b i (slice_index before i)) (sym (alike i)) (h.links i (omega (arith, lt, long))));
}
  where
    alike : (k : ℕ) → bucket_at pool (length buckets) qs k ≡ bucket_at pool (length buckets) ps k
    alike k = ap (λ n. Rattle.rip_heap_region.specs.NameIndex.bucket_of (length buckets) (Rattle.rip_values.specs.Pool.text_at pool n)) (same k)

pub placed_named : (pool : Texts) (slots : List Slot) (places : List ℕ) (ps qs : List Property) (buckets : List ℕ) → length qs ≡ length ps → ((k : ℕ) → name_at qs k ≡ name_at ps k)
    → IsIndexOf pool slots places ps buckets → IsIndexOf pool slots places qs buckets
placed_named pool slots places ps qs [] long same h = tt
placed_named pool slots places ps qs (b ∷ buckets) long same h = record {
  numbers = h.numbers;
  before = h.before;
  index = index_named pool ps qs h.numbers h.before long same h.index;
  placed = h.placed;
  links = h.links;
}

-- INDEXES WHERE THE PROPERTIES STAY

-- nothing is changed that an index speaks of
pub indexes_stay : (old new : Paged) → new.properties ≡ old.properties → chains_in new ≡ chains_in old → map index_in new.objects ≡ map index_in old.objects → IndexesStay old new
indexes_stay old new row chains numbers pool blocks h i lt =
    let long : length new.objects ≡ length old.objects = sym (length-map new.objects index_in) ∙ ap length numbers ∙ length-map old.objects index_in in
    let number : index_in (slot_at new.objects i) ≡ index_in (slot_at old.objects i) =
    sym (at_map index_in new.objects i _ 0 lt) ∙ ap (λ ns. slice_index_or ns i 0) numbers ∙ at_map index_in old.objects i _ 0 (omega (arith, lt, long)) in
    subst (λ n. IsIndexAt pool new.properties (places_of new.properties (chain_at (chains_in new) i)) (properties_of new.properties (chain_at (chains_in new) i)) blocks n i) (sym number)
    (subst (λ cs. IsIndexAt pool new.properties (places_of new.properties (chain_at cs i)) (properties_of new.properties (chain_at cs i)) blocks (index_in (slot_at old.objects i)) i) (sym chains)
    (subst (λ row. IsIndexAt pool row (places_of row (chain_at (chains_in old) i)) (properties_of row (chain_at (chains_in old) i)) blocks (index_in (slot_at old.objects i)) i) (sym row)
    (h i (omega (arith, lt, long)))))

-- WHAT HOLDS OF EACH SLOT

all_more : (P : Slot → Type 0) (slots : List Slot) (s : Slot) → P no_slot → ((i : ℕ) → P (slot_at slots i)) → P s → (i : ℕ) → P (slot_at (slots ++ s ∷ []) i)
all_more P [] s none h p zero = p
all_more P [] s none h p (suc i) = none
all_more P (x ∷ slots) s none h p zero = h zero
all_more P (x ∷ slots) s none h p (suc i) = all_more P slots s none (λ j. h (suc j)) p i

all_set : (P : Slot → Type 0) (slots : List Slot) (at : ℕ) (s : Slot) → ((i : ℕ) → P (slot_at slots i)) → P s → (i : ℕ) → P (slot_at (slice_set slots at s) i)
all_set P [] at s h p i = h i
all_set P (x ∷ slots) zero s h p zero = p
all_set P (x ∷ slots) zero s h p (suc i) = h (suc i)
all_set P (x ∷ slots) (suc at) s h p zero = h zero
all_set P (x ∷ slots) (suc at) s h p (suc i) = all_set P slots at s (λ j. h (suc j)) p i

-- AN OBJECT MORE

-- the rows with one object more
abbrev pub added_rows : Paged → StoredObject → Paged
added_rows old head = with_row Objects (old.objects ++ slot_of head ∷ []) old

pub rows_added : (old new : Paged) (head : StoredObject) (spent room : ℕ) → IsStorable head → new ≡ added_rows old head → spent < room → AreRows old spent room → AreRows new (spent + 1) room
rows_added old new head spent room storable is lt h = subst (λ n. AreRows n (spent + 1) room) (sym is) (record {
  chains = subst (λ cs. AreChains cs old.properties) (sym (chains_with_slot old.objects head)) (chains_more (chains_in old) old.properties h.chains);
  arrays = subst (λ ys. AreArrays ys old.elements) (sym (arrays_with_slot old.objects head storable)) (arrays_more (arrays_in old) old.elements h.arrays);
  scopes = h.scopes;
  numbered = all_more (λ s. index_in s < 2 ^ 28) old.objects (slot_of head) (omega arith) h.numbered (omega (arith, index_of_slot head));
  within = omega (arith, lt);
  paid = omega (arith, lt, h.paid, length-append old.objects (slot_of head ∷ []));
})

pub listed_added : (old new : Paged) (head : StoredObject) (spent room : ℕ) → IsStorable head → new ≡ added_rows old head → AreRows old spent room
    → listed (record { pages = new; rooms = record { spent = spent + 1; room = room } }) ≡ with_bare (listed (record { pages = old; rooms = record { spent = spent; room = room } })) head
listed_added old new head spent room storable is h =
    ap (λ n. listed (record { pages = n; rooms = record { spent = spent + 1; room = room } })) is
    ∙ (λ t. record {
      heads = heads_with_slot old.objects head storable t;
      properties = (ap (map (properties_of old.properties)) (chains_with_slot old.objects head) ∙ map-append (properties_of old.properties) (chains_in old) (record { first = 0; last = 0; count = 0 } ∷ [])) t;
      elements = (ap (λ ys. lists_from 0 ys old.elements) (arrays_with_slot old.objects head storable) ∙ lists_more (arrays_in old) old.elements) t;
      scopes = (listed (record { pages = old; rooms = record { spent = spent; room = room } })).scopes;
      rooms = record { spent = spent + 1; room = room };
    })

index_none : (pool : Texts) (slots : List Slot) (places : List ℕ) (ps : List Property) (blocks : ListedBlocks) (index owner : ℕ) → index ≡ 0 → IsIndexAt pool slots places ps blocks index owner
index_none pool slots places ps blocks index owner is = subst (λ n. IsIndexAt pool slots places ps blocks n owner) (sym is) tt

pub indexes_added : (old new : Paged) (head : StoredObject) → new ≡ added_rows old head → IndexesStay old new
indexes_added old new head is = subst (λ n. IndexesStay old n) (sym is) by
  where
    more : Paged
    more = added_rows old head

    number : (i : ℕ) → i ≡ length old.objects → index_in (slot_at more.objects i) ≡ 0
    number i here = ap (λ k. index_in (slot_at more.objects k)) here ∙ last_of old.objects
      where
        last_of : (slots : List Slot) → index_in (slot_at (slots ++ slot_of head ∷ []) (length slots)) ≡ 0
        last_of [] = index_of_slot head
        last_of (x ∷ slots) = last_of slots

    at_old : (pool : Texts) (blocks : ListedBlocks) (i : ℕ) → i < length old.objects → AreIndexes pool old blocks
        → IsIndexAt pool more.properties (places_of more.properties (chain_at (chains_in more) i)) (properties_of more.properties (chain_at (chains_in more) i)) blocks (index_in (slot_at more.objects i)) i
    at_old pool blocks i lt h =
        let chain : chain_at (chains_in more) i ≡ chain_at (chains_in old) i =
        ap (λ cs. chain_at cs i) (chains_with_slot old.objects head) ∙ get_or_append_left (chains_in old) (record { first = 0; last = 0; count = 0 } ∷ []) (record { first = 0; last = 0; count = 0 }) i (omega (arith, lt, length-map old.objects chain_in)) in
        let slot : slot_at more.objects i ≡ slot_at old.objects i = get_or_append_left old.objects (slot_of head ∷ []) no_slot i lt in
        subst (λ s. IsIndexAt pool old.properties (places_of old.properties (chain_at (chains_in more) i)) (properties_of old.properties (chain_at (chains_in more) i)) blocks (index_in s) i) (sym slot)
        (subst (λ c. IsIndexAt pool old.properties (places_of old.properties c) (properties_of old.properties c) blocks (index_in (slot_at old.objects i)) i) (sym chain) (h i lt))

    by : IndexesStay old more
    by pool blocks h i lt = at_place (cases_lt i (length old.objects))
      where
        at_place : (i < length old.objects) ⊎ (length old.objects ≤ i)
            → IsIndexAt pool more.properties (places_of more.properties (chain_at (chains_in more) i)) (properties_of more.properties (chain_at (chains_in more) i)) blocks (index_in (slot_at more.objects i)) i
        at_place (inl before) = at_old pool blocks i before h
        at_place (inr behind) = index_none pool _ _ _ blocks _ i (number i (omega (arith, behind, lt, length-append old.objects (slot_of head ∷ []))))

-- WHERE AN OBJECT'S PROPERTIES ARE CHANGED

-- the object at this place, in what is read of all
pub chain_there : (pages : Paged) (at : ℕ) → at < length pages.objects → slice_get (chains_in pages) at ≡ Some (chain_in (slot_at pages.objects at))
chain_there pages at lt = slice_get-map chain_in pages.objects at ∙ ap (option_map chain_in) (slice_get-get_or pages.objects at no_slot lt)

pub array_there : (pages : Paged) (at : ℕ) → at < length pages.objects → slice_get (arrays_in pages) at ≡ Some (array_in (slot_at pages.objects at))
array_there pages at lt = slice_get-map array_in pages.objects at ∙ ap (option_map array_in) (slice_get-get_or pages.objects at no_slot lt)

-- the rows with these properties and this index of the object at that place; what else is changed of them are properties
pub record IsRehung (old new : Paged) (at : ℕ) (chain : Chain) (index : ℕ) : Type 0 where
  pub objects : new.objects ≡ slice_set old.objects at (with_chain (slot_at old.objects at) chain index)
  pub elements : new.elements ≡ old.elements
  pub scopes : new.scopes ≡ old.scopes
  pub bindings : new.bindings ≡ old.bindings

rehung_chains : (old new : Paged) (at : ℕ) (chain : Chain) (index : ℕ) → IsRehung old new at chain index → chains_in new ≡ slice_set (chains_in old) at chain
rehung_chains old new at chain index is = ap (map chain_in) is.objects ∙ chains_with_chain old.objects at chain index

rehung_arrays : (old new : Paged) (at : ℕ) (chain : Chain) (index : ℕ) → IsRehung old new at chain index → arrays_in new ≡ arrays_in old
rehung_arrays old new at chain index is = ap (map array_in) is.objects ∙ arrays_with_chain old.objects at chain index

scopes_kept : (old new : Paged) → new.scopes ≡ old.scopes → new.bindings ≡ old.bindings → AreScopes old → AreScopes new
scopes_kept old new scopes bindings h =
    subst (λ ss. LieWithin 0 (length new.bindings) (map scope_head_in ss)) (sym scopes) (subst (λ bs. LieWithin 0 (length bs) (map scope_head_in old.scopes)) (sym bindings) h)

pub rows_rehung : (old new : Paged) (at : ℕ) (chain : Chain) (index spent spent' room : ℕ) (places : List (List ℕ)) (lists : List (List Property))
    → IsRehung old new at chain index → AreHung (slice_set (chains_in old) at chain) new.properties places lists → index < 2 ^ 28
    → spent' ≤ room → filled new + (room - spent') ≤ new.room → AreRows old spent room → AreRows new spent' room
rows_rehung old new at chain index spent spent' room places lists is hung small le paid h = record {
  chains = subst (λ cs. AreChains cs new.properties) (sym (rehung_chains old new at chain index is)) hung.hang;
  arrays = subst (λ ys. AreArrays ys new.elements) (sym (rehung_arrays old new at chain index is)) (subst (λ row. AreArrays (arrays_in old) row) (sym is.elements) h.arrays);
  scopes = scopes_kept old new is.scopes is.bindings h.scopes;
  numbered = subst (λ objects. (i : ℕ) → index_in (slot_at objects i) < 2 ^ 28) (sym is.objects)
      (all_set (λ s. index_in s < 2 ^ 28) old.objects at (with_chain (slot_at old.objects at) chain index) h.numbered
      (omega (arith, small, index_with_chain (slot_at old.objects at) chain index)));
  within = le;
  paid = paid;
}

pub listed_rehung : (old new : Paged) (rooms rooms' : Rooms) (at : ℕ) (chain : Chain) (index : ℕ) (places : List (List ℕ)) (ps : List Property)
    → IsRehung old new at chain index → AreHung (slice_set (chains_in old) at chain) new.properties places (slice_set (map (properties_of old.properties) (chains_in old)) at ps)
    → listed (record { pages = new; rooms = rooms' }) ≡ record (with_properties (listed (record { pages = old; rooms = rooms })) at ps) { rooms = rooms' }
listed_rehung old new rooms rooms' at chain index places ps is hung = λ t. record {
  heads = (ap (map head_in) is.objects ∙ heads_with_chain old.objects at chain index) t;
  properties = (ap (map (properties_of new.properties)) (rehung_chains old new at chain index is) ∙ hung.hold) t;
  elements = (ap (λ ys. lists_from 0 ys new.elements) (rehung_arrays old new at chain index is) ∙ ap (lists_from 0 (arrays_in old)) is.elements) t;
  scopes = Rattle.rip_heap.specs.ScopeSlots.scopes_in (map Rattle.rip_heap.specs.ScopeSlots.binding_in (is.bindings t)) (map scope_head_in (is.scopes t));
  rooms = rooms';
}

-- the indexes of all others stay where their links and their buckets do
pub indexes_rehung : (pool : Texts) (old new : Paged) (at : ℕ) (chain : Chain) (index : ℕ) (places : List ℕ) (ps : List Property) (blocks blocks' : ListedBlocks)
    → IsRehung old new at chain index
    → AreHung (slice_set (chains_in old) at chain) new.properties (slice_set (map (places_of old.properties) (chains_in old)) at places)
    (slice_set (map (properties_of old.properties) (chains_in old)) at ps)
    → ((i k p : ℕ) → i < length old.objects → i ≢ at → slice_get (places_of old.properties (chain_at (chains_in old) i)) k ≡ Some p → (slot_at new.properties p).link ≡ (slot_at old.properties p).link)
    → OthersStay at blocks blocks' → AreIndexes pool old blocks → IsIndexAt pool new.properties places ps blocks' index at → AreIndexes pool new blocks'
indexes_rehung pool old new at chain index places ps blocks blocks' is hung links others h here i lt = by (cases_eq i at)
  where
    long : length new.objects ≡ length old.objects
    long = ap length is.objects ∙ length-set old.objects at (with_chain (slot_at old.objects at) chain index)

    many : length (chains_in new) ≡ length (chains_in old)
    many = length-map new.objects chain_in ∙ long ∙ sym (length-map old.objects chain_in)

    within : i < length (chains_in old)
    within = omega (arith, lt, long, length-map old.objects chain_in)

    chains : chains_in new ≡ slice_set (chains_in old) at chain
    chains = rehung_chains old new at chain index is

    stand : map (places_of new.properties) (chains_in new) ≡ slice_set (map (places_of old.properties) (chains_in old)) at places
    stand = ap (map (places_of new.properties)) chains ∙ hung.stand

    hold : map (properties_of new.properties) (chains_in new) ≡ slice_set (map (properties_of old.properties) (chains_in old)) at ps
    hold = ap (map (properties_of new.properties)) chains ∙ hung.hold

    numbers : map index_in new.objects ≡ slice_set (map index_in old.objects) at index
    numbers = ap (map index_in) is.objects ∙ indexes_with_chain old.objects at chain index

    of_other : i ≢ at → IsIndexAt pool new.properties (places_of new.properties (chain_at (chains_in new) i)) (properties_of new.properties (chain_at (chains_in new) i)) blocks' (index_in (slot_at new.objects i)) i
    of_other ne =
        let same : places_of new.properties (chain_at (chains_in new) i) ≡ places_of old.properties (chain_at (chains_in old) i) =
        read_other (places_of new.properties) (places_of old.properties) (chains_in old) (chains_in new) at i (record { first = 0; last = 0; count = 0 }) places [] stand many within ne in
        let hold_same : properties_of new.properties (chain_at (chains_in new) i) ≡ properties_of old.properties (chain_at (chains_in old) i) =
        read_other (properties_of new.properties) (properties_of old.properties) (chains_in old) (chains_in new) at i (record { first = 0; last = 0; count = 0 }) ps [] hold many within ne in
        let number : index_in (slot_at new.objects i) ≡ index_in (slot_at old.objects i) =
        read_other index_in index_in old.objects new.objects at i no_slot index 0 numbers long (omega (arith, lt, long)) ne in
        subst (λ n. IsIndexAt pool new.properties (places_of new.properties (chain_at (chains_in new) i)) (properties_of new.properties (chain_at (chains_in new) i)) blocks' n i) (sym number)
        (subst (λ qs. IsIndexAt pool new.properties (places_of new.properties (chain_at (chains_in new) i)) qs blocks' (index_in (slot_at old.objects i)) i) (sym hold_same)
        (subst (λ rs. IsIndexAt pool new.properties rs (properties_of old.properties (chain_at (chains_in old) i)) blocks' (index_in (slot_at old.objects i)) i) (sym same)
        (subst (λ bs. IsIndexOf pool new.properties (places_of old.properties (chain_at (chains_in old) i)) (properties_of old.properties (chain_at (chains_in old) i)) bs) (sym (others (index_in (slot_at old.objects i)) i ne))
        (index_linked pool old.properties new.properties (places_of old.properties (chain_at (chains_in old) i)) (properties_of old.properties (chain_at (chains_in old) i)) _ (h i (omega (arith, lt, long)))
        (λ k inside. links i k _ (omega (arith, lt, long)) ne (slice_get-get_or (places_of old.properties (chain_at (chains_in old) i)) k 0 inside))))))

    of_it : i ≡ at → IsIndexAt pool new.properties (places_of new.properties (chain_at (chains_in new) i)) (properties_of new.properties (chain_at (chains_in new) i)) blocks' (index_in (slot_at new.objects i)) i
    of_it e =
        let before : at < length (chains_in old) = subst (λ n. n < length (chains_in old)) e within in
        let before' : at < length old.objects = omega (arith, before, length-map old.objects chain_in) in
        subst (λ n. IsIndexAt pool new.properties (places_of new.properties (chain_at (chains_in new) n)) (properties_of new.properties (chain_at (chains_in new) n)) blocks' (index_in (slot_at new.objects n)) n) (sym e)
        (subst (λ n. IsIndexAt pool new.properties (places_of new.properties (chain_at (chains_in new) at)) (properties_of new.properties (chain_at (chains_in new) at)) blocks' n at)
        (sym (read_there index_in index_in old.objects new.objects at no_slot index 0 numbers long before'))
        (subst (λ qs. IsIndexAt pool new.properties (places_of new.properties (chain_at (chains_in new) at)) qs blocks' index at)
        (sym (read_there (properties_of new.properties) (properties_of old.properties) (chains_in old) (chains_in new) at (record { first = 0; last = 0; count = 0 }) ps [] hold many before))
        (subst (λ rs. IsIndexAt pool new.properties rs ps blocks' index at)
        (sym (read_there (places_of new.properties) (places_of old.properties) (chains_in old) (chains_in new) at (record { first = 0; last = 0; count = 0 }) places [] stand many before)) here)))

    by : (i ≡ at) ⊎ (i ≡ at → ⊥) → IsIndexAt pool new.properties (places_of new.properties (chain_at (chains_in new) i)) (properties_of new.properties (chain_at (chains_in new) i)) blocks' (index_in (slot_at new.objects i)) i
    by (inl e) = of_it e
    by (inr ne) = of_other ne

-- WHAT IS READ OF AN OBJECT

pub objects_within : (pages : Paged) (at : ℕ) (k : Kept) → k.pages ≡ pages → at < length (listed k).heads → at < length pages.objects
objects_within pages at k is lt = subst (λ (p : Paged). at < length p.objects) is (omega (arith, lt, length-map k.pages.objects head_in))

pub chain_is : (pages : Paged) (at : ℕ) → at < length pages.objects → chain_at (chains_in pages) at ≡ chain_in (slot_at pages.objects at)
chain_is pages at lt = at_map chain_in pages.objects at no_slot (record { first = 0; last = 0; count = 0 }) lt

pub properties_are : (pages : Paged) (at : ℕ) → at < length pages.objects
    → slice_index_or (map (properties_of pages.properties) (chains_in pages)) at [] ≡ properties_of pages.properties (chain_at (chains_in pages) at)
properties_are pages at lt = at_map (properties_of pages.properties) (chains_in pages) at (record { first = 0; last = 0; count = 0 }) [] (omega (arith, lt, length-map pages.objects chain_in))

-- where a property is found by its chain, it is found by the object
pub found_here : (pool : Texts) (pages : Paged) (at : ℕ) (chain : Chain) (name : Rattle.rip_base.specs.declared.value.Span.Span) → at < length pages.objects → chain ≡ chain_in (slot_at pages.objects at)
    → option_and_then (slice_get (places_of pages.properties chain)) (place_of pool name (properties_of pages.properties chain))
    ≡ option_and_then (slice_get (places_of pages.properties (chain_at (chains_in pages) at)))
    (place_of pool name (slice_index_or (map (properties_of pages.properties) (chains_in pages)) at []))
found_here pool pages at chain name lt is =
    ap (λ c. option_and_then (slice_get (places_of pages.properties c)) (place_of pool name (properties_of pages.properties c))) (is ∙ sym (chain_is pages at lt))
    ∙ ap (λ ps. option_and_then (slice_get (places_of pages.properties (chain_at (chains_in pages) at))) (place_of pool name ps)) (sym (properties_are pages at lt))

-- a place that is found has a number
pub number_of : (places : List ℕ) (o : Option ℕ) (place : ℕ) → option_and_then (slice_get places) o ≡ Some place → (k : ℕ) × (o ≡ Some k) × (slice_get places k ≡ Some place)
number_of places None place is = absurd (none-some place is)
number_of places (Some k) place is = (k, refl, is)

pub named_found : (slots : List Slot) (chain : Chain) (o : Option ℕ) (place : ℕ) → option_and_then (slice_get (places_of slots chain)) o ≡ Some place
    → option_map (λ (p : Property). p.value) (option_and_then (slice_get (properties_of slots chain)) o) ≡ Some (slot_at slots place).value
named_found slots chain None place is = absurd (none-some place is)
named_found slots chain (Some k) place is = ap (option_map (λ (p : Property). p.value)) (properties_get slots chain k ∙ ap (option_map (λ q. property_in (slot_at slots q))) is)

pub named_none : (slots : List Slot) (chain : Chain) (o : Option ℕ) → option_and_then (slice_get (places_of slots chain)) o ≡ None
    → option_map (λ (p : Property). p.value) (option_and_then (slice_get (properties_of slots chain)) o) ≡ None
named_none slots chain None is = refl
named_none slots chain (Some k) is = ap (option_map (λ (p : Property). p.value)) (properties_get slots chain k ∙ ap (option_map (λ q. property_in (slot_at slots q))) is)

-- A VALUE

pub values_alike : (ps : List Property) (k : ℕ) (v : Rattle.rip_base.specs.declared.value.Value.Value) → chain_with_value ps k v ≡ with_value ps k v
values_alike [] k v = refl
values_alike (p ∷ ps) zero v = refl
values_alike (p ∷ ps) (suc k) v = ap (λ qs. p ∷ qs) (values_alike ps k v)

names_alike : (ps : List Property) (k : ℕ) (v : Rattle.rip_base.specs.declared.value.Value.Value) (j : ℕ) → name_at (with_value ps k v) j ≡ name_at ps j
names_alike [] k v j = refl
names_alike (p ∷ ps) zero v zero = refl
names_alike (p ∷ ps) zero v (suc j) = refl
names_alike (p ∷ ps) (suc k) v zero = refl
names_alike (p ∷ ps) (suc k) v (suc j) = names_alike ps k v j

-- the rows with other properties alone
pub rows_valued : (old new : Paged) (spent room : ℕ) (places : List (List ℕ)) (lists : List (List Property)) → new ≡ with_row Properties new.properties old → length new.properties ≡ length old.properties
    → AreHung (chains_in old) new.properties places lists → AreRows old spent room → AreRows new spent room
rows_valued old new spent room places lists is long hung h = subst (λ n. AreRows n spent room) (sym is) (record {
  chains = hung.hang;
  arrays = h.arrays;
  scopes = h.scopes;
  numbered = h.numbered;
  within = h.within;
  paid = omega (arith, h.paid, long);
})

pub listed_valued : (old new : Paged) (rooms : Rooms) (at : ℕ) (places : List (List ℕ)) (ps : List Property) → new ≡ with_row Properties new.properties old
    → AreHung (chains_in old) new.properties places (slice_set (map (properties_of old.properties) (chains_in old)) at ps)
    → listed (record { pages = new; rooms = rooms }) ≡ with_properties (listed (record { pages = old; rooms = rooms })) at ps
listed_valued old new rooms at places ps is hung =
    ap (λ n. listed (record { pages = n; rooms = rooms })) is ∙ (λ t. record (listed (record { pages = old; rooms = rooms })) { properties = hung.hold t })

pub indexes_valued : (old new : Paged) (at number : ℕ) (v : Rattle.rip_base.specs.declared.value.Value.Value) → new ≡ with_row Properties new.properties old → length new.properties ≡ length old.properties
    → at < length old.objects → SameLinks old.properties new.properties → AreChains (chains_in old) old.properties
    → AreHung (chains_in old) new.properties (map (places_of old.properties) (chains_in old))
    (slice_set (map (properties_of old.properties) (chains_in old)) at (with_value (properties_of old.properties (chain_at (chains_in old) at)) number v))
    → IndexesStay old new
indexes_valued old new at number v is long before links chains hung = subst (λ n. IndexesStay old n) (sym is) by
  where
    row : List Slot
    row = new.properties

    held : (i : ℕ) → i < length (chains_in old) → (i ≡ at) ⊎ (i ≡ at → ⊥)
        → (length (properties_of row (chain_at (chains_in old) i)) ≡ length (properties_of old.properties (chain_at (chains_in old) i)))
        × ((k : ℕ) → name_at (properties_of row (chain_at (chains_in old) i)) k ≡ name_at (properties_of old.properties (chain_at (chains_in old) i)) k)
    held i lt (inl e) =
        let now : properties_of row (chain_at (chains_in old) at) ≡ with_value (properties_of old.properties (chain_at (chains_in old) at)) number v =
        read_there (properties_of row) (properties_of old.properties) (chains_in old) (chains_in old) at (record { first = 0; last = 0; count = 0 }) _ [] hung.hold refl (subst (λ n. n < length (chains_in old)) e lt) in
        subst (λ n. (length (properties_of row (chain_at (chains_in old) n)) ≡ length (properties_of old.properties (chain_at (chains_in old) n)))
        × ((k : ℕ) → name_at (properties_of row (chain_at (chains_in old) n)) k ≡ name_at (properties_of old.properties (chain_at (chains_in old) n)) k)) (sym e)
        (ap length now ∙ length-set (properties_of old.properties (chain_at (chains_in old) at)) number _, λ k. ap (λ qs. name_at qs k) now ∙ names_alike (properties_of old.properties (chain_at (chains_in old) at)) number v k)
    held i lt (inr ne) =
        let now : properties_of row (chain_at (chains_in old) i) ≡ properties_of old.properties (chain_at (chains_in old) i) =
        read_other (properties_of row) (properties_of old.properties) (chains_in old) (chains_in old) at i (record { first = 0; last = 0; count = 0 }) _ [] hung.hold refl lt ne in
        (ap length now, λ k. ap (λ qs. name_at qs k) now)

    by : IndexesStay old (with_row Properties row old)
    by pool blocks h i lt =
        let within : i < length (chains_in old) = omega (arith, lt, length-map old.objects chain_in) in
        let chain = chain_at (chains_in old) i in
        let same : places_of row chain ≡ places_of old.properties chain =
        sym (at_map (places_of row) (chains_in old) i (record { first = 0; last = 0; count = 0 }) [] within) ∙ ap (λ ps. slice_index_or ps i []) hung.stand
        ∙ at_map (places_of old.properties) (chains_in old) i (record { first = 0; last = 0; count = 0 }) [] within in
        let alike = held i within (cases_eq i at) in
        let here = chains.each i within in
        subst (λ ps. IsIndexOf pool row ps (properties_of row chain) (buckets_at blocks (index_in (slot_at old.objects i)) i)) (sym same)
        (placed_named pool row (places_of old.properties chain) (properties_of old.properties chain) (properties_of row chain) (buckets_at blocks (index_in (slot_at old.objects i)) i) alike.0 alike.1
        (index_linked pool old.properties row (places_of old.properties chain) (properties_of old.properties chain) (buckets_at blocks (index_in (slot_at old.objects i)) i) (h i lt)
        (λ k inside. links _ (place_within old.properties chain k _ here (slice_get-get_or (places_of old.properties chain) k 0 inside)))))

-- LINKS

-- where a row has become no longer, no slot has another link
pub links_all : (old new : List Slot) → length new ≡ length old → SameLinks old new → (p : ℕ) → (slot_at new p).link ≡ (slot_at old p).link
links_all old new long links p = by (cases_lt p (length old))
  where
    by : (p < length old) ⊎ (length old ≤ p) → (slot_at new p).link ≡ (slot_at old p).link
    by (inl lt) = links p lt
    by (inr le) = ap (λ (s : Slot). s.link) (get_or_past new p no_slot (omega (arith, le, long)) ∙ sym (get_or_past old p no_slot le))

pub hung_linked : (chains : List Chain) (old new : List Slot) (places : List (List ℕ)) (lists : List (List Property)) → OnlyLinks old new → AreHung chains old places lists → AreHung chains new places lists
hung_linked chains old new places lists only hung =
    let h = hung_by_links chains old new only hung.hang in
    record { hang = h.hang; stand = h.stand ∙ hung.stand; hold = h.hold ∙ hung.hold }

-- A PROPERTY MORE

-- what is kept of the index of an object before a property is taken up
pub renew_ready : (pool : Texts) (old new : List Slot) (chain more : Chain) (property : Property) (blocks : ListedBlocks) (index owner : ℕ) → IsChain old chain → SameLinks old new
    → places_of new more ≡ places_of old chain ++ length old ∷ [] → properties_of new more ≡ properties_of old chain ++ property ∷ [] → more.count ≡ chain.count + 1
    → IsIndexAt pool old (places_of old chain) (properties_of old chain) blocks index owner
    → IsIndexAt pool new (take (more.count - 1) (places_of new more)) (take (more.count - 1) (properties_of new more)) blocks index owner
renew_ready pool old new chain more property blocks index owner here links places properties count h =
    let n : more.count - 1 ≡ chain.count = omega (arith, count) in
    subst (λ k. IsIndexAt pool new (take k (places_of new more)) (take k (properties_of new more)) blocks index owner) (sym n)
    (subst (λ ps. IsIndexAt pool new ps (take chain.count (properties_of new more)) blocks index owner) (sym (front _ _ _ places (places_count old chain)))
    (subst (λ qs. IsIndexAt pool new (places_of old chain) qs blocks index owner) (sym (front _ _ _ properties (properties_count old chain)))
    (index_linked pool old new (places_of old chain) (properties_of old chain) (buckets_at blocks index owner) h
    (λ k inside. links _ (place_within old chain k _ here (slice_get-get_or (places_of old chain) k 0 inside))))))
  where
    front : {A : Type 0} (ys xs : List A) (x : A) → ys ≡ xs ++ x ∷ [] → length xs ≡ chain.count → take chain.count ys ≡ xs
    front ys xs x is long = ap (take chain.count) is ∙ take-append-le chain.count xs (x ∷ []) (omega (arith, long)) ∙ take_all chain.count xs (omega (arith, long))

not_among : (xs : List ℕ) (n p : ℕ) → ((i : ℕ) → slice_get xs i ≢ Some p) → n ≢ p → (i : ℕ) → slice_get (xs ++ n ∷ []) i ≢ Some p
not_among [] n p other ne zero is = ne (same_Some n p is)
not_among [] n p other ne (suc i) is = none-some p is
not_among (x ∷ xs) n p other ne zero is = other 0 is
not_among (x ∷ xs) n p other ne (suc i) is = not_among xs n p (λ j. other (suc j)) ne i is

absurd_less : {p n : ℕ} → p < n → n ≡ p → ⊥
absurd_less {p} {n} lt e = omega (arith, lt, e)

-- the links of all other objects stay where only those of this one and of a new slot may have changed
pub others_linked : (old : Paged) (now new : List Slot) (at : ℕ) (chain : Chain) (places : List ℕ) → at < length old.objects → chain ≡ chain_at (chains_in old) at
    → AreChains (chains_in old) old.properties → length old.properties ≤ length now → SameLinks old.properties now
    → places ≡ places_of old.properties chain ++ length old.properties ∷ [] → OthersKeepLinks places now new
    → (i k p : ℕ) → i < length old.objects → i ≢ at → slice_get (places_of old.properties (chain_at (chains_in old) i)) k ≡ Some p → (slot_at new p).link ≡ (slot_at old.properties p).link
others_linked old now new at chain places before is chains long links more keep i k p lt ne found =
    let within : i < length (chains_in old) = omega (arith, lt, length-map old.objects chain_in) in
    let there : at < length (chains_in old) = omega (arith, before, length-map old.objects chain_in) in
    let inside : p < length old.properties = place_within old.properties (chain_at (chains_in old) i) k p (chains.each i within) found in
    keep p (omega (arith, inside, long))
    (subst (λ ps. (j : ℕ) → slice_get ps j ≢ Some p) (sym more)
    (not_among (places_of old.properties chain) (length old.properties) p
    (λ j here. chains.apart i at within there ne k j p found (ap (λ c. slice_get (places_of old.properties c) j) (sym is) ∙ here)) (λ e. absurd_less inside e)))
    ∙ links p inside

-- WHAT A PLACE THAT IS FOUND IS

pub chain_here : (pages : Paged) (at : ℕ) (chain : Chain) → at < length pages.objects → chain ≡ chain_in (slot_at pages.objects at) → AreChains (chains_in pages) pages.properties → IsChain pages.properties chain
chain_here pages at chain lt is chains = subst (λ c. IsChain pages.properties c) (chain_is pages at lt ∙ sym is) (chains.each at (omega (arith, lt, length-map pages.objects chain_in)))

pub property_read : (pages : Paged) (at : ℕ) (chain : Chain) (number : ℕ) (o : Option ℕ) → at < length pages.objects → chain ≡ chain_in (slot_at pages.objects at)
    → o ≡ slice_get (places_of pages.properties chain) number
    → slice_get (slice_index_or (map (properties_of pages.properties) (chains_in pages)) at []) number ≡ option_map (λ p. property_in (slot_at pages.properties p)) o
property_read pages at chain number o lt is found =
    ap (λ ps. slice_get ps number) (properties_are pages at lt) ∙ ap (λ c. slice_get (properties_of pages.properties c) number) (chain_is pages at lt ∙ sym is)
    ∙ properties_get pages.properties chain number ∙ ap (option_map (λ p. property_in (slot_at pages.properties p))) (sym found)

-- where the property of an object stands that is found
abbrev pub found_at : Paged → ℕ → Option ℕ → Option ℕ
found_at pages at o = option_and_then (slice_get (places_of pages.properties (chain_at (chains_in pages) at))) o

pub found_within : (pages : Paged) (at : ℕ) (o : Option ℕ) (place : ℕ) → at < length pages.objects → AreChains (chains_in pages) pages.properties
    → found_at pages at o ≡ Some place → place < length pages.properties
found_within pages at o place lt chains found =
    let n = number_of (places_of pages.properties (chain_at (chains_in pages) at)) o place found in
    place_within pages.properties (chain_at (chains_in pages) at) n.0 place (chains.each at (omega (arith, lt, length-map pages.objects chain_in))) n.2

pub value_read : (pages : Paged) (at : ℕ) (o : Option ℕ) (place : ℕ) → at < length pages.objects → found_at pages at o ≡ Some place
    → option_map (λ (p : Property). p.value) (option_and_then (slice_get (slice_index_or (map (properties_of pages.properties) (chains_in pages)) at [])) o) ≡ Some (slot_at pages.properties place).value
value_read pages at o place lt found =
    ap (λ ps. option_map (λ (p : Property). p.value) (option_and_then (slice_get ps) o)) (properties_are pages at lt) ∙ named_found pages.properties (chain_at (chains_in pages) at) o place found

place-inside : (pool : Texts) (name : Rattle.rip_base.specs.declared.value.Span.Span) (properties : List Property) → IfSome (place_of pool name properties) (λ place. place < length properties)
place-inside pool name properties = by (position_or_len (λ property. same_text pool property.name name) properties) (length properties)
  where
    tested : (n m : ℕ) → (n < m) ⊎ (m ≤ n) → IfSome (cond (nat_lt n m) (Some n) None) (λ place. place < m)
    tested n m (inl lt) =
        let test : nat_lt n m ≡ true = grind (arith, nat_tests) in
        subst (λ t. IfSome (cond t (Some n) None) (λ place. place < m)) (sym test) lt
    tested n m (inr le) =
        let test : nat_lt n m ≡ false = grind (arith, nat_tests) in
        subst (λ t. IfSome (cond t (Some n) None) (λ place. place < m)) (sym test) tt

    by : (n m : ℕ) → IfSome (cond (nat_lt n m) (Some n) None) (λ place. place < m)
    by n m = tested n m (cases_lt n m)

-- where none is found, none has the name
pub found_none : (pool : Texts) (name : Rattle.rip_base.specs.declared.value.Span.Span) (pages : Paged) (at : ℕ) → at < length pages.objects
    → found_at pages at (place_of pool name (slice_index_or (map (properties_of pages.properties) (chains_in pages)) at [])) ≡ None
    → place_of pool name (slice_index_or (map (properties_of pages.properties) (chains_in pages)) at []) ≡ None
found_none pool name pages at lt found =
    by (place_of pool name (slice_index_or (map (properties_of pages.properties) (chains_in pages)) at [])) (place-inside pool name (slice_index_or (map (properties_of pages.properties) (chains_in pages)) at [])) found
  where
    chain : Chain
    chain = chain_at (chains_in pages) at

    by : (o : Option ℕ) → IfSome o (λ k. k < length (slice_index_or (map (properties_of pages.properties) (chains_in pages)) at [])) → found_at pages at o ≡ None → o ≡ None
    by None inside is = refl
    by (Some k) inside is =
        absurd (none-some _ (sym is ∙ slice_get-get_or (places_of pages.properties chain) k 0
        (omega (arith, inside, ap length (properties_are pages at lt), properties_count pages.properties chain, places_count pages.properties chain))))

pub hung_held : (chains : List Chain) (slots : List Slot) (places places' : List (List ℕ)) (lists : List (List Property)) (at : ℕ) (ps qs : List Property)
    → places ≡ places' → ps ≡ qs → AreHung chains slots places (slice_set lists at ps) → AreHung chains slots places' (slice_set lists at qs)
hung_held chains slots places places' lists at ps qs same is h = record { hang = h.hang; stand = h.stand ∙ same; hold = h.hold ∙ ap (slice_set lists at) is }

-- the properties with another value of the one that is found
pub value_set : (pages : Paged) (at : ℕ) (o : Option ℕ) (n : ℕ) (v : Rattle.rip_base.specs.declared.value.Value.Value) → at < length pages.objects → o ≡ Some n
    → chain_with_value (properties_of pages.properties (chain_at (chains_in pages) at)) n v ≡ valued (slice_index_or (map (properties_of pages.properties) (chains_in pages)) at []) v o
value_set pages at o n v lt is =
    values_alike (properties_of pages.properties (chain_at (chains_in pages) at)) n v ∙ ap (λ ps. with_value ps n v) (sym (properties_are pages at lt))
    ∙ ap (valued (slice_index_or (map (properties_of pages.properties) (chains_in pages)) at []) v) (sym is)

pub kept_list : (k : Kept) (at : ℕ) (ps : List Property) → at < length k.pages.objects → slice_index_or (map (properties_of k.pages.properties) (chains_in k.pages)) at [] ≡ ps
    → listed k ≡ with_properties (listed k) at ps
kept_list k at ps lt is =
    let lists = map (properties_of k.pages.properties) (chains_in k.pages) in
    let long : at < length lists = omega (arith, lt, length-map k.pages.objects chain_in, length-map (chains_in k.pages) (properties_of k.pages.properties)) in
    λ t. record (listed k) { properties = sym (set_kept lists at ps (slice_get-get_or lists at [] long ∙ ap Some is)) t }

-- WHAT IS DONE IN STEPS

-- first properties are changed, then links, then the head
pub rehung_of : (old now next new : Paged) (at : ℕ) (s slot : Slot) (chain : Chain) (index : ℕ) → now ≡ with_row Properties now.properties old → next ≡ with_row Properties next.properties now
    → new ≡ with_row Objects (slice_set next.objects at s) next → s ≡ with_chain slot chain index → slot ≡ slot_at old.objects at → IsRehung old new at chain index
rehung_of old now next new at s slot chain index one two three head there = record {
  objects = ap (λ (p : Paged). p.objects) three ∙ ap (λ (p : Paged). slice_set p.objects at s) two ∙ ap (λ (p : Paged). slice_set p.objects at s) one
      ∙ ap (slice_set old.objects at) (head ∙ ap (λ x. with_chain x chain index) there);
  elements = ap (λ (p : Paged). p.elements) three ∙ ap (λ (p : Paged). p.elements) two ∙ ap (λ (p : Paged). p.elements) one;
  scopes = ap (λ (p : Paged). p.scopes) three ∙ ap (λ (p : Paged). p.scopes) two ∙ ap (λ (p : Paged). p.scopes) one;
  bindings = ap (λ (p : Paged). p.bindings) three ∙ ap (λ (p : Paged). p.bindings) two ∙ ap (λ (p : Paged). p.bindings) one;
}

pub room_stays : (old now next new : Paged) (at : ℕ) (s : Slot) → now ≡ with_row Properties now.properties old → next ≡ with_row Properties next.properties now
    → new ≡ with_row Objects (slice_set next.objects at s) next → new.room ≡ old.room
room_stays old now next new at s one two three = ap (λ (p : Paged). p.room) three ∙ ap (λ (p : Paged). p.room) two ∙ ap (λ (p : Paged). p.room) one

pub filled_rehung : (old new : Paged) (at : ℕ) (chain : Chain) (index : ℕ) → IsRehung old new at chain index
    → filled new ≡ length old.objects + length new.properties + length old.elements + length old.scopes + length old.bindings
filled_rehung old new at chain index is =
    omega (arith, ap length is.objects, length-set old.objects at (with_chain (slot_at old.objects at) chain index), ap length is.elements, ap length is.scopes, ap length is.bindings)

-- the links of all other objects stay where only those of this one may have changed
pub others_kept : (old : Paged) (new : List Slot) (at : ℕ) (chain : Chain) → at < length old.objects → chain ≡ chain_at (chains_in old) at → AreChains (chains_in old) old.properties
    → OthersKeepLinks (places_of old.properties chain) old.properties new
    → (i k p : ℕ) → i < length old.objects → i ≢ at → slice_get (places_of old.properties (chain_at (chains_in old) i)) k ≡ Some p → (slot_at new p).link ≡ (slot_at old.properties p).link
others_kept old new at chain before is chains keep i k p lt ne found =
    let within : i < length (chains_in old) = omega (arith, lt, length-map old.objects chain_in) in
    let there : at < length (chains_in old) = omega (arith, before, length-map old.objects chain_in) in
    keep p (place_within old.properties (chain_at (chains_in old) i) k p (chains.each i within) found)
    (λ j here. chains.apart i at within there ne k j p found (ap (λ c. slice_get (places_of old.properties c) j) (sym is) ∙ here))

-- the place of that number is one of them
pub one_of : (places : List ℕ) (number place : ℕ) → slice_get places number ≡ Some place → IfOneOf place places
one_of places number place is = record { number = number; is = is }

-- what is left without the property that is found
pub left_without : (pages : Paged) (at : ℕ) (o : Option ℕ) (n : ℕ) → at < length pages.objects → o ≡ Some n
    → remove (properties_of pages.properties (chain_at (chains_in pages) at)) n ≡ without (slice_index_or (map (properties_of pages.properties) (chains_in pages)) at []) o
left_without pages at o n lt is =
    ap (λ ps. remove ps n) (sym (properties_are pages at lt)) ∙ ap (without (slice_index_or (map (properties_of pages.properties) (chains_in pages)) at [])) (sym is)

-- the places and the properties of a chain are those of before where only links have changed
pub chain_linked : (old : Paged) (new : List Slot) (at : ℕ) → at < length old.objects
    → AreHung (chains_in old) new (map (places_of old.properties) (chains_in old)) (map (properties_of old.properties) (chains_in old))
    → (places_of new (chain_at (chains_in old) at) ≡ places_of old.properties (chain_at (chains_in old) at)) × (properties_of new (chain_at (chains_in old) at) ≡ properties_of old.properties (chain_at (chains_in old) at))
chain_linked old new at lt hung =
    let within : at < length (chains_in old) = omega (arith, lt, length-map old.objects chain_in) in (
      sym (at_map (places_of new) (chains_in old) at (record { first = 0; last = 0; count = 0 }) [] within) ∙ ap (λ ps. slice_index_or ps at []) hung.stand
          ∙ at_map (places_of old.properties) (chains_in old) at (record { first = 0; last = 0; count = 0 }) [] within,
      sym (at_map (properties_of new) (chains_in old) at (record { first = 0; last = 0; count = 0 }) [] within) ∙ ap (λ ps. slice_index_or ps at []) hung.hold
          ∙ at_map (properties_of old.properties) (chains_in old) at (record { first = 0; last = 0; count = 0 }) [] within,
    )

pub linked_there : (pages : Paged) (new : List Slot) (at : ℕ) (chain : Chain) → at < length pages.objects → chain ≡ chain_at (chains_in pages) at → OnlyLinks pages.properties new → AreChains (chains_in pages) pages.properties
    → IsChain new chain × (places_of new chain ≡ places_of pages.properties chain) × (properties_of new chain ≡ properties_of pages.properties chain)
linked_there pages new at chain lt is only chains =
    let hung = hung_by_links (chains_in pages) pages.properties new only chains in
    let linked = chain_linked pages new at lt hung in
    let within : at < length (chains_in pages) = omega (arith, lt, length-map pages.objects chain_in) in (
      chain_of (chains_in pages) new at chain hung.hang (slice_get-get_or (chains_in pages) at (record { first = 0; last = 0; count = 0 }) within ∙ ap Some (sym is)),
      ap (places_of new) is ∙ linked.0 ∙ ap (places_of pages.properties) (sym is),
      ap (properties_of new) is ∙ linked.1 ∙ ap (properties_of pages.properties) (sym is),
    )

pub place_numbered : (pages : Paged) (at : ℕ) (chain : Chain) (o : Option ℕ) (place : ℕ) → chain ≡ chain_at (chains_in pages) at → found_at pages at o ≡ Some place
    → (n : ℕ) × (o ≡ Some n) × (slice_get (places_of pages.properties chain) n ≡ Some place)
place_numbered pages at chain o place is found =
    let n = number_of (places_of pages.properties (chain_at (chains_in pages) at)) o place found in
    (n.0, n.1, ap (λ ch. slice_get (places_of pages.properties ch) n.0) is ∙ n.2)
