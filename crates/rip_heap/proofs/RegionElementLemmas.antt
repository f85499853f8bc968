-- What a change of an object's elements, and of scopes, is for all that lies in a region.
use Rattle.std.proofs.Common.{◌≡◌, ℕ, zero, suc, ◌+◌, ◌-◌, ◌%◌, ◌^◌, ◌<◌, ◌≤◌, List, [], ◌∷◌, length, None, Some, refl, sym, ap, ◌∙◌, subst, arith, slice_get, slice_index_or, take}
use Rattle.std.specs.Prelude.{map, option_map, slice_set}
use Rattle.std.proofs.lemmas.List.{length-map, length-set, take_all}
use Rattle.std.proofs.lemmas.Option.{get_or_from_slice_get, same_Some, slice_get_past}
use Rattle.rip_base.specs.declared.value.Value.{Value}
use Rattle.rip_heap_region.specs.declared.pages.slot.Slot.{Slot}
use Rattle.rip_heap_region.specs.declared.pages.for_rows.Row.TheVariants.{Objects, Elements, Bindings}
use Rattle.rip_heap_region.specs.Pages.{Paged, filled, no_slot, slot_at, with_row}
use Rattle.rip_heap_region.specs.Chains.{AreChains, properties_of}
use Rattle.rip_heap_region.specs.declared.segments.array.Array.{Array}
use Rattle.rip_heap_region.specs.Segments.{AreArrays, AreLaid, IsArray, elements_of, lists_from}
use Rattle.rip_heap_region.proofs.ListLemmas.{array_of, arrays_fewer, elements_count, lists_get}
use Rattle.rip_heap.specs.declared.class.Class.{Class}
use Rattle.rip_heap.specs.declared.class.Class.TheVariants.{Array as ArrayClass}
use Rattle.rip_heap.specs.declared.stored.StoredObject.{StoredObject}
use Rattle.rip_heap.specs.HeadSlots.{array_if, array_in, class_in, head_in, index_in, with_array}
use Rattle.rip_heap.specs.Rooms.{Rooms}
use Rattle.rip_heap.specs.ScopeSlots.{AreScopes, LieWithin, binding_in, scope_head_in, scopes_in, scopes_of}
use Rattle.rip_heap.specs.World.{Scope}
use Rattle.rip_heap.specs.Region.{AreRows, IndexesStay, Kept, arrays_in, chains_in, listed, with_elements}
use Rattle.rip_heap.proofs.HeadRowLemmas.{arrays_with_array, chains_with_array, heads_with_array, indexes_with_array}
use Rattle.rip_heap.proofs.RegionLemmas.{array_there, indexes_stay, set_kept}

-- LISTS

none_or : {A : Type 0} (xs : List A) (i : ℕ) (d : A) → slice_get xs i ≡ None → slice_index_or xs i d ≡ d
none_or [] i d is = refl
none_or (x ∷ xs) zero d is = cc
none_or (x ∷ xs) (suc i) d is = none_or xs i d is

map_at : {A B : Type 0} (f : A → B) (xs : List A) (i : ℕ) (d : A) → slice_index_or (map f xs) i (f d) ≡ f (slice_index_or xs i d)
map_at f [] i d = refl
map_at f (x ∷ xs) zero d = refl
map_at f (x ∷ xs) (suc i) d = map_at f xs i d

-- THE ELEMENTS OF ONE OBJECT

pub objects_within : (pages : Paged) (at : ℕ) (k : Kept) → pages ≡ k.pages → at < length (listed k).heads → at < length pages.objects
objects_within pages at k is lt =
    let heads : length (map head_in k.pages.objects) ≡ length pages.objects = length-map k.pages.objects head_in ∙ ap (λ (p : Paged). length p.objects) (sym is) in
    omega (arith, lt, heads)

pub array_found : (pages : Paged) (at : ℕ) (array : Array) → at < length pages.objects → array ≡ array_in (slot_at pages.objects at) → slice_get (arrays_in pages) at ≡ Some array
array_found pages at array lt is = array_there pages at lt ∙ ap Some (sym is)

pub array_is : (pages : Paged) (spent room at : ℕ) (array : Array) → AreRows pages spent room → at < length pages.objects → array ≡ array_in (slot_at pages.objects at) → IsArray pages.elements at array
array_is pages spent room at array h lt is =
    array_of (arrays_in pages) pages.elements at array h.arrays (array_found pages at array lt is)

pub elements_there : (pages : Paged) (at : ℕ) (array : Array) → at < length pages.objects → array ≡ array_in (slot_at pages.objects at)
    → slice_index_or (lists_from 0 (arrays_in pages) pages.elements) at [] ≡ elements_of at pages.elements array
elements_there pages at array lt is =
    get_or_from_slice_get (lists_from 0 (arrays_in pages) pages.elements) at (elements_of at pages.elements array) []
    (lists_get (arrays_in pages) pages.elements at ∙ ap (option_map (elements_of at pages.elements)) (array_found pages at array lt is))

pub elements_past : (pages : Paged) (at : ℕ) → length pages.objects ≤ at → slice_index_or (lists_from 0 (arrays_in pages) pages.elements) at [] ≡ []
elements_past pages at le =
    none_or (lists_from 0 (arrays_in pages) pages.elements) at []
    (lists_get (arrays_in pages) pages.elements at
    ∙ ap (option_map (elements_of at pages.elements)) (slice_get_past (arrays_in pages) at (omega (arith, le, length-map pages.objects array_in))))

pub count_there : (pages : Paged) (spent room at : ℕ) (array : Array) → AreRows pages spent room → at < length pages.objects → array ≡ array_in (slot_at pages.objects at)
    → array.count ≡ length (slice_index_or (lists_from 0 (arrays_in pages) pages.elements) at [])
count_there pages spent room at array h lt is =
    sym (ap length (elements_there pages at array lt is) ∙ elements_count pages.elements at array (array_is pages spent room at array h lt is))

-- OTHER ELEMENTS

-- the rows where elements are changed, and which are those of these arrays; all else is as before
pub record IsRefilled (old new : Paged) (arrays : List Array) : Type 0 where
  pub heads : map head_in new.objects ≡ map head_in old.objects
  pub chains : chains_in new ≡ chains_in old
  pub indexes : map index_in new.objects ≡ map index_in old.objects
  pub laid : arrays_in new ≡ arrays
  pub properties : new.properties ≡ old.properties
  pub scopes : new.scopes ≡ old.scopes
  pub bindings : new.bindings ≡ old.bindings

scopes_kept : (old new : Paged) → new.scopes ≡ old.scopes → new.bindings ≡ old.bindings → AreScopes old → AreScopes new
scopes_kept old new scopes bindings h =
    subst (λ ss. LieWithin 0 (length new.bindings) (map scope_head_in ss)) (sym scopes) (subst (λ bs. LieWithin 0 (length bs) (map scope_head_in old.scopes)) (sym bindings) h)

index_same : (slots slots' : List Slot) → map index_in slots' ≡ map index_in slots → (i : ℕ) → index_in (slot_at slots' i) ≡ index_in (slot_at slots i)
index_same slots slots' same i =
    sym (map_at index_in slots' i no_slot) ∙ ap (λ ns. slice_index_or ns i 0) same ∙ map_at index_in slots i no_slot

pub rows_refilled : (old new : Paged) (arrays : List Array) (lists : List (List Value)) (spent spent' room : ℕ) → IsRefilled old new arrays → AreLaid arrays new.elements lists
    → spent' ≤ room → filled new + (room - spent') ≤ new.room → AreRows old spent room → AreRows new spent' room
rows_refilled old new arrays lists spent spent' room is laid le paid h = record {
  chains = subst (λ cs. AreChains cs new.properties) (sym is.chains) (subst (λ ps. AreChains (chains_in old) ps) (sym is.properties) h.chains);
  arrays = subst (λ ys. AreArrays ys new.elements) (sym is.laid) laid.laid;
  scopes = scopes_kept old new is.scopes is.bindings h.scopes;
  numbered = λ i. subst (λ n. n < 2 ^ 28) (sym (index_same old.objects new.objects is.indexes i)) (h.numbered i);
  within = le;
  paid = paid;
}

pub listed_refilled : (old new : Paged) (arrays : List Array) (rooms rooms' : Rooms) (at : ℕ) (items : List Value) → IsRefilled old new arrays
    → AreLaid arrays new.elements (slice_set (lists_from 0 (arrays_in old) old.elements) at items)
    → listed (record { pages = new; rooms = rooms' }) ≡ record (with_elements (listed (record { pages = old; rooms = rooms })) at items) { rooms = rooms' }
listed_refilled old new arrays rooms rooms' at items is laid = λ t. record {
  heads = is.heads t;
  properties = (ap (map (properties_of new.properties)) is.chains ∙ ap (λ ps. map (properties_of ps) (chains_in old)) is.properties) t;
  elements = (ap (λ ys. lists_from 0 ys new.elements) is.laid ∙ laid.same) t;
  scopes = scopes_in (map binding_in (is.bindings t)) (map scope_head_in (is.scopes t));
  rooms = rooms';
}

pub indexes_refilled : (old new : Paged) (arrays : List Array) → IsRefilled old new arrays → IndexesStay old new
indexes_refilled old new arrays is = indexes_stay old new is.properties is.chains is.indexes

-- the row of elements alone is changed
pub elements_alone : (old new : Paged) → new ≡ with_row Elements new.elements old → IsRefilled old new (arrays_in old)
elements_alone old new is = record {
  heads = ap (λ (p : Paged). map head_in p.objects) is;
  chains = ap (λ (p : Paged). chains_in p) is;
  indexes = ap (λ (p : Paged). map index_in p.objects) is;
  laid = ap (λ (p : Paged). arrays_in p) is;
  properties = ap (λ (p : Paged). p.properties) is;
  scopes = ap (λ (p : Paged). p.scopes) is;
  bindings = ap (λ (p : Paged). p.bindings) is;
}

pub rows_elements : (old new : Paged) (lists : List (List Value)) (spent room : ℕ) → new ≡ with_row Elements new.elements old → length new.elements ≡ length old.elements
    → AreLaid (arrays_in old) new.elements lists → AreRows old spent room → AreRows new spent room
rows_elements old new lists spent room is size laid h =
    let same : filled new ≡ length old.objects + length old.properties + length new.elements + length old.scopes + length old.bindings = ap (λ (p : Paged). filled p) is in
    let most : new.room ≡ old.room = ap (λ (p : Paged). p.room) is in
    rows_refilled old new (arrays_in old) lists spent spent room (elements_alone old new is) laid h.within (omega (arith, same, size, most, h.paid)) h

-- and the head of the array at this place
pub with_head : (old mid new : Paged) (at : ℕ) (array : Array) → mid ≡ with_row Elements mid.elements old → (head_in (slot_at old.objects at)).class ≡ ArrayClass
    → new ≡ with_row Objects (slice_set mid.objects at (with_array (slot_at old.objects at) array)) mid → IsRefilled old new (slice_set (arrays_in old) at array)
with_head old mid new at array row class is = record {
  heads = ap (map head_in) objects ∙ heads_with_array old.objects at array class;
  chains = ap (map Rattle.rip_heap.specs.HeadSlots.chain_in) objects ∙ chains_with_array old.objects at array;
  indexes = ap (map index_in) objects ∙ indexes_with_array old.objects at array;
  laid = ap (map array_in) objects ∙ arrays_with_array old.objects at array class;
  properties = ap (λ (p : Paged). p.properties) is ∙ ap (λ (p : Paged). p.properties) row;
  scopes = ap (λ (p : Paged). p.scopes) is ∙ ap (λ (p : Paged). p.scopes) row;
  bindings = ap (λ (p : Paged). p.bindings) is ∙ ap (λ (p : Paged). p.bindings) row;
}
  where
    objects : new.objects ≡ slice_set old.objects at (with_array (slot_at old.objects at) array)
    objects = ap (λ (p : Paged). p.objects) is ∙ ap (λ (p : Paged). slice_set p.objects at (with_array (slot_at old.objects at) array)) row

-- the same by what the calls say that do it
pub array_put : (old mid new : Paged) (at : ℕ) (array : Array) (slot s : Slot) → mid ≡ with_row Elements mid.elements old → slot ≡ slot_at old.objects at → (head_in (slot_at old.objects at)).class ≡ ArrayClass
    → s ≡ with_array slot array → new ≡ with_row Objects (slice_set mid.objects at s) mid → IsRefilled old new (slice_set (arrays_in old) at array)
array_put old mid new at array slot s row here class made put =
    with_head old mid new at array row class
    (put ∙ ap (λ x. with_row Objects (slice_set mid.objects at x) mid) (made ∙ ap (λ (x : Slot). with_array x array) here))

-- the row of elements is not changed with the head
pub laid_under : (mid new : Paged) (at : ℕ) (s : Slot) (arrays : List Array) (lists : List (List Value)) → new ≡ with_row Objects (slice_set mid.objects at s) mid
    → AreLaid arrays mid.elements lists → AreLaid arrays new.elements lists
laid_under mid new at s arrays lists put laid = subst (λ row. AreLaid arrays row lists) (sym (ap (λ (p : Paged). p.elements) put)) laid

pub filled_with_head : (old mid new : Paged) (at : ℕ) (s : Slot) → mid ≡ with_row Elements mid.elements old → new ≡ with_row Objects (slice_set mid.objects at s) mid
    → (filled new + length old.elements ≡ filled old + length mid.elements) × (new.room ≡ old.room)
filled_with_head old mid new at s row is =
    let last : filled new ≡ length (slice_set mid.objects at s) + length mid.properties + length mid.elements + length mid.scopes + length mid.bindings = ap (λ (p : Paged). filled p) is in
    let first : filled mid ≡ length old.objects + length old.properties + length mid.elements + length old.scopes + length old.bindings = ap (λ (p : Paged). filled p) row in
    (omega (arith, last, first, length-set mid.objects at s), ap (λ (p : Paged). p.room) is ∙ ap (λ (p : Paged). p.room) row)

-- what a call says of the elements of an array, of those at that place
pub laid_here : (old : Paged) (slots : List Slot) (at : ℕ) (array : Array) (arrays : List Array) (f : List Value → List Value) → at < length old.objects → array ≡ array_in (slot_at old.objects at)
    → AreLaid arrays slots (slice_set (lists_from 0 (arrays_in old) old.elements) at (f (elements_of at old.elements array)))
    → AreLaid arrays slots (slice_set (lists_from 0 (arrays_in old) old.elements) at (f (slice_index_or (lists_from 0 (arrays_in old) old.elements) at [])))
laid_here old slots at array arrays f lt is laid =
    subst (λ xs. AreLaid arrays slots (slice_set (lists_from 0 (arrays_in old) old.elements) at (f xs))) (sym (elements_there old at array lt is)) laid

pub class_here : (slots : List Slot) (at : ℕ) → option_map (λ (head : StoredObject). head.class) (slice_get (map head_in slots) at) ≡ Some ArrayClass
    → (at < length slots) × ((head_in (slot_at slots at)).class ≡ ArrayClass)
class_here [] at is = cc
class_here (s ∷ slots) zero is = (omega arith, same_Some (head_in s).class ArrayClass is)
class_here (s ∷ slots) (suc at) is =
    let further = class_here slots at is in
    (omega (arith, further.0), further.1)

-- FEWER ELEMENTS

class_counted : (class : Class) (value : Value) (n : ℕ) → n < (array_if class value).count → class ≡ ArrayClass
class_counted ArrayClass value n lt = refl
class_counted class value n lt = absurd (omega (arith, lt))

pub class_of_more : (slot : Slot) (array : Array) (n : ℕ) → array ≡ array_in slot → n < array.count → (head_in slot).class ≡ ArrayClass
class_of_more slot array n is lt =
    class_counted (class_in (slot.link % 16)) slot.value n (subst (λ (a : Array). n < a.count) is lt)

pub laid_fewer : (old : Paged) (spent room at count : ℕ) (array : Array) → AreRows old spent room → at < length old.objects → array ≡ array_in (slot_at old.objects at) → count < array.count
    → AreLaid (slice_set (arrays_in old) at (record { top = array.top; count = count })) old.elements
    (slice_set (lists_from 0 (arrays_in old) old.elements) at (take count (slice_index_or (lists_from 0 (arrays_in old) old.elements) at [])))
laid_fewer old spent room at count array h lt is fewer =
    laid_here old old.elements at array (slice_set (arrays_in old) at (record { top = array.top; count = count })) (take count) lt is
    (arrays_fewer (arrays_in old) old.elements at array count h.arrays (array_found old at array lt is) (omega (arith, fewer)))

pub is_cut : (old new : Paged) (at count : ℕ) (array : Array) (slot s : Slot) → slot ≡ slot_at old.objects at → array ≡ array_in slot → count < array.count
    → s ≡ with_array slot (record { top = array.top; count = count }) → new ≡ with_row Objects (slice_set old.objects at s) old
    → IsRefilled old new (slice_set (arrays_in old) at (record { top = array.top; count = count }))
is_cut old new at count array slot s here is fewer made put =
    array_put old old new at (record { top = array.top; count = count }) slot s refl here
    (subst (λ (x : Slot). (head_in x).class ≡ ArrayClass) here (class_of_more slot array count is fewer)) made put

pub rows_cut : (old new : Paged) (at : ℕ) (s : Slot) (arrays : List Array) (lists : List (List Value)) (spent room : ℕ) → new ≡ with_row Objects (slice_set old.objects at s) old
    → IsRefilled old new arrays → AreLaid arrays old.elements lists → AreRows old spent room → AreRows new spent room
rows_cut old new at s arrays lists spent room put is laid h =
    let paid = filled_with_head old old new at s refl put in
    rows_refilled old new arrays lists spent spent room is (laid_under old new at s arrays lists put laid) h.within
    (omega (arith, paid.0, paid.1, h.paid)) h

-- nothing is cut off
pub listed_long : (pages : Paged) (rooms : Rooms) (spent room at count : ℕ) (array : Array) → AreRows pages spent room → at < length pages.objects → array ≡ array_in (slot_at pages.objects at)
    → array.count ≤ count → listed (record { pages = pages; rooms = rooms })
    ≡ with_elements (listed (record { pages = pages; rooms = rooms })) at (take count (slice_index_or (lists_from 0 (arrays_in pages) pages.elements) at []))
listed_long pages rooms spent room at count array h lt is long = λ t. record (listed (record { pages = pages; rooms = rooms })) { elements = sym (set_kept lists at (take count here) found) t }
  where
    lists : List (List Value)
    lists = lists_from 0 (arrays_in pages) pages.elements

    here : List Value
    here = slice_index_or (lists_from 0 (arrays_in pages) pages.elements) at []

    all : take count here ≡ elements_of at pages.elements array
    all = ap (take count) (elements_there pages at array lt is)
        ∙ take_all count (elements_of at pages.elements array) (omega (arith, long, elements_count pages.elements at array (array_is pages spent room at array h lt is)))

    found : slice_get (lists_from 0 (arrays_in pages) pages.elements) at ≡ Some (take count (slice_index_or (lists_from 0 (arrays_in pages) pages.elements) at []))
    found = lists_get (arrays_in pages) pages.elements at ∙ ap (option_map (elements_of at pages.elements)) (array_found pages at array lt is) ∙ ap Some (sym all)

-- ONE ELEMENT MORE

pub rows_pushed : (old mid new : Paged) (at spare : ℕ) (s : Slot) (arrays : List Array) (lists : List (List Value)) (spent room : ℕ) → mid ≡ with_row Elements mid.elements old
    → length mid.elements ≤ length old.elements + 1 + spare → spare ≡ old.room - filled old - (room - spent) → new ≡ with_row Objects (slice_set mid.objects at s) mid
    → IsRefilled old new arrays → AreLaid arrays mid.elements lists → spent < room → AreRows old spent room → AreRows new (spent + 1) room
rows_pushed old mid new at spare s arrays lists spent room row size most put is laid lt h =
    let paid = filled_with_head old mid new at s row put in
    rows_refilled old new arrays lists spent (spent + 1) room is (laid_under mid new at s arrays lists put laid) (omega (arith, lt))
    (omega (arith, paid.0, paid.1, size, most, lt, h.paid)) h

-- SCOPES

-- the rows where scopes and their bindings are changed
pub rows_scoped : (old new : Paged) (spent spent' room : ℕ) → new ≡ record old { scopes = new.scopes; bindings = new.bindings } → AreScopes new
    → spent' ≤ room → filled new + (room - spent') ≤ new.room → AreRows old spent room → AreRows new spent' room
rows_scoped old new spent spent' room is scopes le paid h = record {
  chains = subst (λ (p : Paged). AreChains (chains_in p) p.properties) (sym is) h.chains;
  arrays = subst (λ (p : Paged). AreArrays (arrays_in p) p.elements) (sym is) h.arrays;
  scopes = scopes;
  numbered = subst (λ (p : Paged). (i : ℕ) → index_in (slot_at p.objects i) < 2 ^ 28) (sym is) h.numbered;
  within = le;
  paid = paid;
}

pub listed_scoped : (old new : Paged) (rooms rooms' : Rooms) (scopes : List Scope) → new ≡ record old { scopes = new.scopes; bindings = new.bindings } → scopes_of new ≡ scopes
    → listed (record { pages = new; rooms = rooms' }) ≡ record (listed (record { pages = old; rooms = rooms })) { scopes = scopes; rooms = rooms' }
listed_scoped old new rooms rooms' scopes is same = λ t. record {
  heads = ap (λ (p : Paged). map head_in p.objects) is t;
  properties = ap (λ (p : Paged). map (properties_of p.properties) (chains_in p)) is t;
  elements = ap (λ (p : Paged). lists_from 0 (arrays_in p) p.elements) is t;
  scopes = same t;
  rooms = rooms';
}

pub indexes_scoped : (old new : Paged) → new ≡ record old { scopes = new.scopes; bindings = new.bindings } → IndexesStay old new
indexes_scoped old new is =
    indexes_stay old new (ap (λ (p : Paged). p.properties) is) (ap (λ (p : Paged). chains_in p) is) (ap (λ (p : Paged). map index_in p.objects) is)

-- the row of bindings alone is changed
pub bindings_alone : (old new : Paged) → new ≡ with_row Bindings new.bindings old → new ≡ record old { scopes = new.scopes; bindings = new.bindings }
bindings_alone old new is =
    is ∙ ap (λ ss. record old { scopes = ss; bindings = new.bindings }) (sym (ap (λ (p : Paged). p.scopes) is))

pub rows_bound : (old new : Paged) (spent room : ℕ) → new ≡ with_row Bindings new.bindings old → length new.bindings ≡ length old.bindings → AreScopes new → AreRows old spent room → AreRows new spent room
rows_bound old new spent room is size scopes h =
    let same : filled new ≡ length old.objects + length old.properties + length old.elements + length old.scopes + length new.bindings = ap (λ (p : Paged). filled p) is in
    let most : new.room ≡ old.room = ap (λ (p : Paged). p.room) is in
    rows_scoped old new spent spent room (bindings_alone old new is) scopes h.within (omega (arith, same, size, most, h.paid)) h
