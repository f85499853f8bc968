-- What each call gives: the element that is read, and the lists of all arrays after one of them was changed.
use Rattle.std.proofs.Common.{◌≡◌, ℕ, zero, suc, ◌+◌, ◌-◌, ◌<◌, ◌≤◌, List, [], ◌∷◌, ◌++◌, length, Some, refl, sym, ap, ◌∙◌, subst, arith, set, take, slice_get, replicate}
use Rattle.std.proofs.Math.Seq.{take-set-lt}
use Rattle.std.proofs.lemmas.List.{append_assoc, get_or-set_same, get_or_append_left, get_or_at, length-append, length-replicate, length-set, length-take-le, length_push, set_past, take_all, take_at, take_more_set}
use Rattle.rip_base.specs.declared.value.Value.{Value}
use Rattle.rip_heap_region.specs.declared.pages.slot.Slot.{Slot}
use Rattle.rip_heap_region.specs.Pages.{Paged, filled, no_slot, slot_at}
use Rattle.rip_heap_region.specs.declared.segments.array.Array.{Array}
use Rattle.rip_heap_region.specs.Segments.{AreArrays, AreLaid, AreSegments, IsArray, IsSeat, blank_of, elements_of, end_of, lists_from, longer, one_more, places_of, values_of}
use Rattle.rip_heap_region.proofs.ValueLemmas.{count-replicate, values-append, values-first, values-most, values-nth, values-set, values-set_same}
use Rattle.rip_heap_region.proofs.SegmentLemmas.{Begins, fits-value, links-first, segments-begin, segments-longer, segments-set, shows-same}
use Rattle.rip_heap_region.proofs.ArrayLemmas.{keeps-append, keeps-both, keeps-set, keeps_same, laid, laid_same}

-- WHAT AN ARRAY KNOWS

top-from : (top place : ℕ) (values : List Value) → (top ≡ 0 → values ≡ []) → place < length values → 0 < top
top-from zero place values none lt = absurd (omega (arith, lt, ap length (none refl)))
top-from (suc top) place values none lt = omega arith

-- a place within an array is that of its owner
pub seat-own : (slots : List Slot) (owner : ℕ) (array : Array) (place at : ℕ) → IsArray slots owner array → place < length (values_of owner slots)
    → IsSeat slots (slot_at slots (array.top - 1)).link place at → IsSeat slots owner place at
seat-own slots owner array place at a lt seat =
    subst (λ o. IsSeat slots o place at) (a.owned (top-from array.top place (values_of owner slots) a.none lt)) seat

places-from : (slots : List Slot) (top : ℕ) (values : List Value) → (top ≡ 0 → values ≡ []) → (0 < top → end_of (slot_at slots (top - 1)) ≡ length values)
    → places_of slots top ≡ length values
places-from slots zero values none ended = sym (ap length (none refl))
places-from slots (suc at) values none ended =
    let before : at ≡ suc at - 1 = omega arith in
    ap (λ k. end_of (slot_at slots k)) before ∙ ended (omega arith)

pub places-are : (slots : List Slot) (owner : ℕ) (array : Array) → IsArray slots owner array → places_of slots array.top ≡ length (values_of owner slots)
places-are slots owner array a = places-from slots array.top (values_of owner slots) a.none a.ended

-- an array has fewer elements than there is room for slots, while there is room for one more
pub count-most : (pages : Paged) (owner : ℕ) (array : Array) (spare : ℕ) → IsArray pages.elements owner array → filled pages + 1 + spare ≤ pages.room → array.count < pages.room
count-most pages owner array spare a room = omega (arith, a.fits, values-most owner pages.elements, room)

-- WHAT IS READ

take-got : (n i : ℕ) (values : List Value) → i < n → slice_get (take n values) i ≡ slice_get values i
take-got zero i values lt = absurd (omega (arith, lt))
take-got (suc n) i [] lt = refl
take-got (suc n) zero (v ∷ values) lt = refl
take-got (suc n) (suc i) (v ∷ values) lt = take-got n i values (omega (arith, lt))

pub get_call : (slots : List Slot) (owner : ℕ) (array : Array) (place at : ℕ) (s : Slot) → IsArray slots owner array → place < array.count
    → IsSeat slots (slot_at slots (array.top - 1)).link place at → s ≡ slot_at slots at → Some s.value ≡ slice_get (elements_of owner slots array) place
get_call slots owner array place at s a lt found is =
    let seat = seat-own slots owner array place at a (omega (arith, lt, a.fits)) found in
    ap (λ (x : Slot). Some x.value) is
    ∙ sym (values-nth owner slots at seat.within seat.owned)
    ∙ ap (λ k. slice_get (values_of owner slots) k) seat.ranked
    ∙ sym (take-got array.count place (values_of owner slots) lt)

-- WHAT IS WRITTEN IN A PLACE

values-put : (slots : List Slot) (owner place at : ℕ) (v : Value) → IsSeat slots owner place at
    → values_of owner (set slots at (record (slot_at slots at) { value = v })) ≡ set (values_of owner slots) place v
values-put slots owner place at v seat =
    values-set owner slots at (record (slot_at slots at) { value = v }) seat.within seat.owned seat.owned
    ∙ ap (λ k. set (values_of owner slots) k v) seat.ranked

put-array : (slots : List Slot) (owner : ℕ) (array : Array) (count place at : ℕ) (v : Value) → AreSegments slots → IsArray slots owner array → IsSeat slots owner place at
    → count ≤ length (values_of owner slots)
    → IsArray (set slots at (record (slot_at slots at) { value = v })) owner (record { top = array.top; count = count })
put-array slots owner array count place at v all a seat fits = record {
  none = λ e. values ∙ ap (λ vs. set vs place v) (a.none e);
  there = omega (arith, a.there, length-set slots at new);
  begun = λ some. omega (arith, a.begun some, shows-same (λ (s : Slot). s.name.count) slots at new seat.within refl (array.top - 1));
  owned = λ some. shows-same (λ (s : Slot). s.link) slots at new seat.within refl (array.top - 1) ∙ a.owned some;
  ended = λ some. shows-same (λ (s : Slot). end_of s) slots at new seat.within refl (array.top - 1) ∙ a.ended some ∙ sym size;
  fits = omega (arith, fits, size);
}
  where
    new : Slot
    new = record (slot_at slots at) { value = v }

    values : values_of owner (set slots at (record (slot_at slots at) { value = v })) ≡ set (values_of owner slots) place v
    values = values-put slots owner place at v seat

    size : length (values_of owner (set slots at (record (slot_at slots at) { value = v }))) ≡ length (values_of owner slots)
    size = ap length values ∙ length-set (values_of owner slots) place v

pub set_call : (arrays : List Array) (slots : List Slot) (owner : ℕ) (array : Array) (place at : ℕ) (v : Value) → slice_get arrays owner ≡ Some array → AreArrays arrays slots
    → IsArray slots owner array → place < array.count → IsSeat slots (slot_at slots (array.top - 1)).link place at
    → AreLaid arrays (set slots at (record (slot_at slots at) { value = v })) (set (lists_from 0 arrays slots) owner (set (elements_of owner slots array) place v))
set_call arrays slots owner array place at v found are a lt top =
    let seat = seat-own slots owner array place at a (omega (arith, lt, a.fits)) top in
    let new : Slot = record (slot_at slots at) { value = v } in
    laid_same arrays slots (set slots at new) owner array (set (elements_of owner slots array) place v) found are
    (segments-set slots at new are.segments (fits-value slots at v are.segments seat.within))
    (keeps-set owner slots at new seat.within seat.owned seat.owned)
    (put-array slots owner array array.count place at v are.segments a seat a.fits)
    (ap (take array.count) (values-put slots owner place at v seat) ∙ take-set-lt array.count (values_of owner slots) place v lt)

-- past the end nothing is changed
pub set_past_call : (arrays : List Array) (slots : List Slot) (owner : ℕ) (array : Array) (place : ℕ) (v : Value) → slice_get arrays owner ≡ Some array → AreArrays arrays slots
    → IsArray slots owner array → array.count ≤ place
    → AreLaid arrays slots (set (lists_from 0 arrays slots) owner (set (elements_of owner slots array) place v))
set_past_call arrays slots owner array place v found are a le =
    let size : length (elements_of owner slots array) ≡ array.count = length-take-le array.count (values_of owner slots) a.fits in
    laid_same arrays slots slots owner array (set (elements_of owner slots array) place v) found are are.segments (keeps_same owner slots) a
    (sym (set_past (elements_of owner slots array) place v (omega (arith, size, le))))

pub put_call : (arrays : List Array) (slots : List Slot) (owner : ℕ) (array : Array) (at : ℕ) (v : Value) → slice_get arrays owner ≡ Some array → AreArrays arrays slots
    → IsArray slots owner array → array.count < places_of slots array.top → IsSeat slots (slot_at slots (array.top - 1)).link array.count at
    → AreLaid (set arrays owner (record { top = array.top; count = array.count + 1 })) (set slots at (record (slot_at slots at) { value = v }))
    (set (lists_from 0 arrays slots) owner (elements_of owner slots array ++ v ∷ []))
put_call arrays slots owner array at v found are a lt top =
    let room : array.count < length (values_of owner slots) = omega (arith, lt, places-are slots owner array a) in
    let seat = seat-own slots owner array array.count at a room top in
    let new : Slot = record (slot_at slots at) { value = v } in
    laid arrays slots (set slots at new) owner array (record { top = array.top; count = array.count + 1 }) (elements_of owner slots array ++ v ∷ []) found are
    (segments-set slots at new are.segments (fits-value slots at v are.segments seat.within))
    (keeps-set owner slots at new seat.within seat.owned seat.owned)
    (put-array slots owner array (array.count + 1) array.count at v are.segments a seat (omega (arith, room)))
    (ap (take (array.count + 1)) (values-put slots owner array.count at v seat) ∙ take_more_set (values_of owner slots) array.count v room)

-- WHAT IS PUT BEHIND THE OTHERS

take-push : (values more : List Value) (v : Value) (n : ℕ) → n ≡ length values → take (n + 1) (values ++ v ∷ more) ≡ take n values ++ v ∷ []
take-push values more v n e =
    ap (take (n + 1)) (sym (append_assoc values (v ∷ []) more))
    ∙ take_at (values ++ v ∷ []) more (n + 1) (omega (arith, length_push values v, e))
    ∙ ap (λ vs. vs ++ v ∷ []) (sym (take_all n values (omega (arith, e))))

all-used : (slots : List Slot) (owner : ℕ) (array : Array) → IsArray slots owner array → places_of slots array.top ≤ array.count → array.count ≡ length (values_of owner slots)
all-used slots owner array a le = omega (arith, a.fits, places-are slots owner array a, le)

-- a slot more in the last segment
values-longer : (slots : List Slot) (owner at : ℕ) (v : Value) → at < length slots
    → values_of owner (longer slots at (record (blank_of owner) { value = v })) ≡ values_of owner slots ++ v ∷ []
values-longer slots owner at v lt =
    let s : Slot = record (blank_of owner) { value = v } in
    let here : slot_at slots at ≡ slot_at (slots ++ record (blank_of owner) { value = v } ∷ []) at = sym (get_or_append_left slots (record (blank_of owner) { value = v } ∷ []) no_slot at lt) in
    values-set_same owner (slots ++ s ∷ []) at (one_more (slot_at slots at)) (ap (λ (x : Slot). x.link) here) (ap (λ (x : Slot). x.value) here)
    ∙ values-append owner slots (s ∷ [])
    ∙ ap (λ vs. values_of owner slots ++ vs) (values-first owner s [] refl)

links-one : (s : Slot) (owner k : ℕ) → s.link ≡ owner → k < suc zero → (slot_at (s ∷ []) k).link ≡ owner
links-one s owner zero e lt = e
links-one s owner (suc k) e lt = absurd (omega (arith, lt))

longer-array : (slots : List Slot) (owner : ℕ) (array : Array) (v : Value) → IsArray slots owner array → 0 < array.top → array.count ≡ length (values_of owner slots)
    → IsArray (longer slots (array.top - 1) (record (blank_of owner) { value = v })) owner (record { top = array.top; count = array.count + 1 })
longer-array slots owner array v a some used = record {
  none = λ e. absurd (omega (arith, some, e));
  there = omega (arith, a.there, size, wide);
  begun = λ _. omega (arith, ap (λ (x : Slot). x.name.count) here);
  owned = λ _. ap (λ (x : Slot). x.link) here ∙ a.owned some;
  ended = λ _. omega (arith, ap (λ (x : Slot). x.name.count) here, ap (λ (x : Slot). x.name.start) here, a.ended some, more);
  fits = omega (arith, used, more);
}
  where
    s : Slot
    s = record (blank_of owner) { value = v }

    at : ℕ
    at = array.top - 1

    below : array.top - 1 < length slots
    below = omega (arith, some, a.there)

    wide : length (slots ++ record (blank_of owner) { value = v } ∷ []) ≡ length slots + 1
    wide = length_push slots (record (blank_of owner) { value = v })

    size : length (longer slots (array.top - 1) (record (blank_of owner) { value = v })) ≡ length (slots ++ record (blank_of owner) { value = v } ∷ [])
    size = length-set (slots ++ s ∷ []) at (one_more (slot_at slots at))

    here : slot_at (longer slots (array.top - 1) (record (blank_of owner) { value = v })) (array.top - 1) ≡ one_more (slot_at slots (array.top - 1))
    here = get_or-set_same (slots ++ s ∷ []) at (one_more (slot_at slots at)) no_slot (omega (arith, below, wide))

    more : length (values_of owner (longer slots (array.top - 1) (record (blank_of owner) { value = v }))) ≡ length (values_of owner slots) + 1
    more = ap length (values-longer slots owner at v below) ∙ length_push (values_of owner slots) v

pub longer_call : (arrays : List Array) (slots : List Slot) (owner : ℕ) (array : Array) (v : Value) → slice_get arrays owner ≡ Some array → AreArrays arrays slots
    → IsArray slots owner array → places_of slots array.top ≤ array.count → 0 < array.top → array.top - 1 + (slot_at slots (array.top - 1)).name.count ≡ length slots
    → AreLaid (set arrays owner (record { top = array.top; count = array.count + 1 })) (longer slots (array.top - 1) (record (blank_of owner) { value = v }))
    (set (lists_from 0 arrays slots) owner (elements_of owner slots array ++ v ∷ []))
longer_call arrays slots owner array v found are a le some ends =
    let at : ℕ = array.top - 1 in
    let s : Slot = record (blank_of owner) { value = v } in
    let below : array.top - 1 < length slots = omega (arith, some, a.there) in
    let used = all-used slots owner array a le in
    let wide : array.top - 1 < length (slots ++ record (blank_of owner) { value = v } ∷ []) = omega (arith, below, length_push slots (record (blank_of owner) { value = v })) in
    let own : (slot_at (slots ++ record (blank_of owner) { value = v } ∷ []) (array.top - 1)).link ≡ owner =
    ap (λ (x : Slot). x.link) (get_or_append_left slots (record (blank_of owner) { value = v } ∷ []) no_slot (array.top - 1) below) ∙ a.owned some in
    laid arrays slots (longer slots at s) owner array (record { top = array.top; count = array.count + 1 }) (elements_of owner slots array ++ v ∷ []) found are
    (segments-longer slots at s are.segments below (a.begun some) ends (sym (a.owned some)) refl)
    (keeps-both owner slots (slots ++ s ∷ []) (longer slots at s)
    (keeps-append owner slots (s ∷ []) (λ k lt. links-one s owner k refl lt))
    (keeps-set owner (slots ++ s ∷ []) at (one_more (slot_at slots at)) wide own (a.owned some)))
    (longer-array slots owner array v a some used)
    (ap (take (array.count + 1)) (values-longer slots owner at v below) ∙ take-push (values_of owner slots) [] v array.count used)

-- a segment more, which begins with this slot
abbrev first_of : ℕ → Value → ℕ → ℕ → ℕ → Slot
first_of owner v places n next = record { value = v; name = record { start = places; count = 1 + n }; next = next; link = owner }

abbrev begun : List Slot → ℕ → Value → ℕ → ℕ → ℕ → List Slot
begun slots owner v places n next = slots ++ first_of owner v places n next ∷ replicate n (blank_of owner)

values-begun : (slots : List Slot) (owner : ℕ) (v : Value) (places n next : ℕ)
    → values_of owner (begun slots owner v places n next) ≡ values_of owner slots ++ v ∷ values_of owner (replicate n (blank_of owner))
values-begun slots owner v places n next =
    values-append owner slots (first_of owner v places n next ∷ replicate n (blank_of owner))
    ∙ ap (λ vs. values_of owner slots ++ vs) (values-first owner (first_of owner v places n next) (replicate n (blank_of owner)) refl)

size-begun : (slots : List Slot) (owner : ℕ) (v : Value) (places n next : ℕ) → length (begun slots owner v places n next) ≡ length slots + suc n
size-begun slots owner v places n next =
    length-append slots (first_of owner v places n next ∷ replicate n (blank_of owner)) ∙ ap (λ m. length slots + suc m) (length-replicate n (blank_of owner))

begun-array : (slots : List Slot) (owner : ℕ) (array : Array) (v : Value) (places n next : ℕ) → places ≡ length (values_of owner slots) → array.count ≡ length (values_of owner slots)
    → IsArray (begun slots owner v places n next) owner (record { top = length slots + 1; count = array.count + 1 })
begun-array slots owner array v places n next all used = record {
  none = λ e. absurd (omega (arith, e));
  there = omega (arith, size-begun slots owner v places n next);
  begun = λ _. omega (arith, ap (λ (x : Slot). x.name.count) here);
  owned = λ _. ap (λ (x : Slot). x.link) here;
  ended = λ _. omega (arith, ap (λ (x : Slot). x.name.count) here, ap (λ (x : Slot). x.name.start) here, all, size);
  fits = omega (arith, used, size);
}
  where
    here : slot_at (begun slots owner v places n next) (length slots + 1 - 1) ≡ first_of owner v places n next
    here = get_or_at slots (first_of owner v places n next) (replicate n (blank_of owner)) no_slot (length slots + 1 - 1) (omega arith)

    size : length (values_of owner (begun slots owner v places n next)) ≡ length (values_of owner slots) + suc n
    size =
        ap length (values-begun slots owner v places n next)
        ∙ length-append (values_of owner slots) (v ∷ values_of owner (replicate n (blank_of owner)))
        ∙ ap (λ m. length (values_of owner slots) + suc m) (count-replicate owner n)

begins-behind : (slots : List Slot) (owner : ℕ) (array : Array) (v : Value) (places n next : ℕ) → IsArray slots owner array → places ≡ length (values_of owner slots)
    → (0 < array.top → next ≡ array.top - 1) → Begins slots (first_of owner v places n next) n
begins-behind slots owner array v places n next a all leads = record {
  count = refl;
  start = all;
  earlier = λ some. omega (arith, a.there, top some, leads (top some));
  led = λ some. omega (arith, a.begun (top some), ap (λ k. (slot_at slots k).name.count) (leads (top some)));
  same = λ some. ap (λ k. (slot_at slots k).link) (leads (top some)) ∙ a.owned (top some);
  reached = λ some. omega (arith, a.ended (top some), all, ap (λ k. (slot_at slots k).name.count) (leads (top some)), ap (λ k. (slot_at slots k).name.start) (leads (top some)));
}
  where
    top : 0 < places → 0 < array.top
    top some = top-from array.top 0 (values_of owner slots) a.none (omega (arith, some, all))

pub begin_call : (arrays : List Array) (slots : List Slot) (owner : ℕ) (array : Array) (v : Value) (places n next : ℕ) → slice_get arrays owner ≡ Some array → AreArrays arrays slots
    → IsArray slots owner array → places ≡ places_of slots array.top → places ≤ array.count → (0 < array.top → next ≡ array.top - 1)
    → AreLaid (set arrays owner (record { top = length slots + 1; count = array.count + 1 })) (begun slots owner v places n next)
    (set (lists_from 0 arrays slots) owner (elements_of owner slots array ++ v ∷ []))
begin_call arrays slots owner array v places n next found are a is le leads =
    let all : places ≡ length (values_of owner slots) = is ∙ places-are slots owner array a in
    let used = all-used slots owner array a (omega (arith, is, le)) in
    let first : Slot = first_of owner v places n next in
    laid arrays slots (begun slots owner v places n next) owner array (record { top = length slots + 1; count = array.count + 1 }) (elements_of owner slots array ++ v ∷ []) found are
    (segments-begin slots first n are.segments (begins-behind slots owner array v places n next a all leads))
    (keeps-append owner slots (first ∷ replicate n (blank_of owner)) (λ k lt. links-first first n k (omega (arith, lt, length-replicate n (blank_of owner)))))
    (begun-array slots owner array v places n next all used)
    (ap (take (array.count + 1)) (values-begun slots owner v places n next) ∙ take-push (values_of owner slots) (values_of owner (replicate n (blank_of owner))) v array.count used)
