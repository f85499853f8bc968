-- What a layer above rests on: the lists by their arrays, an array more, and fewer elements of one.
use Rattle.std.proofs.Common.{◌≡◌, ◌≢◌, ℕ, zero, suc, ◌+◌, ◌<◌, ◌≤◌, ◌⊎◌, inl, inr, List, [], ◌∷◌, ◌++◌, length, Some, refl, sym, ap, ◌∙◌, subst, arith, option_map, set, slice_get, take}
use Rattle.std.proofs.lemmas.Bool.{cases_eq}
use Rattle.std.proofs.lemmas.List.{get_or_append_left, get_or_push, length-take-le, length_push, take-take}
use Rattle.std.proofs.lemmas.Option.{get_or_from_slice_get, slice_get_within}
use Rattle.rip_heap_region.specs.declared.pages.slot.Slot.{Slot}
use Rattle.rip_heap_region.specs.declared.segments.array.Array.{Array}
use Rattle.rip_heap_region.specs.Segments.{AreArrays, AreLaid, IsArray, array_at, elements_of, lists_from, values_of}
use Rattle.rip_heap_region.proofs.ValueLemmas.{values-none}
use Rattle.rip_heap_region.proofs.ArrayLemmas.{keeps_same, laid}

-- ONE OF THE ARRAYS

pub array_of : (arrays : List Array) (slots : List Slot) (at : ℕ) (array : Array) → AreArrays arrays slots → slice_get arrays at ≡ Some array → IsArray slots at array
array_of arrays slots at array are found =
    subst (IsArray slots at) (get_or_from_slice_get arrays at array (record { top = 0; count = 0 }) found) (are.each at (slice_get_within arrays at array found))

pub elements_count : (slots : List Slot) (owner : ℕ) (array : Array) → IsArray slots owner array → length (elements_of owner slots array) ≡ array.count
elements_count slots owner array a = length-take-le array.count (values_of owner slots) a.fits

lists-at : (from n : ℕ) (arrays : List Array) (slots : List Slot)
    → slice_get (lists_from from arrays slots) n ≡ option_map (elements_of (from + n) slots) (slice_get arrays n)
lists-at from n [] slots = refl
lists-at from zero (array ∷ arrays) slots =
    let here : from + zero ≡ from = omega arith in
    ap (λ k. Some (elements_of k slots array)) (sym here)
lists-at from (suc n) (array ∷ arrays) slots =
    let there : from + 1 + n ≡ from + suc n = omega arith in
    lists-at (from + 1) n arrays slots ∙ ap (λ k. option_map (elements_of k slots) (slice_get arrays n)) there

pub lists_get : (arrays : List Array) (slots : List Slot) (at : ℕ)
    → slice_get (lists_from 0 arrays slots) at ≡ option_map (elements_of at slots) (slice_get arrays at)
lists_get arrays slots at =
    let here : 0 + at ≡ at = omega arith in
    lists-at 0 at arrays slots ∙ ap (λ k. option_map (elements_of k slots) (slice_get arrays at)) here

-- AN ARRAY MORE

abbrev none : Array
none = record { top = 0; count = 0 }

pub arrays_more : (arrays : List Array) (slots : List Slot) → AreArrays arrays slots → AreArrays (arrays ++ record { top = 0; count = 0 } ∷ []) slots
arrays_more arrays slots are = record {
  segments = are.segments;
  each = λ i lt. by i (omega (arith, lt, size)) (cases_eq i (length arrays));
  known = λ p lt. omega (arith, are.known p lt, size);
}
  where
    size : length (arrays ++ none ∷ []) ≡ length arrays + 1
    size = length_push arrays none

    new : IsArray slots (length arrays) none
    new = record {
      none = λ _. values-none (length arrays) slots (λ k lt e. absurd (omega (arith, are.known k lt, e)));
      there = omega arith;
      begun = λ some. absurd (omega (arith, some));
      owned = λ some. absurd (omega (arith, some));
      ended = λ some. absurd (omega (arith, some));
      fits = omega arith;
    }

    by : (i : ℕ) → i < length arrays + 1 → (i ≡ length arrays) ⊎ (i ≢ length arrays) → IsArray slots i (array_at (arrays ++ none ∷ []) i)
    by i lt (inl e) =
        let here : array_at (arrays ++ none ∷ []) i ≡ none = get_or_push arrays none none i (sym e) in
        subst (IsArray slots i) (sym here) (subst (λ k. IsArray slots k none) (sym e) new)
    by i lt (inr apart) =
        let below : i < length arrays = omega (arith, lt, apart) in
        subst (IsArray slots i) (sym (get_or_append_left arrays (none ∷ []) none i below)) (are.each i below)

lists-more : (from : ℕ) (arrays : List Array) (slots : List Slot)
    → lists_from from (arrays ++ record { top = 0; count = 0 } ∷ []) slots ≡ lists_from from arrays slots ++ [] ∷ []
lists-more from [] slots = refl
lists-more from (array ∷ arrays) slots = ap (λ xs. elements_of from slots array ∷ xs) (lists-more (from + 1) arrays slots)

pub lists_more : (arrays : List Array) (slots : List Slot) → lists_from 0 (arrays ++ record { top = 0; count = 0 } ∷ []) slots ≡ lists_from 0 arrays slots ++ [] ∷ []
lists_more arrays slots = lists-more 0 arrays slots

-- FEWER ELEMENTS OF ONE

pub arrays_fewer : (arrays : List Array) (slots : List Slot) (at : ℕ) (array : Array) (n : ℕ) → AreArrays arrays slots → slice_get arrays at ≡ Some array → n ≤ array.count
    → AreLaid (set arrays at (record array { count = n })) slots (set (lists_from 0 arrays slots) at (take n (elements_of at slots array)))
arrays_fewer arrays slots at array n are found fewer =
    let a = array_of arrays slots at array are found in
    laid arrays slots slots at array (record array { count = n }) (take n (elements_of at slots array)) found are are.segments (keeps_same at slots)
    (record { none = a.none; there = a.there; begun = a.begun; owned = a.owned; ended = a.ended; fits = omega (arith, fewer, a.fits) })
    (sym (take-take n array.count (values_of at slots) fewer))
