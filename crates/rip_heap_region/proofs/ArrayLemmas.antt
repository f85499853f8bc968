-- Arrays stay arrays: what is changed of one array leaves the others, and they have the elements that they had.
use Rattle.std.proofs.Common.{◌≡◌, ◌≢◌, ℕ, zero, suc, ◌+◌, ◌-◌, ◌<◌, ◌≤◌, ◌⊎◌, inl, inr, List, [], ◌∷◌, ◌++◌, length, Some, refl, sym, ap, ◌∙◌, subst, arith, set, take, slice_get}
use Rattle.std.proofs.lemmas.Bool.{cases_eq}
use Rattle.std.proofs.lemmas.List.{append-nil, get_or-append_right, get_or-set_other, get_or-set_same, get_or_append_left, length-append, length-set, set-get_or}
use Rattle.std.proofs.lemmas.Option.{get_or_from_slice_get, slice_get_within}
use Rattle.rip_base.specs.declared.value.Value.{Value}
use Rattle.rip_heap_region.specs.declared.pages.slot.Slot.{Slot}
use Rattle.rip_heap_region.specs.Pages.{no_slot, slot_at}
use Rattle.rip_heap_region.specs.declared.segments.array.Array.{Array}
use Rattle.rip_heap_region.specs.Segments.{AreArrays, AreLaid, AreSegments, IsArray, array_at, elements_of, end_of, lists_from, values_of}
use Rattle.rip_heap_region.proofs.ValueLemmas.{values-append, values-none, values-set_other}

-- WHAT IS OF OTHER OWNERS

below_or : (m n : ℕ) → (m < n) ⊎ (n ≤ m)
below_or m n = grind arith

-- nothing is changed but what is of this owner
pub record Keeps (owner : ℕ) (old new : List Slot) : Type 0 where
  pub size : length old ≤ length new
  pub others : (p : ℕ) → p < length old → (slot_at old p).link ≢ owner → slot_at new p ≡ slot_at old p
  pub values : (i : ℕ) → i ≢ owner → values_of i new ≡ values_of i old
  pub links : (p : ℕ) → p < length new → ((slot_at new p).link ≡ owner) ⊎ ((p < length old) × ((slot_at new p).link ≡ (slot_at old p).link))

pub keeps_same : (owner : ℕ) (slots : List Slot) → Keeps owner slots slots
keeps_same owner slots = record {
  size = omega arith;
  others = λ q inside apart. refl;
  values = λ i apart. refl;
  links = λ q inside. inr (inside, refl);
}

pub keeps-set : (owner : ℕ) (slots : List Slot) (p : ℕ) (new : Slot) → p < length slots → (slot_at slots p).link ≡ owner → new.link ≡ owner → Keeps owner slots (set slots p new)
keeps-set owner slots p new lt own same = record {
  size = omega (arith, length-set slots p new);
  others = λ q inside apart. get_or-set_other slots p q new no_slot (λ e. apart (ap (λ k. (slot_at slots k).link) e ∙ own));
  values = λ i apart. values-set_other i slots p new (λ e. apart (sym e ∙ own)) (λ e. apart (sym e ∙ same));
  links = λ q inside. by q inside (cases_eq q p);
}
  where
    by : (q : ℕ) → q < length (set slots p new) → (q ≡ p) ⊎ (q ≢ p)
        → ((slot_at (set slots p new) q).link ≡ owner) ⊎ ((q < length slots) × ((slot_at (set slots p new) q).link ≡ (slot_at slots q).link))
    by q inside (inl e) =
        inl (ap (λ k. (slot_at (set slots p new) k).link) e ∙ ap (λ (s : Slot). s.link) (get_or-set_same slots p new no_slot lt) ∙ same)
    by q inside (inr apart) =
        inr (omega (arith, inside, length-set slots p new), ap (λ (s : Slot). s.link) (get_or-set_other slots p q new no_slot apart))

pub keeps-append : (owner : ℕ) (slots more : List Slot) → ((k : ℕ) → k < length more → (slot_at more k).link ≡ owner) → Keeps owner slots (slots ++ more)
keeps-append owner slots more own = record {
  size = omega (arith, length-append slots more);
  others = λ q inside apart. get_or_append_left slots more no_slot q inside;
  values = λ i apart.
      values-append i slots more
      ∙ ap (λ vs. values_of i slots ++ vs) (values-none i more (λ k lt e. apart (sym e ∙ own k lt)))
      ∙ append-nil (values_of i slots);
  links = λ q inside. by q inside (below_or q (length slots));
}
  where
    by : (q : ℕ) → q < length (slots ++ more) → (q < length slots) ⊎ (length slots ≤ q)
        → ((slot_at (slots ++ more) q).link ≡ owner) ⊎ ((q < length slots) × ((slot_at (slots ++ more) q).link ≡ (slot_at slots q).link))
    by q inside (inl lt) = inr (lt, ap (λ (s : Slot). s.link) (get_or_append_left slots more no_slot q lt))
    by q inside (inr behind) =
        inl (ap (λ (s : Slot). s.link) (get_or-append_right slots more (length slots) q no_slot refl behind)
        ∙ own (q - length slots) (omega (arith, inside, behind, length-append slots more)))

pub keeps-both : (owner : ℕ) (a b c : List Slot) → Keeps owner a b → Keeps owner b c → Keeps owner a c
keeps-both owner a b c h i = record {
  size = omega (arith, h.size, i.size);
  others = λ q inside apart.
      let first = h.others q inside apart in
      i.others q (omega (arith, inside, h.size)) (λ e. apart (sym (ap (λ (s : Slot). s.link) first) ∙ e)) ∙ first;
  values = λ o apart. i.values o apart ∙ h.values o apart;
  links = λ q inside. by q (i.links q inside);
}
  where
    then : (q : ℕ) → (slot_at c q).link ≡ (slot_at b q).link → ((slot_at b q).link ≡ owner) ⊎ ((q < length a) × ((slot_at b q).link ≡ (slot_at a q).link))
        → ((slot_at c q).link ≡ owner) ⊎ ((q < length a) × ((slot_at c q).link ≡ (slot_at a q).link))
    then q same (inl e) = inl (same ∙ e)
    then q same (inr old) = inr (old.0, same ∙ old.1)

    by : (q : ℕ) → ((slot_at c q).link ≡ owner) ⊎ ((q < length b) × ((slot_at c q).link ≡ (slot_at b q).link))
        → ((slot_at c q).link ≡ owner) ⊎ ((q < length a) × ((slot_at c q).link ≡ (slot_at a q).link))
    by q (inl e) = inl e
    by q (inr old) = then q old.1 (h.links q old.0)

-- an array of another owner
keeps-array : (owner : ℕ) (old new : List Slot) (i : ℕ) (array : Array) → Keeps owner old new → i ≢ owner → IsArray old i array → IsArray new i array
keeps-array owner old new i array h apart a = record {
  none = λ e. h.values i apart ∙ a.none e;
  there = omega (arith, a.there, h.size);
  begun = λ some. omega (arith, a.begun some, ap (λ (s : Slot). s.name.count) (same some));
  owned = λ some. ap (λ (s : Slot). s.link) (same some) ∙ a.owned some;
  ended = λ some. ap (λ (s : Slot). end_of s) (same some) ∙ a.ended some ∙ sym (ap length (h.values i apart));
  fits = omega (arith, a.fits, ap length (h.values i apart));
}
  where
    same : 0 < array.top → slot_at new (array.top - 1) ≡ slot_at old (array.top - 1)
    same some = h.others (array.top - 1) (omega (arith, some, a.there)) (λ e. apart (sym (a.owned some) ∙ e))

-- THE LISTS

lists-same : (from : ℕ) (arrays : List Array) (old new : List Slot) → ((i : ℕ) → from ≤ i → values_of i new ≡ values_of i old)
    → lists_from from arrays new ≡ lists_from from arrays old
lists-same from [] old new h = refl
lists-same from (array ∷ arrays) old new h =
    let first : elements_of from new array ≡ elements_of from old array = ap (take array.count) (h from (omega arith)) in
    let rest = lists-same (from + 1) arrays old new (λ i le. h i (omega (arith, le))) in
    λ t. first t ∷ rest t

lists-set : (from n : ℕ) (arrays : List Array) (array : Array) (old new : List Slot) (list : List Value)
    → ((i : ℕ) → i ≢ from + n → values_of i new ≡ values_of i old) → elements_of (from + n) new array ≡ list
    → lists_from from (set arrays n array) new ≡ set (lists_from from arrays old) n list
lists-set from n [] array old new list h e = refl
lists-set from zero (first ∷ arrays) array old new list h e =
    let here : from + zero ≡ from = omega arith in
    let one : elements_of from new array ≡ list = ap (λ k. elements_of k new array) (sym here) ∙ e in
    let rest = lists-same (from + 1) arrays old new (λ i le. h i (omega (arith, le))) in
    λ t. one t ∷ rest t
lists-set from (suc n) (first ∷ arrays) array old new list h e =
    let there : from + 1 + n ≡ from + suc n = omega arith in
    let one : elements_of from new first ≡ elements_of from old first = ap (take first.count) (h from (omega arith)) in
    let rest = lists-set (from + 1) n arrays array old new list (λ i apart. h i (omega (arith, apart))) (ap (λ k. elements_of k new array) there ∙ e) in
    λ t. one t ∷ rest t

-- ONE ARRAY CHANGED

pub laid : (arrays : List Array) (old new : List Slot) (owner : ℕ) (array result : Array) (list : List Value) → slice_get arrays owner ≡ Some array
    → AreArrays arrays old → AreSegments new → Keeps owner old new → IsArray new owner result → elements_of owner new result ≡ list
    → AreLaid (set arrays owner result) new (set (lists_from 0 arrays old) owner list)
laid arrays old new owner array result list found are all keeps is e = record {
  laid = record {
    segments = all;
    each = λ i lt. by i (omega (arith, lt, size)) (cases_eq i owner);
    known = λ p lt. known p (keeps.links p lt);
  };
  same = lists-set 0 owner arrays result old new list (λ i apart. keeps.values i (omega (arith, apart))) (ap (λ k. elements_of k new result) here ∙ e);
}
  where
    here : 0 + owner ≡ owner
    here = omega arith

    size : length (set arrays owner result) ≡ length arrays
    size = length-set arrays owner result

    within : owner < length arrays
    within = slice_get_within arrays owner array found

    none : Array
    none = record { top = 0; count = 0 }

    by : (i : ℕ) → i < length arrays → (i ≡ owner) ⊎ (i ≢ owner) → IsArray new i (array_at (set arrays owner result) i)
    by i lt (inl same) =
        subst (λ k. IsArray new k (array_at (set arrays owner result) k)) (sym same)
        (subst (IsArray new owner) (sym (get_or-set_same arrays owner result none within)) is)
    by i lt (inr apart) =
        subst (IsArray new i) (sym (get_or-set_other arrays owner i result none apart))
        (keeps-array owner old new i (array_at arrays i) keeps apart (are.each i lt))

    known : (p : ℕ) → ((slot_at new p).link ≡ owner) ⊎ ((p < length old) × ((slot_at new p).link ≡ (slot_at old p).link)) → (slot_at new p).link < length (set arrays owner result)
    known p (inl same) = omega (arith, same, within, size)
    known p (inr same) = omega (arith, same.1, are.known p same.0, size)

-- the array in its own place
pub laid_same : (arrays : List Array) (old new : List Slot) (owner : ℕ) (array : Array) (list : List Value) → slice_get arrays owner ≡ Some array
    → AreArrays arrays old → AreSegments new → Keeps owner old new → IsArray new owner array → elements_of owner new array ≡ list
    → AreLaid arrays new (set (lists_from 0 arrays old) owner list)
laid_same arrays old new owner array list found are all keeps is e =
    let none : Array = record { top = 0; count = 0 } in
    let own : set arrays owner array ≡ arrays = ap (set arrays owner) (sym (get_or_from_slice_get arrays owner array none found)) ∙ set-get_or arrays owner none in
    subst (λ xs. AreLaid xs new (set (lists_from 0 arrays old) owner list)) own (laid arrays old new owner array array list found are all keeps is e)
