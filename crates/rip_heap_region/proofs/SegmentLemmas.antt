-- Segments stay segments: when a slot is changed, and when slots are put behind the others.
use Rattle.std.proofs.Common.{◌≡◌, ◌≢◌, ℕ, zero, suc, ◌+◌, ◌-◌, ◌<◌, ◌≤◌, ◌⊎◌, inl, inr, List, [], ◌∷◌, ◌++◌, length, refl, sym, ap, ◌∙◌, subst, arith, set, replicate}
use Rattle.std.proofs.lemmas.Bool.{cases_eq}
use Rattle.std.proofs.lemmas.List.{append_assoc, get_or-append_right, get_or-replicate, get_or-set_other, get_or-set_same, get_or_append_left, get_or_at, get_or_push, get_or-append-add, length-append, length-replicate, length-set, length_push, replicate_more, set-append_left, take_at}
use Rattle.rip_base.specs.declared.value.Value.{Value}
use Rattle.rip_heap_region.specs.declared.pages.slot.Slot.{Slot}
use Rattle.rip_heap_region.specs.declared.pages.for_rows.Row.TheVariants.{Elements}
use Rattle.rip_heap_region.specs.Pages.{Paged, filled, no_slot, slot_at, with_row}
use Rattle.rip_heap_region.specs.Segments.{AreSegments, IsSegment, IsSeat, blank_of, end_of, longer, one_more, rank, values_of}
use Rattle.rip_heap_region.proofs.ValueLemmas.{rank-along, rank-append, rank-most, rank-set}

-- WHERE A PLACE LIES

-- the places of a segment are no more than the slots of the row
pub end-within : (slots : List Slot) (at : ℕ) → AreSegments slots → at < length slots → 0 < (slot_at slots at).name.count → end_of (slot_at slots at) ≤ length slots
end-within slots at all lt some =
    let h = all at lt some in
    omega (arith, h.within, h.ranked, rank-most (slot_at slots at).link slots at (omega (arith, lt)))

-- the segment before reaches a place that lies before this one
pub record Before (slots : List Slot) (at place : ℕ) : Type 0 where
  pub earlier : (slot_at slots at).next < at
  pub begun : 0 < (slot_at slots (slot_at slots at).next).name.count
  pub same : (slot_at slots (slot_at slots at).next).link ≡ (slot_at slots at).link
  pub reached : place < end_of (slot_at slots (slot_at slots at).next)

pub before : (slots : List Slot) (at place : ℕ) → AreSegments slots → at < length slots → 0 < (slot_at slots at).name.count → place < (slot_at slots at).name.start
    → Before slots at place
before slots at place all lt some below =
    let h = all at lt some in
    let first : 0 < (slot_at slots at).name.start = omega (arith, below) in
    record {
      earlier = h.earlier first;
      begun = h.led first;
      same = h.same first;
      reached = omega (arith, below, h.reached first);
    }

pub seat-found : (slots : List Slot) (at place : ℕ) → AreSegments slots → at < length slots → 0 < (slot_at slots at).name.count
    → (slot_at slots at).name.start ≤ place → place < end_of (slot_at slots at)
    → IsSeat slots (slot_at slots at).link place (at + (place - (slot_at slots at).name.start))
seat-found slots at place all lt some from below =
    let h = all at lt some in
    let inside : place - (slot_at slots at).name.start < (slot_at slots at).name.count = omega (arith, from, below) in
    record {
      within = omega (arith, inside, h.within);
      owned = h.owned (place - (slot_at slots at).name.start) inside;
      ranked = rank-along (slot_at slots at).link slots at (place - (slot_at slots at).name.start) (omega (arith, inside, h.within))
          (λ j lt. h.owned j (omega (arith, lt, inside)))
          ∙ ap (λ n. n + (place - (slot_at slots at).name.start)) h.ranked
          ∙ (omega (arith, from));
    }

pub seat-here : (slots : List Slot) (at place owner : ℕ) (first : Slot) → AreSegments slots → at < length slots → 0 < (slot_at slots at).name.count
    → first ≡ slot_at slots at → (slot_at slots at).link ≡ owner → first.name.start ≤ place → place < end_of (slot_at slots at)
    → IsSeat slots owner place (at + (place - first.name.start))
seat-here slots at place owner first all lt some here owned from below =
    let start : first.name.start ≡ (slot_at slots at).name.start = ap (λ (s : Slot). s.name.start) here in
    let found : IsSeat slots (slot_at slots at).link place (at + (place - (slot_at slots at).name.start)) =
    seat-found slots at place all lt some (omega (arith, from, start)) below in
    subst (λ o. IsSeat slots o place (at + (place - first.name.start))) owned
    (subst (λ n. IsSeat slots (slot_at slots at).link place (at + (place - n))) (sym start) found)

-- A SLOT CHANGED

-- what may be changed of a slot: the value, and how long a segment it begins, if the slots behind are of its owner
pub record Fits (slots : List Slot) (p : ℕ) (new : Slot) : Type 0 where
  pub there : p < length slots
  pub link : new.link ≡ (slot_at slots p).link
  pub next : new.next ≡ (slot_at slots p).next
  pub start : new.name.start ≡ (slot_at slots p).name.start
  pub more : (slot_at slots p).name.count ≤ new.name.count
  pub begins : 0 < new.name.count → 0 < (slot_at slots p).name.count
  pub within : 0 < new.name.count → p + new.name.count ≤ length slots
  pub owned : (k : ℕ) → k < new.name.count → (slot_at slots (p + k)).link ≡ (slot_at slots p).link

-- what is seen of a slot by a function, where the new one in its place shows the same
pub shows-same : {A : Type 0} (f : Slot → A) (slots : List Slot) (p : ℕ) (new : Slot) → p < length slots → f new ≡ f (slot_at slots p)
    → (q : ℕ) → f (slot_at (set slots p new) q) ≡ f (slot_at slots q)
shows-same {A} f slots p new there same q = by (cases_eq q p)
  where
    by : (q ≡ p) ⊎ (q ≢ p) → f (slot_at (set slots p new) q) ≡ f (slot_at slots q)
    by (inl e) =
        ap (λ k. f (slot_at (set slots p new) k)) e
        ∙ ap f (get_or-set_same slots p new no_slot there)
        ∙ same
        ∙ ap (λ k. f (slot_at slots k)) (sym e)
    by (inr apart) = ap f (get_or-set_other slots p q new no_slot apart)

count-more : (slots : List Slot) (p : ℕ) (new : Slot) → Fits slots p new → (q : ℕ) → (slot_at slots q).name.count ≤ (slot_at (set slots p new) q).name.count
count-more slots p new h q = by (cases_eq q p)
  where
    by : (q ≡ p) ⊎ (q ≢ p) → (slot_at slots q).name.count ≤ (slot_at (set slots p new) q).name.count
    by (inl e) =
        let old : (slot_at slots q).name.count ≡ (slot_at slots p).name.count = ap (λ k. (slot_at slots k).name.count) e in
        let now : (slot_at (set slots p new) q).name.count ≡ new.name.count =
        ap (λ k. (slot_at (set slots p new) k).name.count) e ∙ ap (λ (s : Slot). s.name.count) (get_or-set_same slots p new no_slot h.there) in
        omega (arith, old, now, h.more)
    by (inr apart) =
        let same : (slot_at (set slots p new) q).name.count ≡ (slot_at slots q).name.count = ap (λ (s : Slot). s.name.count) (get_or-set_other slots p q new no_slot apart) in
        omega (arith, same)

-- the parts of a segment that tell of the slots from its place on
record Lies (slots : List Slot) (at count : ℕ) : Type 0 where
  begun : 0 < (slot_at slots at).name.count
  within : at + count ≤ length slots
  owned : (k : ℕ) → k < count → (slot_at slots (at + k)).link ≡ (slot_at slots at).link

lies-set : (slots : List Slot) (p : ℕ) (new : Slot) → AreSegments slots → Fits slots p new
    → (at : ℕ) → at < length slots → 0 < (slot_at (set slots p new) at).name.count → Lies slots at (slot_at (set slots p new) at).name.count
lies-set slots p new all h at lt some = by (cases_eq at p)
  where
    by : (at ≡ p) ⊎ (at ≢ p) → Lies slots at (slot_at (set slots p new) at).name.count
    by (inl e) =
        let now : (slot_at (set slots p new) at).name.count ≡ new.name.count =
        ap (λ k. (slot_at (set slots p new) k).name.count) e ∙ ap (λ (s : Slot). s.name.count) (get_or-set_same slots p new no_slot h.there) in
        let given : 0 < new.name.count = omega (arith, now, some) in
        let here : Lies slots p new.name.count = record { begun = h.begins given; within = h.within given; owned = h.owned } in
        let there : Lies slots at new.name.count = subst (λ k. Lies slots k new.name.count) (sym e) here in
        subst (λ n. Lies slots at n) (sym now) there
    by (inr apart) =
        let now : (slot_at (set slots p new) at).name.count ≡ (slot_at slots at).name.count = ap (λ (s : Slot). s.name.count) (get_or-set_other slots p at new no_slot apart) in
        let begun : 0 < (slot_at slots at).name.count = omega (arith, now, some) in
        let old = all at lt begun in
        let there : Lies slots at (slot_at slots at).name.count = record { begun = begun; within = old.within; owned = old.owned } in
        subst (λ n. Lies slots at n) (sym now) there

pub segments-set : (slots : List Slot) (p : ℕ) (new : Slot) → AreSegments slots → Fits slots p new → AreSegments (set slots p new)
segments-set slots p new all h at lt some =
    let inside : at < length slots = omega (arith, lt, size) in
    let lies = lies-set slots p new all h at inside some in
    let old = all at inside lies.begun in
    let led : 0 < (slot_at now at).name.start → (slot_at now (slot_at now at).next) ≡ (slot_at now (slot_at slots at).next) = λ _. ap (slot_at now) (next at) in
    record {
      within = omega (arith, lies.within, size);
      owned = λ k below. link (at + k) ∙ lies.owned k below ∙ sym (link at);
      ranked = ap (λ o. rank o now at) (link at) ∙ rank-set (slot_at slots at).link slots p new at h.link ∙ old.ranked ∙ sym (start at);
      earlier = λ some. omega (arith, next at, old.earlier (first some));
      led = λ some. omega (arith, old.led (first some), count-more slots p new h (slot_at slots at).next, ap (λ k. (slot_at now k).name.count) (next at));
      same = λ some. ap (λ k. (slot_at now k).link) (next at) ∙ link (slot_at slots at).next ∙ old.same (first some) ∙ sym (link at);
      reached = λ some. omega (
        arith,
        old.reached (first some),
        start at,
        start (slot_at slots at).next,
        count-more slots p new h (slot_at slots at).next,
        ap (λ k. (slot_at now k).name.count) (next at),
        ap (λ k. (slot_at now k).name.start) (next at),
      );
    }
  where
    now : List Slot
    now = set slots p new

    size : length (set slots p new) ≡ length slots
    size = length-set slots p new

    link : (q : ℕ) → (slot_at (set slots p new) q).link ≡ (slot_at slots q).link
    link q = shows-same (λ (s : Slot). s.link) slots p new h.there h.link q

    next : (q : ℕ) → (slot_at (set slots p new) q).next ≡ (slot_at slots q).next
    next q = shows-same (λ (s : Slot). s.next) slots p new h.there h.next q

    start : (q : ℕ) → (slot_at (set slots p new) q).name.start ≡ (slot_at slots q).name.start
    start q = shows-same (λ (s : Slot). s.name.start) slots p new h.there h.start q

    first : 0 < (slot_at (set slots p new) at).name.start → 0 < (slot_at slots at).name.start
    first some = omega (arith, some, start at)

-- a value changed
pub fits-value : (slots : List Slot) (p : ℕ) (v : Value) → AreSegments slots → p < length slots → Fits slots p (record (slot_at slots p) { value = v })
fits-value slots p v all there = record {
  there = there;
  link = refl;
  next = refl;
  start = refl;
  more = omega arith;
  begins = λ some. some;
  within = λ some. (all p there some).within;
  owned = λ k below. (all p there (omega (arith, below))).owned k below;
}

-- one slot more of the owner's that stands behind
pub fits-more : (slots : List Slot) (p : ℕ) → AreSegments slots → p < length slots → 0 < (slot_at slots p).name.count
    → p + (slot_at slots p).name.count < length slots → (slot_at slots (p + (slot_at slots p).name.count)).link ≡ (slot_at slots p).link
    → Fits slots p (one_more (slot_at slots p))
fits-more slots p all there some behind same = record {
  there = there;
  link = refl;
  next = refl;
  start = refl;
  more = omega arith;
  begins = λ _. some;
  within = λ _. omega (arith, behind);
  owned = λ k below. by k below (cases_eq k count);
}
  where
    count : ℕ
    count = (slot_at slots p).name.count

    by : (k : ℕ) → k < (slot_at slots p).name.count + 1 → (k ≡ (slot_at slots p).name.count) ⊎ (k ≢ (slot_at slots p).name.count) → (slot_at slots (p + k)).link ≡ (slot_at slots p).link
    by k below (inl e) = ap (λ n. (slot_at slots (p + n)).link) e ∙ same
    by k below (inr apart) = (all p there some).owned k (omega (arith, below, apart))

-- SLOTS BEHIND THE OTHERS

segment-append : (slots more : List Slot) (at : ℕ) → at < length slots → 0 < (slot_at slots at).name.count → IsSegment slots at → IsSegment (slots ++ more) at
segment-append slots more at lt some h = record {
  within = omega (arith, h.within, length-append slots more, ap (λ (s : Slot). s.name.count) here);
  owned = λ k below. by k (omega (arith, below, ap (λ (s : Slot). s.name.count) here));
  ranked = ap (λ (s : Slot). rank s.link (slots ++ more) at) here
      ∙ rank-append (slot_at slots at).link slots more at (omega (arith, lt))
      ∙ h.ranked ∙ sym (ap (λ (s : Slot). s.name.start) here);
  earlier = λ some. omega (arith, h.earlier (first some), ap (λ (s : Slot). s.next) here);
  led = λ some. omega (arith, h.led (first some), ap (λ (s : Slot). s.name.count) (led some));
  same = λ some. ap (λ (s : Slot). s.link) (led some) ∙ h.same (first some) ∙ sym (ap (λ (s : Slot). s.link) here);
  reached = λ some. omega (arith, h.reached (first some), ap (λ (s : Slot). s.name.start) here, ap (λ (s : Slot). s.name.count) (led some), ap (λ (s : Slot). s.name.start) (led some));
}
  where
    here : slot_at (slots ++ more) at ≡ slot_at slots at
    here = get_or_append_left slots more no_slot at lt

    first : 0 < (slot_at (slots ++ more) at).name.start → 0 < (slot_at slots at).name.start
    first some = omega (arith, some, ap (λ (s : Slot). s.name.start) here)

    led : 0 < (slot_at (slots ++ more) at).name.start → slot_at (slots ++ more) (slot_at (slots ++ more) at).next ≡ slot_at slots (slot_at slots at).next
    led some =
        ap (λ (s : Slot). slot_at (slots ++ more) s.next) here
        ∙ get_or_append_left slots more no_slot (slot_at slots at).next (omega (arith, h.earlier (first some), lt))

    by : (k : ℕ) → k < (slot_at slots at).name.count → (slot_at (slots ++ more) (at + k)).link ≡ (slot_at (slots ++ more) at).link
    by k below =
        ap (λ (s : Slot). s.link) (get_or_append_left slots more no_slot (at + k) (omega (arith, below, h.within)))
        ∙ h.owned k below
        ∙ sym (ap (λ (s : Slot). s.link) here)

-- those that are put behind begin no other segments than these
segments-append : (slots more : List Slot) → AreSegments slots
    → ((at : ℕ) → length slots ≤ at → at < length (slots ++ more) → 0 < (slot_at (slots ++ more) at).name.count → IsSegment (slots ++ more) at)
    → AreSegments (slots ++ more)
segments-append slots more all rest at lt some = by (nat_cases at (length slots))
  where
    nat_cases : (m n : ℕ) → (m < n) ⊎ (n ≤ m)
    nat_cases m n = grind arith

    by : (at < length slots) ⊎ (length slots ≤ at) → IsSegment (slots ++ more) at
    by (inl below) =
        let begun : 0 < (slot_at slots at).name.count = omega (arith, some, ap (λ (s : Slot). s.name.count) (get_or_append_left slots more no_slot at below)) in
        segment-append slots more at below begun (all at below begun)
    by (inr behind) = rest at behind lt some

-- a slot that begins none
pub segments_push : (slots : List Slot) (s : Slot) → AreSegments slots → s.name.count ≡ 0 → AreSegments (slots ++ s ∷ [])
segments_push slots s all none = segments-append slots (s ∷ []) all
    (λ at behind lt some.
    let last : length slots ≡ at = omega (arith, behind, lt, length-append slots (s ∷ [])) in
    absurd (omega (arith, some, none, ap (λ (x : Slot). x.name.count) (get_or_push slots s no_slot at last))))

-- a slot more, which belongs to the segment that ends before it
pub segments-longer : (slots : List Slot) (at : ℕ) (s : Slot) → AreSegments slots → at < length slots → 0 < (slot_at slots at).name.count
    → at + (slot_at slots at).name.count ≡ length slots → s.link ≡ (slot_at slots at).link → s.name.count ≡ 0 → AreSegments (longer slots at s)
segments-longer slots at s all lt some ends owned none =
    subst (λ (x : Slot). AreSegments (set (slots ++ s ∷ []) at (one_more x))) here
    (segments-set (slots ++ s ∷ []) at (one_more (slot_at (slots ++ s ∷ []) at)) (segments_push slots s all none)
    (fits-more (slots ++ s ∷ []) at (segments_push slots s all none) (omega (arith, lt, size)) (omega (arith, some, count))
    (omega (arith, count, ends, size)) (ap (λ (x : Slot). x.link) last ∙ owned ∙ sym (ap (λ (x : Slot). x.link) here))))
  where
    here : slot_at (slots ++ s ∷ []) at ≡ slot_at slots at
    here = get_or_append_left slots (s ∷ []) no_slot at lt

    count : (slot_at (slots ++ s ∷ []) at).name.count ≡ (slot_at slots at).name.count
    count = ap (λ (x : Slot). x.name.count) here

    size : length (slots ++ s ∷ []) ≡ length slots + 1
    size = length_push slots s

    last : slot_at (slots ++ s ∷ []) (at + (slot_at (slots ++ s ∷ []) at).name.count) ≡ s
    last = get_or_push slots s no_slot (at + (slot_at (slots ++ s ∷ []) at).name.count) (omega (arith, count, ends))

-- a segment behind the others, and slots of its owner that it has beside its first one
pub record Begins (slots : List Slot) (s : Slot) (n : ℕ) : Type 0 where
  pub count : s.name.count ≡ 1 + n
  pub start : s.name.start ≡ length (values_of s.link slots)
  pub earlier : 0 < s.name.start → s.next < length slots
  pub led : 0 < s.name.start → 0 < (slot_at slots s.next).name.count
  pub same : 0 < s.name.start → (slot_at slots s.next).link ≡ s.link
  pub reached : 0 < s.name.start → s.name.start ≤ end_of (slot_at slots s.next)

pub links-first : (s : Slot) (n k : ℕ) → k < suc n → (slot_at (s ∷ replicate n (blank_of s.link)) k).link ≡ s.link
links-first s n zero lt = refl
links-first s n (suc k) lt = ap (λ (x : Slot). x.link) (get_or-replicate n k (blank_of s.link) no_slot (omega (arith, lt)))

counts-rest : (s : Slot) (n k : ℕ) → 0 < k → k < suc n → (slot_at (s ∷ replicate n (blank_of s.link)) k).name.count ≡ 0
counts-rest s n zero some lt = absurd (omega (arith, some))
counts-rest s n (suc k) some lt = ap (λ (x : Slot). x.name.count) (get_or-replicate n k (blank_of s.link) no_slot (omega (arith, lt)))

segment-new : (slots : List Slot) (s : Slot) (n : ℕ) → Begins slots s n → IsSegment (slots ++ s ∷ replicate n (blank_of s.link)) (length slots)
segment-new slots s n h = record {
  within = omega (arith, h.count, size, ap (λ (x : Slot). x.name.count) here);
  owned = λ k below. link k (omega (arith, below, h.count, ap (λ (x : Slot). x.name.count) here));
  ranked = ap (λ (x : Slot). rank x.link row (length slots)) here
      ∙ ap (λ xs. length (values_of s.link xs)) (take_at slots (s ∷ replicate n (blank_of s.link)) (length slots) refl)
      ∙ sym h.start ∙ sym (ap (λ (x : Slot). x.name.start) here);
  earlier = λ some. omega (arith, h.earlier (first some), ap (λ (x : Slot). x.next) here);
  led = λ some. omega (arith, h.led (first some), ap (λ (x : Slot). x.name.count) (led some));
  same = λ some. ap (λ (x : Slot). x.link) (led some) ∙ h.same (first some) ∙ sym (ap (λ (x : Slot). x.link) here);
  reached = λ some. omega (
    arith,
    h.reached (first some),
    ap (λ (x : Slot). x.name.start) here,
    ap (λ (x : Slot). x.name.count) (led some),
    ap (λ (x : Slot). x.name.start) (led some),
  );
}
  where
    row : List Slot
    row = slots ++ s ∷ replicate n (blank_of s.link)

    size : length (slots ++ s ∷ replicate n (blank_of s.link)) ≡ length slots + suc n
    size = length-append slots (s ∷ replicate n (blank_of s.link)) ∙ ap (λ m. length slots + suc m) (length-replicate n (blank_of s.link))

    here : slot_at (slots ++ s ∷ replicate n (blank_of s.link)) (length slots) ≡ s
    here = get_or_at slots s (replicate n (blank_of s.link)) no_slot (length slots) refl

    first : 0 < (slot_at (slots ++ s ∷ replicate n (blank_of s.link)) (length slots)).name.start → 0 < s.name.start
    first some = omega (arith, some, ap (λ (x : Slot). x.name.start) here)

    led : 0 < (slot_at (slots ++ s ∷ replicate n (blank_of s.link)) (length slots)).name.start
        → slot_at (slots ++ s ∷ replicate n (blank_of s.link)) (slot_at (slots ++ s ∷ replicate n (blank_of s.link)) (length slots)).next ≡ slot_at slots s.next
    led some =
        ap (λ (x : Slot). slot_at (slots ++ s ∷ replicate n (blank_of s.link)) x.next) here
        ∙ get_or_append_left slots (s ∷ replicate n (blank_of s.link)) no_slot s.next (h.earlier (first some))

    link : (k : ℕ) → k < suc n → (slot_at (slots ++ s ∷ replicate n (blank_of s.link)) (length slots + k)).link
        ≡ (slot_at (slots ++ s ∷ replicate n (blank_of s.link)) (length slots)).link
    link k below =
        ap (λ (x : Slot). x.link) (get_or-append-add slots (s ∷ replicate n (blank_of s.link)) k no_slot)
        ∙ links-first s n k below
        ∙ sym (ap (λ (x : Slot). x.link) here)

pub segments-begin : (slots : List Slot) (s : Slot) (n : ℕ) → AreSegments slots → Begins slots s n → AreSegments (slots ++ s ∷ replicate n (blank_of s.link))
segments-begin slots s n all h = segments-append slots (s ∷ replicate n (blank_of s.link)) all (λ at behind lt some. by at behind lt some (cases_eq at (length slots)))
  where
    by : (at : ℕ) → length slots ≤ at → at < length (slots ++ s ∷ replicate n (blank_of s.link)) → 0 < (slot_at (slots ++ s ∷ replicate n (blank_of s.link)) at).name.count
        → (at ≡ length slots) ⊎ (at ≢ length slots) → IsSegment (slots ++ s ∷ replicate n (blank_of s.link)) at
    by at behind lt some (inl e) = subst (λ k. IsSegment (slots ++ s ∷ replicate n (blank_of s.link)) k) (sym e) (segment-new slots s n h)
    by at behind lt some (inr apart) =
        let there : slot_at (slots ++ s ∷ replicate n (blank_of s.link)) at ≡ slot_at (s ∷ replicate n (blank_of s.link)) (at - length slots) =
        get_or-append_right slots (s ∷ replicate n (blank_of s.link)) (length slots) at no_slot refl behind in
        let size : length (slots ++ s ∷ replicate n (blank_of s.link)) ≡ length slots + suc n =
        length-append slots (s ∷ replicate n (blank_of s.link)) ∙ ap (λ m. length slots + suc m) (length-replicate n (blank_of s.link)) in
        let rest = counts-rest s n (at - length slots) (omega (arith, behind, apart)) (omega (arith, lt, size, behind)) in
        absurd (omega (arith, some, rest, ap (λ (x : Slot). x.name.count) there))

-- slots pushed one by one
pub begun-more : (old now new : Paged) (s : Slot) (n owner : ℕ) → now ≡ with_row Elements (old.elements ++ s ∷ replicate n (blank_of owner)) old
    → new ≡ with_row Elements (now.elements ++ blank_of owner ∷ []) now
    → new ≡ with_row Elements (old.elements ++ s ∷ replicate (n + 1) (blank_of owner)) old
begun-more old now new s n owner e more =
    more
    ∙ ap (λ (p : Paged). with_row Elements (p.elements ++ blank_of owner ∷ []) p) e
    ∙ ap (λ xs. with_row Elements xs old) (append_assoc old.elements (s ∷ replicate n (blank_of owner)) (blank_of owner ∷ [])
    ∙ ap (λ xs. old.elements ++ s ∷ xs) (replicate_more n (blank_of owner)))

pub begun-room : (old now : Paged) (s : Slot) (n more owner : ℕ) → now ≡ with_row Elements (old.elements ++ s ∷ replicate n (blank_of owner)) old
    → filled old + 1 + more ≤ old.room → n < more → filled now < now.room
begun-room old now s n more owner e room lt =
    let size : length (old.elements ++ s ∷ replicate n (blank_of owner)) ≡ length old.elements + suc n =
    length-append old.elements (s ∷ replicate n (blank_of owner)) ∙ ap (λ m. length old.elements + suc m) (length-replicate n (blank_of owner)) in
    let there : filled (with_row Elements (old.elements ++ s ∷ replicate n (blank_of owner)) old) < old.room = omega (arith, size, room, lt) in
    subst (λ (p : Paged). filled p < p.room) (sym e) there

-- the segment made longer first, and the slot put behind then
pub lengthened : (old now new : Paged) (at : ℕ) (first s : Slot) → at < length old.elements → first ≡ slot_at old.elements at
    → now ≡ with_row Elements (set old.elements at (one_more first)) old → new ≡ with_row Elements (now.elements ++ s ∷ []) now
    → new ≡ with_row Elements (longer old.elements at s) old
lengthened old now new at first s lt here e more =
    more
    ∙ ap (λ (p : Paged). with_row Elements (p.elements ++ s ∷ []) p) e
    ∙ ap (λ (x : Slot). with_row Elements (set old.elements at (one_more x) ++ s ∷ []) old) here
    ∙ ap (λ xs. with_row Elements xs old) (sym (set-append_left old.elements (s ∷ []) at (one_more (slot_at old.elements at)) lt))
