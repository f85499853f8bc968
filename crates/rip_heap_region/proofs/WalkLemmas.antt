-- What a walk along a row of slots is read from, and places that rise.
use Rattle.std.proofs.Common.{◌≡◌, ◌≢◌, ℕ, zero, suc, ◌+◌, ◌<◌, ◌≤◌, List, [], ◌∷◌, ◌++◌, length, Some, refl, sym, ap, ◌∙◌, arith, slice_get}
use Rattle.std.specs.Prelude.{map, remove, slice_index_or, slice_set}
use Rattle.std.proofs.lemmas.Option.{none-some, same_Some}
use Rattle.rip_heap_region.specs.declared.pages.slot.Slot.{Slot}
use Rattle.rip_heap_region.specs.Pages.{slot_at}
use Rattle.rip_heap_region.specs.Chains.{IfOneOf, Rising, properties_at, property_in, walk}

-- A WALK

pub walk_count : (slots : List Slot) (at n : ℕ) → length (walk slots at n) ≡ n
walk_count slots at zero = refl
walk_count slots at (suc n) = ap (λ k. suc k) (walk_count slots (slot_at slots at).next n)

pub walk_first : (slots : List Slot) (at n : ℕ) → 0 < n → slice_get (walk slots at n) 0 ≡ Some at
walk_first slots at zero some = absurd (omega (arith, some))
walk_first slots at (suc n) some = refl

pub walk_next : (slots : List Slot) (at n i p : ℕ) → slice_get (walk slots at n) i ≡ Some p → suc i < n → slice_get (walk slots at n) (suc i) ≡ Some (slot_at slots p).next
walk_next slots at zero i p here lt = absurd (omega (arith, lt))
walk_next slots at (suc n) zero p here lt = walk_first slots (slot_at slots at).next n (omega (arith, lt)) ∙ ap (λ q. Some (slot_at slots q).next) (same_Some at p here)
walk_next slots at (suc n) (suc i) p here lt = walk_next slots (slot_at slots at).next n i p here (omega (arith, lt))

-- a walk is the same where the slots before its last one lead on as before
pub walk_frame : (old new : List Slot) (at n : ℕ) → ((i p : ℕ) → suc i < n → slice_get (walk old at n) i ≡ Some p → (slot_at new p).next ≡ (slot_at old p).next) → walk new at n ≡ walk old at n
walk_frame old new at zero same = refl
walk_frame old new at (suc zero) same = refl
walk_frame old new at (suc (suc n)) same =
    let here : (slot_at new at).next ≡ (slot_at old at).next = same zero at (omega arith) refl in
    ap (λ q. at ∷ walk new q (suc n)) here ∙ ap (λ ps. at ∷ ps) (walk_frame old new (slot_at old at).next (suc n) (λ i p lt is. same (suc i) p (omega (arith, lt)) is))

-- a walk of one place more
pub walk_longer : (slots : List Slot) (at n p : ℕ) → slice_get (walk slots at (suc n)) n ≡ Some p → walk slots at (suc (suc n)) ≡ walk slots at (suc n) ++ (slot_at slots p).next ∷ []
walk_longer slots at zero p here = ap (λ q. at ∷ (slot_at slots q).next ∷ []) (same_Some at p here)
walk_longer slots at (suc n) p here = ap (λ ps. at ∷ ps) (walk_longer slots (slot_at slots at).next n p here)

-- where a slot leads past the one behind it, that one is left out
pub walk_without : (old new : List Slot) (at n j before place : ℕ) → slice_get (walk old at (suc n)) j ≡ Some before → slice_get (walk old at (suc n)) (suc j) ≡ Some place
    → (slot_at new before).next ≡ (slot_at old place).next
    → ((i p : ℕ) → i ≢ j → slice_get (walk old at (suc n)) i ≡ Some p → (slot_at new p).next ≡ (slot_at old p).next)
    → walk new at n ≡ remove (walk old at (suc n)) (suc j)
walk_without old new at zero j before place one two past same = absurd (none-some place two)
walk_without old new at (suc n) zero before place one two past same =
    let here : at ≡ before = same_Some at before one in
    let there : (slot_at old at).next ≡ place = same_Some (slot_at old at).next place two in
    let on : (slot_at new at).next ≡ (slot_at old (slot_at old at).next).next = ap (λ q. (slot_at new q).next) here ∙ past ∙ ap (λ q. (slot_at old q).next) (sym there) in
    ap (λ q. at ∷ walk new q n) on
    ∙ ap (λ ps. at ∷ ps) (walk_frame old new (slot_at old (slot_at old at).next).next n (λ i p lt is. same (suc (suc i)) p (λ e. absurd (omega (arith, e))) is))
walk_without old new at (suc n) (suc j) before place one two past same =
    let here : (slot_at new at).next ≡ (slot_at old at).next = same zero at (λ e. absurd (omega (arith, e))) refl in
    ap (λ q. at ∷ walk new q n) here
    ∙ ap (λ ps. at ∷ ps) (walk_without old new (slot_at old at).next n j before place one two past (λ i p ne is. same (suc i) p (λ e. ne (omega (arith, e))) is))

-- WHAT STANDS AT PLACES

pub properties_frame : (old new : List Slot) (places : List ℕ) → ((i p : ℕ) → slice_get places i ≡ Some p → property_in (slot_at new p) ≡ property_in (slot_at old p)) → properties_at new places ≡ properties_at old places
properties_frame old new [] same = refl
properties_frame old new (p ∷ places) same = λ t. same zero p refl t ∷ properties_frame old new places (λ i q is. same (suc i) q is) t

-- PLACES THAT RISE

pub rising_within : (from to : ℕ) (places : List ℕ) (i p : ℕ) → Rising from to places → slice_get places i ≡ Some p → (from ≤ p) × (p < to)
rising_within from to [] i p rise is = absurd (none-some p is)
rising_within from to (q ∷ places) zero p rise is = let e : q ≡ p = same_Some q p is in (omega (arith, rise.0, e), omega (arith, rise.1, e))
rising_within from to (q ∷ places) (suc i) p rise is = let rest = rising_within (q + 1) to places i p rise.2 is in (omega (arith, rest.0, rise.0), rest.1)

pub rising_below : (from to : ℕ) (places : List ℕ) (i j p q : ℕ) → Rising from to places → i < j → slice_get places i ≡ Some p → slice_get places j ≡ Some q → p < q
rising_below from to [] i j p q rise lt one other = absurd (none-some p one)
rising_below from to (x ∷ places) i zero p q rise lt one other = absurd (omega (arith, lt))
rising_below from to (x ∷ places) zero (suc j) p q rise lt one other =
    let e : x ≡ p = same_Some x p one in
    let rest = rising_within (x + 1) to places j q rise.2 other in
    omega (arith, rest.0, e)
rising_below from to (x ∷ places) (suc i) (suc j) p q rise lt one other = rising_below (x + 1) to places i j p q rise.2 (omega (arith, lt)) one other

-- the place of a number is at least so far on
pub rising_far : (from to : ℕ) (places : List ℕ) (k p : ℕ) → Rising from to places → slice_get places k ≡ Some p → from + k ≤ p
rising_far from to [] k p rise is = absurd (none-some p is)
rising_far from to (q ∷ places) zero p rise is = let e : q ≡ p = same_Some q p is in omega (arith, rise.0, e)
rising_far from to (q ∷ places) (suc k) p rise is = omega (arith, rise.0, rising_far (q + 1) to places k p rise.2 is)

-- two places are at least so far apart as their numbers
pub rising_apart : (from to : ℕ) (places : List ℕ) (i j p q : ℕ) → Rising from to places → i ≤ j → slice_get places i ≡ Some p → slice_get places j ≡ Some q → p + j ≤ q + i
rising_apart from to [] i j p q rise le one other = absurd (none-some p one)
rising_apart from to (x ∷ places) zero j p q rise le one other =
    let e : x ≡ p = same_Some x p one in
    let far = rising_far x to (x ∷ places) j q (omega arith, rise.1, rise.2) other in
    omega (arith, far, e)
rising_apart from to (x ∷ places) (suc i) zero p q rise le one other = absurd (omega (arith, le))
rising_apart from to (x ∷ places) (suc i) (suc j) p q rise le one other = omega (arith, rising_apart (x + 1) to places i j p q rise.2 (omega (arith, le)) one other)

pub rising_long : (from to : ℕ) (places : List ℕ) → from ≤ to → Rising from to places → from + length places ≤ to
rising_long from to [] le rise = omega (arith, le)
rising_long from to (p ∷ places) le rise = omega (arith, rise.0, rising_long (p + 1) to places (omega (arith, rise.1)) rise.2)

pub rising_weaker : (from least to most : ℕ) (places : List ℕ) → least ≤ from → to ≤ most → Rising from to places → Rising least most places
rising_weaker from least to most [] low high rise = tt
rising_weaker from least to most (p ∷ places) low high rise = (omega (arith, low, rise.0), omega (arith, high, rise.1), rising_weaker (p + 1) (p + 1) to most places (omega arith) high rise.2)

pub rising_remove : (from to : ℕ) (places : List ℕ) (k : ℕ) → Rising from to places → Rising from to (remove places k)
rising_remove from to [] zero rise = tt
rising_remove from to [] (suc k) rise = tt
rising_remove from to (p ∷ places) zero rise = rising_weaker (p + 1) from to to places (omega (arith, rise.0)) (omega arith) rise.2
rising_remove from to (p ∷ places) (suc k) rise = (rise.0, rise.1, rising_remove (p + 1) to places k rise.2)

pub rising_more : (from to : ℕ) (places : List ℕ) → from ≤ to → Rising from to places → Rising from (to + 1) (places ++ to ∷ [])
rising_more from to [] le rise = (le, omega arith, tt)
rising_more from to (p ∷ places) le rise = (rise.0, omega (arith, rise.1), rising_more (p + 1) to places (omega (arith, rise.1)) rise.2)

-- LISTS

pub get_end : {X : Type 0} (xs : List X) (x : X) (k : ℕ) → k ≡ length xs → slice_get (xs ++ x ∷ []) k ≡ Some x
get_end [] x zero e = refl
get_end [] x (suc k) e = absurd (omega (arith, e))
get_end (y ∷ xs) x zero e = absurd (omega (arith, e))
get_end (y ∷ xs) x (suc k) e = get_end xs x k (omega (arith, e))

pub get_front : (xs : List ℕ) (x i p : ℕ) → slice_get (xs ++ x ∷ []) i ≡ Some p → p < x → slice_get xs i ≡ Some p
get_front [] x zero p is lt = let e : x ≡ p = same_Some x p is in absurd (omega (arith, lt, e))
get_front [] x (suc i) p is lt = absurd (none-some p is)
get_front (y ∷ xs) x zero p is lt = is
get_front (y ∷ xs) x (suc i) p is lt = get_front xs x i p is lt

pub remove_among : (places : List ℕ) (k i p : ℕ) → slice_get (remove places k) i ≡ Some p → IfOneOf p places
remove_among [] zero i p is = absurd (none-some p is)
remove_among [] (suc k) i p is = absurd (none-some p is)
remove_among (x ∷ places) zero i p is = record { number = suc i; is = is }
remove_among (x ∷ places) (suc k) zero p is = record { number = zero; is = is }
remove_among (x ∷ places) (suc k) (suc i) p is = let rest = remove_among places k i p is in record { number = suc rest.number; is = rest.is }

pub remove_below : (places : List ℕ) (k i : ℕ) → i < k → slice_get (remove places k) i ≡ slice_get places i
remove_below [] zero i lt = absurd (omega (arith, lt))
remove_below [] (suc k) i lt = refl
remove_below (x ∷ places) zero i lt = absurd (omega (arith, lt))
remove_below (x ∷ places) (suc k) zero lt = refl
remove_below (x ∷ places) (suc k) (suc i) lt = remove_below places k i (omega (arith, lt))

pub remove_above : (places : List ℕ) (k i : ℕ) → k ≤ i → slice_get (remove places k) i ≡ slice_get places (suc i)
remove_above [] zero i le = refl
remove_above [] (suc k) i le = refl
remove_above (x ∷ places) zero i le = refl
remove_above (x ∷ places) (suc k) zero le = absurd (omega (arith, le))
remove_above (x ∷ places) (suc k) (suc i) le = remove_above places k i (omega (arith, le))

pub map_remove : {X Y : Type 0} (f : X → Y) (xs : List X) (k : ℕ) → map f (remove xs k) ≡ remove (map f xs) k
map_remove f [] zero = refl
map_remove f [] (suc k) = refl
map_remove f (x ∷ xs) zero = refl
map_remove f (x ∷ xs) (suc k) = ap (λ ys. f x ∷ ys) (map_remove f xs k)

pub map_like : {X Y : Type 0} (f g : X → Y) (xs : List X) (d : X) → ((i : ℕ) → i < length xs → f (slice_index_or xs i d) ≡ g (slice_index_or xs i d)) → map f xs ≡ map g xs
map_like f g [] d same = refl
map_like f g (x ∷ xs) d same = λ t. same zero (omega arith) t ∷ map_like f g xs d (λ i lt. same (suc i) (omega (arith, lt))) t

-- two functions that differ at one place of a list alone
pub map_replaced : {X Y : Type 0} (f g : X → Y) (xs : List X) (d : X) (at : ℕ) (y : Y) → ((i : ℕ) → i < length xs → i ≢ at → f (slice_index_or xs i d) ≡ g (slice_index_or xs i d))
    → slice_set (map f xs) at y ≡ slice_set (map g xs) at y
map_replaced f g [] d at y same = refl
map_replaced f g (x ∷ xs) d zero y same = ap (λ ys. y ∷ ys) (map_like f g xs d (λ i lt. same (suc i) (omega (arith, lt)) (λ e. absurd (omega (arith, e)))))
map_replaced f g (x ∷ xs) d (suc at) y same =
    λ t. same zero (omega arith) (λ e. absurd (omega (arith, e))) t ∷ map_replaced f g xs d at y (λ i lt ne. same (suc i) (omega (arith, lt)) (λ e. ne (omega (arith, e)))) t

pub map_set_one : {X Y : Type 0} (f g : X → Y) (xs : List X) (d : X) (at : ℕ) (y : Y) → at < length xs → g (slice_index_or xs at d) ≡ y
    → ((i : ℕ) → i < length xs → i ≢ at → g (slice_index_or xs i d) ≡ f (slice_index_or xs i d)) → map g xs ≡ slice_set (map f xs) at y
map_set_one f g [] d at y lt here same = absurd (omega (arith, lt))
map_set_one f g (x ∷ xs) d zero y lt here same = λ t. here t ∷ map_like g f xs d (λ i less. same (suc i) (omega (arith, less)) (λ e. absurd (omega (arith, e)))) t
map_set_one f g (x ∷ xs) d (suc at) y lt here same =
    λ t. same zero (omega arith) (λ e. absurd (omega (arith, e))) t ∷ map_set_one f g xs d at y (omega (arith, lt)) here (λ i less ne. same (suc i) (omega (arith, less)) (λ e. ne (omega (arith, e)))) t
