-- Parts of a list, from one place up to another.
use Rattle.std.proofs.Common.{◌≡◌, ℕ, ◌+◌, ◌-◌, ◌<◌, ◌≤◌, ◌⊎◌, inl, inr, List, [], ◌∷◌, ◌++◌, Some, length, sym, ap, ◌∙◌, arith, drop, get_or, min, slice_get, take}
use Rattle.std.specs.Prelude.{slice_range}
use Rattle.std.proofs.lemmas.Bool.{cases_lt}
use Rattle.std.proofs.lemmas.List.{drop_all, get_or-drop, length-drop, length-take-le, take_all, take_more}
use Rattle.std.proofs.lemmas.Option.{get_or_from_slice_get}

pub piece_count : {A : Type 0} (xs : List A) (first end : ℕ) → first ≤ end → end ≤ length xs → length (slice_range xs first end) ≡ end - first
piece_count xs first end range within = length-take-le (end - first) (drop first xs) (omega (arith, range, within, length-drop first xs))

pub piece_none : {A : Type 0} (xs : List A) (first : ℕ) → slice_range xs first first ≡ []
piece_none xs first = let none : first - first ≡ 0 = omega arith in ap (λ n. take n (drop first xs)) none

-- an element behind the first of a part
pub piece_more : {A : Type 0} (xs : List A) (first place : ℕ) (item : A) → first ≤ place → place < length xs → slice_get xs place ≡ Some item
    → slice_range xs first place ++ item ∷ [] ≡ slice_range xs first (place + 1)
piece_more xs first place item from below found =
    let next : place + 1 - first ≡ place - first + 1 = omega (arith, from) in
    let at : first + (place - first) ≡ place = omega (arith, from) in
    let within : place - first < length (drop first xs) = omega (arith, from, below, length-drop first xs) in
    let read : item ≡ get_or (drop first xs) (place - first) item =
    sym (get_or_from_slice_get xs place item item found) ∙ sym (get_or-drop first xs (place - first) item ∙ ap (λ i. get_or xs i item) at) in
    ap (λ x. take (place - first) (drop first xs) ++ x ∷ []) read
    ∙ sym (take_more (drop first xs) (place - first) item within)
    ∙ sym (ap (λ n. take n (drop first xs)) next)

-- the part that lies within the list
pub piece_within : {A : Type 0} (xs : List A) (from to first end : ℕ) → end ≡ min to (length xs) → first ≡ min from end → slice_range xs first end ≡ slice_range xs from to
piece_within xs from to first end ends begins = by (cases_lt end from) (cases_lt (length xs) to)
  where
    by : (end < from) ⊎ (from ≤ end) → (length xs < to) ⊎ (to ≤ length xs) → slice_range xs first end ≡ slice_range xs from to
    by (inl behind) (inl longer) =
        let none : end - first ≡ 0 = omega (arith, ends, begins, behind) in
        let past : length xs ≤ from = omega (arith, ends, behind, longer) in
        ap (λ n. take n (drop first xs)) none ∙ sym (ap (take (to - from)) (drop_all from xs past) ∙ take_all (to - from) [] (omega arith))
    by (inl behind) (inr shorter) =
        let none : end - first ≡ 0 = omega (arith, ends, begins, behind) in
        let also : to - from ≡ 0 = omega (arith, ends, behind, shorter) in
        ap (λ n. take n (drop first xs)) none ∙ sym (ap (λ n. take n (drop from xs)) also)
    by (inr before) (inl longer) =
        let same : first ≡ from = omega (arith, begins, before) in
        let all : end ≡ length xs = omega (arith, ends, longer) in
        ap (λ k. take (end - k) (drop k xs)) same
        ∙ take_all (end - from) (drop from xs) (omega (arith, all, length-drop from xs))
        ∙ sym (take_all (to - from) (drop from xs) (omega (arith, longer, length-drop from xs)))
    by (inr before) (inr shorter) =
        let same : first ≡ from = omega (arith, begins, before) in
        let all : end ≡ to = omega (arith, ends, shorter) in
        λ t. slice_range xs (same t) (all t)
