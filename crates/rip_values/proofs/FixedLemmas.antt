-- Each fixed text is found by its spelling, and stands at its place.
use Rattle.std.proofs.Common.{◌≡◌, ℕ, zero, suc, ◌+◌, ◌<◌, ◌≤◌, Bool, true, false, cond, ◌==◌, ◌&&◌, ◌⊎◌, inl, inr, Option, None, Some, List, [], ◌∷◌, length, refl, sym, ap, ◌∙◌, subst, filter, nat_le, arith}
use Rattle.std.specs.Prelude.{IfSome, get_or, find, nat_eq, slice_range, take, drop, ◌-◌}
use borrow.Author.Tests.{leb-true}
use Rattle.std.proofs.lemmas.List.{drop-take, take-take, get_or_past}
use Rattle.std.specs.List.{list_all, zip}
use Rattle.std.specs.Cmp.Lexicographic.{pointwise, same_text}
use Rattle.std.proofs.str.Laws.{both}
use Rattle.std.proofs.lemmas.Bool.Decides.{nat_tests}
use Rattle.rip_values.specs.declared.fixed.FixedText.{FixedText}
use Rattle.rip_values.specs.FixedTable.{text_of, fixed_texts, fixed_size, longest_fixed, start_of}
use Rattle.rip_values.specs.FixedTexts.{fixed_units, span_among, fixed_span}
use Rattle.rip_values.specs.FixedSearch.{texts_of_length, fixed_text}
use Rattle.rip_values.proofs.FixedTableLemmas.{stands_at, lies_within, short_all, by_length, IsByLength, by_length_is}

none_longer : (n : ℕ) (fs : List FixedText) → longest_fixed < n → list_all (λ fixed. nat_le (length (text_of fixed)) longest_fixed) fs ≡ true → filter (λ fixed. length (text_of fixed) == n) fs ≡ []
none_longer n [] h e = refl
none_longer n (f ∷ fs) h e =
    let parts = both _ _ e in
    let other : (length (text_of f) == n) ≡ false = differs (length (text_of f)) n parts.0 h in
    ap (λ b. cond b (f ∷ filter (λ fixed. length (text_of fixed) == n) fs) (filter (λ fixed. length (text_of fixed) == n) fs)) other ∙ none_longer n fs h parts.1
  where
    differs : (a b : ℕ) → nat_le a longest_fixed ≡ true → longest_fixed < b → (a == b) ≡ false
    differs a b le lt = grind (arith, nat_tests)

-- no fixed text is longer
pub texts_of_length-long : (n : ℕ) → longest_fixed < n → texts_of_length n ≡ []
unfolding texts_of_length
texts_of_length-long n h = none_longer n fixed_texts h short_all

-- in the table each place holds the texts of that length
at_place : (start : ℕ) (table : List (List FixedText)) (place : ℕ) → IsByLength start table → place < length table → get_or table place [] ≡ texts_of_length (start + place)
at_place start [] place is within = absurd (omega arith)
at_place start (texts ∷ longer) zero is within = is.0 ∙ ap texts_of_length (omega arith)
at_place start (texts ∷ longer) (suc place) is within = at_place (suc start) longer place is.1 (omega arith) ∙ ap texts_of_length (omega arith)

-- the table gives the texts of each length
pub texts_by_length : (n : ℕ) → get_or by_length n [] ≡ texts_of_length n
texts_by_length n = by (search arith)
  where
    by : (n < length by_length) ⊎ (longest_fixed < n) → get_or by_length n [] ≡ texts_of_length n
    by (inl within) = at_place 0 by_length n by_length_is within ∙ ap texts_of_length (omega arith)
    by (inr past) = get_or_past by_length n [] (omega arith) ∙ sym (texts_of_length-long n past)

find_passes : (p : FixedText → Bool) (fs : List FixedText) → IfSome (find p fs) (λ f. p f ≡ true)
find_passes p [] = tt
find_passes p (f ∷ fs) = by (p f) refl (find_passes p fs)
  where
    by : (b : Bool) → p f ≡ b → IfSome (find p fs) (λ g. p g ≡ true) → IfSome (cond b (Some f) (find p fs)) (λ g. p g ≡ true)
    by true e more = e
    by false e more = more

spelled : (text : List ℕ) (o : Option FixedText) → IfSome o (λ f. pointwise nat_eq (text_of f) text ≡ true) → IfSome o (λ f. text_of f ≡ text)
spelled text None h = tt
spelled text (Some f) h = same_text (text_of f) text (sym h)

-- what the search finds is spelled so
pub IfSome-fixed_text : (text : List ℕ) (o : Option FixedText) → o ≡ fixed_text text → IfSome o (λ f. text_of f ≡ text)
unfolding fixed_text
IfSome-fixed_text text o e =
    spelled text o (subst (λ r. IfSome r (λ f. pointwise nat_eq (text_of f) text ≡ true)) (sym e) (find_passes (λ f. pointwise nat_eq (text_of f) text) (texts_of_length (length text))))

-- two lists as long are alike where their pairs are
pub pointwise-zip : (xs ys : List ℕ) → length xs ≡ length ys → list_all (λ p. p.0 == p.1) (zip xs ys) ≡ pointwise nat_eq xs ys
pointwise-zip [] [] h = refl
pointwise-zip [] (y ∷ ys) h = absurd (omega arith)
pointwise-zip (x ∷ xs) [] h = absurd (omega arith)
pointwise-zip (x ∷ xs) (y ∷ ys) h = ap (λ b. nat_eq x y && b) (pointwise-zip xs ys (omega arith))

pub fixed_within : (fixed : FixedText) → start_of fixed + length (text_of fixed) ≤ fixed_size
fixed_within fixed = leb-true _ _ (lies_within fixed)

-- a range that ends within a front is the range of the front
pub range_within : (xs : List ℕ) (from to n : ℕ) → to ≤ n → slice_range (take n xs) from to ≡ slice_range xs from to
range_within xs from to n h = by (search arith)
  where
    by : (from ≤ to) ⊎ (to ≤ from) → slice_range (take n xs) from to ≡ slice_range xs from to
    by (inl low) =
        let whole : n ≡ from + (n - from) = omega arith in
        ap (λ k. take (to - from) (drop from (take k xs))) whole ∙ ap (take (to - from)) (drop-take from (n - from) xs)
        ∙ take-take (to - from) (n - from) (drop from xs) (omega arith)
    by (inr high) = let none : to - from ≡ 0 = omega arith in ap (λ k. take k (drop from (take n xs))) none ∙ sym (ap (λ k. take k (drop from xs)) none)

-- in units that begin with the fixed texts each stands where it begins
pub fixed_stands : (units : List ℕ) (fixed : FixedText) → take fixed_size units ≡ fixed_units → slice_range units (start_of fixed) (start_of fixed + length (text_of fixed)) ≡ text_of fixed
fixed_stands units fixed h =
    sym (range_within units (start_of fixed) (start_of fixed + length (text_of fixed)) fixed_size (fixed_within fixed))
    ∙ ap (λ us. slice_range us (start_of fixed) (start_of fixed + length (text_of fixed))) h
    ∙ stands_at fixed

span_among-none : (start : ℕ) (fs : List FixedText) (text : List ℕ) → ((fixed : FixedText) → text_of fixed ≡ text → ⊥) → span_among start fs text ≡ None
span_among-none start [] text h = refl
span_among-none start (f ∷ fs) text h =
    ap (λ b. cond b (Some (record { start = start; count = length (text_of f) })) (span_among (start + length (text_of f)) fs text)) (other (pointwise nat_eq (text_of f) text) refl)
    ∙ span_among-none (start + length (text_of f)) fs text h
  where
    other : (b : Bool) → pointwise nat_eq (text_of f) text ≡ b → pointwise nat_eq (text_of f) text ≡ false
    other true e = absurd (h f (same_text (text_of f) text (sym e)))
    other false e = e

-- a text that is no fixed text has no place
pub fixed_span-none : (text : List ℕ) → ((fixed : FixedText) → text_of fixed ≡ text → ⊥) → fixed_span text ≡ None
unfolding fixed_span
fixed_span-none text h = span_among-none 0 fixed_texts text h
