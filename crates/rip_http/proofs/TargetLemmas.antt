-- A target up to its query.
use Rattle.std.proofs.Common.{◌≡◌, ℕ, ◌<◌, Bool, true, false, cond, ltb, eqb, List, length, take, get_or, Option, Some, None, refl, sym, ap, subst, arith}
use Rattle.std.specs.List.{position, position_or_len, before_first}
use Rattle.std.specs.Str.{IsUtf8}
use Rattle.httparse.specs.Spans.{span_bytes, IsRequestOf}
use Rattle.httparse.specs.declared.spans.HeaderSpan.{HeaderSpan}
use Rattle.httparse.specs.declared.spans.RequestSpans.{RequestSpans}
use Rattle.std.proofs.lemmas.Bool.{ltb-false, ltb-true, lt-ltb, le-ltb, cond-true, cond-false}
use Rattle.memchr.specs.Find.{IsFirstByte, is_byte}
use Rattle.std.proofs.lemmas.Bool.Decides.{nat_tests}
use Rattle.std.proofs.lemmas.List.{take_all}
use Rattle.std.proofs.lemmas.List.Sums.{passes_at_first, position_or_len_is}
use Rattle.std.proofs.lemmas.Str.{IsUtf8-take, IsCharBoundary-before_ascii}

place_at : (b : Bool) (p n : ℕ) → cond b (Some p) None ≡ Some n → p ≡ n
place_at true p n e = cc
place_at false p n e = cc

no_place : (b : Bool) (p : ℕ) → cond b (Some p) None ≡ None → b ≡ false
no_place true p e = cc
no_place false p e = refl

pub front_at : (p : ℕ → Bool) (xs : List ℕ) (n : ℕ) → position p xs ≡ Some n → take n xs ≡ before_first p xs
front_at p xs n e = ap (λ k. take k xs) (sym (place_at (ltb (position_or_len p xs) (length xs)) (position_or_len p xs) n e))

pub front_whole : (p : ℕ → Bool) (xs : List ℕ) → position p xs ≡ None → xs ≡ before_first p xs
front_whole p xs e =
    sym (take_all (position_or_len p xs) xs (ltb-false (position_or_len p xs) (length xs) (no_place (ltb (position_or_len p xs) (length xs)) (position_or_len p xs) e)))

-- a text up to its first question mark is a text
pub front_text : (xs : List ℕ) → IsUtf8 xs → IsUtf8 (before_first (λ b. eqb b 63) xs)
front_text xs u = by (ltb (position_or_len (λ b. eqb b 63) xs) (length xs)) refl
  where
    by : (v : Bool) → ltb (position_or_len (λ b. eqb b 63) xs) (length xs) ≡ v → IsUtf8 (take (position_or_len (λ b. eqb b 63) xs) xs)
    by true e =
        let within : position_or_len (λ b. eqb b 63) xs < length xs = ltb-true (position_or_len (λ b. eqb b 63) xs) (length xs) e in
        let mark : eqb (get_or xs (position_or_len (λ b. eqb b 63) xs) 0) 63 ≡ true = passes_at_first (λ b. eqb b 63) xs 0 within in
        let low : get_or xs (position_or_len (λ b. eqb b 63) xs) 0 < 128 = grind (arith, nat_tests) in
        IsUtf8-take xs (position_or_len (λ b. eqb b 63) xs) u (IsCharBoundary-before_ascii xs (position_or_len (λ b. eqb b 63) xs) within low)
    by false e = subst IsUtf8 (sym (take_all (position_or_len (λ b. eqb b 63) xs) xs (ltb-false (position_or_len (λ b. eqb b 63) xs) (length xs) e))) u

-- the target of a head that is read is a text
pub target_text : (buf : List ℕ) (headers : List HeaderSpan) (r : RequestSpans) → IsRequestOf buf headers r → IsUtf8 (span_bytes buf r.path)
target_text buf headers r h = subst IsUtf8 (sym h.1.path) h.1.reads.0.target_text

fails : (b : Bool) → ¬ (b ≡ true) → b ≡ false
fails true h = absurd (h refl)
fails false h = refl

-- the first question mark that a search finds
pub first_mark : (xs : List ℕ) (r : Option ℕ) → IsFirstByte (is_byte 63) xs r → r ≡ position (λ b. eqb b 63) xs
first_mark xs (Some k) (none, here) =
    let place : position_or_len (λ b. eqb b 63) xs ≡ k =
    position_or_len_is (λ b. eqb b 63) xs k 0 (omega (arith, none.high)) (λ j h. fails (eqb (get_or xs j 0) 63) (none.before j (omega arith) h)) (λ h. here) in
    subst (λ (n : ℕ). Some k ≡ cond (ltb n (length xs)) (Some n) None) (sym place) (sym (cond-true (ltb k (length xs)) (Some k) None (lt-ltb k (length xs) none.high)))
first_mark xs None nowhere =
    let place : position_or_len (λ b. eqb b 63) xs ≡ length xs =
    position_or_len_is (λ b. eqb b 63) xs (length xs) 0 (omega arith) (λ j h. fails (eqb (get_or xs j 0) 63) (nowhere j (omega arith) h)) (λ h. absurd (omega (arith, h))) in
    let past : ltb (length xs) (length xs) ≡ false = le-ltb (length xs) (length xs) (omega arith) in
    subst (λ (n : ℕ). None ≡ cond (ltb n (length xs)) (Some n) None) (sym place) (sym (cond-false (ltb (length xs) (length xs)) (Some (length xs)) None past))
