-- The tests of specs/NumberScan.antt find the spellings of specs/Numbers.antt, and no text has two of them.
use Rattle.std.proofs.Common.{◌≡◌, ◌≢◌, ℕ, zero, suc, ℤ, pos, neg_ℤ, ◌+◌, ◌*◌, ◌<◌, ◌≤◌, min, Bool, true, false, ◌&&◌, ◌||◌, cond, ◌⊎◌, inl, inr, List, [], ◌∷◌, ◌++◌, length, take, drop, Result, Ok, Err, refl, sym, ap, ◌∙◌, subst, arith, nat_lt, ◌==◌, codes}
use Rattle.std.specs.List.{list_all, prefix_len}
use Rattle.std.specs.Str.Parse.{AllDigits, IsNumeral, digits_value, without_leading_sign, starts_with_minus, signed_digits_value}
use Rattle.std.proofs.str.Laws.{both}
use Rattle.std.proofs.lemmas.Bool.{eqb-true, eq-eqb, or_cases, both_ways}
use Rattle.std.proofs.lemmas.Bool.Decides.{nat_tests}
use Rattle.std.proofs.lemmas.List.Sums.{prefix_len-le-length}
use Rattle.std.proofs.lemmas.List.{append-nil, take-append-drop, length-take-le}
use Rattle.std.proofs.Math.Seq.{drop-append_seam}
use Rattle.std.proofs.lemmas.Int.{ints}
use Rattle.rip_base.specs.declared.value.Numeral.{Numeral}
use Rattle.rip_base.specs.declared.value.Numeral.TheVariants.{Num, NaN}
use Rattle.rip_base.specs.declared.value.Fault.{Fault}
use Rattle.rip_base.specs.declared.value.Fault.TheVariants.{NotWhole, Infinite, OutOfRange, Hole, NotInProfile, ObjectToPrimitive, BadArgument, LoneSurrogate, TextTooLong}
use Rattle.rip_base.specs.Whole.{IsWhole}
use Rattle.rip_base.specs.Numbers.{IsHexadecimal, IsExponent, IsPointed, IsScaled, SpellsWhole, SpellsFraction, SpellsNothing, IsNumberOf}
use Rattle.rip_base.specs.NumberScan.{is_digit, signed_value, IsRanged, digits_at_start, is_numeral, is_hexadecimal, is_exponent, ends_after_point, ends_after_digits, is_fraction}

-- tests on numbers
positive : (n : ℕ) → 0 < n → nat_lt 0 n ≡ true
positive n h = grind (arith, nat_tests)

positive-true : (n : ℕ) → nat_lt 0 n ≡ true → 0 < n
positive-true n h = grind (arith, nat_tests)

below-true : (a b : ℕ) → nat_lt a b ≡ true → a < b
below-true a b h = grind (arith, nat_tests)

below : (a b : ℕ) → a < b → nat_lt a b ≡ true
below a b h = grind (arith, nat_tests)

both_true : (a b : Bool) → a ≡ true → b ≡ true → (a && b) ≡ true
both_true true b e f = f
both_true false b e f = e

first_true : (a b : Bool) → a ≡ true → (a || b) ≡ true
first_true true b e = refl
first_true false b e = cc

second_true : (a b : Bool) → b ≡ true → (a || b) ≡ true
second_true true b e = refl
second_true false b e = e

either : (m n : ℕ) → 0 < m + n → (nat_lt 0 m || nat_lt 0 n) ≡ true
either zero n h = positive n (omega arith)
either (suc m) n h = first_true _ _ (positive (suc m) (omega arith))

-- digits
pub AllDigits-list_all : (base : ℕ) (ds : List ℕ) → list_all (is_digit base) ds ≡ true → AllDigits base ds
AllDigits-list_all base [] e = tt
AllDigits-list_all base (d ∷ ds) e =
    let parts = both _ _ e in
    (below-true _ _ parts.0, AllDigits-list_all base ds parts.1)

pub list_all-AllDigits : (base : ℕ) (ds : List ℕ) → AllDigits base ds → list_all (is_digit base) ds ≡ true
list_all-AllDigits base [] h = refl
list_all-AllDigits base (d ∷ ds) h = both_true _ _ (below _ _ h.0) (list_all-AllDigits base ds h.1)

pub IsNumeral-true : (base : ℕ) (ds : List ℕ) → is_numeral base ds ≡ true → IsNumeral base ds
unfolding is_numeral
IsNumeral-true base ds e =
    let parts = both _ _ e in
    (positive-true _ parts.0, AllDigits-list_all base ds parts.1)

pub is_numeral-true : (base : ℕ) (ds : List ℕ) → IsNumeral base ds → is_numeral base ds ≡ true
unfolding is_numeral
is_numeral-true base ds h = both_true _ _ (positive _ h.0) (list_all-AllDigits base ds h.1)

-- the digits at a text's start, and what follows
abbrev StartsNoDigit : List ℕ → Type 0
StartsNoDigit [] = Unit {0}
StartsNoDigit (u ∷ us) = is_digit 10 u ≡ false

digits_at_start-append : (ds rest : List ℕ) → AllDigits 10 ds → StartsNoDigit rest → digits_at_start (ds ++ rest) ≡ length ds
unfolding digits_at_start
digits_at_start-append [] [] h n = refl
digits_at_start-append [] (u ∷ rest) h n = ap (λ b. cond b (1 + prefix_len (is_digit 10) rest) 0) n
digits_at_start-append (d ∷ ds) rest h n =
    ap (λ b. cond b (1 + prefix_len (is_digit 10) (ds ++ rest)) 0) (below _ _ h.0)
    ∙ ap (λ k. 1 + k) (digits_at_start-append ds rest h.1 n) ∙ omega arith

drop-digits : (ds rest : List ℕ) → AllDigits 10 ds → StartsNoDigit rest → drop (digits_at_start (ds ++ rest)) (ds ++ rest) ≡ rest
drop-digits ds rest h n = ap (λ k. drop k (ds ++ rest)) (digits_at_start-append ds rest h n) ∙ drop-append_seam ds rest

take-digits : (text : List ℕ) → AllDigits 10 (take (digits_at_start text) text)
unfolding digits_at_start
take-digits [] = tt
take-digits (u ∷ us) = by (is_digit 10 u) refl (take-digits us)
  where
    by : (b : Bool) → is_digit 10 u ≡ b → AllDigits 10 (take (prefix_len (is_digit 10) us) us) → AllDigits 10 (take (cond b (1 + prefix_len (is_digit 10) us) 0) (u ∷ us))
    by true e more =
        let one : 1 + prefix_len (is_digit 10) us ≡ suc (prefix_len (is_digit 10) us) = omega arith in
        rw one (below-true _ _ e, more)
    by false e more = tt

length-digits : (text : List ℕ) → length (take (digits_at_start text) text) ≡ digits_at_start text
unfolding digits_at_start
length-digits text = length-take-le _ text (prefix_len-le-length (is_digit 10) text)

-- a value that was capped goes on as the value itself
pub capped_step : (v base d m : ℕ) → min (min v m * base + d) m ≡ min (v * base + d) m
capped_step v base d m = by (search arith)
  where
    more : (b : ℕ) → m ≤ v → min (m * b + d) m ≡ min (v * b + d) m
    more zero h = ap (λ x. min (x + d) m) (omega arith)
    more (suc b) h = omega arith

    by : (v ≤ m) ⊎ (m ≤ v) → min (min v m * base + d) m ≡ min (v * base + d) m
    by (inl h) = let e : min v m ≡ v = omega arith in ap (λ x. min (x * base + d) m) e
    by (inr h) = let e : min v m ≡ m = omega arith in ap (λ x. min (x * base + d) m) e ∙ more base h

past_low : (v : ℕ) → 9007199254740992 ≤ v → IsWhole (neg_ℤ (pos v)) → ⊥
past_low zero l w = omega arith
past_low (suc n) l w = omega (arith, ints, w.0)

past_high : (v : ℕ) → 9007199254740992 ≤ v → IsWhole (pos v) → ⊥
past_high v l w = omega (arith, ints, w.1)

past : (negative : Bool) (v : ℕ) → 9007199254740992 ≤ v → IsWhole (signed_value negative v) → ⊥
past true v l w = past_low v l w
past false v l w = past_high v l w

IsRanged-past : (y z : ℤ) (r : Result Numeral Fault) → ¬ (IsWhole y) → ¬ (IsWhole z) → IsRanged y r → IsRanged z r
IsRanged-past y z (Ok (Num w)) f g h = absurd (f h.1)
IsRanged-past y z (Ok NaN) f g h = h
IsRanged-past y z (Err NotWhole) f g h = h
IsRanged-past y z (Err Infinite) f g h = h
IsRanged-past y z (Err OutOfRange) f g h = g
IsRanged-past y z (Err Hole) f g h = h
IsRanged-past y z (Err NotInProfile) f g h = h
IsRanged-past y z (Err ObjectToPrimitive) f g h = h
IsRanged-past y z (Err BadArgument) f g h = h
IsRanged-past y z (Err LoneSurrogate) f g h = h
IsRanged-past y z (Err TextTooLong) f g h = h

-- the whole number of a capped value is in range where that of the value is, and then they are one
pub IsRanged-capped : (negative : Bool) (v : ℕ) (r : Result Numeral Fault) → IsRanged (signed_value negative (min v 9007199254740992)) r → IsRanged (signed_value negative v) r
IsRanged-capped negative v r h = by (search arith)
  where
    by : (v ≤ 9007199254740992) ⊎ (9007199254740992 ≤ v) → IsRanged (signed_value negative v) r
    by (inl l) = let e : min v 9007199254740992 ≡ v = omega arith in subst (λ n. IsRanged (signed_value negative n) r) e h
    by (inr l) =
        IsRanged-past (signed_value negative (min v 9007199254740992)) (signed_value negative v) r
        (past negative (min v 9007199254740992) (omega arith)) (past negative v l) h

-- exponents
IsExponent-true : (text : List ℕ) → is_exponent text ≡ true → IsExponent text
unfolding is_exponent
IsExponent-true [] e = cc
IsExponent-true (mark ∷ rest) e =
    let parts = both _ _ e in
    record { mark = mark; rest = rest; spelled = refl; is_mark = letter (or_cases _ _ parts.0); are_digits = IsNumeral-true _ _ parts.1 }
  where
    letter : ((mark == 69) ≡ true) ⊎ ((mark == 101) ≡ true) → (mark ≡ 101) ⊎ (mark ≡ 69)
    letter (inl h) = inr (eqb-true _ _ h)
    letter (inr h) = inl (eqb-true _ _ h)

is_exponent-true : (text : List ℕ) → IsExponent text → is_exponent text ≡ true
unfolding is_exponent
is_exponent-true text x = ap is_exponent x.spelled ∙ both_true _ _ (letter x.is_mark) (is_numeral-true _ _ x.are_digits)
  where
    letter : (x.mark ≡ 101) ⊎ (x.mark ≡ 69) → (x.mark == 69 || x.mark == 101) ≡ true
    letter (inl h) = second_true _ _ (eq-eqb _ _ h)
    letter (inr h) = first_true _ _ (eq-eqb _ _ h)

-- an exponent begins with no digit
IsExponent-StartsNoDigit : (text : List ℕ) → IsExponent text → StartsNoDigit text
IsExponent-StartsNoDigit text x = subst StartsNoDigit (sym x.spelled) (letter x.is_mark)
  where
    letter : (x.mark ≡ 101) ⊎ (x.mark ≡ 69) → is_digit 10 x.mark ≡ false
    letter (inl h) = ap (is_digit 10) h
    letter (inr h) = ap (is_digit 10) h

-- hexadecimal digits
pub IsHexadecimal-true : (text : List ℕ) → is_hexadecimal text ≡ true → IsHexadecimal text (pos (digits_value 16 (drop 2 text)))
IsHexadecimal-true [] e = cc
IsHexadecimal-true (u ∷ []) e = cc
IsHexadecimal-true (u ∷ mark ∷ digits) e =
    let parts = both _ _ e in
    let front = both _ _ parts.0 in
    record { mark = mark; digits = digits; spelled = ap (λ x. x ∷ mark ∷ digits) (eqb-true _ _ front.0); is_mark = letter (or_cases _ _ front.1); are_digits = IsNumeral-true _ _ parts.1; counts = refl }
  where
    letter : ((mark == 88) ≡ true) ⊎ ((mark == 120) ≡ true) → (mark ≡ 120) ⊎ (mark ≡ 88)
    letter (inl h) = inr (eqb-true _ _ h)
    letter (inr h) = inl (eqb-true _ _ h)

pub is_hexadecimal-true : (text : List ℕ) (z : ℤ) → IsHexadecimal text z → is_hexadecimal text ≡ true
is_hexadecimal-true text z x =
    ap is_hexadecimal x.spelled ∙ both_true _ _ (letter x.is_mark) (is_numeral-true _ _ x.are_digits)
  where
    letter : (x.mark ≡ 120) ⊎ (x.mark ≡ 88) → (x.mark == 88 || x.mark == 120) ≡ true
    letter (inl h) = second_true _ _ (eq-eqb _ _ h)
    letter (inr h) = first_true _ _ (eq-eqb _ _ h)

-- literals with a point or an exponent
no_digit_follows : (exponent : List ℕ) → (exponent ≡ []) ⊎ IsExponent exponent → StartsNoDigit exponent
no_digit_follows exponent (inl h) = subst StartsNoDigit (sym h) tt
no_digit_follows exponent (inr h) = IsExponent-StartsNoDigit exponent h

none_or_exponent : (exponent : List ℕ) → (exponent ≡ []) ⊎ IsExponent exponent → (length exponent == 0 || is_exponent exponent) ≡ true
none_or_exponent exponent (inl h) = ap (λ t. length t == 0 || is_exponent t) h
none_or_exponent exponent (inr h) = second_true _ _ (is_exponent-true exponent h)

ends_after_point-true : (count : ℕ) (fraction exponent : List ℕ) → AllDigits 10 fraction → 0 < count + length fraction → (exponent ≡ []) ⊎ IsExponent exponent → ends_after_point count (fraction ++ exponent) ≡ true
unfolding ends_after_point
ends_after_point-true count fraction exponent h some e =
    both_true _ _
    (ap (λ k. nat_lt 0 count || nat_lt 0 k) (digits_at_start-append fraction exponent h (no_digit_follows exponent e)) ∙ either count (length fraction) some)
    (ap (λ t. length t == 0 || is_exponent t) (drop-digits fraction exponent h (no_digit_follows exponent e)) ∙ none_or_exponent exponent e)

is_fraction-split : (whole rest : List ℕ) → AllDigits 10 whole → StartsNoDigit rest → is_fraction (whole ++ rest) ≡ ends_after_digits (length whole) rest
unfolding is_fraction
is_fraction-split whole rest h n =
    ap (λ t. ends_after_digits (digits_at_start (whole ++ rest)) t) (drop-digits whole rest h n)
    ∙ ap (λ k. ends_after_digits k rest) (digits_at_start-append whole rest h n)

ends_in_exponent : (count : ℕ) (exponent : List ℕ) → 0 < count → IsExponent exponent → ends_after_digits count exponent ≡ true
ends_in_exponent count exponent some x =
    ap (ends_after_digits count) x.spelled
    ∙ ap (λ b. cond b (ends_after_point count x.rest) (nat_lt 0 count && is_exponent (x.mark ∷ x.rest))) (no_point x.is_mark)
    ∙ both_true _ _ (positive count some) (ap is_exponent (sym x.spelled) ∙ is_exponent-true exponent x)
  where
    no_point : (x.mark ≡ 101) ⊎ (x.mark ≡ 69) → (x.mark == 46) ≡ false
    no_point (inl h) = ap (λ m. m == 46) h
    no_point (inr h) = ap (λ m. m == 46) h

pub is_fraction-pointed : (text : List ℕ) → IsPointed text → is_fraction text ≡ true
is_fraction-pointed text x =
    ap is_fraction x.spelled
    ∙ is_fraction-split x.whole (46 ∷ (x.fraction ++ x.exponent)) x.whole_digits refl
    ∙ ends_after_point-true (length x.whole) x.fraction x.exponent x.fraction_digits x.some_digit x.is_exponent

pub is_fraction-scaled : (text : List ℕ) → IsScaled text → is_fraction text ≡ true
is_fraction-scaled text x =
    ap is_fraction x.spelled
    ∙ is_fraction-split x.whole x.exponent x.whole_digits.1 (IsExponent-StartsNoDigit x.exponent x.is_exponent)
    ∙ ends_in_exponent (length x.whole) x.exponent x.whole_digits.0 x.is_exponent

some_digit-true : (m n : ℕ) → (nat_lt 0 m || nat_lt 0 n) ≡ true → 0 < m + n
some_digit-true m n e = by (or_cases _ _ e)
  where
    by : (nat_lt 0 m ≡ true) ⊎ (nat_lt 0 n ≡ true) → 0 < m + n
    by (inl h) = omega (arith, positive-true m h)
    by (inr h) = omega (arith, positive-true n h)

empty-true : (text : List ℕ) → (length text == 0) ≡ true → text ≡ []
empty-true [] e = refl
empty-true (u ∷ text) e = absurd (omega (arith, eqb-true _ _ e))

-- what follows so many digits, which is a point and the rest of a literal
IsPointed-true : (whole text : List ℕ) → AllDigits 10 whole → ends_after_point (length whole) text ≡ true → IsPointed (whole ++ 46 ∷ text)
unfolding ends_after_point
IsPointed-true whole text h e =
    let parts = both _ _ e in
    record {
      whole = whole;
      fraction = take (digits_at_start text) text;
      exponent = drop (digits_at_start text) text;
      spelled = ap (λ t. whole ++ 46 ∷ t) (sym (take-append-drop (digits_at_start text) text));
      whole_digits = h;
      fraction_digits = take-digits text;
      some_digit = subst (λ n. 0 < length whole + n) (sym (length-digits text)) (some_digit-true _ _ parts.0);
      is_exponent = ends (or_cases _ _ parts.1);
    }
  where
    ends : ((length (drop (digits_at_start text) text) == 0) ≡ true) ⊎ (is_exponent (drop (digits_at_start text) text) ≡ true) → (drop (digits_at_start text) text ≡ []) ⊎ IsExponent (drop (digits_at_start text) text)
    ends (inl g) = inl (empty-true _ g)
    ends (inr g) = inr (IsExponent-true _ g)

after_digits-true : (whole rest : List ℕ) → AllDigits 10 whole → ends_after_digits (length whole) rest ≡ true → IsPointed (whole ++ rest) ⊎ IsScaled (whole ++ rest)
after_digits-true whole [] h e = cc
after_digits-true whole (u ∷ rest) h e = by (u == 46) refl e
  where
    by : (b : Bool) → (u == 46) ≡ b → cond b (ends_after_point (length whole) rest) (nat_lt 0 (length whole) && is_exponent (u ∷ rest)) ≡ true → IsPointed (whole ++ u ∷ rest) ⊎ IsScaled (whole ++ u ∷ rest)
    by true is f = inl (subst (λ v. IsPointed (whole ++ v ∷ rest)) (sym (eqb-true _ _ is)) (IsPointed-true whole rest h f))
    by false is f =
        let parts = both _ _ f in
        inr (record { whole = whole; exponent = u ∷ rest; spelled = refl; whole_digits = (positive-true _ parts.0, h); is_exponent = IsExponent-true _ parts.1 })

pub is_fraction-true : (text : List ℕ) → is_fraction text ≡ true → IsPointed text ⊎ IsScaled text
unfolding is_fraction
is_fraction-true text e =
    subst (λ t. IsPointed t ⊎ IsScaled t) (take-append-drop (digits_at_start text) text)
    (after_digits-true (take (digits_at_start text) text) (drop (digits_at_start text) text) (take-digits text)
    (subst (λ k. ends_after_digits k (drop (digits_at_start text) text) ≡ true) (sym (length-digits text)) e))

pub SpellsFraction-true : (text : List ℕ) → is_fraction (without_leading_sign text) ≡ true → SpellsFraction text
SpellsFraction-true text e = is_fraction-true (without_leading_sign text) e

pub is_fraction-spelled : (text : List ℕ) → SpellsFraction text → is_fraction (without_leading_sign text) ≡ true
is_fraction-spelled text (inl x) = is_fraction-pointed (without_leading_sign text) x
is_fraction-spelled text (inr x) = is_fraction-scaled (without_leading_sign text) x

-- a text that passes none of the tests spells nothing
pub SpellsNothing-tests : (text literal : List ℕ) → literal ≡ without_leading_sign text → text ≢ [] → is_hexadecimal text ≡ false → is_numeral 10 literal ≡ false → is_fraction literal ≡ false → literal ≢ codes "Infinity" → SpellsNothing text
SpellsNothing-tests text literal is some hex num frac inf =
    record { no_whole = whole; no_fraction = λ h. both_ways _ frac (ap is_fraction is ∙ is_fraction-spelled text h); no_infinity = λ h. inf (is ∙ h) }
  where
    whole : (z : ℤ) → SpellsWhole text z → ⊥
    whole z (inl h) = some h.0
    whole z (inr (inl h)) = both_ways _ hex (is_hexadecimal-true text z h)
    whole z (inr (inr h)) = both_ways _ num (ap (is_numeral 10) is ∙ is_numeral-true 10 (without_leading_sign text) h.0)

-- the answer for a whole number that the text spells
pub IsNumberOf-ranged : (text : List ℕ) (z : ℤ) (r : Result Numeral Fault) → SpellsWhole text z → IsRanged z r → IsNumberOf text r
IsNumberOf-ranged text z (Ok (Num w)) s h = (subst (SpellsWhole text) (sym h.0) s, subst IsWhole (sym h.0) h.1)
IsNumberOf-ranged text z (Ok NaN) s h = absurd h
IsNumberOf-ranged text z (Err NotWhole) s h = absurd h
IsNumberOf-ranged text z (Err Infinite) s h = absurd h
IsNumberOf-ranged text z (Err OutOfRange) s h = (z, s, h)
IsNumberOf-ranged text z (Err Hole) s h = h
IsNumberOf-ranged text z (Err NotInProfile) s h = h
IsNumberOf-ranged text z (Err ObjectToPrimitive) s h = h
IsNumberOf-ranged text z (Err BadArgument) s h = h
IsNumberOf-ranged text z (Err LoneSurrogate) s h = h
IsNumberOf-ranged text z (Err TextTooLong) s h = h

-- the answer for hexadecimal digits
pub IsNumberOf-hexadecimal : (text digits : List ℕ) (r : Result Numeral Fault) → digits ≡ drop 2 text → is_hexadecimal text ≡ true → IsRanged (pos (digits_value 16 digits)) r → IsNumberOf text r
IsNumberOf-hexadecimal text digits r is e h =
    IsNumberOf-ranged text (pos (digits_value 16 (drop 2 text))) r (inr (inl (IsHexadecimal-true text e)))
    (subst (λ ds. IsRanged (pos (digits_value 16 ds)) r) is h)

-- the answer for a sign or none and decimal digits
pub IsNumberOf-decimal : (text literal : List ℕ) (negative : Bool) (r : Result Numeral Fault) → negative ≡ starts_with_minus text → literal ≡ without_leading_sign text → is_numeral 10 literal ≡ true → IsRanged (signed_value negative (digits_value 10 literal)) r → IsNumberOf text r
IsNumberOf-decimal text literal negative r minus is e h =
    IsNumberOf-ranged text (signed_digits_value 10 text) r
    (inr (inr (IsNumeral-true 10 (without_leading_sign text) (ap (is_numeral 10) (sym is) ∙ e), refl)))
    (subst (λ ds. IsRanged (signed_value (starts_with_minus text) (digits_value 10 ds)) r) is
    (subst (λ b. IsRanged (signed_value b (digits_value 10 literal)) r) minus h))

-- digits alone have neither point nor exponent
pub is_fraction-digits : (digits : List ℕ) → AllDigits 10 digits → is_fraction digits ≡ false
is_fraction-digits digits h =
    ap is_fraction (sym (append-nil digits)) ∙ is_fraction-split digits [] h tt
