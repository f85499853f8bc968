-- No text spells two numbers, and the numeral of a whole number spells it.
use Rattle.std.proofs.Common.{◌≡◌, ℕ, zero, suc, ℤ, pos, negsuc, neg_ℤ, ◌+◌, ◌%◌, ◌^◌, ◌<◌, ◌≤◌, Bool, true, false, cond, ◌&&◌, ◌==◌, ◌⊎◌, inl, inr, List, [], ◌∷◌, ◌++◌, Result, Ok, Err, refl, sym, ap, ◌∙◌, subst, arith, codes, reverse, nat_lt}
use Rattle.std.proofs.lemmas.List.{reverse-append, reverse-reverse}
use Rattle.std.specs.Fmt.{decimal, signed_decimal}
use Rattle.std.specs.Str.Parse.{IsNumeral, digits_value, without_leading_sign, signed_digits_value}
use Rattle.std.proofs.lemmas.Bool.{both_ways}
use Rattle.std.proofs.lemmas.Bool.Decides.{nat_tests}
use Rattle.std.proofs.lemmas.Fmt.{decimal_by_steps, decimal_is_IsNumeral}
use Rattle.std.proofs.lemmas.Int.{ints}
use Rattle.rip_base.specs.declared.value.Numeral.{Numeral}
use Rattle.rip_base.specs.declared.value.Numeral.TheVariants.{Num, NaN}
use Rattle.rip_base.specs.declared.value.Fault.{Fault}
use Rattle.rip_base.specs.declared.value.Fault.TheVariants.{NotWhole, Infinite, OutOfRange, Hole, NotInProfile, ObjectToPrimitive, BadArgument, LoneSurrogate, TextTooLong}
use Rattle.rip_base.specs.Whole.{IsWhole}
use Rattle.rip_base.specs.Blank.{is_blank, trimmed, trimmed_start, trimmed_end}
use Rattle.rip_base.specs.Numbers.{SpellsWhole, SpellsFraction, SpellsInfinity, IsNumberOf}
use Rattle.rip_base.specs.NumberScan.{is_numeral, is_exponent, is_fraction, digits_at_start}
use Rattle.rip_base.proofs.NumberLemmas.{is_numeral-true, is_fraction-spelled, is_fraction-digits}

no_numeral : (n : ℕ) (b : Bool) → b ≡ false → (nat_lt 0 n && b) ≡ false
no_numeral n b e = by (nat_lt 0 n)
  where
    by : (t : Bool) → (t && b) ≡ false
    by true = e
    by false = refl

-- `0x` or `0X` and more is no decimal literal, and has no sign
hexadecimal_numeral : (mark : ℕ) (digits : List ℕ) → (mark ≡ 120) ⊎ (mark ≡ 88) → is_numeral 10 (48 ∷ mark ∷ digits) ≡ false
unfolding is_numeral
hexadecimal_numeral mark digits (inl h) = ap (λ m. is_numeral 10 (48 ∷ m ∷ digits)) h ∙ no_numeral _ _ refl
hexadecimal_numeral mark digits (inr h) = ap (λ m. is_numeral 10 (48 ∷ m ∷ digits)) h ∙ no_numeral _ _ refl

hexadecimal_fraction : (mark : ℕ) (digits : List ℕ) → (mark ≡ 120) ⊎ (mark ≡ 88) → is_fraction (48 ∷ mark ∷ digits) ≡ false
unfolding is_fraction digits_at_start is_exponent
hexadecimal_fraction mark digits (inl h) = ap (λ m. is_fraction (48 ∷ m ∷ digits)) h
hexadecimal_fraction mark digits (inr h) = ap (λ m. is_fraction (48 ∷ m ∷ digits)) h

numeral_empty : is_numeral 10 [] ≡ false
unfolding is_numeral
numeral_empty = refl

fraction_empty : is_fraction [] ≡ false
unfolding is_fraction digits_at_start
fraction_empty = refl

numeral_infinity : is_numeral 10 (codes "Infinity") ≡ false
unfolding is_numeral
numeral_infinity = refl

fraction_infinity : is_fraction (codes "Infinity") ≡ false
unfolding is_fraction digits_at_start is_exponent
fraction_infinity = refl

-- a text spells one whole number at most
whole_one : (text : List ℕ) (y z : ℤ) → SpellsWhole text y → SpellsWhole text z → y ≡ z
whole_one text y z (inl h) (inl g) = h.1 ∙ sym g.1
whole_one text y z (inl h) (inr (inl g)) = absurd (let e : [] ≡ 48 ∷ g.mark ∷ g.digits = sym h.0 ∙ g.spelled in cc)
whole_one text y z (inl h) (inr (inr g)) = absurd (both_ways _ numeral_empty (sym (ap (λ t. is_numeral 10 (without_leading_sign t)) h.0) ∙ is_numeral-true 10 _ g.0))
whole_one text y z (inr (inl h)) (inl g) = absurd (let e : [] ≡ 48 ∷ h.mark ∷ h.digits = sym g.0 ∙ h.spelled in cc)
whole_one text y z (inr (inl h)) (inr (inl g)) =
    let e : 48 ∷ h.mark ∷ h.digits ≡ 48 ∷ g.mark ∷ g.digits = sym h.spelled ∙ g.spelled in
    let same : h.digits ≡ g.digits = cc in
    h.counts ∙ ap (λ ds. pos (digits_value 16 ds)) same ∙ sym g.counts
whole_one text y z (inr (inl h)) (inr (inr g)) = absurd (both_ways _ (hexadecimal_numeral h.mark h.digits h.is_mark) (sym (ap (λ t. is_numeral 10 (without_leading_sign t)) h.spelled) ∙ is_numeral-true 10 _ g.0))
whole_one text y z (inr (inr h)) (inl g) = absurd (both_ways _ numeral_empty (sym (ap (λ t. is_numeral 10 (without_leading_sign t)) g.0) ∙ is_numeral-true 10 _ h.0))
whole_one text y z (inr (inr h)) (inr (inl g)) = absurd (both_ways _ (hexadecimal_numeral g.mark g.digits g.is_mark) (sym (ap (λ t. is_numeral 10 (without_leading_sign t)) g.spelled) ∙ is_numeral-true 10 _ h.0))
whole_one text y z (inr (inr h)) (inr (inr g)) = h.1 ∙ sym g.1

-- a whole number has neither point nor exponent
whole_fraction : (text : List ℕ) (z : ℤ) → SpellsWhole text z → SpellsFraction text → ⊥
whole_fraction text z (inl h) f = both_ways _ fraction_empty (sym (ap (λ t. is_fraction (without_leading_sign t)) h.0) ∙ is_fraction-spelled text f)
whole_fraction text z (inr (inl h)) f = both_ways _ (hexadecimal_fraction h.mark h.digits h.is_mark) (sym (ap (λ t. is_fraction (without_leading_sign t)) h.spelled) ∙ is_fraction-spelled text f)
whole_fraction text z (inr (inr h)) f = both_ways _ (is_fraction-digits (without_leading_sign text) h.0.1) (is_fraction-spelled text f)

starts_otherwise : (rest : List ℕ) → 48 ∷ rest ≡ codes "Infinity" → ⊥
starts_otherwise rest e = let first : ◌≡◌ {A = ℕ} 48 73 = cc in omega arith

-- a whole number is not `Infinity`
whole_infinity : (text : List ℕ) (z : ℤ) → SpellsWhole text z → SpellsInfinity text → ⊥
whole_infinity text z (inl h) f = let e : [] ≡ codes "Infinity" = sym (ap without_leading_sign h.0) ∙ f in cc
whole_infinity text z (inr (inl h)) f =
    starts_otherwise (h.mark ∷ h.digits) (sym (ap without_leading_sign h.spelled) ∙ f)
whole_infinity text z (inr (inr h)) f = both_ways _ numeral_infinity (sym (ap (is_numeral 10) f) ∙ is_numeral-true 10 _ h.0)

-- `Infinity` has neither point nor exponent
infinity_fraction : (text : List ℕ) → SpellsInfinity text → SpellsFraction text → ⊥
infinity_fraction text f g = both_ways _ fraction_infinity (sym (ap is_fraction f) ∙ is_fraction-spelled text g)

only_number : (text : List ℕ) (y : ℤ) (s : Result Numeral Fault) → IsNumberOf text (Ok (Num y)) → IsNumberOf text s → Ok (Num y) ≡ s
only_number text y (Ok (Num z)) h g = ap (λ w. Ok (Num w)) (whole_one text y z h.0 g.0)
only_number text y (Ok NaN) h g = absurd (g.no_whole y h.0)
only_number text y (Err NotWhole) h g = absurd (whole_fraction text y h.0 g)
only_number text y (Err Infinite) h g = absurd (whole_infinity text y h.0 g)
only_number text y (Err OutOfRange) h g = absurd (g.2 (subst IsWhole (whole_one text y g.0 h.0 g.1) h.1))
only_number text y (Err Hole) h g = absurd g
only_number text y (Err NotInProfile) h g = absurd g
only_number text y (Err ObjectToPrimitive) h g = absurd g
only_number text y (Err BadArgument) h g = absurd g
only_number text y (Err LoneSurrogate) h g = absurd g
only_number text y (Err TextTooLong) h g = absurd g

only_nan : (text : List ℕ) (s : Result Numeral Fault) → IsNumberOf text (Ok NaN) → IsNumberOf text s → Ok NaN ≡ s
only_nan text (Ok (Num z)) h g = absurd (h.no_whole z g.0)
only_nan text (Ok NaN) h g = refl
only_nan text (Err NotWhole) h g = absurd (h.no_fraction g)
only_nan text (Err Infinite) h g = absurd (h.no_infinity g)
only_nan text (Err OutOfRange) h g = absurd (h.no_whole g.0 g.1)
only_nan text (Err Hole) h g = absurd g
only_nan text (Err NotInProfile) h g = absurd g
only_nan text (Err ObjectToPrimitive) h g = absurd g
only_nan text (Err BadArgument) h g = absurd g
only_nan text (Err LoneSurrogate) h g = absurd g
only_nan text (Err TextTooLong) h g = absurd g

only_not_whole : (text : List ℕ) (s : Result Numeral Fault) → IsNumberOf text (Err NotWhole) → IsNumberOf text s → Err NotWhole ≡ s
only_not_whole text (Ok (Num z)) h g = absurd (whole_fraction text z g.0 h)
only_not_whole text (Ok NaN) h g = absurd (g.no_fraction h)
only_not_whole text (Err NotWhole) h g = refl
only_not_whole text (Err Infinite) h g = absurd (infinity_fraction text g h)
only_not_whole text (Err OutOfRange) h g = absurd (whole_fraction text g.0 g.1 h)
only_not_whole text (Err Hole) h g = absurd g
only_not_whole text (Err NotInProfile) h g = absurd g
only_not_whole text (Err ObjectToPrimitive) h g = absurd g
only_not_whole text (Err BadArgument) h g = absurd g
only_not_whole text (Err LoneSurrogate) h g = absurd g
only_not_whole text (Err TextTooLong) h g = absurd g

only_infinite : (text : List ℕ) (s : Result Numeral Fault) → IsNumberOf text (Err Infinite) → IsNumberOf text s → Err Infinite ≡ s
only_infinite text (Ok (Num z)) h g = absurd (whole_infinity text z g.0 h)
only_infinite text (Ok NaN) h g = absurd (g.no_infinity h)
only_infinite text (Err NotWhole) h g = absurd (infinity_fraction text h g)
only_infinite text (Err Infinite) h g = refl
only_infinite text (Err OutOfRange) h g = absurd (whole_infinity text g.0 g.1 h)
only_infinite text (Err Hole) h g = absurd g
only_infinite text (Err NotInProfile) h g = absurd g
only_infinite text (Err ObjectToPrimitive) h g = absurd g
only_infinite text (Err BadArgument) h g = absurd g
only_infinite text (Err LoneSurrogate) h g = absurd g
only_infinite text (Err TextTooLong) h g = absurd g

only_out_of_range : (text : List ℕ) (s : Result Numeral Fault) → IsNumberOf text (Err OutOfRange) → IsNumberOf text s → Err OutOfRange ≡ s
only_out_of_range text (Ok (Num z)) h g = absurd (h.2 (subst IsWhole (whole_one text z h.0 g.0 h.1) g.1))
only_out_of_range text (Ok NaN) h g = absurd (g.no_whole h.0 h.1)
only_out_of_range text (Err NotWhole) h g = absurd (whole_fraction text h.0 h.1 g)
only_out_of_range text (Err Infinite) h g = absurd (whole_infinity text h.0 h.1 g)
only_out_of_range text (Err OutOfRange) h g = refl
only_out_of_range text (Err Hole) h g = absurd g
only_out_of_range text (Err NotInProfile) h g = absurd g
only_out_of_range text (Err ObjectToPrimitive) h g = absurd g
only_out_of_range text (Err BadArgument) h g = absurd g
only_out_of_range text (Err LoneSurrogate) h g = absurd g
only_out_of_range text (Err TextTooLong) h g = absurd g

-- a text has one answer, since the spellings exclude each other
pub IsNumberOf-one : (text : List ℕ) (r s : Result Numeral Fault) → IsNumberOf text r → IsNumberOf text s → r ≡ s
IsNumberOf-one text (Ok (Num y)) s h g = only_number text y s h g
IsNumberOf-one text (Ok NaN) s h g = only_nan text s h g
IsNumberOf-one text (Err NotWhole) s h g = only_not_whole text s h g
IsNumberOf-one text (Err Infinite) s h g = only_infinite text s h g
IsNumberOf-one text (Err OutOfRange) s h g = only_out_of_range text s h g
IsNumberOf-one text (Err Hole) s h g = absurd h
IsNumberOf-one text (Err NotInProfile) s h g = absurd h
IsNumberOf-one text (Err ObjectToPrimitive) s h g = absurd h
IsNumberOf-one text (Err BadArgument) s h g = absurd h
IsNumberOf-one text (Err LoneSurrogate) s h g = absurd h
IsNumberOf-one text (Err TextTooLong) s h g = absurd h

-- digits are no blanks
digit_plain : (d : ℕ) → d < 10 → is_blank (48 + d) ≡ false
unfolding is_blank
digit_plain zero h = refl
digit_plain (suc zero) h = refl
digit_plain (suc (suc zero)) h = refl
digit_plain (suc (suc (suc zero))) h = refl
digit_plain (suc (suc (suc (suc zero)))) h = refl
digit_plain (suc (suc (suc (suc (suc zero))))) h = refl
digit_plain (suc (suc (suc (suc (suc (suc zero)))))) h = refl
digit_plain (suc (suc (suc (suc (suc (suc (suc zero))))))) h = refl
digit_plain (suc (suc (suc (suc (suc (suc (suc (suc zero)))))))) h = refl
digit_plain (suc (suc (suc (suc (suc (suc (suc (suc (suc zero))))))))) h = refl
digit_plain (suc (suc (suc (suc (suc (suc (suc (suc (suc (suc d)))))))))) h = absurd (omega arith)

minus_plain : is_blank 45 ≡ false
unfolding is_blank
minus_plain = refl

-- a numeral begins and ends with a digit
record IsPlain (text : List ℕ) : Type 0 where
  first : ℕ
  rest : List ℕ
  starts : text ≡ (48 + first) ∷ rest
  is_first : first < 10
  front : List ℕ
  last : ℕ
  ends : text ≡ front ++ (48 + last) ∷ []
  is_last : last < 10

decimal_plain : (n : ℕ) → n < 2 ^ 64 → IsPlain (decimal n)
decimal_plain = decimal_by_steps (λ _ ds. IsPlain ds)
    (λ d h. record { first = d; rest = []; starts = refl; is_first = h; front = []; last = d; ends = refl; is_last = h })
    (λ n ds h p. record {
      first = p.first;
      rest = p.rest ++ (48 + n % 10) ∷ [];
      starts = ap (λ t. t ++ (48 + n % 10) ∷ []) p.starts;
      is_first = p.is_first;
      front = ds;
      last = n % 10;
      ends = refl;
      is_last = omega arith;
    })

trimmed_start-kept : (text rest : List ℕ) (u : ℕ) → text ≡ u ∷ rest → is_blank u ≡ false → trimmed_start text ≡ text
trimmed_start-kept text rest u e p =
    ap trimmed_start e ∙ ap (λ b. cond b (trimmed_start rest) (u ∷ rest)) p ∙ sym e

-- a text that begins and ends with no blank is kept
trimmed-kept : (text rest front : List ℕ) (u v : ℕ) → text ≡ u ∷ rest → is_blank u ≡ false → text ≡ front ++ v ∷ [] → is_blank v ≡ false → trimmed text ≡ text
trimmed-kept text rest front u v e p f q =
    ap trimmed_end (trimmed_start-kept text rest u e p)
    ∙ ap reverse (trimmed_start-kept (reverse text) (reverse front) v (ap reverse f ∙ reverse-append front (v ∷ [])) q)
    ∙ reverse-reverse text

-- digits have no sign before them
digits_unsigned : (u : ℕ) (rest : List ℕ) → 48 ≤ u → (without_leading_sign (u ∷ rest) ≡ u ∷ rest) × (signed_digits_value 10 (u ∷ rest) ≡ pos (digits_value 10 (u ∷ rest)))
digits_unsigned u rest h =
    let minus : (u == 45) ≡ false = grind (arith, nat_tests) in
    let plus : (u == 43) ≡ false = grind (arith, nat_tests) in
    (rw (minus, plus) refl, rw (minus, plus) refl)

-- what is written of a whole number is trimmed, and spells it
signed_decimal-kept : (z : ℤ) → IsWhole z → trimmed (signed_decimal z) ≡ signed_decimal z
signed_decimal-kept (pos n) w =
    let p = decimal_plain n (omega (arith, ints, w.1)) in
    trimmed-kept (decimal n) p.rest p.front (48 + p.first) (48 + p.last) p.starts (digit_plain _ p.is_first) p.ends (digit_plain _ p.is_last)
signed_decimal-kept (negsuc n) w =
    let p = decimal_plain (suc n) (omega (arith, ints, w.0)) in
    trimmed-kept (45 ∷ decimal (suc n)) (decimal (suc n)) (45 ∷ p.front) 45 (48 + p.last) refl minus_plain (ap (λ t. 45 ∷ t) p.ends) (digit_plain _ p.is_last)

signed_decimal-spells : (z : ℤ) → IsWhole z → SpellsWhole (signed_decimal z) z
signed_decimal-spells (pos n) w =
    let small : n < 2 ^ 64 = omega (arith, ints, w.1) in
    let p = decimal_plain n small in
    let numeral = decimal_is_IsNumeral n small in
    let same = digits_unsigned (48 + p.first) p.rest (omega arith) in
    let kept : without_leading_sign (decimal n) ≡ decimal n = ap without_leading_sign p.starts ∙ same.0 ∙ sym p.starts in
    inr (inr (
      subst (IsNumeral 10) (sym kept) numeral.0,
      sym (ap (signed_digits_value 10) p.starts ∙ same.1 ∙ ap (λ t. pos (digits_value 10 t)) (sym p.starts) ∙ ap pos numeral.1),
    ))
signed_decimal-spells (negsuc n) w =
    let numeral = decimal_is_IsNumeral (suc n) (omega (arith, ints, w.0)) in
    inr (inr (numeral.0, sym (ap (λ v. neg_ℤ (pos v)) numeral.1)))

-- reading what was written of a whole number gives it back
pub IsNumberOf-signed_decimal : (z : ℤ) → IsWhole z → IsNumberOf (trimmed (signed_decimal z)) (Ok (Num z))
IsNumberOf-signed_decimal z w = subst (λ t. IsNumberOf t (Ok (Num z))) (sym (signed_decimal-kept z w)) (signed_decimal-spells z w, w)
