-- Numerals and their digits.
use Rattle.std.proofs.Common.{◌≡◌, ◌<◌, ◌≤◌, ◌^◌, ℕ, suc, true, false, List, [], ◌∷◌, length, get_or, decimal, Option, Some, Result, Ok, Err, IfSome, IsNone, None, MatchResult, sym, ap, ◌∙◌, subst, arith, rules}
use Prim.Native.Nat.{zero}
use denote.Ref.{Bor}
use Rattle.std.specs.Char.{is_ascii_digit}
use Rattle.std.specs.List.{list_all}
use Rattle.std.specs.Result.{result_ok}
use Rattle.std.specs.Str.{IsUtf8}
use Rattle.std.specs.Str.Parse.{ParsesUnsigned, digits_value}
use Rattle.std.proofs.lemmas.Fmt.{digits_decimal, decimal-digits_value, decimal_digit, first_decimal, IsAscii-from_digits, parse-decimal}
use Rattle.std.proofs.lemmas.Bool.{false≢true}
use Rattle.std.proofs.lemmas.Str.{IsUtf8-from_ascii}
use Rattle.std.proofs.lemmas.Str.Parse.{IsNumeralModel, IsDigitsTest, numerals_by_value, parse_digits}

tells : IsDigitsTest (λ ds. list_all is_ascii_digit ds ≡ true)
tells = search rules

own : IsNumeralModel (λ ds. list_all is_ascii_digit ds ≡ true) (digits_value 10)
own = numerals_by_value _ tells

-- the digits of a numeral are digits
pub decimal_passes : (n : ℕ) → n < 2 ^ 64 → list_all is_ascii_digit (decimal n) ≡ true
decimal_passes n h = digits_decimal own n h

-- digits are a text
pub digits_are_utf8 : (digits : List ℕ) → list_all is_ascii_digit digits ≡ true → IsUtf8 digits
digits_are_utf8 digits h = IsUtf8-from_ascii _ (IsAscii-from_digits _ (own.to _ h))

-- a numeral of two digits or more begins with no zero
pub no_zero_first : (digits : List ℕ) (n : ℕ) → n < 2 ^ 64 → digits ≡ decimal n → 1 < length digits → get_or digits 0 0 ≡ 48 → ⊥
no_zero_first digits zero h e long first =
    let one : digits ≡ 48 ∷ [] = e ∙ decimal_digit 0 (omega arith) in
    omega (arith, ap length one)
no_zero_first digits (suc n) h e long first =
    omega (arith, first_decimal (suc n) (omega arith) h, ap (λ ds. get_or ds 0 0) e)

-- digits that `parse` reads, and that are one or begin with no zero, are the numeral of their value
pub parsed_value : {E : Type 0} (digits : List ℕ) (r : Result ℕ E) → list_all is_ascii_digit digits ≡ true → (get_or digits 0 0 ≡ 48 → length digits ≤ 1) → ParsesUnsigned 64 10 digits r → IfSome (result_ok r) (λ n. digits ≡ decimal n)
parsed_value {E} digits (Err e) h short parses = tt
parsed_value {E} digits (Ok x) h short parses =
    let k = parse_digits own {E = E} 64 digits (Ok x) parses h in
    let bound : digits_value 10 digits < 2 ^ 64 = k.0.1 in
    let short' : get_or digits 0 0 ≡ 48 → length digits ≡ 1 = λ z. omega (arith, short z, k.0.0) in
    sym (decimal-digits_value own digits h k.0.0 short' bound) ∙ ap decimal (sym k.1)

-- digits that `parse` refuses are no numeral
pub parsed_none : {E : Type 0} (digits : List ℕ) (r : Result ℕ E) → ParsesUnsigned 64 10 digits r → IsNone (result_ok r) → (n : ℕ) → n < 2 ^ 64 → digits ≡ decimal n → ⊥
parsed_none digits r parses none n h e =
    let P : Result ℕ _ → Type 0 = λ r'. IsNone (result_ok r') in
    false≢true (sym (subst P (parse-decimal 64 n digits r h h e parses) none))

-- text that is refused as no UTF-8 is no digits
pub refused_no_digits : {S E : Type 0} (P : S → Type 0) (Q : E → Type 0) (digits : List ℕ) (r : Result S E) → list_all is_ascii_digit digits ≡ true → MatchResult r P (λ e. ¬ (IsUtf8 digits) × Q e) → result_ok r ≡ None → ⊥
refused_no_digits P Q digits (Ok s) h cases e = cc
refused_no_digits P Q digits (Err x) h cases e = cases.0 (digits_are_utf8 digits h)

-- what was read as text is the bytes
pub text_same : {E : Type 0} (U : Type 0) (Q : E → Type 0) (digits : List ℕ) (r : Result (Bor (List ℕ)) E) (text : Bor (List ℕ)) → MatchResult r (λ s. (s.now ≡ digits) × U) Q → result_ok r ≡ Some text → text.now ≡ digits
text_same U Q digits (Ok s) text cases e =
    let same : s ≡ text = cc in
    sym (ap (λ (t : Bor (List ℕ)). t.now) same) ∙ cases.0
text_same U Q digits (Err x) text cases e = cc

-- what is no digits is no numeral
pub not_digits : (word : List ℕ) → list_all is_ascii_digit word ≡ false → (n : ℕ) → n < 2 ^ 64 → word ≡ decimal n → ⊥
not_digits word h n small e = false≢true (sym h ∙ ap (list_all is_ascii_digit) e ∙ decimal_passes n small)
