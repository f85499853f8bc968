-- A text in which no surrogate is without its partner is UTF-16.
use Rattle.std.proofs.Common.{◌≡◌, ℕ, zero, suc, ◌+◌, ◌-◌, ◌/◌, ◌%◌, ◌<◌, ◌≤◌, Bool, true, false, not, ◌&&◌, List, [], ◌∷◌, ◌++◌, length, get_or, refl, sym, ap, ap₂, subst, ◌∙◌, arith, inl, inr, ◌⊎◌}
use Rattle.std.specs.Prelude.{is_some, nat_lt}
use Rattle.std.specs.List.{list_any}
use Rattle.std.specs.Char.Escape.{encode_utf16}
use Rattle.std.specs.Char.Utf16.{has_unpaired_surrogate, surrogate_pair_char, utf16_chars}
use Rattle.std.specs.Char.{IsScalar}
use Rattle.std.proofs.lemmas.Bool.{cases_lt, lt-ltb, le-ltb, ltb-true}
use Rattle.std.proofs.str.Utf16.{lone_unit_char_low, lone_unit_char_high, lone_unit_char_surrogate, utf16_chars_lone, utf16_chars_pair}
use Rattle.rip_base.specs.Text.{IsUtf16}
use Rattle.rip_data.specs.Datum.{utf8_of}
use Rattle.rip_data.specs.Written.{IsPair}
use Rattle.rip_convert.specs.Arguments.{are_units}
use Rattle.rip_convert.proofs.Telling.{IsSpelt}
use Rattle.rip_convert.proofs.Chars.{scalar-low, scalar-high}

and_first : (a b : Bool) → a && b ≡ true → a ≡ true
and_first true b h = refl
and_first false b h = absurd (cc)

and_second : (a b : Bool) → a && b ≡ true → b ≡ true
and_second true b h = h
and_second false b h = absurd (cc)

pair? : (u v : ℕ) → IsPair u v ⊎ ¬ (IsPair u v)
pair? u v = elim (cases_lt u 0xD800) [
  | inl a ↦ inr (λ p. absurd (omega (arith, a, p.0)))
  | inr a ↦ elim (cases_lt u 0xDC00) [
    | inr b ↦ inr (λ p. absurd (omega (arith, b, p.1)))
    | inl b ↦ elim (cases_lt v 0xDC00) [
      | inl d ↦ inr (λ p. absurd (omega (arith, d, p.2)))
      | inr d ↦ elim (cases_lt v 0xE000) [
        | inl e ↦ inl (a, b, d, e)
        | inr e ↦ inr (λ p. absurd (omega (arith, e, p.3)))
      ]
    ]
  ]
]

more : (c : ℕ) (us : List ℕ) → IsScalar c → IsUtf16 us → IsUtf16 (encode_utf16 c ++ us)
more c us one h = (c ∷ h.0, (ap₂ (λ x y. x && y) one h.1.0, ap (λ l. encode_utf16 c ++ l) h.1.1))

unit_alone : (u : ℕ) → u < 65536 → encode_utf16 u ≡ u ∷ []
unit_alone u h = rw (lt-ltb u 65536 h) refl

pair_units : (u v : ℕ) → IsPair u v → encode_utf16 (surrogate_pair_char u v) ≡ u ∷ v ∷ []
pair_units u v p =
    let c = surrogate_pair_char u v in
    let high : 65536 ≤ c = omega (arith, p.0, p.2) in
    let first : 0xD800 + (c - 65536) / 1024 ≡ u = omega (arith, p.0, p.1, p.2, p.3) in
    let second : 0xDC00 + (c - 65536) % 1024 ≡ v = omega (arith, p.0, p.1, p.2, p.3) in
    rw (le-ltb c 65536 high) (ap₂ (λ x y. x ∷ y ∷ []) first second)

-- after a unit that is in no pair
alone_step : (u : ℕ) (us : List ℕ) → u < 65536 → ¬ (IsPair u (get_or us 0 0)) → has_unpaired_surrogate (u ∷ us) ≡ false → (has_unpaired_surrogate us ≡ false → IsUtf16 us) → IsUtf16 (u ∷ us)
alone_step u us small alone none further = elim (cases_lt u 0xD800) [
  | inl low ↦
      let chars = utf16_chars_lone u us alone ∙ ap (λ o. o ∷ utf16_chars us) (lone_unit_char_low u low) in
      let rest : has_unpaired_surrogate us ≡ false = sym (ap (list_any (λ o. not (is_some o))) chars) ∙ none in
      subst (λ l. IsUtf16 (l ++ us)) (unit_alone u small) (more u us (scalar-low u low) (further rest))
  | inr from ↦ elim (cases_lt u 0xE000) [
    | inl below ↦
        let chars = utf16_chars_lone u us alone ∙ ap (λ o. o ∷ utf16_chars us) (lone_unit_char_surrogate u from below) in
        absurd (let e : true ≡ false = sym (ap (list_any (λ o. not (is_some o))) chars) ∙ none in cc)
    | inr high ↦
        let chars = utf16_chars_lone u us alone ∙ ap (λ o. o ∷ utf16_chars us) (lone_unit_char_high u high) in
        let rest : has_unpaired_surrogate us ≡ false = sym (ap (list_any (λ o. not (is_some o))) chars) ∙ none in
        subst (λ l. IsUtf16 (l ++ us)) (unit_alone u small) (more u us (scalar-high u high (omega (arith, small))) (further rest))
  ]
]

whole : (fuel : ℕ) (us : List ℕ) → length us ≤ fuel → ((k : ℕ) → get_or us k 0 < 65536) → has_unpaired_surrogate us ≡ false → IsUtf16 us
whole fuel [] h all none = ([], (refl, refl))
whole zero (u ∷ us) h all none = absurd (omega (arith, h))
whole (suc fuel) (u ∷ []) h all none =
    alone_step u [] (all 0) (λ p. absurd (let high : 56320 ≤ 0 = p.2 in omega (arith, high))) none (whole fuel [] (omega arith) (λ k. all (suc k)))
whole (suc fuel) (u ∷ v ∷ us) h all none = elim (pair? u v) [
  | inl p ↦
      let chars = utf16_chars_pair u v us p in
      let rest : has_unpaired_surrogate us ≡ false = sym (ap (list_any (λ o. not (is_some o))) chars) ∙ none in
      let tail = λ (k : ℕ). all (suc (suc k)) in
      let c = surrogate_pair_char u v in
      let is : IsScalar c = scalar-high c (omega (arith, p.0, p.2)) (omega (arith, p.0, p.1, p.2, p.3)) in
      let joined : encode_utf16 c ++ us ≡ u ∷ v ∷ us = ap (λ l. l ++ us) (pair_units u v p) in
      subst IsUtf16 joined (more c us is (whole fuel us (omega (arith, h)) tail rest))
  | inr alone ↦ alone_step u (v ∷ us) (all 0) alone none (whole fuel (v ∷ us) (omega (arith, h)) (λ k. all (suc k)))
]

-- the test of units, and what it says
units-below : (us : List ℕ) → are_units us ≡ true → (k : ℕ) → get_or us k 0 < 65536
units-below [] h k = omega arith
units-below (u ∷ us) h zero = ltb-true u 65536 (and_first (nat_lt u 65536) (are_units us) h)
units-below (u ∷ us) h (suc k) = units-below us (and_second (nat_lt u 65536) (are_units us) h) k

pub are_units_of : (us : List ℕ) → ((k : ℕ) → get_or us k 0 < 65536) → are_units us ≡ true
are_units_of [] all = refl
are_units_of (u ∷ us) all = ap₂ (λ x y. x && y) (lt-ltb u 65536 (all 0)) (are_units_of us (λ k. all (suc k)))

pub spelt_of : (us : List ℕ) → are_units us ≡ true → has_unpaired_surrogate us ≡ false → IsSpelt (utf8_of us)
spelt_of us are none = (us, (whole (length us) us (omega arith) (units-below us are) none, refl))
