-- The characters of a text, its UTF-8, and their order.
use Rattle.std.proofs.Common.{◌≡◌, ◌≢◌, ℕ, ◌+◌, ◌/◌, ◌<◌, ◌≤◌, Bool, true, false, cond, not, ◌&&◌, Option, None, Some, List, [], ◌∷◌, ◌++◌, length, map, drop, Less, Equal, Greater, get_or, refl, sym, ap, ◌∙◌, arith, inl, inr, ◌⊎◌}
use Rattle.std.specs.Prelude.{unwrap_or, is_some}
use Rattle.std.specs.Option.{SomeIff}
use Rattle.std.specs.List.{list_any}
use Rattle.std.specs.Char.{IsScalar}
use Rattle.std.specs.Char.Utf16.{has_unpaired_surrogate, is_high_surrogate, is_low_surrogate, lone_unit_char, surrogate_pair_char, utf16_chars}
use Rattle.std.specs.Cmp.Lexicographic.{slice_cmp}
use Rattle.std.specs.Cmp.{nat_cmp_is}
use Rattle.std.specs.Ordering.{nat_cmp, ordering_then}
use Rattle.std.proofs.lemmas.List.{at_drop_all}
use Rattle.std.specs.Str.{encode_utf8_all}
use Rattle.std.proofs.lemmas.Bool.{cases_lt, lt-ltb, le-ltb, le-leb, lt-leb}
use Rattle.std.proofs.str.Utf16.{lone_unit_char_low, lone_unit_char_high, lone_unit_char_surrogate, utf16_chars-nil, utf16_chars_lone, utf16_chars_pair}
use lib.Utf8.{encode, next}
use Rattle.rip_data.specs.Datum.{utf8_of}
use Rattle.rip_data.specs.Written.{IsPair}

-- UNITS

pub scalar-low : (u : ℕ) → u < 55296 → IsScalar u
scalar-low u h = rw (lt-ltb u 55296 h) refl

pub scalar-high : (u : ℕ) → 57344 ≤ u → u < 1114112 → IsScalar u
scalar-high u h k = rw (le-ltb u 55296 (omega (arith, h)), le-leb 57344 u h, lt-ltb u 1114112 k) refl

not-scalar : (u : ℕ) → 55296 ≤ u → u < 57344 → ¬ (IsScalar u)
not-scalar u h k e = absurd (let f = rw (le-ltb u 55296 h, lt-leb 57344 u k) at e in cc)

-- a unit that is in no pair
lone_is : (u : ℕ) (r : Option ℕ) → u < 65536 → SomeIff r (IsScalar u) u → lone_unit_char u ≡ r
lone_is u None small h = elim (cases_lt u 0xD800) [
  | inl low ↦ absurd (h (scalar-low u low))
  | inr from ↦ elim (cases_lt u 0xE000) [
    | inl below ↦ lone_unit_char_surrogate u from below
    | inr high ↦ absurd (h (scalar-high u high (omega (arith, small))))
  ]
]
lone_is u (Some c) small h = elim (cases_lt u 0xD800) [
  | inl low ↦ lone_unit_char_low u low ∙ ap Some (sym h.1)
  | inr from ↦ elim (cases_lt u 0xE000) [
    | inl below ↦ absurd (not-scalar u from below h.0)
    | inr high ↦ lone_unit_char_high u high ∙ ap Some (sym h.1)
  ]
]

pub lone : (u : ℕ) (us : List ℕ) (r : Option ℕ) → u < 65536 → ¬ (IsPair u (get_or us 0 0)) → SomeIff r (IsScalar u) u → utf16_chars (u ∷ us) ≡ r ∷ utf16_chars us
lone u us r small alone h = utf16_chars_lone u us alone ∙ ap (λ o. o ∷ utf16_chars us) (lone_is u r small h)

pub pair : (u v c : ℕ) (us : List ℕ) (r : Option ℕ) → IsPair u v → c ≡ surrogate_pair_char u v → 0x10000 ≤ c → c < 0x110000 → SomeIff r (IsScalar c) c → utf16_chars (u ∷ v ∷ us) ≡ r ∷ utf16_chars us
pair u v c us None p is low high h = absurd (h (scalar-high c (omega (arith, low)) high))
pair u v c us (Some d) p is low high h = utf16_chars_pair u v us p ∙ ap (λ e. Some e ∷ utf16_chars us) (sym is ∙ sym h.1)

pub unpaired : (us rest : List ℕ) → utf16_chars us ≡ None ∷ utf16_chars rest → has_unpaired_surrogate us ≡ true
unpaired us rest e = ap (list_any (λ o. not (is_some o))) e

pub paired : (us rest : List ℕ) (c : ℕ) → utf16_chars us ≡ Some c ∷ utf16_chars rest → has_unpaired_surrogate us ≡ has_unpaired_surrogate rest
paired us rest c e = ap (list_any (λ o. not (is_some o))) e

pub none_unpaired : has_unpaired_surrogate [] ≡ false
none_unpaired = ap (list_any (λ o. not (is_some o))) utf16_chars-nil

-- UTF-8

pub utf8_nil : utf8_of [] ≡ []
utf8_nil = ap (λ os. encode_utf8_all (map (λ o. unwrap_or o 0xFFFD) os)) utf16_chars-nil

-- the bytes of the first character, and those of the rest
pub utf8_step : (us rest : List ℕ) (o : Option ℕ) → utf16_chars us ≡ o ∷ utf16_chars rest → utf8_of us ≡ encode (unwrap_or o 0xFFFD) ++ utf8_of rest
utf8_step us rest o e = ap (λ os. encode_utf8_all (map (λ o. unwrap_or o 0xFFFD) os)) e

encode_some : (c : ℕ) → (x : ℕ) × ((xs : List ℕ) × (encode c ≡ x ∷ xs))
unfolding encode
encode_some c = by (_) (_) (_)
  where
    by : (a b d : Bool) → (x : ℕ) × ((xs : List ℕ) × (cond a (c ∷ []) (cond b ((192 + c / 64) ∷ next c ∷ []) (cond d ((224 + c / 4096) ∷ next (c / 64) ∷ next c ∷ []) ((240 + c / 262144) ∷ next (c / 4096) ∷ next (c / 64) ∷ next c ∷ []))) ≡ x ∷ xs))
    by true b d = (c, ([], refl))
    by false true d = (192 + c / 64, (next c ∷ [], refl))
    by false false true = (224 + c / 4096, (next (c / 64) ∷ next c ∷ [], refl))
    by false false false = (240 + c / 262144, (next (c / 4096) ∷ next (c / 64) ∷ next c ∷ [], refl))

first_char : (u : ℕ) (us : List ℕ) → (o : Option ℕ) × ((os : List (Option ℕ)) × (utf16_chars (u ∷ us) ≡ o ∷ os))
unfolding utf16_chars
first_char u [] = (lone_unit_char u, ([], refl))
first_char u (v ∷ us) = by (is_high_surrogate u && is_low_surrogate v)
  where
    by : (b : Bool) → (o : Option ℕ) × ((os : List (Option ℕ)) × (cond b (Some (surrogate_pair_char u v) ∷ utf16_chars us) (lone_unit_char u ∷ utf16_chars (v ∷ us)) ≡ o ∷ os))
    by true = (Some (surrogate_pair_char u v), (utf16_chars us, refl))
    by false = (lone_unit_char u, (utf16_chars (v ∷ us), refl))

-- a text that is not empty has bytes
utf8_some : (us : List ℕ) → 0 < length us → (x : ℕ) × ((xs : List ℕ) × (utf8_of us ≡ x ∷ xs))
utf8_some [] h = absurd (omega (arith, h))
utf8_some (u ∷ us) h =
    let first = first_char u us in
    let c = unwrap_or first.0 0xFFFD in
    let rest = encode_utf8_all (map (λ o. unwrap_or o 0xFFFD) first.1.0) in
    let bytes : utf8_of (u ∷ us) ≡ encode c ++ rest = ap (λ os. encode_utf8_all (map (λ o. unwrap_or o 0xFFFD) os)) first.1.1 in
    let some = encode_some c in
    (some.0, (some.1.0 ++ rest, bytes ∙ ap (λ l. l ++ rest) some.1.1))

pub longer : (us : List ℕ) → 0 < length us → slice_cmp nat_cmp (utf8_of us) [] ≡ Greater
longer us h = let some = utf8_some us h in ap (λ l. slice_cmp nat_cmp l []) some.1.1

pub shorter : (us : List ℕ) → 0 < length us → slice_cmp nat_cmp [] (utf8_of us) ≡ Less
shorter us h = let some = utf8_some us h in ap (λ l. slice_cmp nat_cmp [] l) some.1.1

-- ORDER

-- at the first place where the lists differ, which both have, the first is less
abbrev IsUnder : List ℕ → List ℕ → Type 0
IsUnder [] ys = ⊥
IsUnder (x ∷ xs) [] = ⊥
IsUnder (x ∷ xs) (y ∷ ys) = (x < y) ⊎ ((x ≡ y) × IsUnder xs ys)

nat_less : (x y : ℕ) → x < y → nat_cmp x y ≡ Less
nat_less x y h = sym (nat_cmp_is x y Less h)

nat_greater : (x y : ℕ) → y < x → nat_cmp x y ≡ Greater
nat_greater x y h = sym (nat_cmp_is x y Greater h)

nat_same : (x : ℕ) → nat_cmp x x ≡ Equal
nat_same x = sym (nat_cmp_is x x Equal refl)

under_less : (xs ys r s : List ℕ) → IsUnder xs ys → slice_cmp nat_cmp (xs ++ r) (ys ++ s) ≡ Less
under_less [] ys r s h = absurd h
under_less (x ∷ xs) [] r s h = absurd h
under_less (x ∷ xs) (y ∷ ys) r s (inl h) = ap (λ o. ordering_then o (slice_cmp nat_cmp (xs ++ r) (ys ++ s))) (nat_less x y h)
under_less (x ∷ xs) (y ∷ ys) r s (inr h) =
    ap (λ z. ordering_then (nat_cmp x z) (slice_cmp nat_cmp (xs ++ r) (ys ++ s))) (sym h.0)
    ∙ ap (λ o. ordering_then o (slice_cmp nat_cmp (xs ++ r) (ys ++ s))) (nat_same x) ∙ under_less xs ys r s h.1

under_greater : (xs ys r s : List ℕ) → IsUnder xs ys → slice_cmp nat_cmp (ys ++ s) (xs ++ r) ≡ Greater
under_greater [] ys r s h = absurd h
under_greater (x ∷ xs) [] r s h = absurd h
under_greater (x ∷ xs) (y ∷ ys) r s (inl h) = ap (λ o. ordering_then o (slice_cmp nat_cmp (ys ++ s) (xs ++ r))) (nat_greater y x h)
under_greater (x ∷ xs) (y ∷ ys) r s (inr h) =
    ap (λ z. ordering_then (nat_cmp z x) (slice_cmp nat_cmp (ys ++ s) (xs ++ r))) (sym h.0)
    ∙ ap (λ o. ordering_then o (slice_cmp nat_cmp (ys ++ s) (xs ++ r))) (nat_same x) ∙ under_greater xs ys r s h.1

one : (c : ℕ) → c < 128 → encode c ≡ c ∷ []
unfolding encode
one c h = rw (lt-ltb c 128 h) refl

two : (c : ℕ) → 128 ≤ c → c < 2048 → encode c ≡ (192 + c / 64) ∷ next c ∷ []
unfolding encode
two c l h = rw (le-ltb c 128 l, lt-ltb c 2048 h) refl

three : (c : ℕ) → 2048 ≤ c → c < 65536 → encode c ≡ (224 + c / 4096) ∷ next (c / 64) ∷ next c ∷ []
unfolding encode
three c l h = rw (le-ltb c 128 (omega (arith, l)), le-ltb c 2048 l, lt-ltb c 65536 h) refl

four : (c : ℕ) → 65536 ≤ c → encode c ≡ (240 + c / 262144) ∷ next (c / 4096) ∷ next (c / 64) ∷ next c ∷ []
unfolding encode
four c l = rw (le-ltb c 128 (omega (arith, l)), le-ltb c 2048 (omega (arith, l)), le-ltb c 65536 l) refl

-- a lesser first number, or the same and what follows
then_under : (x y : ℕ) (xs ys : List ℕ) → x ≤ y → (x ≡ y → IsUnder xs ys) → IsUnder (x ∷ xs) (y ∷ ys)
then_under x y xs ys h further = elim (cases_lt x y) [
  | inl less ↦ inl less
  | inr more ↦ (let e : x ≡ y = omega (arith, h, more) in inr (e, further e))
]

under_two : (c d : ℕ) → c < d → IsUnder ((192 + c / 64) ∷ next c ∷ []) ((192 + d / 64) ∷ next d ∷ [])
under_two c d h = then_under _ _ (next c ∷ []) (next d ∷ []) (omega (arith, h)) (λ e. inl (omega (arith, h, e)))

under_three : (c d : ℕ) → c < d → IsUnder ((224 + c / 4096) ∷ next (c / 64) ∷ next c ∷ []) ((224 + d / 4096) ∷ next (d / 64) ∷ next d ∷ [])
under_three c d h =
    then_under _ _ (next (c / 64) ∷ next c ∷ []) (next (d / 64) ∷ next d ∷ []) (omega (arith, h)) (λ e.
    then_under _ _ (next c ∷ []) (next d ∷ []) (omega (arith, h, e)) (λ f. inl (omega (arith, h, e, f))))

under_four : (c d : ℕ) → c < d → IsUnder ((240 + c / 262144) ∷ next (c / 4096) ∷ next (c / 64) ∷ next c ∷ []) ((240 + d / 262144) ∷ next (d / 4096) ∷ next (d / 64) ∷ next d ∷ [])
under_four c d h =
    then_under _ _ (next (c / 4096) ∷ next (c / 64) ∷ next c ∷ []) (next (d / 4096) ∷ next (d / 64) ∷ next d ∷ []) (omega (arith, h)) (λ e.
    then_under _ _ (next (c / 64) ∷ next c ∷ []) (next (d / 64) ∷ next d ∷ []) (omega (arith, h, e)) (λ f.
    then_under _ _ (next c ∷ []) (next d ∷ []) (omega (arith, h, e, f)) (λ g. inl (omega (arith, h, e, f, g)))))

-- the bytes of a lesser character are less
under : (c d : ℕ) → c < d → IsUnder (encode c) (encode d)
under c d h = elim (cases_lt c 128) [
  | inl c1 ↦ elim (cases_lt d 128) [
    | inl d1 ↦ rw (one c c1, one d d1) (inl h)
    | inr d1 ↦ elim (cases_lt d 2048) [
      | inl d2 ↦ rw (one c c1, two d d1 d2) (inl (omega (arith, c1)))
      | inr d2 ↦ elim (cases_lt d 65536) [
        | inl d3 ↦ rw (one c c1, three d d2 d3) (inl (omega (arith, c1)))
        | inr d3 ↦ rw (one c c1, four d d3) (inl (omega (arith, c1)))
      ]
    ]
  ]
  | inr c1 ↦ elim (cases_lt c 2048) [
    | inl c2 ↦ elim (cases_lt d 2048) [
      | inl d2 ↦ rw (two c c1 c2, two d (omega (arith, c1, h)) d2) (under_two c d h)
      | inr d2 ↦ elim (cases_lt d 65536) [
        | inl d3 ↦ rw (two c c1 c2, three d d2 d3) (inl (omega (arith, c2)))
        | inr d3 ↦ rw (two c c1 c2, four d d3) (inl (omega (arith, c2)))
      ]
    ]
    | inr c2 ↦ elim (cases_lt c 65536) [
      | inl c3 ↦ elim (cases_lt d 65536) [
        | inl d3 ↦ rw (three c c2 c3, three d (omega (arith, c2, h)) d3) (under_three c d h)
        | inr d3 ↦ rw (three c c2 c3, four d d3) (inl (omega (arith, c3)))
      ]
      | inr c3 ↦ rw (four c c3, four d (omega (arith, c3, h))) (under_four c d h)
    ]
  ]
]

-- two texts whose first characters differ
pub by_first : (a b ra rb : List ℕ) (c d : ℕ) → a ≡ encode c ++ ra → b ≡ encode d ++ rb → c ≢ d → slice_cmp nat_cmp a b ≡ nat_cmp c d
by_first a b ra rb c d are bre other = elim (cases_lt c d) [
  | inl less ↦ rw (are, bre) (under_less (encode c) (encode d) ra rb (under c d less) ∙ sym (nat_less c d less))
  | inr from ↦
      let more : d < c = omega (arith, from, other) in
      rw (are, bre) (under_greater (encode d) (encode c) rb ra (under d c more) ∙ sym (nat_greater c d more))
]

same_front : (xs r s : List ℕ) → slice_cmp nat_cmp (xs ++ r) (xs ++ s) ≡ slice_cmp nat_cmp r s
same_front [] r s = refl
same_front (x ∷ xs) r s = ap (λ o. ordering_then o (slice_cmp nat_cmp (xs ++ r) (xs ++ s))) (nat_same x) ∙ same_front xs r s

-- and two whose first characters are the same
pub by_rest : (a b ra rb : List ℕ) (c d : ℕ) → a ≡ encode c ++ ra → b ≡ encode d ++ rb → c ≡ d → slice_cmp nat_cmp a b ≡ slice_cmp nat_cmp ra rb
by_rest a b ra rb c d are bre same = rw (are, bre, same) (same_front (encode d) ra rb)

-- past the end there is no byte
pub utf8_end : (us : List ℕ) (i : ℕ) → length us ≤ i → utf8_of (drop i us) ≡ []
utf8_end us i h = at_drop_all utf8_of us i h ∙ utf8_nil

pub unpaired_end : (us : List ℕ) (i : ℕ) → length us ≤ i → has_unpaired_surrogate (drop i us) ≡ false
unpaired_end us i h = at_drop_all has_unpaired_surrogate us i h ∙ none_unpaired
