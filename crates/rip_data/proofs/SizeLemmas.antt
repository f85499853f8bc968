-- The bytes that a text takes, and those of elements and fields.
use Rattle.std.proofs.Common.{◌≡◌, ℕ, suc, ◌+◌, ◌<◌, ◌≤◌, ◌≢◌, ◌==◌, true, false, cond, min, List, [], ◌∷◌, ◌++◌, length, get_or, map, Some, None, Option, inl, inr, refl, sym, ap, ap₂, ◌∙◌, arith, append_assoc, append-nil, length-append}
use Rattle.std.specs.Prelude.{unwrap_or}
use Rattle.std.specs.Char.{len_utf8}
use Rattle.std.specs.Str.{encode_utf8_all}
use Rattle.std.specs.Char.Utf16.{utf16_chars, surrogate_pair_char}
use Rattle.std.proofs.str.Utf16.{lone_unit_char_low, lone_unit_char_high, lone_unit_char_surrogate, utf16_chars-nil, utf16_chars_lone, utf16_chars_pair}
use Rattle.std.proofs.lemmas.Bool.{cases_lt, lt-ltb, le-ltb, ne_eqb}
use Rattle.std.proofs.lemmas.Str.{encode_ascii, inside_one, length-encode}
use lib.Utf8.{encode}
use Rattle.json.specs.Print.{escape_byte, escape, quoted}
use Rattle.json.proofs.Printed.Strings.{escape_byte_plain}
use Rattle.serde_json.specs.Written.{items_text, members_text}
use Rattle.rip_data.specs.Datum.{tree_of, items_of, elements_of, fields_of, array, object, utf8_of, canonical_text}
use Rattle.rip_data.specs.Written.{escaped_length, elements_length, fields_length, fields_data, IsPair}
use Rattle.rip_data.specs.declared.datum.Datum.{Datum}

escape-append : (xs ys : List ℕ) → escape (xs ++ ys) ≡ escape xs ++ escape ys
escape-append [] ys = refl
escape-append (x ∷ xs) ys = ap (λ l. escape_byte x ++ l) (escape-append xs ys) ∙ sym (append_assoc (escape_byte x) _ _)

escape_high : (xs : List ℕ) → ((k : ℕ) → k < length xs → 128 ≤ get_or xs k 0) → escape xs ≡ xs
escape_high [] h = refl
escape_high (x ∷ xs) h =
    let high : 128 ≤ x = h 0 (omega arith) in
    ap₂ (λ (a b : List ℕ). a ++ b) (escape_byte_plain x (λ e. omega arith) (λ e. omega arith) (omega arith)) (escape_high xs (λ k below. h (suc k) (omega arith)))

-- past ASCII, a character stands as it is
escape-encode : (c : ℕ) → 128 ≤ c → length (escape (encode c)) ≡ len_utf8 c
escape-encode c big =
    let high : (k : ℕ) → k < length (encode c) → 128 ≤ get_or (encode c) k 0 = λ k below. elim (cases_lt (get_or (encode c) k 0) 128) [
      | inl low ↦ absurd (omega (arith, inside_one c [] (encode c) k (sym (append-nil _)) below low))
      | inr h ↦ h
    ] in
    ap length (escape_high (encode c) high) ∙ length-encode c

-- the bytes of the first character, and of the rest
first_then : (c : ℕ) (o : Option ℕ) (us rest : List ℕ) → utf16_chars us ≡ o ∷ utf16_chars rest → unwrap_or o 0xFFFD ≡ c → escaped_length us ≡ length (escape (encode c)) + escaped_length rest
first_then c o us rest first is =
    let bytes : utf8_of us ≡ encode c ++ utf8_of rest =
    ap (λ os. encode_utf8_all (map (λ o. unwrap_or o 0xFFFD) os)) first ∙ ap (λ d. encode d ++ utf8_of rest) is in
    ap (λ l. length (escape l)) bytes ∙ ap length (escape-append (encode c) (utf8_of rest)) ∙ length-append (escape (encode c)) (escape (utf8_of rest))

pub escaped_length-nil : escaped_length [] ≡ 0
escaped_length-nil = ap (λ os. length (escape (encode_utf8_all (map (λ o. unwrap_or o 0xFFFD) os)))) utf16_chars-nil

pub escaped_length-ascii : (u : ℕ) (us : List ℕ) → u < 128 → escaped_length (u ∷ us) ≡ length (escape_byte u) + escaped_length us
escaped_length-ascii u us small =
    first_then u (Some u) (u ∷ us) us (utf16_chars_lone u us (λ pair. omega arith) ∙ ap (λ o. o ∷ utf16_chars us) (lone_unit_char_low u (omega arith))) refl
    ∙ ap (λ l. length (escape l) + escaped_length us) (encode_ascii u small) ∙ ap (λ l. length l + escaped_length us) (append-nil (escape_byte u))

pub escaped_length-two : (u : ℕ) (us : List ℕ) → 128 ≤ u → u < 2048 → escaped_length (u ∷ us) ≡ 2 + escaped_length us
escaped_length-two u us big small =
    first_then u (Some u) (u ∷ us) us (utf16_chars_lone u us (λ pair. omega arith) ∙ ap (λ o. o ∷ utf16_chars us) (lone_unit_char_low u (omega arith))) refl
    ∙ ap (λ n. n + escaped_length us) (escape-encode u big ∙ rw (le-ltb u 128 big, lt-ltb u 2048 small))

three : (c : ℕ) → 2048 ≤ c → c < 65536 → length (escape (encode c)) ≡ 3
three c big small = escape-encode c (omega arith) ∙ rw (le-ltb c 128 (omega arith), le-ltb c 2048 big, lt-ltb c 65536 small)

-- a unit that is in no pair: its own character, or U+FFFD for a surrogate
pub escaped_length-three : (u : ℕ) (us : List ℕ) → 2048 ≤ u → u < 65536 → ¬ (IsPair u (get_or us 0 0)) → escaped_length (u ∷ us) ≡ 3 + escaped_length us
escaped_length-three u us big small alone = elim (cases_lt u 0xD800) [
  | inl low ↦
      first_then u (Some u) (u ∷ us) us (utf16_chars_lone u us alone ∙ ap (λ o. o ∷ utf16_chars us) (lone_unit_char_low u low)) refl
      ∙ ap (λ n. n + escaped_length us) (three u big small)
  | inr from ↦ elim (cases_lt u 0xE000) [
    | inl below ↦
        first_then 0xFFFD None (u ∷ us) us (utf16_chars_lone u us alone ∙ ap (λ o. o ∷ utf16_chars us) (lone_unit_char_surrogate u from below)) refl
        ∙ ap (λ n. n + escaped_length us) (three 0xFFFD (omega arith) (omega arith))
    | inr high ↦
        first_then u (Some u) (u ∷ us) us (utf16_chars_lone u us alone ∙ ap (λ o. o ∷ utf16_chars us) (lone_unit_char_high u high)) refl
        ∙ ap (λ n. n + escaped_length us) (three u big small)
  ]
]

pub escaped_length-pair : (u v : ℕ) (us : List ℕ) → IsPair u v → escaped_length (u ∷ v ∷ us) ≡ 4 + escaped_length us
escaped_length-pair u v us pair =
    let c = surrogate_pair_char u v in
    let big : 65536 ≤ c = omega arith in
    first_then c (Some c) (u ∷ v ∷ us) us (utf16_chars_pair u v us pair) refl
    ∙ ap (λ n. n + escaped_length us) (escape-encode c (omega arith) ∙ rw (le-ltb c 128 (omega arith), le-ltb c 2048 (omega arith), le-ltb c 65536 big))

-- the elements behind the first one
later_elements : (ds : List Datum) → length (items_text true (items_of (elements_of (map tree_of ds)))) ≡ 1 + elements_length ds
later_elements [] = refl
later_elements (d ∷ ds) =
    omega (arith, length-append (canonical_text (tree_of d)) (items_text true (items_of (elements_of (map tree_of ds)))), later_elements ds)

items_text-length : (d : Datum) (ds : List Datum) → length (items_text false (items_of (elements_of (map tree_of (d ∷ ds))))) ≡ elements_length (d ∷ ds)
items_text-length d ds =
    omega (arith, length-append (canonical_text (tree_of d)) (items_text true (items_of (elements_of (map tree_of ds)))), later_elements ds)

member_length : (k text rest : List ℕ) → length (quoted k ++ 58 ∷ (text ++ rest)) ≡ length (quoted k) + 1 + (length text + length rest)
member_length k text rest = omega (arith, length-append (quoted k) (58 ∷ (text ++ rest)), length-append text rest)

later_fields : (fs : List (List ℕ × Datum)) → length (members_text true (fields_data fs)) ≡ 1 + fields_length fs
later_fields [] = refl
later_fields (f ∷ fs) =
    omega (arith, member_length (utf8_of f.0) (canonical_text (tree_of f.1)) (members_text true (fields_data fs)), later_fields fs)

members_text-length : (f : List ℕ × Datum) (fs : List (List ℕ × Datum)) → length (members_text false (fields_data (f ∷ fs))) ≡ fields_length (f ∷ fs)
members_text-length f fs =
    omega (arith, member_length (utf8_of f.0) (canonical_text (tree_of f.1)) (members_text true (fields_data fs)), later_fields fs)

-- the bytes of an array, by those of its elements
pub array-length : (ds : List Datum) → length (canonical_text (array (elements_of (map tree_of ds)))) ≡ elements_length ds + cond (min (elements_length ds) 18446744073709551615 == 0) 2 1
array-length [] = refl
array-length (d ∷ ds) =
    let some : min (elements_length (d ∷ ds)) 18446744073709551615 ≢ 0 = λ e. omega arith in
    rw (ne_eqb _ 0 some) (omega (arith, items_text-length d ds))

-- the bytes of an object, by those of its fields
pub object-length : (fs : List (List ℕ × Datum)) → length (canonical_text (object (fields_of (map (λ f. (f.0, tree_of f.1)) fs)))) ≡ fields_length fs + cond (min (fields_length fs) 18446744073709551615 == 0) 2 1
object-length [] = refl
object-length (f ∷ fs) =
    let some : min (fields_length (f ∷ fs)) 18446744073709551615 ≢ 0 = λ e. omega arith in
    rw (ne_eqb _ 0 some) (omega (arith, members_text-length f fs))
