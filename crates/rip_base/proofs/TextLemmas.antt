-- Characters in UTF-16 are read back, so that bytes and units of one text determine each other.
use Rattle.std.proofs.Common.{◌≡◌, ℕ, ◌+◌, ◌-◌, ◌/◌, ◌%◌, ◌<◌, ◌≤◌, true, false, not, ◌⊎◌, inl, inr, List, [], ◌∷◌, ◌++◌, map, Some, refl, sym, ap, ◌∙◌, subst, arith, get_or}
use Rattle.std.specs.List.{list_any}
use Rattle.std.specs.Option.{is_some}
use Rattle.std.specs.Char.Escape.{encode_utf16}
use Rattle.std.specs.Char.Utf16.{utf16_chars, lone_unit_char, surrogate_pair_char, has_unpaired_surrogate}
use Rattle.std.specs.Str.{IsUtf8, chars, encode_utf8_all, all_scalars}
use Rattle.std.proofs.str.Utf16.{one_unit, two_units, lone_unit_char_low, lone_unit_char_high, IsPair, utf16_chars-nil, utf16_chars_lone, utf16_chars_pair}
use Rattle.std.proofs.str.Laws.{both}
use Rattle.std.specs.String.{IsUtf16Of}
use Rattle.std.proofs.lemmas.Str.{encodes_same, scalars-chars, encodes-chars}
use Rattle.std.proofs.Math.Utf8.{scalar_cases}
use Rattle.rip_base.specs.Text.{encode_utf16_all, IsUtf16, IsSameText}

-- a unit that is no surrogate is read as itself
read_lone : (c : ℕ) (us : List ℕ) → c < 0x1_0000 → lone_unit_char c ≡ Some c → ¬ (IsPair c (get_or us 0 0)) → utf16_chars (encode_utf16 c ++ us) ≡ Some c ∷ utf16_chars us
read_lone c us small is apart =
    ap (λ w. utf16_chars (w ++ us)) (one_unit c small) ∙ utf16_chars_lone c us apart ∙ ap (λ o. o ∷ utf16_chars us) is

-- the two units of a character past U+FFFF are read as it
read_pair : (c : ℕ) (us : List ℕ) → 0x1_0000 ≤ c → c < 0x11_0000 → utf16_chars (encode_utf16 c ++ us) ≡ Some c ∷ utf16_chars us
read_pair c us high below =
    let u = 0xD800 + (c - 0x1_0000) / 0x400 in
    let v = 0xDC00 + (c - 0x1_0000) % 0x400 in
    let pair : IsPair u v = (omega arith, omega arith, omega arith, omega arith) in
    let same : surrogate_pair_char u v ≡ c = omega arith in
    ap (λ w. utf16_chars (w ++ us)) (two_units c high) ∙ utf16_chars_pair u v us pair ∙ ap (λ x. Some x ∷ utf16_chars us) same

from_wide : (c : ℕ) (us : List ℕ) → 57344 ≤ c → c < 1114112 → (c < 0x1_0000) ⊎ (0x1_0000 ≤ c) → utf16_chars (encode_utf16 c ++ us) ≡ Some c ∷ utf16_chars us
from_wide c us high below (inl small) = read_lone c us small (lone_unit_char_high c high) (λ pair. omega arith)
from_wide c us high below (inr wide) = read_pair c us wide below

small_or_wide : (c : ℕ) → (c < 0x1_0000) ⊎ (0x1_0000 ≤ c)
small_or_wide c = search arith

-- the units of a character are read as that character, whatever follows
utf16_chars-encode : (c : ℕ) (us : List ℕ) → (c < 55296) ⊎ ((57344 ≤ c) × (c < 1114112)) → utf16_chars (encode_utf16 c ++ us) ≡ Some c ∷ utf16_chars us
utf16_chars-encode c us (inl low) = read_lone c us (omega arith) (lone_unit_char_low c low) (λ pair. omega arith)
utf16_chars-encode c us (inr h) = from_wide c us h.0 h.1 (small_or_wide c)

-- the UTF-16 of characters is read as those characters
pub utf16_chars-encode_utf16_all : (cs : List ℕ) → all_scalars cs ≡ true → utf16_chars (encode_utf16_all cs) ≡ map Some cs
utf16_chars-encode_utf16_all [] s = utf16_chars-nil
utf16_chars-encode_utf16_all (c ∷ cs) s =
    let parts = both _ _ s in
    utf16_chars-encode c (encode_utf16_all cs) (scalar_cases c parts.0) ∙ ap (λ os. Some c ∷ os) (utf16_chars-encode_utf16_all cs parts.1)

same_from_map_some : (cs ds : List ℕ) → map Some cs ≡ map Some ds → cs ≡ ds
same_from_map_some [] [] e = refl
same_from_map_some [] (d ∷ ds) e = cc
same_from_map_some (c ∷ cs) [] e = cc
same_from_map_some (c ∷ cs) (d ∷ ds) e =
    let first : c ≡ d = cc in
    let rest : map Some cs ≡ map Some ds = cc in
    let more : cs ≡ ds = same_from_map_some cs ds rest in
    cc

-- units are the UTF-16 of one list of characters alone
pub encode_utf16_all_same : (cs ds : List ℕ) → all_scalars cs ≡ true → all_scalars ds ≡ true → encode_utf16_all cs ≡ encode_utf16_all ds → cs ≡ ds
encode_utf16_all_same cs ds s t e =
    same_from_map_some cs ds (sym (utf16_chars-encode_utf16_all cs s) ∙ ap utf16_chars e ∙ utf16_chars-encode_utf16_all ds t)

none_alone : (cs : List ℕ) → list_any (λ o. not (is_some o)) (map Some cs) ≡ false
none_alone [] = refl
none_alone (c ∷ cs) = none_alone cs

-- UTF-16 has no surrogate without its partner
pub no_surrogate_alone : (us : List ℕ) → has_unpaired_surrogate us ≡ true → IsUtf16 us → ⊥
no_surrogate_alone us alone is =
    let read : utf16_chars us ≡ map Some is.0 = ap utf16_chars (sym is.1.1) ∙ utf16_chars-encode_utf16_all is.0 is.1.0 in
    let none : has_unpaired_surrogate us ≡ false = ap (list_any (λ o. not (is_some o))) read ∙ none_alone is.0 in
    cc

-- the bytes of a text are those that its units have
pub IsSameText-bytes : (units bytes other : List ℕ) → IsSameText bytes units → IsSameText other units → other ≡ bytes
IsSameText-bytes units bytes other s t =
    sym t.in_bytes ∙ ap encode_utf8_all (encode_utf16_all_same t.characters s.characters t.are s.are (t.in_units ∙ sym s.in_units)) ∙ s.in_bytes

-- the units of a text are those that its bytes have
pub IsSameText-units : (bytes units other : List ℕ) → IsSameText bytes units → IsSameText bytes other → other ≡ units
IsSameText-units bytes units other s t =
    sym t.in_units ∙ ap encode_utf16_all (encodes_same t.characters s.characters (t.in_bytes ∙ sym s.in_bytes)) ∙ s.in_units

-- the characters of UTF-8 in UTF-16 are that text
pub IsSameText-chars : (bytes units : List ℕ) → IsUtf8 bytes → units ≡ encode_utf16_all (chars bytes) → IsSameText bytes units
IsSameText-chars bytes units u e =
    record { characters = chars bytes; are = scalars-chars bytes u; in_bytes = encodes-chars bytes u; in_units = sym e }

-- what is read from units, where it is UTF-8, is that text
pub IsSameText-read : (units bytes : List ℕ) → IsUtf8 bytes → IsUtf16Of units bytes → IsSameText bytes units
IsSameText-read units bytes u h =
    let same : u.0 ≡ h.0 = encodes_same u.0 h.0 (u.1.1 ∙ h.2) in
    record { characters = h.0; are = subst (λ cs. all_scalars cs ≡ true) same u.1.0; in_bytes = sym h.2; in_units = sym h.1 }
