-- Texts of ASCII alone are the same in UTF-8 and in UTF-16.
use Rattle.std.proofs.Common.{◌≡◌, ℕ, zero, suc, ◌<◌, List, [], ◌∷◌, ◌++◌, ◌+◌, ◌-◌, ◌/◌, ◌%◌, Bool, true, false, cond, ◌&&◌, IsTrue, IsAscii, true≢false, refl, sym, ap, subst, ◌∙◌, arith, lt-ltb}
use Rattle.std.specs.List.{AllByRecursion, list_all}
use Rattle.std.specs.Str.{all_scalars, encode_utf8_all}
use Rattle.std.proofs.lemmas.Str.{IsUtf8-from_ascii, scalars-chars, chars-IsAscii, encodes-IsAscii}
use Rattle.rip_base.specs.Text.{IsUtf16, IsSameText, encode_utf16_all}
use Rattle.rip_data.specs.Datum.{utf8_of}
use Rattle.rip_data.proofs.DataLemmas.{utf8_of-IsSameText}
use Rattle.rip_wire.specs.Names.{is_name_letter, IsName}

abbrev pub AreAscii : List ℕ → Type 0
AreAscii us = AllByRecursion (λ u. u < 128) us

is_ascii : (us : List ℕ) → AreAscii us → IsAscii us
is_ascii [] h i = omega arith
is_ascii (u ∷ us) h zero = h.0
is_ascii (u ∷ us) h (suc i) = is_ascii us h.1 i

utf16-ascii : (us : List ℕ) → AreAscii us → encode_utf16_all us ≡ us
utf16-ascii [] h = refl
utf16-ascii (u ∷ us) h =
    ap (λ b. cond b (u ∷ []) ((0xD800 + (u - 0x1_0000) / 0x400) ∷ (0xDC00 + (u - 0x1_0000) % 0x400) ∷ []) ++ encode_utf16_all us) (lt-ltb u 0x1_0000 (omega (arith, h.0)))
    ∙ ap (λ l. u ∷ l) (utf16-ascii us h.1)

pub IsSameText-ascii : (us : List ℕ) → AreAscii us → IsSameText us us
IsSameText-ascii us h =
    let a = is_ascii us h in
    let u = IsUtf8-from_ascii us a in
    let scalars : all_scalars us ≡ true = subst (λ cs. all_scalars cs ≡ true) (chars-IsAscii us a) (scalars-chars us u) in
    let bytes : encode_utf8_all us ≡ us = encodes-IsAscii us a in
    record { characters = us; are = scalars; in_bytes = bytes; in_units = utf16-ascii us h }

pub utf8_of-ascii : (us : List ℕ) → AreAscii us → utf8_of us ≡ us
utf8_of-ascii us h = utf8_of-IsSameText us us (IsSameText-ascii us h)

pub IsUtf16-ascii : (us : List ℕ) → AreAscii us → IsUtf16 us
IsUtf16-ascii us h = let s = IsSameText-ascii us h in (s.characters, (s.are, s.in_units))

letter-ascii : (u : ℕ) → IsTrue (is_name_letter u) → u < 128
letter-ascii u h = grind arith

both : (a b : Bool) → IsTrue (a && b) → IsTrue a × IsTrue b
both true b h = (refl, h)
both false b h = absurd (true≢false (sym h))

letters-ascii : (us : List ℕ) → IsTrue (list_all is_name_letter us) → AreAscii us
letters-ascii [] h = tt
letters-ascii (u ∷ us) h = let p = both (is_name_letter u) (list_all is_name_letter us) h in (letter-ascii u p.0, letters-ascii us p.1)

pub IsUtf16-IsName : (name : List ℕ) → IsName name → IsUtf16 name
IsUtf16-IsName name h = IsUtf16-ascii name (letters-ascii name h.letters)
