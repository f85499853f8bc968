-- A text has no more units than bytes.
use Rattle.std.proofs.Common.{◌≡◌, ℕ, ◌+◌, ◌-◌, ◌/◌, ◌%◌, ◌<◌, ◌≤◌, Bool, true, false, cond, ◌⊎◌, inl, inr, List, [], ◌∷◌, length, length-append, sym, subst, arith}
use Rattle.std.specs.Prelude.{encode_utf8, nat_lt}
use Rattle.std.proofs.lemmas.Bool.{le-ltb}
use Rattle.std.specs.Char.Escape.{encode_utf16}
use Rattle.std.specs.Char.{len_utf8}
use Rattle.std.specs.Str.{encode_utf8_all}
use Rattle.std.proofs.lemmas.Str.{length-encode}
use Rattle.std.proofs.str.Utf16.{one_unit, two_units}
use Rattle.rip_base.specs.Text.{encode_utf16_all, IsSameText}

len_by : (a b e : Bool) → 1 ≤ cond a 1 (cond b 2 (cond e 3 4))
len_by true b e = omega arith
len_by false true e = omega arith
len_by false false true = omega arith
len_by false false false = omega arith

four_by : (a b e : Bool) → a ≡ false → b ≡ false → e ≡ false → ◌≡◌ {A = ℕ} (cond a 1 (cond b 2 (cond e 3 4))) 4
four_by a b e p q r = λ i. cond (p i) 1 (cond (q i) 2 (cond (r i) 3 4))

narrow : (c : ℕ) → c < 0x1_0000 → length (encode_utf16 c) ≤ len_utf8 c
narrow c small =
    let one : length (c ∷ []) ≤ len_utf8 c = len_by (nat_lt c 0x80) (nat_lt c 0x800) (nat_lt c 0x1_0000) in
    subst (λ (u : List ℕ). length u ≤ len_utf8 c) (sym (one_unit c small)) one

wide : (c : ℕ) → 0x1_0000 ≤ c → length (encode_utf16 c) ≤ len_utf8 c
wide c high =
    let u = 0xD800 + (c - 0x1_0000) / 0x400 in
    let v = 0xDC00 + (c - 0x1_0000) % 0x400 in
    let four : len_utf8 c ≡ 4 = four_by (nat_lt c 0x80) (nat_lt c 0x800) (nat_lt c 0x1_0000) (le-ltb c 0x80 (omega arith)) (le-ltb c 0x800 (omega arith)) (le-ltb c 0x1_0000 high) in
    let two : length (u ∷ v ∷ []) ≤ 4 = omega arith in
    subst (λ (w : List ℕ). length w ≤ len_utf8 c) (sym (two_units c high)) (subst (λ n. length (u ∷ v ∷ []) ≤ n) (sym four) two)

narrow_or_wide : (c : ℕ) → (c < 0x1_0000) ⊎ (0x1_0000 ≤ c)
narrow_or_wide c = search arith

short_by : (c : ℕ) → (c < 0x1_0000) ⊎ (0x1_0000 ≤ c) → length (encode_utf16 c) ≤ len_utf8 c
short_by c (inl small) = narrow c small
short_by c (inr high) = wide c high

-- characters have no more units than bytes
short : (cs : List ℕ) → length (encode_utf16_all cs) ≤ length (encode_utf8_all cs)
short [] = omega arith
short (c ∷ cs) =
    let one = short_by c (narrow_or_wide c) in
    omega (arith, length-append (encode_utf16 c) (encode_utf16_all cs), length-append (encode_utf8 c) (encode_utf8_all cs), length-encode c, one, short cs)

-- nor has a text
pub length_units : (bytes units : List ℕ) → IsSameText bytes units → length units ≤ length bytes
length_units bytes units same =
    subst (λ (u : List ℕ). length u ≤ length bytes) same.in_units
    (subst (λ (b : List ℕ). length (encode_utf16_all same.characters) ≤ length b) same.in_bytes (short same.characters))
