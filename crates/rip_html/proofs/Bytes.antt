-- A page's text is no longer than its bytes, and each place in it is one of the bytes' places.
use Rattle.std.proofs.Common.{◌≡◌, ℕ, pred, ◌+◌, ◌-◌, ◌/◌, ◌%◌, ◌<◌, ◌≤◌, Bool, true, false, cond, ◌&&◌, ◌==◌, nat_lt, nat_le, ◌⊎◌, inl, inr, List, [], ◌∷◌, ◌++◌, length, sym, ap, subst, arith, length-append, length-drop}
use Rattle.std.proofs.lemmas.Bool.{le-leb, le-ltb, lt-ltb}
use Rattle.std.proofs.lemmas.Str.{length-encode}
use Rattle.std.specs.Char.{len_utf8}
use Rattle.std.specs.Char.Escape.{encode_utf16}
use Rattle.std.specs.Str.{encode_utf8_all, all_scalars}
use Rattle.std.specs.Prelude.{encode_utf8}
use Rattle.std.proofs.str.Utf16.{one_unit, two_units}
use Rattle.std.proofs.str.Laws.{both}
use Rattle.std.proofs.Math.Utf8.{scalar_cases}
use Rattle.rip_base.specs.Text.{encode_utf16_all}
use Rattle.rip_base.specs.Units.{is_between}
use Rattle.rip_markup.specs.Input.{mark_count, unmarked, lines, unit_width, bytes_before, IsTextOf}
use Rattle.rip_markup.specs.declared.input.PageText.{PageText}

-- how many bytes units have in UTF-8
abbrev widths : List ℕ → ℕ
widths [] = 0
widths (c ∷ rest) = unit_width c + widths rest

widths-append : (front rest : List ℕ) → widths (front ++ rest) ≡ widths front + widths rest
widths-append [] rest = omega arith
widths-append (c ∷ front) rest = let more = widths-append front rest in omega arith

width_by : (a b d : Bool) → 1 ≤ cond a 1 (cond b 2 (cond d 2 3))
width_by true b d = omega arith
width_by false true d = omega arith
width_by false false true = omega arith
width_by false false false = omega arith

width_some : (c : ℕ) → 1 ≤ unit_width c
width_some c = width_by (nat_lt c 0x80) (nat_lt c 0x800) (is_between 0xD800 0xDFFF c)

step_by : (b z : Bool) (w x y rest : ℕ) → 1 ≤ w → x ≤ rest → y ≤ rest → cond b (1 + x) (cond z 0 (w + y)) ≤ w + rest
step_by true z w x y rest h p q = omega arith
step_by false true w x y rest h p q = omega arith
step_by false false w x y rest h p q = omega arith

before_widths : (raw : List ℕ) (behind_cr : Bool) (place : ℕ) → bytes_before behind_cr raw place ≤ widths raw
before_widths [] behind_cr place = omega arith
before_widths (c ∷ rest) behind_cr place =
    step_by (behind_cr && (c == 10)) (place == 0) (unit_width c) (bytes_before false rest place) (bytes_before (c == 13) rest (pred place)) (widths rest) (width_some c) (before_widths rest false place) (before_widths rest (c == 13) (pred place))

-- a character has as many bytes as its units, and no fewer than it has units
narrow_by : (a b d e : Bool) → e ≡ true → cond a 1 (cond b 2 (cond d 2 3)) ≤ cond a 1 (cond b 2 (cond e 3 4))
narrow_by true b d e h = omega arith
narrow_by false true d e h = omega arith
narrow_by false false true true h = omega arith
narrow_by false false false true h = omega arith
narrow_by false false d false h = absurd (cc)

surrogate_by : (a b d : Bool) → d ≡ true → cond a 1 (cond b 2 (cond d 2 3)) ≤ 2
surrogate_by true b d h = omega arith
surrogate_by false true d h = omega arith
surrogate_by false false true h = omega arith
surrogate_by false false false h = absurd (cc)

and_true : (a b : Bool) → a ≡ true → b ≡ true → (a && b) ≡ true
and_true true b p q = q
and_true false b p q = absurd (cc)

surrogate_width : (c : ℕ) → 0xD800 ≤ c → c ≤ 0xDFFF → unit_width c ≤ 2
surrogate_width c low high = surrogate_by (nat_lt c 0x80) (nat_lt c 0x800) (is_between 0xD800 0xDFFF c) (and_true (nat_le 0xD800 c) (nat_le c 0xDFFF) (le-leb 0xD800 c low) (le-leb c 0xDFFF high))

len_by : (a b e : Bool) → 1 ≤ cond a 1 (cond b 2 (cond e 3 4))
len_by true b e = omega arith
len_by false true e = omega arith
len_by false false true = omega arith
len_by false false false = omega arith

four_by : (a b e : Bool) → a ≡ false → b ≡ false → e ≡ false → ◌≡◌ {A = ℕ} (cond a 1 (cond b 2 (cond e 3 4))) 4
four_by a b e p q r = λ i. cond (p i) 1 (cond (q i) 2 (cond (r i) 3 4))

record Covers (units : List ℕ) (n : ℕ) : Type 0 where
  bytes : widths units ≤ n
  count : length units ≤ n

narrow_covers : (c : ℕ) → c < 0x1_0000 → Covers (encode_utf16 c) (len_utf8 c)
narrow_covers c small =
    let one : Covers (c ∷ []) (len_utf8 c) = record {
      bytes = let w = narrow_by (nat_lt c 0x80) (nat_lt c 0x800) (is_between 0xD800 0xDFFF c) (nat_lt c 0x1_0000) (lt-ltb c 0x1_0000 small) in omega arith;
      count = len_by (nat_lt c 0x80) (nat_lt c 0x800) (nat_lt c 0x1_0000);
    } in
    subst (λ (u : List ℕ). Covers u (len_utf8 c)) (sym (one_unit c small)) one

wide_covers : (c : ℕ) → 0x1_0000 ≤ c → c < 0x11_0000 → Covers (encode_utf16 c) (len_utf8 c)
wide_covers c wide below =
    let u = 0xD800 + (c - 0x1_0000) / 0x400 in
    let v = 0xDC00 + (c - 0x1_0000) % 0x400 in
    let four : len_utf8 c ≡ 4 = four_by (nat_lt c 0x80) (nat_lt c 0x800) (nat_lt c 0x1_0000) (le-ltb c 0x80 (omega arith)) (le-ltb c 0x800 (omega arith)) (le-ltb c 0x1_0000 wide) in
    let two : Covers (u ∷ v ∷ []) 4 = record {
      bytes = let p = surrogate_width u (omega arith) (omega arith) in let q = surrogate_width v (omega arith) (omega arith) in omega arith;
      count = omega arith;
    } in
    subst (λ (w : List ℕ). Covers w (len_utf8 c)) (sym (two_units c wide)) (subst (λ n. Covers (u ∷ v ∷ []) n) (sym four) two)

small_or_wide : (c : ℕ) → (c < 0x1_0000) ⊎ (0x1_0000 ≤ c)
small_or_wide c = search arith

covers_by : (c : ℕ) → (c < 55296) ⊎ ((57344 ≤ c) × (c < 1114112)) → (c < 0x1_0000) ⊎ (0x1_0000 ≤ c) → Covers (encode_utf16 c) (len_utf8 c)
covers_by c h (inl small) = narrow_covers c small
covers_by c (inl low) (inr wide) = absurd (omega arith)
covers_by c (inr high) (inr wide) = wide_covers c wide high.1

all_cover : (cs : List ℕ) → all_scalars cs ≡ true → Covers (encode_utf16_all cs) (length (encode_utf8_all cs))
all_cover [] h = record { bytes = omega arith; count = omega arith }
all_cover (c ∷ cs) h =
    let parts = both _ _ h in
    let one = covers_by c (scalar_cases c parts.0) (small_or_wide c) in
    let more = all_cover cs parts.1 in
    let long = length-append (encode_utf8 c) (encode_utf8_all cs) in
    let first = length-encode c in
    record {
      bytes = omega (arith, widths-append (encode_utf16 c) (encode_utf16_all cs), one.bytes, more.bytes, long, first);
      count = omega (arith, length-append (encode_utf16 c) (encode_utf16_all cs), one.count, more.count, long, first);
    }

lines_by : (a b : Bool) (c : ℕ) (x y z : List ℕ) (n : ℕ) → length x ≤ n → length y ≤ n → length z ≤ n → length (cond a (10 ∷ x) (cond b y (c ∷ z))) ≤ 1 + n
lines_by true b c x y z n p q r = omega arith
lines_by false true c x y z n p q r = omega arith
lines_by false false c x y z n p q r = omega arith

lines_short : (raw : List ℕ) (behind_cr : Bool) → length (lines behind_cr raw) ≤ length raw
lines_short [] behind_cr = omega arith
lines_short (c ∷ rest) behind_cr =
    let short = lines_by (c == 13) (behind_cr && (c == 10)) c (lines true rest) (lines false rest) (lines false rest) (length rest) (lines_short rest true) (lines_short rest false) (lines_short rest false) in omega arith

mark_by : (b : Bool) (n : ℕ) → cond b 3 0 ≤ 3 + n
mark_by true n = omega arith
mark_by false n = omega arith

mark_small : (bytes : List ℕ) → mark_count bytes ≤ length bytes
mark_small [] = omega arith
mark_small (a ∷ []) = omega arith
mark_small (a ∷ b ∷ []) = omega arith
mark_small (a ∷ b ∷ c ∷ rest) = let small = mark_by ((a == 0xEF) && (b == 0xBB) && (c == 0xBF)) (length rest) in omega arith

pub record Within (bytes : List ℕ) (text : PageText) : Type 0 where
  pub units : length text.units ≤ length bytes
  pub places : (place : ℕ) → text.mark + bytes_before false text.raw place ≤ length bytes

pub page_text_within : (bytes : List ℕ) (text : PageText) → IsTextOf bytes text → Within bytes text
page_text_within bytes text is =
    let s = is.spelled in
    let cover = all_cover s.characters s.are in
    let raw : Covers text.raw (length (unmarked bytes)) = subst (λ (u : List ℕ). Covers u (length (unmarked bytes))) s.in_units (subst (λ (u : List ℕ). Covers (encode_utf16_all s.characters) (length u)) s.in_bytes cover) in
    let cut = length-drop (mark_count bytes) bytes in
    let mark = mark_small bytes in
    let short = lines_short text.raw false in
    let same : length text.units ≡ length (lines false text.raw) = ap length is.normal in
    record {
      units = omega (arith, raw.count, cut, mark, short, same);
      places = λ place. let before = before_widths text.raw false place in omega (arith, raw.bytes, cut, mark, is.mark, before);
    }
