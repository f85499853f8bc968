-- What is drawn, and that it is in range.
use Rattle.std.proofs.Common.{◌≡◌, ℕ, zero, suc, ◌+◌, ◌-◌, ◌*◌, ◌<◌, ◌≤◌, ◌^◌, ◌==◌, ◌&&◌, if◌then◌else◌, Bool, true, false, List, [], ◌∷◌, ◌++◌, length, codes, decimal, get_or, slice_get, Some, append_assoc, append-nil, refl, sym, ap, ◌∙◌, arith}
use Rattle.std.specs.Char.{is_ascii_digit}
use Rattle.std.specs.List.{list_all, AllByRecursion}
use Rattle.std.proofs.Math.Nat.{div-lt_iff_lt-mul, mul_comm, mul-le-mul_right, mul-lt-mul_of_pos_left}
use Rattle.rip_words.proofs.NumeralsLemmas.{decimal_passes}
use Rattle.rip_base.specs.Text.{IsUtf16}
use Rattle.rip_wire.specs.declared.gesture.Gesture.{Gesture}
use Rattle.rip_wire.proofs.TextLemmas.{AreAscii, IsUtf16-ascii}
use Rattle.rip_gen.specs.Plans.{next_random, drawn, input, change, gesture_of, gesture_drawn, gestures_drawn, IsInRange, PlansAreInRange}

-- ---- draws

word_small : (x : ℕ) → next_random x < 2 ^ 32
word_small x = omega arith

pub drawn_below : (x n : ℕ) → 1 ≤ n → drawn x n < n
drawn_below x n some = (div-lt_iff_lt-mul (omega arith)).1 (wide (next_random x) n (word_small x) some)
  where
    wide : (w n : ℕ) → w < 2 ^ 32 → 1 ≤ n → w * n < n * 2 ^ 32
    wide w n h some = rw (mul_comm w n) (mul-lt-mul_of_pos_left h some)

-- ---- texts

digit_small : (d : ℕ) → is_ascii_digit d ≡ true → d < 128
digit_small d h = grind arith

both_true : (a b : Bool) → a && b ≡ true → (a ≡ true) × (b ≡ true)
both_true true b h = (refl, h)
both_true false b h = cc

digits_ascii : (ds : List ℕ) → list_all is_ascii_digit ds ≡ true → AreAscii ds
digits_ascii [] h = tt
digits_ascii (d ∷ ds) h =
    let parts = both_true (is_ascii_digit d) (list_all is_ascii_digit ds) h in
    (digit_small d parts.0, digits_ascii ds parts.1)

number_text : (n : ℕ) → n < 2 ^ 64 → IsUtf16 (decimal n)
number_text n h = IsUtf16-ascii (decimal n) (digits_ascii (decimal n) (decimal_passes n h))

named_text : (n : ℕ) → n < 2 ^ 64 → IsUtf16 (codes "n" ++ decimal n)
named_text n h = IsUtf16-ascii (codes "n" ++ decimal n) (omega arith, digits_ascii (decimal n) (decimal_passes n h))

-- ---- gestures

input_in_range : (node : ℕ) (text : List ℕ) → node < 2 ^ 32 → IsUtf16 text → IsInRange (input node text)
input_in_range node text small made = (small, made)

entered : (x : ℕ) → IsInRange (input 8 (decimal (drawn x 1000)))
entered x = let small : drawn x 1000 < 1000 = drawn_below x 1000 (omega arith) in input_in_range 8 (decimal (drawn x 1000)) (omega arith) (number_text (drawn x 1000) (omega (arith, small)))

named : (x : ℕ) → IsInRange (input 7 (codes "n" ++ decimal (drawn x 100)))
named x = let small : drawn x 100 < 100 = drawn_below x 100 (omega arith) in input_in_range 7 (codes "n" ++ decimal (drawn x 100)) (omega arith) (named_text (drawn x 100) (omega (arith, small)))

chosen : (x : ℕ) → IsInRange (change 9 (drawn x 2))
chosen x = let small : drawn x 2 < 2 = drawn_below x 2 (omega arith) in (omega arith, omega (arith, small))

-- the gesture of a kind is one of five
either : (P : Gesture × ℕ → Type 0) (b : Bool) (x y : Gesture × ℕ) → P x → P y → P (if b then x else y)
either P true x y h g = h
either P false x y h g = g

gesture_in_range : (kind x : ℕ) → IsInRange (gesture_of kind x).0
gesture_in_range kind x =
    let P : Gesture × ℕ → Type 0 = λ g. IsInRange g.0 in
    either P (kind == 0) _ _ (entered x) (either P (kind == 1) _ _ (chosen x) (either P (kind == 2) _ _ (omega arith, tt) (either P (kind == 3) _ _ (named x) tt)))

gestures_in_range : (count x : ℕ) → AllByRecursion IsInRange (gestures_drawn count x)
gestures_in_range zero x = tt
gestures_in_range (suc count) x = (gesture_in_range (drawn x 5) (next_random x), gestures_in_range count (gesture_drawn x).1)

pub gestures_many : (count x : ℕ) → length (gestures_drawn count x) ≡ count
gestures_many zero x = refl
gestures_many (suc count) x = ap suc (gestures_many count (gesture_drawn x).1)

pub plans : PlansAreInRange
plans n =
    let some : drawn n 29 < 29 = drawn_below n 29 (omega arith) in
    let sessions = 4 + drawn n 29 in
    let lies : drawn (next_random n) sessions < sessions = drawn_below (next_random n) sessions (omega arith) in
    record {
      from_four = omega arith;
      most = omega (arith, some);
      from_one = omega arith;
      lies = omega (arith, lies);
      rounds = gestures_many (40 * sessions) (next_random (next_random n));
      each = gestures_in_range (40 * sessions) (next_random (next_random n));
    }

-- ---- a list that is drawn

-- of so many gestures these were drawn, and the others are drawn behind this word
pub record Drawing (count word counter : ℕ) (made : List Gesture) (now : ℕ) : Type 0 where
  pub left : ℕ
  pub all : counter + left ≡ count
  pub is : gestures_drawn count word ≡ made ++ gestures_drawn left now

pub drawing_none : (count word : ℕ) (made : List Gesture) → made ≡ [] → Drawing count word 0 made word
drawing_none count word made e = record { left = count; all = omega arith; is = ap (λ (gs : List Gesture). gs ++ gestures_drawn count word) (sym e) }

next_left : (left : ℕ) (made : List Gesture) (now next : ℕ) (g : Gesture) → (g, next) ≡ gesture_drawn now → made ++ gestures_drawn (suc left) now ≡ (made ++ g ∷ []) ++ gestures_drawn left next
next_left left made now next g e =
    ap (λ (p : Gesture × ℕ). made ++ p.0 ∷ gestures_drawn left p.1) (sym e) ∙ sym (append_assoc made (g ∷ []) (gestures_drawn left next))

pub drawing_more : (count word counter : ℕ) (made : List Gesture) (now next : ℕ) (g : Gesture) (new : List Gesture) → Drawing count word counter made now → counter < count → (g, next) ≡ gesture_drawn now → new ≡ made ++ g ∷ [] → Drawing count word (counter + 1) new next
drawing_more count word counter made now next g new d low e is = more d.left d.all d.is
  where
    more : (left : ℕ) → counter + left ≡ count → gestures_drawn count word ≡ made ++ gestures_drawn left now → Drawing count word (counter + 1) new next
    more zero all whole = absurd (omega (arith, all, low))
    more (suc left) all whole = record {
      left = left;
      all = omega (arith, all);
      is = whole ∙ next_left left made now next g e ∙ ap (λ (gs : List Gesture). gs ++ gestures_drawn left next) (sym is);
    }

pub drawing_all : (count word counter : ℕ) (made : List Gesture) (now : ℕ) → Drawing count word counter made now → count ≤ counter → made ≡ gestures_drawn count word
drawing_all count word counter made now d late = all d.left d.all d.is
  where
    all : (left : ℕ) → counter + left ≡ count → gestures_drawn count word ≡ made ++ gestures_drawn left now → made ≡ gestures_drawn count word
    all zero sum whole = sym (whole ∙ append-nil made)
    all (suc left) sum whole = absurd (omega (arith, sum, late))

-- an element is at its place
pub at_place : (gs : List Gesture) (i : ℕ) (g : Gesture) → i < length gs → g ≡ get_or gs i g → slice_get gs i ≡ Some g
at_place [] i g low e = absurd (omega (arith, low))
at_place (x ∷ gs) zero g low e = ap Some (sym e)
at_place (x ∷ gs) (suc i) g low e = at_place gs i g (omega (arith, low)) e

-- the gesture of each round and session is there
pub place_low : (round session sessions many : ℕ) → 1 ≤ round → round ≤ 40 → 1 ≤ session → session ≤ sessions → many ≡ 40 * sessions → (round - 1) * sessions + (session - 1) < many
place_low round session sessions many first last from_one there e =
    let earlier : (round - 1) * sessions ≤ 39 * sessions = mul-le-mul_right sessions (omega (arith, last)) in
    omega (arith, earlier, from_one, there, e)
