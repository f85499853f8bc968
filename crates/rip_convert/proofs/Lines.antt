-- Canonical text is one line, and is not empty.
use Rattle.std.proofs.Common.{◌≡◌, ◌≢◌, ◌==◌, ◌≤◌, ◌<◌, ◌+◌, ◌/◌, ◌%◌, ◌^◌, ℕ, suc, pos, negsuc, nat_lt, Bool, true, false, cond, ◌||◌, List, [], ◌∷◌, ◌++◌, All, length, decimal, refl, subst, arith, length-append}
use Rattle.std.proofs.lemmas.Int.{ints}
use Rattle.std.specs.Char.{digit_char}
use Rattle.std.specs.Str.Parse.{AllDigits}
use Rattle.std.proofs.lemmas.Fmt.{decimal_is_IsNumeral}
use Rattle.std.proofs.lemmas.List.Elements.{All-append, All-cons, All-nil}
use Rattle.json.specs.Print.{escape_letter, escape_byte, escape, quoted}
use Rattle.serde_json.specs.Written.{comma_if, items_text, members_text}
use Rattle.rip_data.specs.Datum.{Tree, null, boolean, number, text, array, object, Elements, no_elements, element, Fields, no_fields, field, items_of, members_of, utf8_of, IsDatum, AreData, HaveData, canonical_text}
use Rattle.rip_convert.specs.Arguments.{call_line}

-- the bytes hold no line feed
abbrev IsLine : List ℕ → Type 0
IsLine bytes = All (λ byte. byte ≢ 10) bytes

one : (x : ℕ) → x ≢ 10 → IsLine (x ∷ [])
one x h = All-cons (λ byte. byte ≢ 10) x [] h (All-nil (λ byte. byte ≢ 10))

both : (xs ys : List ℕ) → IsLine xs → IsLine ys → IsLine (xs ++ ys)
both xs ys h g = All-append (λ byte. byte ≢ 10) xs ys h g

more : (x : ℕ) (xs : List ℕ) → x ≢ 10 → IsLine xs → IsLine (x ∷ xs)
more x xs h g = All-cons (λ byte. byte ≢ 10) x xs h g

digits : (ds : List ℕ) → AllDigits 10 ds → IsLine ds
digits [] h = All-nil (λ byte. byte ≢ 10)
digits (d ∷ ds) h = more d ds (λ e. absurd (let low = subst (λ x. AllDigits 10 (x ∷ [])) e (h.0, tt) in omega (arith, low.0))) (digits ds h.1)

-- a digit of an escape
hex : (d : ℕ) → digit_char d ≢ 10
hex d = by (nat_lt d 10)
  where
    by : (b : Bool) → cond b (48 + d) (87 + d) ≢ 10
    by true e = absurd (omega (arith, e))
    by false e = absurd (omega (arith, e))

-- the letter of an escape
letter : (x : ℕ) → escape_letter x ≢ 10
letter x = by ((x == 34) || (x == 92)) refl (x == 8) (x == 12) (x == 10) (x == 13) (x == 9)
  where
    by : (b : Bool) → (x == 34) || (x == 92) ≡ b → (c d e f g : Bool) → cond b x (cond c 98 (cond d 102 (cond e 110 (cond f 114 (cond g 116 0))))) ≢ 10
    by true is c d e f g same = absurd (let P : ℕ → Type 0 = λ y. (y == 34) || (y == 92) ≡ true in let no : P 10 = subst P same is in cc)
    by false is true d e f g same = absurd (omega (arith, same))
    by false is false true e f g same = absurd (omega (arith, same))
    by false is false false true f g same = absurd (omega (arith, same))
    by false is false false false true g same = absurd (omega (arith, same))
    by false is false false false false true same = absurd (omega (arith, same))
    by false is false false false false false same = absurd (omega (arith, same))

-- a list of which a test says so
abbrev none_ten : List ℕ → Bool
none_ten [] = true
none_ten (x ∷ xs) = cond (x == 10) false (none_ten xs)

tested : (xs : List ℕ) → none_ten xs ≡ true → IsLine xs
tested [] h = All-nil (λ byte. byte ≢ 10)
tested (x ∷ xs) h = by (x == 10) refl h (tested xs)
  where
    by : (b : Bool) → (x == 10) ≡ b → cond b false (none_ten xs) ≡ true → (none_ten xs ≡ true → IsLine xs) → IsLine (x ∷ xs)
    by true is e rest = absurd (cc)
    by false is e rest = more x xs (λ same. absurd (let P : ℕ → Type 0 = λ y. (y == 10) ≡ false in let no : P 10 = subst P same is in cc)) (rest e)

-- a byte that has no escape is past the control characters
escape_byte_line : (x : ℕ) → IsLine (escape_byte x)
unfolding escape_byte
escape_byte_line x = by (nat_lt 0 (escape_letter x)) (nat_lt x 32) refl
  where
    by : (b c : Bool) → nat_lt x 32 ≡ c → IsLine (cond b (92 ∷ escape_letter x ∷ []) (cond c (92 ∷ 117 ∷ 48 ∷ 48 ∷ digit_char (x / 16) ∷ digit_char (x % 16) ∷ []) (x ∷ [])))
    by true c is = both (92 ∷ []) (escape_letter x ∷ []) (tested (92 ∷ []) refl) (one (escape_letter x) (letter x))
    by false true is =
        both (92 ∷ 117 ∷ 48 ∷ 48 ∷ []) (digit_char (x / 16) ∷ digit_char (x % 16) ∷ []) (tested (92 ∷ 117 ∷ 48 ∷ 48 ∷ []) refl)
        (more (digit_char (x / 16)) (digit_char (x % 16) ∷ []) (hex (x / 16)) (one (digit_char (x % 16)) (hex (x % 16))))
    by false false is = one x (λ e. absurd (let P : ℕ → Type 0 = λ y. nat_lt y 32 ≡ false in let no : P 10 = subst P e is in cc))

escape_line : (xs : List ℕ) → IsLine (escape xs)
escape_line [] = All-nil (λ byte. byte ≢ 10)
escape_line (x ∷ xs) = both (escape_byte x) (escape xs) (escape_byte_line x) (escape_line xs)

quoted_line : (xs : List ℕ) → IsLine (quoted xs)
quoted_line xs = both (34 ∷ []) (escape xs ++ 34 ∷ []) (tested (34 ∷ []) refl) (both (escape xs) (34 ∷ []) (escape_line xs) (tested (34 ∷ []) refl))

number_line : (n : ℕ) → n < 2 ^ 64 → IsLine (decimal n)
number_line n h = digits (decimal n) (decimal_is_IsNumeral n h).0.1

comma_line : (later : Bool) → IsLine (comma_if later)
comma_line true = tested (44 ∷ []) refl
comma_line false = All-nil (λ byte. byte ≢ 10)

mutual
  pub canonical_line : (t : Tree) → IsDatum t → IsLine (canonical_text t)
  canonical_line null h = tested (canonical_text null) refl
  canonical_line (boolean true) h = tested (canonical_text (boolean true)) refl
  canonical_line (boolean false) h = tested (canonical_text (boolean false)) refl
  canonical_line (number (pos n)) h = number_line n (omega (arith, ints, h.1))
  canonical_line (number (negsuc n)) h = both (45 ∷ []) (decimal (suc n)) (tested (45 ∷ []) refl) (number_line (suc n) (omega (arith, ints, h.0)))
  canonical_line (text u) h = quoted_line (utf8_of u)
  canonical_line (array ts) h = both (91 ∷ []) (items_text false (items_of ts)) (tested (91 ∷ []) refl) (items_line false ts h)
  canonical_line (object fs) h = both (123 ∷ []) (members_text false (members_of fs)) (tested (123 ∷ []) refl) (members_line false fs h.0)

  items_line : (later : Bool) (ts : Elements) → AreData ts → IsLine (items_text later (items_of ts))
  items_line later no_elements h = tested (93 ∷ []) refl
  items_line later (element t ts) h =
      both (comma_if later) (canonical_text t ++ items_text true (items_of ts)) (comma_line later)
      (both (canonical_text t) (items_text true (items_of ts)) (canonical_line t h.0) (items_line true ts h.1))

  members_line : (later : Bool) (fs : Fields) → HaveData fs → IsLine (members_text later (members_of fs))
  members_line later no_fields h = tested (125 ∷ []) refl
  members_line later (field k t fs) h =
      let rest = members_text true (members_of fs) in
      both (comma_if later) (quoted (utf8_of k) ++ 58 ∷ (canonical_text t ++ rest)) (comma_line later)
      (both (quoted (utf8_of k)) (58 ∷ (canonical_text t ++ rest)) (quoted_line (utf8_of k))
      (both (58 ∷ []) (canonical_text t ++ rest) (tested (58 ∷ []) refl) (both (canonical_text t) rest (canonical_line t h.1) (members_line true fs h.2))))

-- the text of a call is one line, and has six bytes at least
pub call_is_line : (name args : List ℕ) → IsLine args → IsLine (call_line name args)
call_is_line name args h =
    both (91 ∷ []) (quoted name ++ 44 ∷ (args ++ 93 ∷ [])) (tested (91 ∷ []) refl) (both (quoted name) (44 ∷ (args ++ 93 ∷ [])) (quoted_line name)
    (both (44 ∷ []) (args ++ 93 ∷ []) (tested (44 ∷ []) refl) (both args (93 ∷ []) h (tested (93 ∷ []) refl))))

pub some_text : (t : Tree) → IsDatum t → 1 ≤ length (canonical_text t)
some_text null h = omega arith
some_text (boolean true) h = omega arith
some_text (boolean false) h = omega arith
some_text (number (pos n)) h = (decimal_is_IsNumeral n (omega (arith, ints, h.1))).0.0
some_text (number (negsuc n)) h = omega arith
some_text (text u) h = omega arith
some_text (array ts) h = omega arith
some_text (object fs) h = omega arith

pub call_has_six : (name args : List ℕ) → 1 ≤ length args → 6 ≤ length (call_line name args)
call_has_six name args h =
    omega (arith, h, length-append (quoted name) (44 ∷ (args ++ 93 ∷ [])), length-append args (93 ∷ []), length-append (escape name) (34 ∷ []))
