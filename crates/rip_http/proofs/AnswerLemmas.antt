-- Answers are told apart by their bytes, part after part.
use Rattle.std.proofs.Common.{◌≡◌, ◌≢◌, ℕ, ◌<◌, ◌^◌, Bool, true, false, ◌&&◌, cond, IsTrue, List, [], ◌∷◌, ◌++◌, length, get_or, decimal, Option, Some, None, refl, sym, ap, ◌∙◌, subst, inl, arith, rules}
use Rattle.std.specs.Prelude.{codes, All}
use Rattle.std.specs.Char.{is_ascii_digit}
use Rattle.std.specs.List.{list_all}
use Rattle.std.specs.Str.Parse.{digits_value}
use Rattle.std.proofs.lemmas.Bool.{false≢true}
use Rattle.std.proofs.lemmas.Fmt.{digits_decimal, decimal_injective}
use Rattle.std.proofs.lemmas.List.{append_assoc, append_cancel_left}
use Rattle.std.proofs.lemmas.Str.Parse.{IsNumeralModel, IsDigitsTest, numerals_by_value}
use Rattle.uuid.specs.Text.{hyphenated_text, lower, parsed_hyphenated}
use Rattle.uuid.proofs.RoundTrips.{parses_hyphenated_text}
use Rattle.uuid.proofs.TextLemmas.{by_index_length}
use Rattle.rip_http.specs.Routes.{method_name}
use Rattle.rip_http.specs.Answers.{phrase, line, field, status_line, content_type, allow_line, identifier_text, opened_lines, opening_lines, length_line, close_line, body_of, answer_text, IsOpening, IsNoneOrOpening, IsAnswer}
use Rattle.rip_http.specs.declared.request.Method.{Method}
use Rattle.rip_http.specs.declared.request.Method.TheVariants.{Get, Post}
use Rattle.rip_http.specs.declared.answer.Opening.{Opening}
use Rattle.rip_http.specs.declared.answer.HttpAnswer.{HttpAnswer}

-- ---- bytes

tails : (b : ℕ) (r s : List ℕ) → b ∷ r ≡ b ∷ s → r ≡ s
tails b r s e = cc

heads : (a b : ℕ) (r s : List ℕ) → a ∷ r ≡ b ∷ s → a ≡ b
heads a b r s e = cc

both : (x y : Bool) → (x && y) ≡ true → (x ≡ true) × (y ≡ true)
both true y e = (refl, e)
both false y e = absurd (false≢true e)

-- two texts of bytes that pass a test, up to a byte that fails it
same_until : (p : ℕ → Bool) (b : ℕ) → p b ≡ false → (xs ys r s : List ℕ) → list_all p xs ≡ true → list_all p ys ≡ true
    → xs ++ b ∷ r ≡ ys ++ b ∷ s → (xs ≡ ys) × (r ≡ s)
same_until p b fails [] [] r s hx hy e = (refl, tails b r s e)
same_until p b fails [] (y ∷ ys) r s hx hy e =
    let first = heads b y r (ys ++ b ∷ s) e in
    absurd (false≢true (sym fails ∙ ap p first ∙ (both (p y) (list_all p ys) hy).0))
same_until p b fails (x ∷ xs) [] r s hx hy e =
    let first = heads x b (xs ++ b ∷ r) s e in
    absurd (false≢true (sym fails ∙ ap p (sym first) ∙ (both (p x) (list_all p xs) hx).0))
same_until p b fails (x ∷ xs) (y ∷ ys) r s hx hy e =
    let first : x ≡ y = cc in
    let others : xs ++ b ∷ r ≡ ys ++ b ∷ s = cc in
    let same = same_until p b fails xs ys r s (both (p x) (list_all p xs) hx).1 (both (p y) (list_all p ys) hy).1 others in
    ((λ i. first i ∷ same.0 i), same.1)

-- two texts of one length
same_front : (a b r s : List ℕ) → length a ≡ length b → a ++ r ≡ b ++ s → (a ≡ b) × (r ≡ s)
same_front [] [] r s len e = (refl, e)
same_front [] (y ∷ b) r s len e = absurd (omega (arith, len))
same_front (x ∷ a) [] r s len e = absurd (omega (arith, len))
same_front (x ∷ a) (y ∷ b) r s len e =
    let first : x ≡ y = cc in
    let others : a ++ r ≡ b ++ s = cc in
    let same = same_front a b r s (omega (arith, len)) others in
    ((λ i. first i ∷ same.0 i), same.1)

tells : IsDigitsTest (λ ds. list_all is_ascii_digit ds ≡ true)
tells = search rules

own : IsNumeralModel (λ ds. list_all is_ascii_digit ds ≡ true) (digits_value 10)
own = numerals_by_value _ tells

-- two numerals up to a byte that is no digit
number_then : (b : ℕ) → is_ascii_digit b ≡ false → (m n : ℕ) (r s : List ℕ) → m < 2 ^ 64 → n < 2 ^ 64
    → decimal m ++ b ∷ r ≡ decimal n ++ b ∷ s → (m ≡ n) × (r ≡ s)
number_then b fails m n r s hm hn e =
    let same = same_until is_ascii_digit b fails (decimal m) (decimal n) r s (digits_decimal own m hm) (digits_decimal own n hn) e in
    (decimal_injective m n hm hn same.0, same.1)

-- ---- lines

line_end : (text r : List ℕ) → line text ++ r ≡ text ++ 13 ∷ 10 ∷ r
line_end text r = append_assoc text (13 ∷ 10 ∷ []) r

ends : (r s : List ℕ) → 13 ∷ 10 ∷ r ≡ 13 ∷ 10 ∷ s → r ≡ s
ends r s e = cc

field_parts : (name value r : List ℕ) → field name value ++ r ≡ name ++ (codes ": " ++ (value ++ 13 ∷ 10 ∷ r))
field_parts name value r = simp append_assoc

-- two fields of one name
field_values : (name v w r s : List ℕ) → field name v ++ r ≡ field name w ++ s → v ++ 13 ∷ 10 ∷ r ≡ w ++ 13 ∷ 10 ∷ s
field_values name v w r s e =
    append_cancel_left (codes ": ") _ _
    (append_cancel_left name _ _ (sym (field_parts name v r) ∙ e ∙ field_parts name w s))

number_fields : (name : List ℕ) (m n : ℕ) (r s : List ℕ) → m < 2 ^ 64 → n < 2 ^ 64
    → field name (decimal m) ++ r ≡ field name (decimal n) ++ s → (m ≡ n) × (r ≡ s)
number_fields name m n r s hm hn e =
    let same = number_then 13 refl m n (10 ∷ r) (10 ∷ s) hm hn (field_values name (decimal m) (decimal n) r s e) in
    (same.0, tails 10 r s same.1)

status_parts : (code : ℕ) (r : List ℕ) → status_line code ++ r ≡ codes "HTTP/1.1 " ++ (decimal code ++ 32 ∷ (phrase code ++ 13 ∷ 10 ∷ r))
status_parts code r = by_parts (codes "HTTP/1.1 ") (decimal code) (phrase code)
  where
    by_parts : (v d p : List ℕ) → line (v ++ (d ++ 32 ∷ p)) ++ r ≡ v ++ (d ++ 32 ∷ (p ++ 13 ∷ 10 ∷ r))
    by_parts v d p = simp append_assoc

status_same : (c d : ℕ) (r s : List ℕ) → c < 2 ^ 16 → d < 2 ^ 16 → status_line c ++ r ≡ status_line d ++ s → (c ≡ d) × (r ≡ s)
status_same c d r s hc hd e =
    let inner = append_cancel_left (codes "HTTP/1.1 ") _ _ (sym (status_parts c r) ∙ e ∙ status_parts d s) in
    let same = number_then 32 refl c d (phrase c ++ 13 ∷ 10 ∷ r) (phrase d ++ 13 ∷ 10 ∷ s) (omega arith) (omega arith) inner in
    let P : ℕ → Type 0 = λ n. phrase c ++ 13 ∷ 10 ∷ r ≡ phrase n ++ 13 ∷ 10 ∷ s in
    (same.0, ends r s (append_cancel_left (phrase c) _ _ (subst P (sym same.0) same.1)))

type_same : (g h : Bool) (r s : List ℕ) → field (codes "Content-Type") (content_type g) ++ r ≡ field (codes "Content-Type") (content_type h) ++ s
    → (g ≡ h) × (r ≡ s)
type_same true true r s e = (refl, append_cancel_left (field (codes "Content-Type") (content_type true)) r s e)
type_same false false r s e = (refl, append_cancel_left (field (codes "Content-Type") (content_type false)) r s e)
type_same true false r s e = absurd (omega (arith, ap (λ bs. get_or bs 14 0) e))
type_same false true r s e = absurd (omega (arith, ap (λ bs. get_or bs 14 0) e))

-- ---- the parts that may be left out: what stands behind begins with other bytes

-- from the blank line on
abbrev ended : List ℕ → List ℕ
ended body = line [] ++ body

abbrev closing : Bool → List ℕ → List ℕ
closing close body = close_line close ++ ended body

abbrev sized : Bool → List ℕ → List ℕ → List ℕ
sized bare numeral rest = cond bare [] (field (codes "Content-Length") numeral) ++ rest

closing_same : (c d : Bool) (x y : List ℕ) → closing c x ≡ closing d y → (c ≡ d) × (x ≡ y)
closing_same true true x y e = (refl, ends x y (append_cancel_left (close_line true) (ended x) (ended y) e))
closing_same false false x y e = (refl, ends x y e)
closing_same true false x y e = absurd (omega (arith, ap (λ bs. get_or bs 0 0) e))
closing_same false true x y e = absurd (omega (arith, ap (λ bs. get_or bs 0 0) e))

-- no closing begins as a length does
closing_no_length : (c : Bool) (x value r : List ℕ) → closing c x ≡ field (codes "Content-Length") value ++ r → ⊥
closing_no_length true x value r e = absurd (omega (arith, ap (λ bs. get_or bs 3 0) e))
closing_no_length false x value r e = absurd (omega (arith, ap (λ bs. get_or bs 0 0) e))

sized_same : (p q : Bool) (m n : ℕ) (c d : Bool) (x y : List ℕ) → m < 2 ^ 64 → n < 2 ^ 64
    → sized p (decimal m) (closing c x) ≡ sized q (decimal n) (closing d y) → (p ≡ q) × (closing c x ≡ closing d y)
sized_same true true m n c d x y hm hn e = (refl, e)
sized_same false false m n c d x y hm hn e = (refl, (number_fields (codes "Content-Length") m n (closing c x) (closing d y) hm hn e).1)
sized_same true false m n c d x y hm hn e = absurd (closing_no_length c x (decimal n) (closing d y) e)
sized_same false true m n c d x y hm hn e = absurd (closing_no_length d y (decimal m) (closing c x) (sym e))

-- what stands behind the opening begins with C or CR
sized_first : (p : Bool) (numeral : List ℕ) (c : Bool) (x : List ℕ) (b : ℕ) → b ≢ 67 → b ≢ 13 → get_or (sized p numeral (closing c x)) 0 0 ≢ b
sized_first true numeral true x b no_c no_cr e = no_c (sym e)
sized_first true numeral false x b no_c no_cr e = no_cr (sym e)
sized_first false numeral c x b no_c no_cr e = no_c (sym e)

some_same : (a b : List ℕ) (o : Option (List ℕ)) → Some a ≡ o → Some b ≡ o → a ≡ b
some_same a b o e f = cc

identifier_same : (a b r s : List ℕ) → length a ≡ 16 → length b ≡ 16 → All (λ x. x < 256) a → All (λ x. x < 256) b
    → identifier_text a ++ r ≡ identifier_text b ++ s → (a ≡ b) × (r ≡ s)
unfolding identifier_text
identifier_same a b r s la lb ha hb e =
    let same = same_front (hyphenated_text lower a) (hyphenated_text lower b) r s (by_index_length 36 _ ∙ sym (by_index_length 36 _)) e in
    let one = parses_hyphenated_text lower a (inl refl) la ha in
    let two = parses_hyphenated_text lower b (inl refl) lb hb in
    (some_same a b (parsed_hyphenated (hyphenated_text lower b)) (one ∙ ap parsed_hyphenated same.0) two, same.1)

opened_parts : (o : Opening) (r : List ℕ)
    → opened_lines o ++ r ≡ field (codes "Ripley-Session") (identifier_text o.id) ++ (field (codes "Ripley-Seed") (decimal o.seed) ++ (field (codes "Ripley-Time") (decimal o.time) ++ r))
opened_parts o r =
    by_parts (field (codes "Ripley-Session") (identifier_text o.id)) (field (codes "Ripley-Seed") (decimal o.seed)) (field (codes "Ripley-Time") (decimal o.time))
  where
    by_parts : (a b c : List ℕ) → (a ++ (b ++ c)) ++ r ≡ a ++ (b ++ (c ++ r))
    by_parts a b c = simp append_assoc

opened_same : (o p : Opening) (r s : List ℕ) → IsOpening o → IsOpening p → opened_lines o ++ r ≡ opened_lines p ++ s → (o ≡ p) × (r ≡ s)
opened_same o p r s ho hp e =
    let whole = sym (opened_parts o r) ∙ e ∙ opened_parts p s in
    let session = identifier_same o.id p.id _ _ ho.long hp.long ho.bytes_in_range hp.bytes_in_range (field_values (codes "Ripley-Session") (identifier_text o.id) (identifier_text p.id) _ _ whole) in
    let seed = number_fields (codes "Ripley-Seed") o.seed p.seed _ _ (omega (arith, ho.seed)) (omega (arith, hp.seed)) (ends _ _ session.1) in
    let time = number_fields (codes "Ripley-Time") o.time p.time r s ho.time hp.time seed.1 in
    ((λ i. record { id = session.0 i; seed = seed.0 i; time = time.0 i }), time.1)

-- behind the opening
abbrev opening_then : Option Opening → List ℕ → List ℕ
opening_then o rest = opening_lines o ++ rest

opening_same : (o p : Option Opening) (r s : List ℕ) → IsNoneOrOpening o → IsNoneOrOpening p → get_or r 0 0 ≢ 82 → get_or s 0 0 ≢ 82
    → opening_then o r ≡ opening_then p s → (o ≡ p) × (r ≡ s)
opening_same None None r s ho hp nr ns e = (refl, e)
opening_same (Some o) (Some p) r s ho hp nr ns e = let same = opened_same o p r s ho hp e in (ap Some same.0, same.1)
opening_same None (Some p) r s ho hp nr ns e = absurd (nr (ap (λ bs. get_or bs 0 0) e))
opening_same (Some o) None r s ho hp nr ns e = absurd (ns (ap (λ bs. get_or bs 0 0) (sym e)))

opening_first : (o : Option Opening) (r : List ℕ) → get_or r 0 0 ≢ 65 → get_or (opening_then o r) 0 0 ≢ 65
opening_first None r other e = other e
opening_first (Some o) r other e = absurd (omega (arith, e))

method_same : (m n : Method) (r s : List ℕ) → field (codes "Allow") (method_name m) ++ r ≡ field (codes "Allow") (method_name n) ++ s → (m ≡ n) × (r ≡ s)
method_same Get Get r s e = (refl, append_cancel_left (field (codes "Allow") (method_name Get)) r s e)
method_same Post Post r s e = (refl, append_cancel_left (field (codes "Allow") (method_name Post)) r s e)
method_same Get Post r s e = absurd (omega (arith, ap (λ bs. get_or bs 7 0) e))
method_same Post Get r s e = absurd (omega (arith, ap (λ bs. get_or bs 7 0) e))

allow_same : (x y : Option Method) (r s : List ℕ) → get_or r 0 0 ≢ 65 → get_or s 0 0 ≢ 65 → allow_line x ++ r ≡ allow_line y ++ s → (x ≡ y) × (r ≡ s)
allow_same None None r s nr ns e = (refl, e)
allow_same (Some m) (Some n) r s nr ns e = let same = method_same m n r s e in (ap Some same.0, same.1)
allow_same None (Some n) r s nr ns e = absurd (nr (ap (λ bs. get_or bs 0 0) e))
allow_same (Some m) None r s nr ns e = absurd (ns (ap (λ bs. get_or bs 0 0) (sym e)))

-- ---- the whole

abbrev behind_opening : HttpAnswer → List ℕ
behind_opening a = sized a.bare (decimal (length a.body)) (closing a.close (body_of a))

text_parts : (a : HttpAnswer)
    → answer_text a ≡ status_line a.code ++ (field (codes "Content-Type") (content_type a.html) ++ (allow_line a.allow ++ (opening_then a.opening (behind_opening a))))
text_parts a =
    by_parts (status_line a.code) (field (codes "Content-Type") (content_type a.html)) (allow_line a.allow) (opening_lines a.opening) (length_line a) (close_line a.close) (line []) (body_of a)
  where
    by_parts : (s t l o n c e b : List ℕ) → s ++ t ++ l ++ o ++ n ++ c ++ e ++ b ≡ s ++ (t ++ (l ++ (o ++ (n ++ (c ++ (e ++ b))))))
    by_parts s t l o n c e b = simp append_assoc

bodies_same : (p q : Bool) (x y : List ℕ) → p ≡ q → (IsTrue p → x ≡ []) → (IsTrue q → y ≡ []) → cond p [] x ≡ cond q [] y → x ≡ y
bodies_same true true x y e hx hy same = hx refl ∙ sym (hy refl)
bodies_same false false x y e hx hy same = same
bodies_same true false x y e hx hy same = absurd (false≢true (sym e))
bodies_same false true x y e hx hy same = absurd (false≢true e)

pub answers_tell_apart : (a b : HttpAnswer) → IsAnswer a → IsAnswer b → answer_text a ≡ answer_text b → a ≡ b
answers_tell_apart a b ha hb e =
    let no_r = λ (x : HttpAnswer). sized_first x.bare (decimal (length x.body)) x.close (body_of x) 82 (omega arith) (omega arith) in
    let no_a = λ (x : HttpAnswer). opening_first x.opening (behind_opening x) (sized_first x.bare (decimal (length x.body)) x.close (body_of x) 65 (omega arith) (omega arith)) in
    let code = status_same a.code b.code _ _ ha.code hb.code (sym (text_parts a) ∙ e ∙ text_parts b) in
    let html = type_same a.html b.html _ _ code.1 in
    let allow = allow_same a.allow b.allow _ _ (no_a a) (no_a b) html.1 in
    let opening = opening_same a.opening b.opening _ _ ha.opening hb.opening (no_r a) (no_r b) allow.1 in
    let bare = sized_same a.bare b.bare (length a.body) (length b.body) a.close b.close (body_of a) (body_of b) ha.size hb.size opening.1 in
    let close = closing_same a.close b.close (body_of a) (body_of b) bare.1 in
    let body = bodies_same a.bare b.bare a.body b.body bare.0 ha.bodiless hb.bodiless close.1 in
    λ i. record { code = code.0 i; html = html.0 i; allow = allow.0 i; opening = opening.0 i; body = body i; close = close.0 i; bare = bare.0 i }
