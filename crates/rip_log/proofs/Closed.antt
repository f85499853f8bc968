-- Words that end where they end, whatever stands behind them.
use Rattle.std.proofs.Common.{◌≡◌, ◌≢◌, ℕ, zero, suc, ◌+◌, ◌-◌, ◌/◌, ◌%◌, ◌<◌, ◌≤◌, ◌^◌, ◌==◌, nat_lt, ◌&&◌, ◌||◌, ℤ, pos, negsuc, if◌then◌else◌, List, [], ◌∷◌, ◌++◌, Bool, true, false, cond, length, get_or, decimal, Option, Some, None, refl, sym, ap, ◌∙◌, arith, append-nil, take, drop, drop-cons, add-one, ap₂}
use Rattle.std.specs.Int.{to_be_bytes, w128}
use Rattle.std.specs.Char.{digit_char, is_ascii_digit}
use Rattle.std.specs.List.{list_all, join_with_byte, AllByRecursion}
use Rattle.std.proofs.lemmas.Bool.{ne_eqb}
use Rattle.std.proofs.lemmas.Int.{ints}
use Rattle.std.proofs.lemmas.List.{take_all, drop_all, take_more}
use Rattle.json.specs.Print.{escape_letter, escape_byte, escape, quoted, token_text}
use Rattle.json.specs.Token as token
use Rattle.serde_json.specs.Written.{number_text, comma_if, compact_text, items_text, members_text}
use Rattle.uuid.specs.Text.{by_index, hyphen, hex_digit, lower, nibble, digit_place, is_hyphen_place}
use Rattle.rip_base.specs.Whole.{IsWhole}
use Rattle.rip_data.specs.Datum.{Tree, Elements, no_elements, element, Fields, no_fields, field, utf8_of, number_of_whole, data_of, items_of, members_of, IsDatum, AreData, HaveData}
use Rattle.rip_data.specs.Datum as tree
use Rattle.rip_words.proofs.NumeralsLemmas.{decimal_passes}
use Rattle.rip_log.specs.Parts.{identifier_text}
use Rattle.rip_log.specs.Words.{place_after, ends_word, with_first, words_from, words}
use Rattle.rip_log.specs.declared.words.Place.{Place}
use Rattle.rip_log.specs.declared.words.Place.TheVariants.{Outside, Inside, Escaped}

-- where a reader stands behind the bytes, if no line feed and no space that ends a word is among them
unfoldable pub after : Place → List ℕ → Option Place
after place [] = Some place
after place (b ∷ bs) = cond ((b == 10) || ends_word place b) None (after (place_after place b) bs)

-- a word that leaves the reader outside of texts, with none that is left open
pub record IsClosed (word : List ℕ) : Type 0 where
  pub is : after Outside word ≡ Some Outside

pub after-append : (p q : Place) (a b : List ℕ) → after p a ≡ Some q → after p (a ++ b) ≡ after q b
unfolding after
after-append p q [] b e = ap (λ (x : Place). after x b) (same p q e)
  where
    same : (p q : Place) → Some p ≡ Some q → p ≡ q
    same p q e = cc
after-append p q (x ∷ a) b e = by ((x == 10) || ends_word p x) e (after-append (place_after p x) q a b)
  where
    by : (t : Bool) → cond t None (after (place_after p x) a) ≡ Some q → (after (place_after p x) a ≡ Some q → after (place_after p x) (a ++ b) ≡ after q b) → cond t None (after (place_after p x) (a ++ b)) ≡ after q b
    by true h again = cc
    by false h again = again h

join2 : (a b : List ℕ) → after Outside a ≡ Some Outside → after Outside b ≡ Some Outside → after Outside (a ++ b) ≡ Some Outside
join2 a b h g = after-append Outside Outside a b h ∙ g

-- ---- texts of JSON

inside : (x : ℕ) (rest : List ℕ) → x ≢ 10 → x ≢ 34 → x ≢ 92 → after Inside (x ∷ rest) ≡ after Inside rest
unfolding after
inside x rest no_feed no_quote no_backslash = rw (ne_eqb x 10 no_feed, ne_eqb x 34 no_quote, ne_eqb x 92 no_backslash)

outside : (x : ℕ) (rest : List ℕ) → x ≢ 10 → x ≢ 32 → x ≢ 34 → after Outside (x ∷ rest) ≡ after Outside rest
unfolding after
outside x rest no_feed no_space no_quote = rw (ne_eqb x 10 no_feed, ne_eqb x 32 no_space, ne_eqb x 34 no_quote)

behind_backslash : (x : ℕ) (rest : List ℕ) → x ≢ 10 → after Inside (92 ∷ x ∷ rest) ≡ after Inside rest
unfolding after
behind_backslash x rest no_feed = rw (ne_eqb x 10 no_feed)

letter_no_feed : (x : ℕ) → escape_letter x ≢ 10
letter_no_feed x e = grind arith

no_letter : (x : ℕ) → nat_lt 0 (escape_letter x) ≡ false → (x ≢ 34) × (x ≢ 92)
no_letter x h = (λ e. grind arith, λ e. grind arith)

digit_plain : (d : ℕ) → (digit_char d ≢ 10) × (digit_char d ≢ 34) × (digit_char d ≢ 92)
digit_plain d = (λ e. grind arith, λ e. grind arith, λ e. grind arith)

none_inside : after Inside [] ≡ Some Inside
unfolding after
none_inside = refl

hex_inside : (a b : ℕ) → after Inside (92 ∷ 117 ∷ 48 ∷ 48 ∷ digit_char a ∷ digit_char b ∷ []) ≡ Some Inside
hex_inside a b =
    behind_backslash 117 _ (omega arith) ∙ inside 48 _ (omega arith) (omega arith) (omega arith) ∙ inside 48 _ (omega arith) (omega arith) (omega arith)
    ∙ inside (digit_char a) _ (digit_plain a).0 (digit_plain a).1 (digit_plain a).2 ∙ inside (digit_char b) _ (digit_plain b).0 (digit_plain b).1 (digit_plain b).2 ∙ none_inside

byte_inside : (x : ℕ) → after Inside (escape_byte x) ≡ Some Inside
unfolding escape_byte
byte_inside x = by (nat_lt 0 (escape_letter x)) (nat_lt x 32) refl refl
  where
    by : (a b : Bool) → nat_lt 0 (escape_letter x) ≡ a → nat_lt x 32 ≡ b → after Inside (cond a (92 ∷ escape_letter x ∷ []) (cond b (92 ∷ 117 ∷ 48 ∷ 48 ∷ digit_char (x / 16) ∷ digit_char (x % 16) ∷ []) (x ∷ []))) ≡ Some Inside
    by true b h g = behind_backslash (escape_letter x) [] (letter_no_feed x) ∙ none_inside
    by false true h g = hex_inside (x / 16) (x % 16)
    by false false h g =
        let large : 32 ≤ x = grind arith in
        let other = no_letter x h in
        inside x [] (omega arith) other.0 other.1 ∙ none_inside

escape_inside : (s : List ℕ) → after Inside (escape s) ≡ Some Inside
escape_inside [] = none_inside
escape_inside (x ∷ s) = after-append Inside Inside (escape_byte x) (escape s) (byte_inside x) ∙ escape_inside s

quote_opens : (rest : List ℕ) → after Outside (34 ∷ rest) ≡ after Inside rest
unfolding after
quote_opens rest = refl

quote_ends : after Inside (34 ∷ []) ≡ Some Outside
unfolding after
quote_ends = refl

quoted_closed : (s : List ℕ) → after Outside (quoted s) ≡ Some Outside
quoted_closed s = quote_opens (escape s ++ 34 ∷ []) ∙ after-append Inside Inside (escape s) (34 ∷ []) (escape_inside s) ∙ quote_ends

none_outside : after Outside [] ≡ Some Outside
unfolding after
none_outside = refl

both_true : (a b : Bool) → a && b ≡ true → (a ≡ true) × (b ≡ true)
both_true true b h = (refl, h)
both_true false b h = cc

digits_closed : (ds : List ℕ) → list_all is_ascii_digit ds ≡ true → after Outside ds ≡ Some Outside
digits_closed [] h = none_outside
digits_closed (d ∷ ds) h =
    let parts = both_true (is_ascii_digit d) (list_all is_ascii_digit ds) h in
    let low : 48 ≤ d = grind (arith, parts.0) in
    outside d ds (omega arith) (omega arith) (omega arith) ∙ digits_closed ds parts.1

pub decimal_closed : (n : ℕ) → n < 2 ^ 64 → after Outside (decimal n) ≡ Some Outside
decimal_closed n h = digits_closed (decimal n) (decimal_passes n h)

comma_closed : (later : Bool) → after Outside (comma_if later) ≡ Some Outside
unfolding after
comma_closed true = refl
comma_closed false = refl

number_closed : (z : ℤ) → IsWhole z → after Outside (number_text (number_of_whole z)) ≡ Some Outside
number_closed (pos n) h = decimal_closed n (omega (arith, ints, h.1))
number_closed (negsuc n) h = outside 45 (decimal (suc n)) (omega arith) (omega arith) (omega arith) ∙ decimal_closed (suc n) (omega (arith, ints, h.0))

null_closed : after Outside (token_text token.null) ≡ Some Outside
unfolding after
null_closed = refl

boolean_closed : (b : Bool) → after Outside (token_text (token.boolean b)) ≡ Some Outside
unfolding after
boolean_closed true = refl
boolean_closed false = refl

bracket_closed : after Outside (93 ∷ []) ≡ Some Outside
unfolding after
bracket_closed = refl

brace_closed : after Outside (125 ∷ []) ≡ Some Outside
unfolding after
brace_closed = refl

mutual
  pub tree_closed : (t : Tree) → IsDatum t → after Outside (compact_text (data_of t)) ≡ Some Outside
  tree_closed tree.null h = null_closed
  tree_closed (tree.boolean b) h = boolean_closed b
  tree_closed (tree.number z) h = number_closed z h
  tree_closed (tree.text u) h = quoted_closed (utf8_of u)
  tree_closed (tree.array ts) h = outside 91 _ (omega arith) (omega arith) (omega arith) ∙ elements_closed false ts h
  tree_closed (tree.object fs) h = outside 123 _ (omega arith) (omega arith) (omega arith) ∙ fields_closed false fs h.0

  elements_closed : (later : Bool) (ts : Elements) → AreData ts → after Outside (items_text later (items_of ts)) ≡ Some Outside
  elements_closed later no_elements h = bracket_closed
  elements_closed later (element t ts) h =
      join2 (comma_if later) _ (comma_closed later) (join2 (compact_text (data_of t)) _ (tree_closed t h.0) (elements_closed true ts h.1))

  fields_closed : (later : Bool) (fs : Fields) → HaveData fs → after Outside (members_text later (members_of fs)) ≡ Some Outside
  fields_closed later no_fields h = brace_closed
  fields_closed later (field k t fs) h =
      join2 (comma_if later) _ (comma_closed later)
      (join2 (quoted (utf8_of k)) _ (quoted_closed (utf8_of k))
      (outside 58 _ (omega arith) (omega arith) (omega arith) ∙ join2 (compact_text (data_of t)) _ (tree_closed t h.1) (fields_closed true fs h.2)))

-- ---- identifiers

index_closed : (n : ℕ) (f : ℕ → ℕ) → ((k : ℕ) → (f k ≢ 10) × (f k ≢ 32) × (f k ≢ 34)) → after Outside (by_index n f) ≡ Some Outside
unfolding by_index
index_closed zero f plain = none_outside
index_closed (suc n) f plain =
    join2 (by_index n f) (f n ∷ []) (index_closed n f plain) (outside (f n) [] (plain n).0 (plain n).1 (plain n).2 ∙ none_outside)

letter_plain : (k d : ℕ) → let c = (if is_hyphen_place k then hyphen else hex_digit lower d) in (c ≢ 10) × (c ≢ 32) × (c ≢ 34)
letter_plain k d = by (is_hyphen_place k) (nat_lt d 10) refl
  where
    by : (a b : Bool) → nat_lt d 10 ≡ b → let c = (if a then 45 else (if b then 48 + d else 97 + d - 10)) in (c ≢ 10) × (c ≢ 32) × (c ≢ 34)
    by true b h = (omega arith, omega arith, omega arith)
    by false true h = (omega arith, omega arith, omega arith)
    by false false h = let large : 10 ≤ d = grind arith in (omega arith, omega arith, omega arith)

pub identifier_closed : (id : ℕ) → after Outside (identifier_text id) ≡ Some Outside
identifier_closed id = index_closed 36 _ (λ k. letter_plain k (nibble (to_be_bytes w128 id) (digit_place k)))

-- ---- the words of a line

unfoldable pub prefixed : List ℕ → List (List ℕ) → List (List ℕ)
prefixed [] ws = ws
prefixed (b ∷ w) ws = with_first b (prefixed w ws)

words_behind : (p q : Place) (w rest : List ℕ) → after p w ≡ Some q → words_from p (w ++ rest) ≡ prefixed w (words_from q rest)
unfolding after prefixed
words_behind p q [] rest e = ap (λ (x : Place). words_from x rest) (same p q e)
  where
    same : (p q : Place) → Some p ≡ Some q → p ≡ q
    same p q e = cc
words_behind p q (b ∷ w) rest e = by (b == 10) (ends_word p b) e (words_behind (place_after p b) q w rest)
  where
    by : (t u : Bool) → cond (t || u) None (after (place_after p b) w) ≡ Some q → (after (place_after p b) w ≡ Some q → words_from (place_after p b) (w ++ rest) ≡ prefixed w (words_from q rest)) → cond u ([] ∷ words_from Outside (w ++ rest)) (with_first b (words_from (place_after p b) (w ++ rest))) ≡ with_first b (prefixed w (words_from q rest))
    by true u h again = cc
    by false true h again = cc
    by false false h again = ap (with_first b) (again h)

prefixed_first : (w : List ℕ) (ws : List (List ℕ)) → prefixed w ([] ∷ ws) ≡ w ∷ ws
unfolding prefixed
prefixed_first [] ws = refl
prefixed_first (b ∷ w) ws = ap (with_first b) (prefixed_first w ws)

word_then : (w rest : List ℕ) → IsClosed w → words (w ++ 32 ∷ rest) ≡ w ∷ words rest
word_then w rest h = words_behind Outside Outside w (32 ∷ rest) h.is ∙ prefixed_first w (words rest)

word_last : (w : List ℕ) → IsClosed w → words w ≡ w ∷ []
word_last w h = ap words (sym (append-nil w)) ∙ words_behind Outside Outside w [] h.is ∙ prefixed_first w []

-- the words of words that are joined
pub words_of_joined : (w : List ℕ) (ws : List (List ℕ)) → IsClosed w → AllByRecursion IsClosed ws → words (join_with_byte 32 (w ∷ ws)) ≡ w ∷ ws
words_of_joined w [] h hs = word_last w h
words_of_joined w (v ∷ ws) h hs =
    word_then w (join_with_byte 32 (v ∷ ws)) h ∙ ap (λ vs. w ∷ vs) (words_of_joined v ws hs.0 hs.1)

first_some : (b : ℕ) (ws : List (List ℕ)) → with_first b ws ≢ []
first_some b [] e = cc
first_some b (w ∷ ws) e = cc

words_some : (p : Place) (bs : List ℕ) → words_from p bs ≢ []
words_some p [] e = cc
words_some p (b ∷ bs) e = by (ends_word p b) e
  where
    by : (t : Bool) → cond t ([] ∷ words_from Outside bs) (with_first b (words_from (place_after p b) bs)) ≡ [] → ⊥
    by true h = cc
    by false h = first_some b (words_from (place_after p b) bs) h

join_some : (ws : List (List ℕ)) → ws ≢ [] → join_with_byte 32 ([] ∷ ws) ≡ 32 ∷ join_with_byte 32 ws
join_some [] some = absurd (some refl)
join_some (w ∷ ws) some = refl

join_first : (b : ℕ) (ws : List (List ℕ)) → ws ≢ [] → join_with_byte 32 (with_first b ws) ≡ b ∷ join_with_byte 32 ws
join_first b [] some = absurd (some refl)
join_first b (w ∷ []) some = refl
join_first b (w ∷ v ∷ ws) some = refl

space_ends : (p : Place) (b : ℕ) → ends_word p b ≡ true → b ≡ 32
space_ends Outside b h = grind (arith, h)
space_ends Inside b h = cc
space_ends Escaped b h = cc

joined_from : (p : Place) (bs : List ℕ) → join_with_byte 32 (words_from p bs) ≡ bs
joined_from p [] = refl
joined_from p (b ∷ bs) = by (ends_word p b) refl (joined_from Outside bs) (joined_from (place_after p b) bs)
  where
    by : (t : Bool) → ends_word p b ≡ t → join_with_byte 32 (words_from Outside bs) ≡ bs → join_with_byte 32 (words_from (place_after p b) bs) ≡ bs
        → join_with_byte 32 (cond t ([] ∷ words_from Outside bs) (with_first b (words_from (place_after p b) bs))) ≡ b ∷ bs
    by true h here again = join_some (words_from Outside bs) (words_some Outside bs) ∙ ap (λ x. x ∷ join_with_byte 32 (words_from Outside bs)) (sym (space_ends p b h)) ∙ ap (λ xs. b ∷ xs) here
    by false h here again = join_first b (words_from (place_after p b) bs) (words_some (place_after p b) bs) ∙ ap (λ xs. b ∷ xs) again

-- a line is its words, joined
pub joined_words : (line : List ℕ) → join_with_byte 32 (words line) ≡ line
joined_words = joined_from Outside

-- a line that is left has a word
pub some_left : (ws : List (List ℕ)) (bs : List ℕ) → ws ≡ words bs → ws ≡ [] → ⊥
some_left ws bs e none = words_some Outside bs (sym e ∙ none)

-- ---- where the first word ends

prefixed_push : (w : List ℕ) (b : ℕ) (ws : List (List ℕ)) → prefixed (w ++ b ∷ []) ws ≡ prefixed w (with_first b ws)
unfolding prefixed
prefixed_push [] b ws = refl
prefixed_push (x ∷ w) b ws = ap (with_first x) (prefixed_push w b ws)

pub word_begins : (text : List ℕ) → words text ≡ prefixed (take 0 text) (words_from Outside (drop 0 text))
unfolding prefixed
word_begins text = refl

at_byte : (text : List ℕ) (at : ℕ) (place : Place) → at < length text → words_from place (drop at text) ≡ words_from place (get_or text at 0 ∷ drop (at + 1) text)
at_byte text at place low = ap (words_from place) (drop-cons text at 0 low ∙ ap (λ n. get_or text at 0 ∷ drop n text) (sym (add-one at)))

pub word_ends : (text : List ℕ) (at : ℕ) (place : Place) → words text ≡ prefixed (take at text) (words_from place (drop at text)) → at < length text → ends_word place (get_or text at 0) ≡ true → words text ≡ take at text ∷ words (drop (at + 1) text)
word_ends text at place is low space =
    is ∙ ap (prefixed (take at text)) (at_byte text at place low ∙ ap (λ t. cond t ([] ∷ words_from Outside (drop (at + 1) text)) (with_first (get_or text at 0) (words_from (place_after place (get_or text at 0)) (drop (at + 1) text)))) space) ∙ prefixed_first (take at text) (words (drop (at + 1) text))

pub word_goes_on : (text : List ℕ) (at : ℕ) (place : Place) → words text ≡ prefixed (take at text) (words_from place (drop at text)) → at < length text → ends_word place (get_or text at 0) ≡ false → words text ≡ prefixed (take (at + 1) text) (words_from (place_after place (get_or text at 0)) (drop (at + 1) text))
word_goes_on text at place is low other =
    is ∙ ap (prefixed (take at text)) (at_byte text at place low ∙ ap (λ t. cond t ([] ∷ words_from Outside (drop (at + 1) text)) (with_first (get_or text at 0) (words_from (place_after place (get_or text at 0)) (drop (at + 1) text)))) other)
    ∙ sym (prefixed_push (take at text) (get_or text at 0) (words_from (place_after place (get_or text at 0)) (drop (at + 1) text)))
    ∙ ap (λ w. prefixed w (words_from (place_after place (get_or text at 0)) (drop (at + 1) text))) (sym (take_more text at 0 low))

pub word_is_last : (text : List ℕ) (at : ℕ) (place : Place) → words text ≡ prefixed (take at text) (words_from place (drop at text)) → at ≡ length text → words text ≡ text ∷ []
word_is_last text at place is end =
    let all : take at text ≡ text = take_all at text (omega arith) in
    let none : drop at text ≡ [] = drop_all at text (omega arith) in
    is ∙ ap₂ (λ w bs. prefixed w (words_from place bs)) all none ∙ prefixed_first text []
