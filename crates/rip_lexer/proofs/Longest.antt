-- What the units begin with, spelling by spelling, and that no longer spelling begins there.
use Rattle.std.proofs.Common.{◌≡◌, ◌≢◌, ℕ, zero, suc, ◌+◌, ◌<◌, ◌≤◌, Bool, true, false, ◌&&◌, ◌==◌, nat_le, cond, List, [], ◌∷◌, ◌++◌, length, take, drop, bytes_eq, None, filter_map, refl, sym, ap, ◌∙◌, subst, ⊎_elim, arith, take-append-drop, length-take-le, length-append, eqb-true, eq-eqb, leb-true}
use Rattle.std.specs.List.{list_all, prefix_len}
use Rattle.std.specs.Cmp.Lexicographic.{bytes_decides}
use Rattle.std.proofs.lemmas.Bool.{and_parts, and_from, and_left, or_left, or_right, or_cases, cond-true, cond-false, cases_Bool, false≢true, false_from_ne_true}
use Rattle.std.proofs.lemmas.List.{take_at}
use Rattle.std.proofs.lemmas.List.Sums.{prefix_len-le-length}
use Rattle.std.proofs.lemmas.Option.{none-some}
use Rattle.rip_base.specs.Units.{is_one_of, is_hex_digit, begins}
use Rattle.rip_grammar.specs.declared.word.Word.{Word}
use Rattle.rip_grammar.specs.declared.word.Word.TheVariants as W
use Rattle.rip_lexer.specs.Units.{class_of, is_digit, is_digit_class, is_name_unit, is_name_class, is_name_start, is_name_start_class, is_quote_class, is_mark, is_mark_class}
use Rattle.rip_lexer.specs.Words.{Entry, is_word, is_among, look_up, reserved_words, punctuators, long_punctuators, double_punctuators, single_punctuators, word_in}
use Rattle.rip_lexer.specs.Numeral.{is_decimal, has_prefix, is_hexadecimal, is_numeral}
use Rattle.rip_lexer.specs.Text.{spell, spell_all, AreCharacters, character_value, refused_in, ends_text, ReadsText, StandsFor, text_fault}
use Rattle.rip_lexer.specs.Gap.{begins_comment}
use Rattle.rip_lexer.specs.Tokens.{IsSpelling, Begins}
use Rattle.rip_lexer.specs.Fault.{fault}
use Rattle.rip_lexer.specs.declared.refusal.LexKind.TheVariants.{OpenText}
use Rattle.rip_lexer.specs.View.{numeral_count, begins_with, first_count, first_word}
use Rattle.rip_lexer.specs.declared.units.UnitClass.{UnitClass}
use Rattle.rip_lexer.specs.declared.units.UnitClass.TheVariants.{NameStart, Digit, Quote, Mark}
use Rattle.rip_lexer.specs.declared.character.Character.{Character}
use Rattle.rip_lexer.specs.declared.character.Character.TheVariants.{Plain, Escaped, Null, Hexadecimal, Unicode, Continuation, ContinuationPair, Refused}
use Rattle.rip_lexer.specs.declared.token.TokenKind.{TokenKind}
use Rattle.rip_lexer.specs.declared.token.TokenKind.TheVariants.{Name, Reserved, Numeral, Text, Punctuator}
use Rattle.rip_lexer.proofs.Choice.{chosen}
use Rattle.rip_lexer.proofs.Classes.{class_from_digit, class_from_name_start, class_from_mark, mark_is, marks, one_of_all, slash_class, zero_class, differs}
use Rattle.rip_lexer.proofs.Runs.{run_more, run_all, run_bound}
use Rattle.rip_lexer.proofs.Spellings.{among_all}
use Rattle.rip_lexer.proofs.Texts.{one_text, any_rest, ends_none}

-- the class of the first unit of a spelling
abbrev pub class_for : TokenKind → UnitClass
class_for Name = NameStart
class_for Reserved = NameStart
class_for Numeral = Digit
class_for Text = Quote
class_for Punctuator = Mark

-- the spelling has a first unit of this class
pub record Starts (class : UnitClass) (spelling : List ℕ) : Type 0 where
  pub first : ℕ
  pub rest : List ℕ
  pub splits : spelling ≡ first ∷ rest
  pub class-is : class_of first ≡ class

word_starts : (s : List ℕ) → is_word s ≡ true → Starts NameStart s
word_starts [] word = absurd (false≢true word)
word_starts (c ∷ cs) word =
    let parts = and_parts (is_name_start c) _ word in
    record { first = c; rest = cs; splits = refl; class-is = class_from_name_start _ parts.0 }

reserved_is_word : (s : List ℕ) → is_among reserved_words s ≡ true → is_word s ≡ true
unfolding reserved_words class_of
reserved_is_word s among = among_all reserved_words is_word s among refl

mark_starts : (s : List ℕ) → begins is_mark s ≡ true → Starts Mark s
mark_starts [] mark = absurd (false≢true mark)
mark_starts (c ∷ cs) mark = record { first = c; rest = cs; splits = refl; class-is = class_from_mark _ mark }

punctuator_is_mark : (s : List ℕ) → is_among punctuators s ≡ true → begins is_mark s ≡ true
unfolding punctuators class_of long_punctuators double_punctuators single_punctuators
punctuator_is_mark s among = among_all punctuators (begins is_mark) s among refl

decimal_digit : (c : ℕ) (cs : List ℕ) → is_decimal (c ∷ cs) ≡ true → is_digit c ≡ true
decimal_digit c [] decimal = decimal
decimal_digit c (d ∷ ds) decimal =
    ⊎_elim (λ zero-is. absurd (false≢true zero-is.1)) (λ other. (and_parts (is_digit c) _ other.1).0) (chosen (c == 48) false _ true decimal)

prefix_zero : (c : ℕ) (cs : List ℕ) → has_prefix (c ∷ cs) ≡ true → c ≡ 48
prefix_zero c [] prefix = absurd (false≢true prefix)
prefix_zero c (d ∷ []) prefix = absurd (false≢true prefix)
prefix_zero c (d ∷ e ∷ ds) prefix = eqb-true c 48 (and_parts (c == 48) _ prefix).0

zero_digit : is_digit 48 ≡ true
zero_digit = ap is_digit_class zero_class

numeral_digit : (c : ℕ) (cs : List ℕ) → is_numeral (c ∷ cs) ≡ true → is_digit c ≡ true
numeral_digit c cs numeral =
    ⊎_elim (λ decimal. decimal_digit c cs decimal) (λ hex. ap is_digit (prefix_zero c cs (and_parts (has_prefix (c ∷ cs)) _ hex).0) ∙ zero_digit) (or_cases (is_decimal (c ∷ cs)) _ numeral)

numeral_starts : (s : List ℕ) → is_numeral s ≡ true → Starts Digit s
numeral_starts [] numeral = absurd (false≢true numeral)
numeral_starts (c ∷ cs) numeral = record { first = c; rest = cs; splits = refl; class-is = class_from_digit _ (numeral_digit c cs numeral) }

pub starts : (kind : TokenKind) (s : List ℕ) → IsSpelling kind s → Starts (class_for kind) s
starts Name s spelled = word_starts s spelled.0
starts Reserved s spelled = word_starts s (reserved_is_word s spelled)
starts Numeral s spelled = numeral_starts s spelled
starts Text s spelled = record { first = spelled.1.quote; rest = spell_all spelled.1.characters (spelled.1.quote ∷ []); splits = spelled.1.reads.spelled; class-is = spelled.1.reads.is_quote }
starts Punctuator s spelled = mark_starts s (punctuator_is_mark s spelled)

-- the units behind a spelling begin with its first unit
pub first_unit : (kind : TokenKind) (s rest : List ℕ) (c : ℕ) (units : List ℕ) → IsSpelling kind s → c ∷ units ≡ s ++ rest → class_of c ≡ class_for kind
first_unit kind s rest c units spelled e =
    let st = starts kind s spelled in
    let both : c ∷ units ≡ st.first ∷ (st.rest ++ rest) = e ∙ ap (λ u. u ++ rest) st.splits in
    let same : c ≡ st.first = cc in
    ap class_of same ∙ st.class-is

-- a spelling isn't empty
pub not_empty : (kind : TokenKind) (s : List ℕ) → IsSpelling kind s → 0 < length s
not_empty kind s spelled = let st = starts kind s spelled in omega (arith, ap length st.splits)

pub no_comment_at : (c : ℕ) (units : List ℕ) → class_of c ≢ Mark → begins_comment (c ∷ units) ≡ false
no_comment_at c units other = and_left (c == 47) _ (differs c 47 (λ same. other (same ∙ slash_class)))

-- the first n units are a spelling, and no other of its class is longer
pub begins_from : (kind : TokenKind) (units : List ℕ) (n : ℕ) → n ≤ length units → IsSpelling kind (take n units) → ((other more : List ℕ) (k : TokenKind) → units ≡ other ++ more → IsSpelling k other → class_for k ≡ class_for kind → length other ≤ n) → begins_comment units ≡ false → Begins kind (take n units) (drop n units)
begins_from kind units n fits spelled bound no-comment =
    let whole = take-append-drop n units in
    record {
      spelled = spelled;
      longest = λ other more k e is-other.
          let splits : units ≡ other ++ more = sym whole ∙ e in
          let st = starts kind (take n units) spelled in
          let same = first_unit k other more st.first (st.rest ++ drop n units) is-other (ap (λ u. u ++ drop n units) (sym st.splits) ∙ e) in
          subst (λ m. length other ≤ m) (sym (length-take-le n units fits)) (bound other more k splits is-other (sym same ∙ st.class-is));
      no_comment = ap begins_comment whole ∙ no-comment;
    }

-- a test of kinds by the class of their first units
word_kind : (k : TokenKind) (s : List ℕ) → IsSpelling k s → class_for k ≡ NameStart → is_word s ≡ true
word_kind Name s spelled same = spelled.0
word_kind Reserved s spelled same = reserved_is_word s spelled
word_kind Numeral s spelled same = absurd (false≢true (ap is_name_start_class same))
word_kind Text s spelled same = absurd (false≢true (ap is_name_start_class same))
word_kind Punctuator s spelled same = absurd (false≢true (ap is_name_start_class same))

numeral_kind : (k : TokenKind) (s : List ℕ) → IsSpelling k s → class_for k ≡ Digit → is_numeral s ≡ true
numeral_kind Name s spelled same = absurd (false≢true (ap is_digit_class same))
numeral_kind Reserved s spelled same = absurd (false≢true (ap is_digit_class same))
numeral_kind Numeral s spelled same = spelled
numeral_kind Text s spelled same = absurd (false≢true (ap is_digit_class same))
numeral_kind Punctuator s spelled same = absurd (false≢true (ap is_digit_class same))

punctuator_kind : (k : TokenKind) (s : List ℕ) → IsSpelling k s → class_for k ≡ Mark → is_among punctuators s ≡ true
punctuator_kind Name s spelled same = absurd (false≢true (ap is_mark_class same))
punctuator_kind Reserved s spelled same = absurd (false≢true (ap is_mark_class same))
punctuator_kind Numeral s spelled same = absurd (false≢true (ap is_mark_class same))
punctuator_kind Text s spelled same = absurd (false≢true (ap is_mark_class same))
punctuator_kind Punctuator s spelled same = spelled

text_kind : (k : TokenKind) (s : List ℕ) → IsSpelling k s → class_for k ≡ Quote → (units : List ℕ) × StandsFor s units
text_kind Name s spelled same = absurd (false≢true (ap is_quote_class same))
text_kind Reserved s spelled same = absurd (false≢true (ap is_quote_class same))
text_kind Numeral s spelled same = absurd (false≢true (ap is_quote_class same))
text_kind Text s spelled same = spelled
text_kind Punctuator s spelled same = absurd (false≢true (ap is_quote_class same))

-- names and reserved words

word_units : (s : List ℕ) → is_word s ≡ true → list_all is_name_unit s ≡ true
word_units [] word = refl
word_units (c ∷ cs) word =
    let parts = and_parts (is_name_start c) _ word in
    and_from (is_name_unit c) _ (ap is_name_class (class_from_name_start _ parts.0)) parts.1

front_is_word : (units : List ℕ) → begins is_name_start units ≡ true → is_word (take (prefix_len is_name_unit units) units) ≡ true
front_is_word [] starts-name = absurd (false≢true starts-name)
front_is_word (c ∷ rest) starts-name =
    let part : is_name_unit c ≡ true = ap is_name_class (class_from_name_start _ starts-name) in
    ap (λ n. is_word (take n (c ∷ rest))) (run_more is_name_unit c rest part) ∙ and_from (is_name_start c) _ starts-name (run_all is_name_unit rest)

starts_no_comment : (units : List ℕ) → begins is_mark units ≡ false → begins_comment units ≡ false
starts_no_comment [] other = refl
starts_no_comment (c ∷ rest) other = no_comment_at c rest (λ mark. false≢true (sym other ∙ ap is_mark_class mark))

name_not_mark : (units : List ℕ) → begins is_name_start units ≡ true → begins is_mark units ≡ false
name_not_mark [] starts-name = refl
name_not_mark (c ∷ rest) starts-name = ap is_mark_class (class_from_name_start _ starts-name)

pub begins_word : (units : List ℕ) (n : ℕ) → n ≡ prefix_len is_name_unit units → begins is_name_start units ≡ true → (kind : TokenKind) → class_for kind ≡ NameStart → IsSpelling kind (take n units) → Begins kind (take n units) (drop n units)
begins_word units n n-is starts-name kind class spelled =
    begins_from kind units n (subst (λ m. m ≤ length units) (sym n-is) (prefix_len-le-length is_name_unit units)) spelled
    (λ other more k splits is-other same.
    let all = word_units other (word_kind k other is-other (same ∙ class)) in
    subst (λ m. length other ≤ m) (sym (n-is ∙ ap (prefix_len is_name_unit) splits)) (run_bound is_name_unit other more all))
    (starts_no_comment units (name_not_mark units starts-name))

pub word_front : (units : List ℕ) (n : ℕ) → n ≡ prefix_len is_name_unit units → begins is_name_start units ≡ true → is_word (take n units) ≡ true
word_front units n n-is starts-name = ap (λ m. is_word (take m units)) n-is ∙ front_is_word units starts-name

-- numerals

and_nothing : (b : Bool) → (b && false) ≡ false
and_nothing true = refl
and_nothing false = refl

digits_decimal : (z : ℕ) (ds : List ℕ) → (z == 48) ≡ false → is_digit z ≡ true → list_all is_digit ds ≡ true → is_decimal (z ∷ ds) ≡ true
digits_decimal z [] not-zero digit all = digit
digits_decimal z (d ∷ ds) not-zero digit all = cond-false _ _ _ not-zero ∙ and_from (is_digit z) _ digit all

decimal_all : (z x : ℕ) (ds : List ℕ) → is_decimal (z ∷ x ∷ ds) ≡ true → ((z == 48) ≡ false) × (list_all is_digit (z ∷ x ∷ ds) ≡ true)
decimal_all z x ds decimal =
    ⊎_elim (λ zero-is. absurd (false≢true zero-is.1)) (λ other. other) (chosen (z == 48) false _ true decimal)

-- the parts of a hexadecimal numeral
record Hex (z x : ℕ) (ds : List ℕ) : Type 0 where
  pub is_zero : (z == 48) ≡ true
  pub is_x : is_one_of (120 ∷ 88 ∷ []) x ≡ true
  pub digit : begins is_hex_digit ds ≡ true
  pub digits : list_all is_hex_digit ds ≡ true

hex_parts : (z x : ℕ) (ds : List ℕ) → is_hexadecimal (z ∷ x ∷ ds) ≡ true → Hex z x ds
hex_parts z x [] hex = absurd (false≢true hex)
hex_parts z x (h ∷ hs) hex =
    let parts = and_parts (has_prefix (z ∷ x ∷ h ∷ hs)) _ hex in
    let heads = and_parts (z == 48) _ parts.0 in
    record { is_zero = heads.0; is_x = heads.1; digit = (and_parts (is_hex_digit h) _ parts.1).0; digits = parts.1 }

begins-append : (p : ℕ → Bool) (front more : List ℕ) → begins p front ≡ true → begins p (front ++ more) ≡ true
begins-append p [] more first = absurd (false≢true first)
begins-append p (c ∷ front) more first = first

hex_count : (z x : ℕ) (hs : List ℕ) → (z == 48) ≡ true → is_one_of (120 ∷ 88 ∷ []) x ≡ true → begins is_hex_digit hs ≡ true → numeral_count (z ∷ x ∷ hs) ≡ prefix_len is_hex_digit hs + 2
hex_count z x hs is-zero is-x digit = cond-true _ _ _ is-zero ∙ cond-true _ _ _ (and_from (is_one_of (120 ∷ 88 ∷ []) x) _ is-x digit)

count_some : (c : ℕ) (units : List ℕ) → is_digit c ≡ true → 0 < numeral_count (c ∷ units)
count_some c [] digit = omega (arith, run_more is_digit c [] digit)
count_some c (x ∷ hs) digit =
    by (c == 48) refl
  where
    inner : (b : Bool) → 0 < cond b (prefix_len is_hex_digit hs + 2) 1
    inner true = omega arith
    inner false = omega arith

    by : (b : Bool) → (c == 48) ≡ b → 0 < cond b (cond (is_one_of (120 ∷ 88 ∷ []) x && begins is_hex_digit hs) (prefix_len is_hex_digit hs + 2) 1) (prefix_len is_digit (c ∷ x ∷ hs))
    by true is-zero = inner (is_one_of (120 ∷ 88 ∷ []) x && begins is_hex_digit hs)
    by false other = omega (arith, run_more is_digit c (x ∷ hs) digit)

numeral_bound : (c : ℕ) (rest other more : List ℕ) → is_digit c ≡ true → c ∷ rest ≡ other ++ more → is_numeral other ≡ true → length other ≤ numeral_count (c ∷ rest)
numeral_bound c rest [] more digit splits numeral = omega arith
numeral_bound c rest (z ∷ []) more digit splits numeral = count_some c rest digit
numeral_bound c rest (z ∷ x ∷ os) more digit splits numeral =
    subst (λ u. length (z ∷ x ∷ os) ≤ numeral_count u) (sym splits)
    (⊎_elim
    (λ decimal.
    let all = decimal_all z x os decimal in
    subst (λ m. length (z ∷ x ∷ os) ≤ m) (sym (cond-false _ _ _ all.0)) (run_bound is_digit (z ∷ x ∷ os) more all.1))
    (λ hex.
    let parts = hex_parts z x os hex in
    omega (arith, hex_count z x (os ++ more) parts.is_zero parts.is_x (begins-append is_hex_digit os more parts.digit), run_bound is_hex_digit os more parts.digits))
    (or_cases (is_decimal (z ∷ x ∷ os)) _ numeral))

decimal_front : (z : ℕ) (hs : List ℕ) → (z == 48) ≡ false → is_digit z ≡ true → is_numeral (take (prefix_len is_digit (z ∷ hs)) (z ∷ hs)) ≡ true
decimal_front z hs not-zero digit =
    ap (λ n. is_numeral (take n (z ∷ hs))) (run_more is_digit z hs digit)
    ∙ or_left _ _ (digits_decimal z (take (prefix_len is_digit hs) hs) not-zero digit (run_all is_digit hs))

hex_front : (z x h : ℕ) (hs : List ℕ) → (z == 48) ≡ true → is_one_of (120 ∷ 88 ∷ []) x ≡ true → is_hex_digit h ≡ true → is_numeral (take (prefix_len is_hex_digit (h ∷ hs) + 2) (z ∷ x ∷ h ∷ hs)) ≡ true
hex_front z x h hs is-zero is-x digit =
    let m = prefix_len is_hex_digit hs in
    let long : prefix_len is_hex_digit (h ∷ hs) + 2 ≡ suc (suc (suc m)) = omega (arith, run_more is_hex_digit h hs digit) in
    ap (λ n. is_numeral (take n (z ∷ x ∷ h ∷ hs))) long
    ∙ or_right (is_decimal (z ∷ x ∷ h ∷ take m hs)) _ (and_from (has_prefix (z ∷ x ∷ h ∷ take m hs)) _ (and_from (z == 48) _ is-zero is-x) (and_from (is_hex_digit h) _ digit (run_all is_hex_digit hs)))

one_digit : (c : ℕ) → is_digit c ≡ true → is_numeral (c ∷ []) ≡ true
one_digit c digit = or_left _ _ digit

numeral_front : (c : ℕ) (rest : List ℕ) → is_digit c ≡ true → is_numeral (take (numeral_count (c ∷ rest)) (c ∷ rest)) ≡ true
numeral_front c [] digit = ap (λ n. is_numeral (take n (c ∷ []))) (run_more is_digit c [] digit) ∙ one_digit c digit
numeral_front c (x ∷ []) digit =
    ⊎_elim
    (λ is-zero. ap (λ n. is_numeral (take n (c ∷ x ∷ []))) (cond-true _ _ _ is-zero ∙ cond-false _ _ _ (and_nothing (is_one_of (120 ∷ 88 ∷ []) x))) ∙ one_digit c digit)
    (λ other. ap (λ n. is_numeral (take n (c ∷ x ∷ []))) (cond-false _ _ _ other) ∙ decimal_front c (x ∷ []) other digit)
    (cases_Bool (c == 48))
numeral_front c (x ∷ h ∷ hs) digit =
    ⊎_elim
    (λ is-zero.
    ⊎_elim
    (λ hex.
    let parts = and_parts (is_one_of (120 ∷ 88 ∷ []) x) (is_hex_digit h) hex in
    ap (λ n. is_numeral (take n (c ∷ x ∷ h ∷ hs))) (hex_count c x (h ∷ hs) is-zero parts.0 parts.1) ∙ hex_front c x h hs is-zero parts.0 parts.1)
    (λ short. ap (λ n. is_numeral (take n (c ∷ x ∷ h ∷ hs))) (cond-true _ _ _ is-zero ∙ cond-false _ _ _ short) ∙ one_digit c digit)
    (cases_Bool (is_one_of (120 ∷ 88 ∷ []) x && is_hex_digit h)))
    (λ other. ap (λ n. is_numeral (take n (c ∷ x ∷ h ∷ hs))) (cond-false _ _ _ other) ∙ decimal_front c (x ∷ h ∷ hs) other digit)
    (cases_Bool (c == 48))

digit_not_mark : (c : ℕ) → is_digit c ≡ true → class_of c ≢ Mark
digit_not_mark c digit mark = false≢true (sym (ap is_mark_class (class_from_digit _ digit)) ∙ ap is_mark_class mark)

pub begins_numeral : (units : List ℕ) (n : ℕ) → n ≡ numeral_count units → n ≤ length units → begins is_digit units ≡ true → Begins Numeral (take n units) (drop n units)
begins_numeral [] n n-is fits digit = absurd (false≢true digit)
begins_numeral (c ∷ rest) n n-is fits digit =
    begins_from Numeral (c ∷ rest) n fits (ap (λ m. is_numeral (take m (c ∷ rest))) n-is ∙ numeral_front c rest digit)
    (λ other more k splits is-other same. subst (λ m. length other ≤ m) (sym n-is) (numeral_bound c rest other more digit splits (numeral_kind k other is-other same)))
    (no_comment_at c rest (digit_not_mark c digit))

-- punctuators

begins_with_itself : (s more : List ℕ) → begins_with s (s ++ more) ≡ true
begins_with_itself [] more = refl
begins_with_itself (c ∷ s) more = and_from (c == c) _ (eq-eqb c c refl) (begins_with_itself s more)

begins_with_front : (s units : List ℕ) → begins_with s units ≡ true → take (length s) units ≡ s
begins_with_front [] units front = refl
begins_with_front (c ∷ s) [] front = absurd (false≢true front)
begins_with_front (c ∷ s) (d ∷ units) front =
    let parts = and_parts (d == c) _ front in
    let first = eqb-true d c parts.0 in
    let below = begins_with_front s units parts.1 in
    (λ i. first i ∷ below i)

-- no spelling is longer than one before it
abbrev falls : List Entry → Bool
falls [] = true
falls (e ∷ entries) = list_all (λ (d : Entry). nat_le (length d.spelling) (length e.spelling)) entries && falls entries

count_bound : (entries : List Entry) (other more : List ℕ) → falls entries ≡ true → is_among entries other ≡ true → length other ≤ first_count entries (other ++ more)
count_bound [] other more sorted among = absurd (false≢true among)
count_bound (e ∷ entries) other more sorted among =
    let s = e.spelling in
    let parts = and_parts (list_all (λ (d : Entry). nat_le (length d.spelling) (length s)) entries) _ sorted in
    ⊎_elim
    (λ here.
    let same = (bytes_decides other s).0 here in
    subst (λ m. length other ≤ m) (sym (cond-true (begins_with s (other ++ more)) _ _ (ap (λ w. begins_with w (other ++ more)) (sym same) ∙ begins_with_itself other more))) (let e = ap length same in omega arith))
    (λ later.
    let short = leb-true (length other) (length s) (among_all entries (λ w. nat_le (length w) (length s)) other later parts.0) in
    by (begins_with s (other ++ more)) short (count_bound entries other more parts.1 later))
    (or_cases (bytes_eq other s) _ among)
  where
    by : (b : Bool) → length other ≤ length e.spelling → length other ≤ first_count entries (other ++ more) → length other ≤ cond b (length e.spelling) (first_count entries (other ++ more))
    by true short below = short
    by false short below = below

count_among : (entries : List Entry) (units : List ℕ) → 0 < first_count entries units → is_among entries (take (first_count entries units) units) ≡ true
count_among [] units some = absurd (omega arith)
count_among (e ∷ entries) units some = by (begins_with e.spelling units) refl some (λ below. count_among entries units below)
  where
    by : (b : Bool) → begins_with e.spelling units ≡ b → 0 < cond b (length e.spelling) (first_count entries units) → (0 < first_count entries units → is_among entries (take (first_count entries units) units) ≡ true) → is_among (e ∷ entries) (take (cond b (length e.spelling) (first_count entries units)) units) ≡ true
    by true here some below = or_left _ _ ((bytes_decides (take (length e.spelling) units) e.spelling).1 (begins_with_front e.spelling units here))
    by false other some below = or_right _ _ (below some)

begins_with_its_front : (n : ℕ) (units : List ℕ) → begins_with (take n units) units ≡ true
begins_with_its_front zero units = refl
begins_with_its_front (suc n) [] = refl
begins_with_its_front (suc n) (d ∷ units) = and_from (d == d) _ (eq-eqb d d refl) (begins_with_its_front n units)

-- the first spelling that the units begin with is looked up
first_word-looked_up : (entries : List Entry) (units : List ℕ) → first_word entries units ≡ look_up W.Unused entries (take (first_count entries units) units)
first_word-looked_up [] units = refl
first_word-looked_up (e ∷ entries) units = by (begins_with e.spelling units) refl (first_word-looked_up entries units)
  where
    by : (b : Bool) → begins_with e.spelling units ≡ b → first_word entries units ≡ look_up W.Unused entries (take (first_count entries units) units)
        → cond b e.word (first_word entries units) ≡ look_up W.Unused (e ∷ entries) (take (cond b (length e.spelling) (first_count entries units)) units)
    by true here below = sym (cond-true _ _ _ ((bytes_decides (take (length e.spelling) units) e.spelling).1 (begins_with_front e.spelling units here)))
    by false other below =
        let front = take (first_count entries units) units in
        let apart = false_from_ne_true (bytes_eq front e.spelling) (λ same. false≢true (sym other ∙ ap (λ w. begins_with w units) (sym ((bytes_decides front e.spelling).0 same)) ∙ begins_with_its_front (first_count entries units) units)) in
        below ∙ sym (cond-false _ _ _ apart)

-- the word of the longest punctuator
pub mark_word : (units : List ℕ) (n : ℕ) (word : Word) → n ≡ first_count punctuators units → word ≡ first_word punctuators units → word ≡ word_in Punctuator (take n units)
mark_word units n word n-is word-is = word-is ∙ first_word-looked_up punctuators units ∙ ap (λ m. look_up W.Unused punctuators (take m units)) (sym n-is)

sorted_punctuators : falls punctuators ≡ true
unfolding punctuators long_punctuators double_punctuators single_punctuators
sorted_punctuators = refl

mark_is_punctuator : (c : ℕ) → class_of c ≡ Mark → is_among punctuators (c ∷ []) ≡ true
unfolding punctuators long_punctuators double_punctuators single_punctuators
mark_is_punctuator c mark = one_of_all marks (λ u. is_among punctuators (u ∷ [])) c (mark_is c mark) refl

pub begins_punctuator : (units : List ℕ) (n : ℕ) → n ≡ first_count punctuators units → n ≤ length units → begins is_mark units ≡ true → begins_comment units ≡ false → Begins Punctuator (take n units) (drop n units)
begins_punctuator [] n n-is fits mark no-comment = absurd (false≢true mark)
begins_punctuator (c ∷ rest) n n-is fits mark no-comment =
    let single : 1 ≤ first_count punctuators (c ∷ rest) = count_bound punctuators (c ∷ []) rest sorted_punctuators (mark_is_punctuator c (class_from_mark _ mark)) in
    begins_from Punctuator (c ∷ rest) n fits (ap (λ m. is_among punctuators (take m (c ∷ rest))) n-is ∙ count_among punctuators (c ∷ rest) single)
    (λ other more k splits is-other same.
    let among = punctuator_kind k other is-other same in
    subst (λ m. length other ≤ m) (sym (n-is ∙ ap (first_count punctuators) splits)) (count_bound punctuators other more sorted_punctuators among))
    no-comment

-- texts

spell-append : (character : Character) (rest more : List ℕ) → spell character rest ++ more ≡ spell character (rest ++ more)
spell-append (Plain c) rest more = refl
spell-append (Escaped c) rest more = refl
spell-append Null rest more = refl
spell-append (Hexadecimal a b) rest more = refl
spell-append (Unicode a b c d) rest more = refl
spell-append (Continuation c) rest more = refl
spell-append ContinuationPair rest more = refl
spell-append (Refused c) rest more = refl

pub spell_all-append : (characters : List Character) (rest more : List ℕ) → spell_all characters rest ++ more ≡ spell_all characters (rest ++ more)
spell_all-append [] rest more = refl
spell_all-append (c ∷ cs) rest more = spell-append c (spell_all cs rest) more ∙ ap (λ u. spell c u) (spell_all-append cs rest more)

pub quote_ends : (quote : ℕ) (rest : List ℕ) → ends_text quote (quote ∷ rest) ≡ true
quote_ends quote [] = or_left _ _ (or_left _ _ (eq-eqb quote quote refl))
quote_ends quote (d ∷ rest) = or_left _ _ (eq-eqb quote quote refl)

-- a closed text in front of more units reads as it does alone
pub reads_on : (spelling : List ℕ) (quote : ℕ) (characters : List Character) (more : List ℕ) → ReadsText spelling quote characters (quote ∷ []) → ReadsText (spelling ++ more) quote characters (quote ∷ more)
reads_on spelling quote characters more reads = record {
  is_quote = reads.is_quote;
  spelled = ap (λ u. u ++ more) reads.spelled ∙ ap (λ u. quote ∷ u) (spell_all-append characters (quote ∷ []) more);
  each = any_rest quote reads.is_quote [] more characters reads.each;
  ends = quote_ends quote more;
}

-- the units have one reading as a text
pub one_reading_of_text : (units : List ℕ) (q r : ℕ) (cs ds : List Character) (rest more : List ℕ) → ReadsText units q cs rest → ReadsText units r ds more → (q ≡ r) × (cs ≡ ds) × (rest ≡ more)
one_reading_of_text units q r cs ds rest more a b =
    let both : q ∷ spell_all cs rest ≡ r ∷ spell_all ds more = sym a.spelled ∙ b.spelled in
    let quotes : q ≡ r = cc in
    let tails : spell_all cs rest ≡ spell_all ds more = cc in
    let each = subst (λ x. AreCharacters x ds more) (sym quotes) b.each in
    let ends = subst (λ x. ends_text x more ≡ true) (sym quotes) b.ends in
    let one = one_text q a.is_quote cs ds rest more tails a.each each (ends_none q a.is_quote rest a.ends) (ends_none q a.is_quote more ends) in
    (quotes, one.0, one.1)

-- a text that is closed and has no fault
pub record Closed (units : List ℕ) (quote : ℕ) (characters : List Character) (rest : List ℕ) : Type 0 where
  pub tail : List ℕ
  pub rest-is : rest ≡ quote ∷ tail
  pub right : refused_in 1 characters ≡ None

pub closed : (units : List ℕ) (quote : ℕ) (characters : List Character) (rest : List ℕ) → text_fault quote characters rest ≡ None → Closed units quote characters rest
closed units quote characters [] none = absurd (none-some (fault 0 OpenText) (sym none))
closed units quote characters (c ∷ tail) none =
    ⊎_elim
    (λ here. let same = eqb-true c quote here.0 in record { tail = tail; rest-is = ap (λ x. x ∷ tail) same; right = here.1 })
    (λ other. absurd (none-some (fault 0 OpenText) (sym other.1)))
    (chosen (c == quote) _ _ None none)

text_no_comment : (units : List ℕ) (quote : ℕ) (rest : List ℕ) → class_of quote ≡ Quote → units ≡ quote ∷ rest → begins_comment units ≡ false
text_no_comment units quote rest is-quote splits = ap begins_comment splits ∙ no_comment_at quote rest (λ mark. false≢true (sym (ap is_mark_class is-quote) ∙ ap is_mark_class mark))

pub begins_text : (units : List ℕ) (quote : ℕ) (characters : List Character) (rest tail : List ℕ) (n : ℕ) → ReadsText units quote characters rest → rest ≡ quote ∷ tail → refused_in 1 characters ≡ None → length units + 1 ≡ n + length rest → (n ≤ length units) × Begins Text (take n units) (drop n units)
begins_text units quote characters rest tail n reads rest-is right count-is =
    let spelling = quote ∷ spell_all characters (quote ∷ []) in
    let splits : units ≡ spelling ++ tail = reads.spelled ∙ ap (λ u. quote ∷ spell_all characters u) rest-is ∙ ap (λ u. quote ∷ u) (sym (spell_all-append characters (quote ∷ []) tail)) in
    let long : length units ≡ length spelling + length tail = ap length splits ∙ length-append spelling tail in
    let tail-long : length rest ≡ suc (length tail) = ap length rest-is in
    let n-is : length spelling ≡ n = omega arith in
    let fits : n ≤ length units = omega arith in
    let front : take n units ≡ spelling = ap (λ u. take n u) splits ∙ take_at spelling tail n n-is in
    let stands : StandsFor spelling (filter_map character_value characters) = record {
      quote = quote;
      characters = characters;
      reads = record { is_quote = reads.is_quote; spelled = refl; each = any_rest quote reads.is_quote tail [] characters (subst (λ u. AreCharacters quote characters u) rest-is reads.each); ends = quote_ends quote [] };
      right = right;
      value = refl;
    } in (
      fits,
      begins_from Text units n fits (subst (λ s. (u : List ℕ) × StandsFor s u) (sym front) (filter_map character_value characters, stands))
          (λ other more k e is-other same.
          let text = text_kind k other is-other same in
          let there = reads_on other text.1.quote text.1.characters more text.1.reads in
          let one = one_reading_of_text units quote text.1.quote characters text.1.characters rest (text.1.quote ∷ more) reads (subst (λ u. ReadsText u text.1.quote text.1.characters (text.1.quote ∷ more)) (sym e) there) in
          let rests = ap length one.2 in
          omega (arith, ap length e, length-append other more))
          (text_no_comment units quote (spell_all characters rest) reads.is_quote reads.spelled),
    )

-- each spelling has a unit
abbrev are_spelled : List Entry → Bool
are_spelled entries = list_all (λ (e : Entry). nat_le 1 (length e.spelling)) entries

-- what the units begin with is told by the first of two tables that has it
pub in_front : (front back : List Entry) (units : List ℕ) → first_count front units ≢ 0
    → (first_count (front ++ back) units ≡ first_count front units) × (first_word (front ++ back) units ≡ first_word front units)
in_front [] back units some = absurd (some refl)
in_front (e ∷ front) back units some = by (begins_with e.spelling units) some (λ below. in_front front back units below)
  where
    by : (b : Bool) → cond b (length e.spelling) (first_count front units) ≢ 0
        → (first_count front units ≢ 0 → (first_count (front ++ back) units ≡ first_count front units) × (first_word (front ++ back) units ≡ first_word front units))
        → (cond b (length e.spelling) (first_count (front ++ back) units) ≡ cond b (length e.spelling) (first_count front units))
        × (cond b e.word (first_word (front ++ back) units) ≡ cond b e.word (first_word front units))
    by true some below = (refl, refl)
    by false some below = below some

-- and by the second where the first has none
pub behind : (front back : List Entry) (units : List ℕ) → are_spelled front ≡ true → first_count front units ≡ 0
    → (first_count (front ++ back) units ≡ first_count back units) × (first_word (front ++ back) units ≡ first_word back units)
behind [] back units spelled none = (refl, refl)
behind (e ∷ front) back units spelled none =
    let parts = and_parts (nat_le 1 (length e.spelling)) _ spelled in
    by (begins_with e.spelling units) (leb-true 1 (length e.spelling) parts.0) none (λ below. behind front back units parts.1 below)
  where
    by : (b : Bool) → 1 ≤ length e.spelling → cond b (length e.spelling) (first_count front units) ≡ 0
        → (first_count front units ≡ 0 → (first_count (front ++ back) units ≡ first_count back units) × (first_word (front ++ back) units ≡ first_word back units))
        → (cond b (length e.spelling) (first_count (front ++ back) units) ≡ first_count back units)
        × (cond b e.word (first_word (front ++ back) units) ≡ first_word back units)
    by true some none below = absurd (omega arith)
    by false some none below = below none

-- the tables of punctuators, joined
joined_punctuators : punctuators ≡ long_punctuators ++ (double_punctuators ++ single_punctuators)
unfolding punctuators
joined_punctuators = refl

long_are_spelled : are_spelled long_punctuators ≡ true
unfolding long_punctuators
long_are_spelled = refl

doubles_are_spelled : are_spelled double_punctuators ≡ true
unfolding double_punctuators
doubles_are_spelled = refl

-- a punctuator is told by the first of the three tables that has it
abbrev IsMark : List Entry → List ℕ → ℕ → Word → Type 0
IsMark entries units count word = (count ≡ first_count entries units) × (word ≡ first_word entries units)

pub long_mark_is_longest : (units : List ℕ) (count : ℕ) (word : Word) → IsMark long_punctuators units count word → 0 < count
    → IsMark punctuators units count word
long_mark_is_longest units count word is some =
    let joined = in_front long_punctuators (double_punctuators ++ single_punctuators) units (λ none. (let e = is.0 ∙ none in absurd (omega arith))) in
    (is.0 ∙ sym joined.0 ∙ ap (λ t. first_count t units) (sym joined_punctuators), is.1 ∙ sym joined.1 ∙ ap (λ t. first_word t units) (sym joined_punctuators))

pub later_mark_is_longest : (units : List ℕ) (count : ℕ) (word : Word) → first_count long_punctuators units ≡ 0
    → IsMark (double_punctuators ++ single_punctuators) units count word → IsMark punctuators units count word
later_mark_is_longest units count word none is =
    let joined = behind long_punctuators (double_punctuators ++ single_punctuators) units long_are_spelled none in
    (is.0 ∙ sym joined.0 ∙ ap (λ t. first_count t units) (sym joined_punctuators), is.1 ∙ sym joined.1 ∙ ap (λ t. first_word t units) (sym joined_punctuators))

pub double_mark_is_longest : (units : List ℕ) (count : ℕ) (word : Word) → 0 ≡ first_count long_punctuators units
    → IsMark double_punctuators units count word → 0 < count → IsMark punctuators units count word
double_mark_is_longest units count word none is some =
    let joined = in_front double_punctuators single_punctuators units (λ zero. (let e = is.0 ∙ zero in absurd (omega arith))) in
    later_mark_is_longest units count word (sym none) (is.0 ∙ sym joined.0, is.1 ∙ sym joined.1)

pub single_mark_is_longest : (units : List ℕ) (count : ℕ) (word : Word) → 0 ≡ first_count long_punctuators units
    → 0 ≡ first_count double_punctuators units → IsMark single_punctuators units count word → IsMark punctuators units count word
single_mark_is_longest units count word none none_either is =
    let joined = behind double_punctuators single_punctuators units doubles_are_spelled (sym none_either) in
    later_mark_is_longest units count word (sym none) (is.0 ∙ sym joined.0, is.1 ∙ sym joined.1)
