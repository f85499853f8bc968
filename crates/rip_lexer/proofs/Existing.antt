-- Each script has a list of tokens or a first refusal.
use Rattle.std.proofs.Common.{◌≡◌, ℕ, zero, suc, ◌+◌, ◌<◌, ◌≤◌, ◌⊎◌, inl, inr, Bool, true, false, cond, ◌==◌, List, [], ◌∷◌, length, take, drop, Option, Some, None, refl, sym, ap, ◌∙◌, arith, length-append}
use Rattle.std.specs.List.{prefix_len}
use Rattle.std.proofs.lemmas.Bool.{and_parts, false≢true}
use Rattle.std.proofs.lemmas.List.Sums.{prefix_len-le-length}
use Rattle.rip_base.specs.Units.{is_hex_digit, begins}
use Rattle.rip_grammar.specs.declared.word.Word.TheVariants as W
use Rattle.rip_grammar.specs.Words.{is_name}
use Rattle.rip_lexer.specs.Units.{class_of, is_digit, is_digit_class, is_name_start, is_name_start_class, is_name_unit, is_quote, is_mark, is_mark_class}
use Rattle.rip_lexer.specs.Words.{Entry, look_up, reserved_words, punctuators, word_in}
use Rattle.rip_lexer.specs.Numeral.{numeral_fault}
use Rattle.rip_lexer.specs.Text.{spell, width, fault_at, option_or}
use Rattle.rip_lexer.specs.Fault.{fault}
use Rattle.rip_lexer.specs.Gap.{Part, Blank, LineComment, BlockComment, begins_comment}
use Rattle.rip_lexer.specs.Tokens.{Outcome, Whole, RefusedAt, Lexes, IsTokens, IsFirstRefusal, punctuator_fault, HaveAReading}
use Rattle.rip_lexer.specs.View.{first_part, part_count, first_character, numeral_count, begins_with, first_count, ReadsGap, ReadsEnd, IsConstruct}
use Rattle.rip_lexer.specs.declared.character.Character.{Character}
use Rattle.rip_lexer.specs.declared.character.Character.TheVariants.{Plain, Escaped, Null, Hexadecimal, Unicode, Continuation, ContinuationPair, Refused}
use Rattle.rip_lexer.specs.declared.construct.Construct.{Construct}
use Rattle.rip_lexer.specs.declared.construct.Construct.TheVariants as C
use Rattle.rip_lexer.specs.declared.refusal.Fault.{Fault}
use Rattle.rip_lexer.specs.declared.refusal.LexKind.{LexKind}
use Rattle.rip_lexer.specs.declared.refusal.LexKind.TheVariants.{BadCharacter, OpenComment}
use Rattle.rip_lexer.specs.declared.text.TextEnd.{TextEnd}
use Rattle.rip_lexer.specs.declared.token.Token.{Token}
use Rattle.rip_lexer.specs.declared.token.TokenKind.TheVariants.{Name, Reserved, Numeral, Text, Punctuator}
use Rattle.rip_lexer.specs.declared.units.UnitClass.{UnitClass}
use Rattle.rip_lexer.specs.declared.units.UnitClass.TheVariants.{NameStart, Digit, LineEnd, White, Quote, Mark, Other}
use Rattle.rip_lexer.proofs.Constructs.{token_of, word_token, spelling_refused, comment_refused, text_token, text_refused, unit_refused}
use Rattle.rip_lexer.proofs.Gaps.{part_stands, more_gap, no_gap, length_part}
use Rattle.rip_lexer.proofs.Lexing.{ends_at, token_leads, token_fits}
use Rattle.rip_lexer.proofs.Longest.{begins_numeral, begins_punctuator}
use Rattle.rip_lexer.proofs.Texts.{Reads, text_turn, character_stands, closed_end, open_end}

-- TEXTS

-- a character has units, and the rest stands behind them
spell_long : (character : Character) (rest : List ℕ) → length (spell character rest) ≡ width character + length rest
spell_long (Plain c) rest = omega arith
spell_long (Escaped c) rest = omega arith
spell_long Null rest = omega arith
spell_long (Hexadecimal a b) rest = omega arith
spell_long (Unicode a b c d) rest = omega arith
spell_long (Continuation c) rest = omega arith
spell_long ContinuationPair rest = omega arith
spell_long (Refused c) rest = omega arith

width_some : (character : Character) → 0 < width character
width_some (Plain c) = omega arith
width_some (Escaped c) = omega arith
width_some Null = omega arith
width_some (Hexadecimal a b) = omega arith
width_some (Unicode a b c d) = omega arith
width_some (Continuation c) = omega arith
width_some ContinuationPair = omega arith
width_some (Refused c) = omega arith

-- behind the first character of the units fewer are left
fewer_left : (quote : ℕ) (units : List ℕ) (character : Character) → first_character quote units ≡ Some character → (length units ≡ width character + length (drop (width character) units)) × (0 < width character)
fewer_left quote units character first =
    let stands = character_stands quote units character first in (
      ap length stands.splits ∙ spell_long character stands.rest ∙ ap (λ (u : List ℕ). width character + length u) stands.rest-is,
      width_some character,
    )

-- a text has an end
abbrev HasEnd : List ℕ → Type 0
HasEnd units = (end : TextEnd) × ReadsEnd units end

text_closes : (units rest : List ℕ) (quote count : ℕ) (found : Option Fault) → class_of quote ≡ Quote → count + length rest ≡ length units → Reads units quote rest count found → first_character quote rest ≡ None
    → (closes : Bool) → begins (λ c. c == quote) rest ≡ closes → HasEnd units
text_closes units rest quote count found is_quote bound reads none true closes = (record { count = count + 1; fault = found }, closed_end units rest quote count found is_quote bound reads none closes)
text_closes units rest quote count found is_quote bound reads none false opens = (record { count = count + 1; fault = Some (fault 0 _) }, open_end units rest quote count found is_quote bound reads none opens)

text_step : (units rest : List ℕ) (quote count : ℕ) (found : Option Fault) → class_of quote ≡ Quote → count + length rest ≡ length units → Reads units quote rest count found
    → (first : Option Character) → first_character quote rest ≡ first → ((character : Character) → first_character quote rest ≡ Some character → HasEnd units) → HasEnd units
text_step units rest quote count found is_quote bound reads None none more = text_closes units rest quote count found is_quote bound reads none (begins (λ c. c == quote) rest) refl
text_step units rest quote count found is_quote bound reads (Some character) some more = more character some

text_ends : (fuel : ℕ) (units rest : List ℕ) (quote count : ℕ) (found : Option Fault) → length rest < fuel → class_of quote ≡ Quote → count + length rest ≡ length units → Reads units quote rest count found → HasEnd units
text_ends zero units rest quote count found few is_quote bound reads = absurd (omega arith)
text_ends (suc fuel) units rest quote count found few is_quote bound reads =
    text_step units rest quote count found is_quote bound reads (first_character quote rest) refl
    (λ character first.
    let left = fewer_left quote rest character first in
    text_ends fuel units (drop (width character) rest) quote (count + width character) (option_or found (fault_at count character))
    (omega (arith, left.0, left.1)) is_quote (omega (arith, left.0)) (text_turn units rest quote count found character (sym first) reads))

text_end_exists : (quote : ℕ) (rest : List ℕ) → class_of quote ≡ Quote → HasEnd (quote ∷ rest)
text_end_exists quote rest is_quote =
    text_ends (suc (length rest)) (quote ∷ rest) rest quote 1 None (omega arith) is_quote (omega arith)
    (λ characters end splits each. (characters, ap (λ u. quote ∷ u) splits, each, refl))

-- CONSTRUCTS

-- the units begin with a token, with what is refused, or there are none
abbrev pub HasConstruct : List ℕ → Type 0
HasConstruct units = (construct : Construct) × IsConstruct units construct

word_exists : (units : List ℕ) → begins is_name_start units ≡ true → HasConstruct units
word_exists units starts =
    let front = take (prefix_len is_name_unit units) units in
    let word = look_up W.Name reserved_words front in
    (C.Token (cond (is_name word) Name Reserved) word (length front), word_token units front (prefix_len is_name_unit units) word (is_name word) refl refl starts refl refl)

numeral_short : (units : List ℕ) → numeral_count units ≤ length units
numeral_short [] = prefix_len-le-length is_digit []
numeral_short (z ∷ []) = prefix_len-le-length is_digit (z ∷ [])
numeral_short (z ∷ x ∷ hs) = grind (arith, prefix_len-le-length is_hex_digit hs, prefix_len-le-length is_digit (z ∷ x ∷ hs))

numeral_by : (units : List ℕ) (n : ℕ) → n ≡ numeral_count units → n ≤ length units → begins is_digit units ≡ true
    → (found : Option Fault) → numeral_fault (take n units) (drop n units) ≡ found → HasConstruct units
numeral_by units n count short starts None e = (C.Token Numeral W.Numeral (length (take n units)), token_of Numeral W.Numeral units (take n units) n refl (begins_numeral units n count short starts) e refl)
numeral_by units n count short starts (Some f) e = (C.Refused f, spelling_refused Numeral units n f (begins_numeral units n count short starts) e)

numeral_exists : (units : List ℕ) → begins is_digit units ≡ true → HasConstruct units
numeral_exists units starts = numeral_by units (numeral_count units) refl (numeral_short units) starts (numeral_fault (take (numeral_count units) units) (drop (numeral_count units) units)) refl

spelling_short : (spelling units : List ℕ) → begins_with spelling units ≡ true → length spelling ≤ length units
spelling_short [] units begun = omega arith
spelling_short (c ∷ spelling) [] begun = absurd (false≢true begun)
spelling_short (c ∷ spelling) (d ∷ units) begun =
    let less : length spelling ≤ length units = spelling_short spelling units (and_parts (d == c) (begins_with spelling units) begun).1 in
    omega arith

first_short : (entries : List Entry) (units : List ℕ) → first_count entries units ≤ length units
first_short [] units = omega arith
first_short (e ∷ entries) units = grind (arith, spelling_short e.spelling units, first_short entries units)

punctuator_by : (units : List ℕ) (n : ℕ) → n ≡ first_count punctuators units → n ≤ length units → begins is_mark units ≡ true → begins_comment units ≡ false
    → (found : Option Fault) → punctuator_fault (take n units) (drop n units) ≡ found → HasConstruct units
punctuator_by units n count short starts opens None e = (C.Token Punctuator (word_in Punctuator (take n units)) (length (take n units)), token_of Punctuator _ units (take n units) n refl (begins_punctuator units n count short starts opens) e refl)
punctuator_by units n count short starts opens (Some f) e = (C.Refused f, spelling_refused Punctuator units n f (begins_punctuator units n count short starts opens) e)

punctuator_exists : (units : List ℕ) → first_part units ≡ None → begins is_mark units ≡ true → (comment : Bool) → begins_comment units ≡ comment → HasConstruct units
punctuator_exists units no_gap starts true comment = (C.Refused (fault 0 OpenComment), comment_refused units no_gap comment)
punctuator_exists units no_gap starts false opens =
    let n = first_count punctuators units in
    punctuator_by units n refl (first_short punctuators units) starts opens (punctuator_fault (take n units) (drop n units)) refl

text_by : (units : List ℕ) (end : TextEnd) → ReadsEnd units end → (found : Option Fault) → end.fault ≡ found → HasConstruct units
text_by units end reads None e = (C.Token Text W.Text end.count, text_token units end reads e)
text_by units end reads (Some f) e = (C.Refused f, text_refused units end f reads e)

text_exists : (quote : ℕ) (rest : List ℕ) → class_of quote ≡ Quote → HasConstruct (quote ∷ rest)
text_exists quote rest is_quote = let end = text_end_exists quote rest is_quote in text_by (quote ∷ rest) end.0 end.1 end.0.fault refl

construct_exists : (units : List ℕ) → first_part units ≡ None → HasConstruct units
construct_exists [] none = (C.Nothing, refl)
construct_exists (c ∷ rest) none = by (class_of c) refl
  where
    refused : (k : UnitClass) → class_of c ≡ k → (k ≡ White) ⊎ ((k ≡ LineEnd) ⊎ (k ≡ Other)) → HasConstruct (c ∷ rest)
    refused k e which = (C.Refused (fault 0 BadCharacter), unit_refused (c ∷ rest) k (omega arith) none (sym e) which)

    by : (k : UnitClass) → class_of c ≡ k → HasConstruct (c ∷ rest)
    by NameStart e = word_exists (c ∷ rest) (ap is_name_start_class e)
    by Digit e = numeral_exists (c ∷ rest) (ap is_digit_class e)
    by Quote e = text_exists c rest e
    by Mark e = punctuator_exists (c ∷ rest) none (ap is_mark_class e) (begins_comment (c ∷ rest)) refl
    by White e = refused White e (inl refl)
    by LineEnd e = refused LineEnd e (inr (inl refl))
    by Other e = refused Other e (inr (inr refl))

-- GAPS

part_some : (part : Part) → 0 < part_count part
part_some (Blank c) = omega arith
part_some (LineComment body) = omega arith
part_some (BlockComment body) = omega arith

-- the longest gap that the units begin with
record LongestGap (units : List ℕ) : Type 0 where
  pub count : ℕ
  pub line : Bool
  pub behind : List ℕ
  pub reads : ReadsGap units count line behind
  pub none : first_part behind ≡ None
  pub fewer : length behind ≤ length units

gap_step : (units : List ℕ) → (first : Option Part) → first_part units ≡ first → ((part : Part) → first_part units ≡ Some part → LongestGap (drop (part_count part) units)) → LongestGap units
gap_step units None none more = record { count = 0; line = false; behind = units; reads = no_gap units; none = none; fewer = omega arith }
gap_step units (Some part) some more =
    let below = more part some in
    let stands = part_stands units part some in
    let long : length units ≡ part_count part + length (drop (part_count part) units) =
    ap length stands.splits ∙ length_part part stands.rest ∙ ap (λ (u : List ℕ). part_count part + length u) stands.rest-is in
    record {
      count = part_count part + below.count;
      line = _;
      behind = below.behind;
      reads = more_gap units part below.count below.line below.behind stands below.reads;
      none = below.none;
      fewer = omega (arith, below.fewer, long);
    }

gap_within : (fuel : ℕ) (units : List ℕ) → length units < fuel → LongestGap units
gap_within zero units few = absurd (omega arith)
gap_within (suc fuel) units few =
    gap_step units (first_part units) refl
    (λ part some.
    let stands = part_stands units part some in
    let long : length units ≡ part_count part + length (drop (part_count part) units) =
    ap length stands.splits ∙ length_part part stands.rest ∙ ap (λ (u : List ℕ). part_count part + length u) stands.rest-is in
    gap_within fuel (drop (part_count part) units) (omega (arith, long, part_some part)))

-- SCRIPTS

-- tokens and an end of the units, which begin at this place of the script
abbrev HasCourse : ℕ → List ℕ → Type 0
HasCourse at units = (tokens : List Token) × (outcome : Outcome) × Lexes at units tokens outcome

course_step : (at : ℕ) (units : List ℕ) (gap : LongestGap units) (construct : Construct) → IsConstruct gap.behind construct
    → ((next : ℕ) (rest : List ℕ) → length rest < length units → HasCourse next rest) → HasCourse at units
course_step at units gap C.Nothing end more = ([], Whole, ends_at at gap.count units gap.behind gap.line Whole gap.reads end)
course_step at units gap (C.Refused f) refused more =
    ([], RefusedAt (at + gap.count + f.offset) f.kind, ends_at at gap.count units gap.behind gap.line (RefusedAt (at + gap.count + f.offset) f.kind) gap.reads (f.offset, refused, refl))
course_step at units gap (C.Token kind word n) it more =
    let token : Token = record { kind = kind; word = word; start = at + gap.count; count = n; line_before = gap.line } in
    let fits = token_fits gap.behind kind word n it in
    let long : length gap.behind ≡ length it.0 + length it.1 = ap length it.2 ∙ length-append it.0 it.1 in
    let behind = more (at + gap.count + n) it.1 (omega (arith, fits.0, long, it.5, gap.fewer)) in
    (token ∷ behind.0, behind.1, (it.1, token_leads units at gap.count gap.line gap.behind kind word n gap.reads it, behind.2))

course : (fuel at : ℕ) (units : List ℕ) → length units < fuel → HasCourse at units
course zero at units few = absurd (omega arith)
course (suc fuel) at units few =
    let gap = gap_within (suc (length units)) units (omega arith) in
    let construct = construct_exists gap.behind gap.none in
    course_step at units gap construct.0 construct.1 (λ next rest fewer. course fuel next rest (omega (arith, fewer)))

answer_of : (text : List ℕ) (tokens : List Token) (outcome : Outcome) → Lexes 0 text tokens outcome → ((tokens : List Token) × IsTokens text tokens) ⊎ ((place : ℕ) × (cause : LexKind) × IsFirstRefusal text place cause)
answer_of text tokens Whole lexes = inl (tokens, lexes)
answer_of text tokens (RefusedAt place cause) lexes = inr (place, cause, (tokens, lexes))

pub a_reading : HaveAReading
a_reading text = let all = course (suc (length text)) 0 text (omega arith) in answer_of text all.0 all.1 all.2
