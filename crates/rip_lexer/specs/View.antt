-- What some units begin with, as functions. The functions below `tokens` are stated by these; that they agree with
-- the relations of the other files is proved, and no public clause cites them.
use Rattle.std.specs.Prelude.{◌≡◌, ℕ, ◌+◌, ◌≤◌, Bool, true, false, not, ◌||◌, ◌&&◌, ◌==◌, if◌then◌else◌, List, [], ◌∷◌, ◌++◌, length, Option, Some, None, option_map, take_while}
use Rattle.std.specs.List.{list_any, prefix_len}
use Rattle.rip_base.specs.Units.{is_one_of, is_hex_digit, begins}
use Rattle.rip_grammar.specs.declared.word.Word.{Word}
use Rattle.rip_grammar.specs.declared.word.Word.TheVariants as W
use Rattle.rip_lexer.specs.Words.{Entry, word_in}
use Rattle.rip_lexer.specs.Units.{is_digit, is_line_end, is_blank}
use Rattle.rip_lexer.specs.Text.{ReadsText, begins_hex, text_fault}
use Rattle.rip_lexer.specs.Gap.{Part, Blank, LineComment, BlockComment, line_in, gap_text, IsGap}
use Rattle.rip_lexer.specs.Tokens.{Begins, fault_of, Refuses}
use Rattle.rip_lexer.specs.declared.character.Character.{Character}
use Rattle.rip_lexer.specs.declared.character.Character.TheVariants.{Plain, Escaped, Null, Hexadecimal, Unicode, Continuation, ContinuationPair, Refused}
use Rattle.rip_lexer.specs.declared.gap.Gap.{Gap}
use Rattle.rip_lexer.specs.declared.text.TextEnd.{TextEnd}
use Rattle.rip_lexer.specs.declared.construct.Construct.{Construct}
use Rattle.rip_lexer.specs.declared.construct.Construct.TheVariants as C

-- the units before the first `*/`
abbrev pub before_close : List ℕ → Option (List ℕ)
before_close [] = None
before_close (c ∷ rest) = if (c == 42) && begins (λ d. d == 47) rest then Some [] else option_map (λ body. c ∷ body) (before_close rest)

-- the comment that `/` and these units begin with
abbrev pub comment_of : List ℕ → Option Part
comment_of [] = None
comment_of (d ∷ rest) =
    if d == 47 then Some (LineComment (take_while (λ c. not (is_line_end c)) rest))
    else (if d == 42 then option_map (λ body. BlockComment body) (before_close rest)
    else None)

-- the part of a gap that the units begin with
abbrev pub first_part : List ℕ → Option Part
first_part [] = None
first_part (c ∷ rest) = if is_blank c then Some (Blank c) else (if c == 47 then comment_of rest else None)

-- how many units a part has
abbrev pub part_count : Part → ℕ
part_count (Blank c) = 1
part_count (LineComment body) = length body + 2
part_count (BlockComment body) = length body + 4

-- a part as the code shows it
abbrev pub shown : Part → Gap
shown part = record { count = part_count part; holds_line_end = line_in part }

-- a body behind so many units and a line end or none, as the code shows it
abbrev pub shown_body : ℕ → Bool → List ℕ → Gap
shown_body count holds_line_end body = record { count = length body + count; holds_line_end = holds_line_end || list_any is_line_end body }

-- the units are the longest gap and then what stands behind it
pub record ReadsGap (units : List ℕ) (count : ℕ) (holds_line_end : Bool) (rest : List ℕ) : Type 0 where
  pub gap : List Part
  pub splits : units ≡ gap_text gap rest
  pub is_gap : IsGap gap rest
  pub count-is : count ≡ length (gap_text gap [])
  pub line-is : holds_line_end ≡ list_any line_in gap

-- the escape that `\x` and these units begin with
abbrev pub hex_escape : List ℕ → Character
hex_escape (a ∷ b ∷ rest) = if begins_hex 2 (a ∷ b ∷ []) then Hexadecimal a b else Refused 120
hex_escape _ = Refused 120

-- the escape that `\u` and these units begin with
abbrev pub unicode_escape : List ℕ → Character
unicode_escape (a ∷ b ∷ c ∷ d ∷ rest) = if begins_hex 4 (a ∷ b ∷ c ∷ d ∷ []) then Unicode a b c d else Refused 117
unicode_escape _ = Refused 117

-- the escape that `\0` and these units begin with
abbrev pub null_escape : List ℕ → Character
null_escape rest = if begins is_digit rest then Refused 48 else Null

-- the escape that `\`, this line end and the rest begin with
abbrev pub continuation : ℕ → List ℕ → Character
continuation c rest = if (c == 13) && begins (λ d. d == 10) rest then ContinuationPair else Continuation c

-- the escape that `\`, this unit and the rest begin with
abbrev pub escape_of : ℕ → List ℕ → Character
escape_of c rest =
    if c == 48 then null_escape rest
    else (if c == 120 then hex_escape rest
    else (if c == 117 then unicode_escape rest
    else (if is_digit c then Refused c
    else (if is_line_end c then continuation c rest
    else Escaped c))))

-- the character that the units begin with, in a text with this quote, where the text goes on
abbrev pub first_character : ℕ → List ℕ → Option Character
first_character quote [] = None
first_character quote (c ∷ []) = if (c == quote) || is_line_end c then None else (if c == 92 then None else Some (Plain c))
first_character quote (c ∷ d ∷ rest) = if (c == quote) || is_line_end c then None else (if c == 92 then Some (escape_of d rest) else Some (Plain c))

-- the text that the units begin with, as the code shows it
pub record ReadsEnd (units : List ℕ) (end : TextEnd) : Type 0 where
  pub quote : ℕ
  pub characters : List Character
  pub rest : List ℕ
  pub reads : ReadsText units quote characters rest
  pub count-is : length units + 1 ≡ end.count + length rest
  pub fault-is : end.fault ≡ text_fault quote characters rest

-- how many units the longest numeral has that the units begin with
abbrev pub numeral_count : List ℕ → ℕ
numeral_count (z ∷ x ∷ hs) =
    if z == 48 then (if is_one_of (120 ∷ 88 ∷ []) x && begins is_hex_digit hs then prefix_len is_hex_digit hs + 2 else 1)
    else prefix_len is_digit (z ∷ x ∷ hs)
numeral_count units = prefix_len is_digit units

-- the units begin with this spelling
abbrev pub begins_with : List ℕ → List ℕ → Bool
begins_with [] units = true
begins_with (c ∷ spelling) [] = false
begins_with (c ∷ spelling) (d ∷ units) = (d == c) && begins_with spelling units

-- how many units the first spelling of these has that the units begin with, and 0 where there is none
abbrev pub first_count : List Entry → List ℕ → ℕ
first_count [] units = 0
first_count (e ∷ entries) units = if begins_with e.spelling units then length e.spelling else first_count entries units

-- the word of that spelling
abbrev pub first_word : List Entry → List ℕ → Word
first_word [] units = W.Unused
first_word (e ∷ entries) units = if begins_with e.spelling units then e.word else first_word entries units

-- the units begin with this token, with what is refused, or there are none
abbrev pub IsConstruct : List ℕ → Construct → Type 0
IsConstruct units C.Nothing = units ≡ []
IsConstruct units (C.Token kind word count) =
    (spelling : List ℕ) × (rest : List ℕ) × (units ≡ spelling ++ rest) × Begins kind spelling rest
    × (fault_of kind spelling rest ≡ None) × (count ≡ length spelling) × (word ≡ word_in kind spelling)
IsConstruct units (C.Refused found) = Refuses units found.offset found.kind

-- the entries whose spellings have this many units
abbrev pub of_length : ℕ → List Entry → List Entry
of_length n [] = []
of_length n (e ∷ entries) = if length e.spelling == n then e ∷ of_length n entries else of_length n entries

-- what is refused is refused within so many units
abbrev pub OffsetWithin : ℕ → Construct → Type 0
OffsetWithin count (C.Refused found) = found.offset ≤ count
OffsetWithin count _ = Unit {0}
