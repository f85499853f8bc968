-- The tokens of a script, or its first refusal, as relations on its whole text (ECMA-262 7).
use Rattle.std.specs.Prelude.{◌≡◌, ℕ, ◌+◌, ◌<◌, ◌≤◌, true, false, ◌&&◌, if◌then◌else◌, List, [], ◌∷◌, ◌++◌, length, take, drop, Option, Some, None, Result, Ok, Err, ◌⊎◌, codes}
use Rattle.std.specs.Str.{bytes_eq}
use Rattle.std.specs.List.{list_any}
use Rattle.rip_base.specs.Units.{begins}
use Rattle.rip_lexer.specs.Units.{class_of, is_digit}
use Rattle.rip_lexer.specs.Words.{is_word, is_among, reserved_words, punctuators, word_in}
use Rattle.rip_lexer.specs.Numeral.{is_numeral, numeral_fault, numeral_value}
use Rattle.rip_lexer.specs.Text.{ReadsText, StandsFor, text_fault}
use Rattle.rip_lexer.specs.Gap.{Part, line_in, gap_text, IsGap, begins_comment, holds_close}
use Rattle.rip_lexer.specs.declared.units.UnitClass.TheVariants.{Other}
use Rattle.rip_lexer.specs.declared.character.Character.{Character}
use Rattle.rip_lexer.specs.declared.token.Token.{Token}
use Rattle.rip_lexer.specs.declared.token.TokenKind.{TokenKind}
use Rattle.rip_lexer.specs.declared.token.TokenKind.TheVariants.{Name, Reserved, Numeral, Text, Punctuator}
use Rattle.rip_lexer.specs.Fault.{fault}
use Rattle.rip_lexer.specs.declared.refusal.Fault.{Fault}
use Rattle.rip_lexer.specs.declared.refusal.LexKind.{LexKind}
use Rattle.rip_lexer.specs.declared.refusal.LexKind.TheVariants.{BadCharacter, OpenComment, FractionLiteral}
use Rattle.rip_lexer.specs.declared.refusal.LexRefusal.{LexRefusal}
use Rattle.rip_lexer.specs.declared.refusal.LexRefusal.TheVariants.{At, Memory}

-- these units, and no more, spell a token of this kind
abbrev pub IsSpelling : TokenKind → List ℕ → Type 0
IsSpelling Name s = (is_word s ≡ true) × (is_among reserved_words s ≡ false)
IsSpelling Reserved s = is_among reserved_words s ≡ true
IsSpelling Numeral s = is_numeral s ≡ true
IsSpelling Text s = (units : List ℕ) × StandsFor s units
IsSpelling Punctuator s = is_among punctuators s ≡ true

-- the spelling is of this kind, and no longer one and no comment begins at its place
pub record Begins (kind : TokenKind) (spelling rest : List ℕ) : Type 0 where
  pub spelled : IsSpelling kind spelling
  pub longest : (other more : List ℕ) (k : TokenKind) → spelling ++ rest ≡ other ++ more → IsSpelling k other → length other ≤ length spelling
  pub no_comment : begins_comment (spelling ++ rest) ≡ false

-- where a punctuator with this rest is refused, counted from its first unit, and why: a `.` before a digit is a fraction
abbrev pub punctuator_fault : List ℕ → List ℕ → Option Fault
punctuator_fault s rest = if bytes_eq s (codes ".") && begins is_digit rest then Some (fault 0 FractionLiteral) else None

-- where a spelling with this rest is refused, counted from its first unit, and why
abbrev pub fault_of : TokenKind → List ℕ → List ℕ → Option Fault
fault_of Numeral s rest = numeral_fault s rest
fault_of Punctuator s rest = punctuator_fault s rest
fault_of _ s rest = None

-- the units begin with what is refused, at this offset and for this cause
pub data Refuses (units : List ℕ) (offset : ℕ) (cause : LexKind) : Type 0 where
  -- a spelling with a fault
  Spelling : (kind : TokenKind) (spelling rest : List ℕ) → units ≡ spelling ++ rest → Begins kind spelling rest → fault_of kind spelling rest ≡ Some (fault offset cause) → Refuses units offset cause
  -- a text that isn't closed, or has an escape that is none
  InText : (quote : ℕ) (characters : List Character) (rest : List ℕ) → ReadsText units quote characters rest → text_fault quote characters rest ≡ Some (fault offset cause) → Refuses units offset cause
  -- a `/*` with no `*/` behind it
  InComment : (body : List ℕ) → units ≡ 47 ∷ 42 ∷ body → holds_close body ≡ false → offset ≡ 0 → cause ≡ OpenComment → Refuses units offset cause
  -- a unit that begins nothing
  AtUnit : (unit : ℕ) (rest : List ℕ) → units ≡ unit ∷ rest → class_of unit ≡ Other → offset ≡ 0 → cause ≡ BadCharacter → Refuses units offset cause

-- the text, which begins at this place of the script, begins with a gap and the token, and the rest follows
pub record Leads (at : ℕ) (text : List ℕ) (token : Token) (rest : List ℕ) : Type 0 where
  pub gap : List Part
  pub spelling : List ℕ
  pub splits : text ≡ gap_text gap (spelling ++ rest)
  pub is_gap : IsGap gap (spelling ++ rest)
  pub begins_token : Begins token.kind spelling rest
  pub no_fault : fault_of token.kind spelling rest ≡ None
  pub word : token.word ≡ word_in token.kind spelling
  pub start : token.start ≡ at + length (gap_text gap [])
  pub count : token.count ≡ length spelling
  pub line_before : token.line_before ≡ list_any line_in gap

-- how a list of tokens ends: with the text, or at a place where it is refused
pub data Outcome : Type 0 where
  Whole : Outcome
  RefusedAt : ℕ → LexKind → Outcome

-- behind a gap comes this end, where the units begin at this place of the script
abbrev pub IsEnd : ℕ → List ℕ → Outcome → Type 0
IsEnd at units Whole = units ≡ []
IsEnd at units (RefusedAt place cause) = (offset : ℕ) × Refuses units offset cause × (place ≡ at + offset)

-- the text, which begins at this place of the script, is a gap and then this end
pub record Ends (at : ℕ) (text : List ℕ) (outcome : Outcome) : Type 0 where
  pub gap : List Part
  pub rest : List ℕ
  pub splits : text ≡ gap_text gap rest
  pub is_gap : IsGap gap rest
  pub is_end : IsEnd (at + length (gap_text gap [])) rest outcome

-- the text, which begins at this place of the script, is gap, token, gap, token and so on, up to this end
abbrev pub Lexes : ℕ → List ℕ → List Token → Outcome → Type 0
Lexes at text [] outcome = Ends at text outcome
Lexes at text (token ∷ tokens) outcome =
    (rest : List ℕ) × Leads at text token rest × Lexes (token.start + token.count) rest tokens outcome

-- the script is these tokens, with gaps before, between and behind them
abbrev pub IsTokens : List ℕ → List Token → Type 0
IsTokens text tokens = Lexes 0 text tokens Whole

-- the first construct of the script that is refused stands at this place, and this is the cause
abbrev pub IsFirstRefusal : List ℕ → ℕ → LexKind → Type 0
IsFirstRefusal text place cause = (tokens : List Token) × Lexes 0 text tokens (RefusedAt place cause)

-- the refusal names the first refused construct; nothing is said of want of memory
abbrev pub IsRefusal : List ℕ → LexRefusal → Type 0
IsRefusal text (At place cause) = IsFirstRefusal text place cause
IsRefusal text Memory = Unit {0}

-- the units of a token of a script
abbrev pub units_of : List ℕ → Token → List ℕ
units_of text token = take token.count (drop token.start text)

-- The token stands within the script, its units spell a token of its kind, and its word is theirs. The value of a
-- numeral is at most 2 ^ 53 - 1.
pub record IsTokenOf (text : List ℕ) (token : Token) : Type 0 where
  pub inside : token.start + token.count ≤ length text
  pub not_empty : 0 < token.count
  pub spelled : IsSpelling token.kind (units_of text token)
  pub word : token.word ≡ word_in token.kind (units_of text token)
  pub whole : token.kind ≡ Numeral → numeral_value (units_of text token) ≤ 9007199254740991

-- whatever list of tokens the script has, the answer is that list, or memory ran out
abbrev pub GivesTokens : List ℕ → Result (List Token) LexRefusal → Type 0
GivesTokens text answer = (tokens : List Token) → IsTokens text tokens → (answer ≡ Ok tokens) ⊎ (answer ≡ Err Memory)

-- whichever construct of the script is the first one refused, the answer names it, or memory ran out
abbrev pub GivesRefusal : List ℕ → Result (List Token) LexRefusal → Type 0
GivesRefusal text answer = (place : ℕ) (cause : LexKind) → IsFirstRefusal text place cause → (answer ≡ Err (At place cause)) ⊎ (answer ≡ Err Memory)

-- two lists of tokens of one script are one
abbrev pub HaveOneList : Type 0
HaveOneList = (text : List ℕ) (tokens others : List Token) → IsTokens text tokens → IsTokens text others → tokens ≡ others

-- two first refusals of one script are one
abbrev pub HaveOneRefusal : Type 0
HaveOneRefusal = (text : List ℕ) (place other : ℕ) (cause why : LexKind) → IsFirstRefusal text place cause → IsFirstRefusal text other why → (place ≡ other) × (cause ≡ why)

-- each script has a list of tokens or a first refusal
abbrev pub HaveAReading : Type 0
HaveAReading = (text : List ℕ) → ((tokens : List Token) × IsTokens text tokens) ⊎ ((place : ℕ) × (cause : LexKind) × IsFirstRefusal text place cause)

-- no script has both a list of tokens and a first refusal
abbrev pub HaveNotBoth : Type 0
HaveNotBoth = (text : List ℕ) (tokens : List Token) (place : ℕ) (cause : LexKind) → IsTokens text tokens → IsFirstRefusal text place cause → ⊥

-- a text stands for one list of units
abbrev pub TextsHaveOneValue : Type 0
TextsHaveOneValue = (spelling units others : List ℕ) → StandsFor spelling units → StandsFor spelling others → units ≡ others
