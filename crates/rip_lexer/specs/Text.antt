-- Texts, character by character, and the units that they stand for (ECMA-262 7.8.4). Units by number: 92 is `\`,
-- 48 `0`, 120 `x`, 117 `u`, 13 and 10 are CR and LF.
use Rattle.std.specs.Prelude.{◌≡◌, ℕ, zero, suc, ◌+◌, ◌*◌, Bool, true, false, not, ◌||◌, ◌&&◌, ◌==◌, if◌then◌else◌, List, [], ◌∷◌, Option, Some, None, filter_map}
use Rattle.rip_base.specs.Units.{is_between, is_hex_digit, hex_value, begins}
use Rattle.rip_lexer.specs.Units.{class_of, is_digit, is_line_end}
use Rattle.rip_lexer.specs.declared.units.UnitClass.TheVariants.{Quote}
use Rattle.rip_lexer.specs.declared.character.Character.{Character}
use Rattle.rip_lexer.specs.declared.character.Character.TheVariants.{Plain, Escaped, Null, Hexadecimal, Unicode, Continuation, ContinuationPair, Refused}
use Rattle.rip_lexer.specs.Fault.{fault}
use Rattle.rip_lexer.specs.declared.refusal.Fault.{Fault}
use Rattle.rip_lexer.specs.declared.refusal.LexKind.{LexKind}
use Rattle.rip_lexer.specs.declared.refusal.LexKind.TheVariants.{OpenText, OctalLiteral, BadEscape}

-- the units of a character, and then the rest
abbrev pub spell : Character → List ℕ → List ℕ
spell (Plain c) rest = c ∷ rest
spell (Escaped c) rest = 92 ∷ c ∷ rest
spell Null rest = 92 ∷ 48 ∷ rest
spell (Hexadecimal a b) rest = 92 ∷ 120 ∷ a ∷ b ∷ rest
spell (Unicode a b c d) rest = 92 ∷ 117 ∷ a ∷ b ∷ c ∷ d ∷ rest
spell (Continuation c) rest = 92 ∷ c ∷ rest
spell ContinuationPair rest = 92 ∷ 13 ∷ 10 ∷ rest
spell (Refused c) rest = 92 ∷ c ∷ rest

-- the units begin with this many hexadecimal digits
abbrev pub begins_hex : ℕ → List ℕ → Bool
begins_hex zero units = true
begins_hex (suc n) [] = false
begins_hex (suc n) (c ∷ rest) = is_hex_digit c && begins_hex n rest

-- `\` and this unit make no escape before this rest: octal digits, 8 and 9, and `x` or `u` without their digits
abbrev pub is_refused : ℕ → List ℕ → Bool
is_refused c rest =
    if c == 48 then begins is_digit rest
    else (if c == 120 then not (begins_hex 2 rest)
    else (if c == 117 then not (begins_hex 4 rest)
    else is_digit c))

-- the character may stand in a text with this quote before this rest
abbrev pub IsCharacter : ℕ → Character → List ℕ → Type 0
IsCharacter quote (Plain c) rest = (c == quote ≡ false) × (c == 92 ≡ false) × (is_line_end c ≡ false)
IsCharacter quote (Escaped c) rest = (is_line_end c ≡ false) × (is_digit c ≡ false) × (c == 120 ≡ false) × (c == 117 ≡ false)
IsCharacter quote Null rest = begins is_digit rest ≡ false
IsCharacter quote (Hexadecimal a b) rest = begins_hex 2 (a ∷ b ∷ []) ≡ true
IsCharacter quote (Unicode a b c d) rest = begins_hex 4 (a ∷ b ∷ c ∷ d ∷ []) ≡ true
IsCharacter quote (Continuation c) rest = (is_line_end c ≡ true) × ((c == 13) && begins (λ d. d == 10) rest ≡ false)
IsCharacter quote ContinuationPair rest = Unit {0}
IsCharacter quote (Refused c) rest = is_refused c rest ≡ true

-- what `\` before b, t, n, v, f and r stands for; any other unit stands for itself
abbrev pub escape_value : ℕ → ℕ
escape_value c =
    if c == 98 then 8
    else (if c == 116 then 9
    else (if c == 110 then 10
    else (if c == 118 then 11
    else (if c == 102 then 12
    else (if c == 114 then 13
    else c)))))

-- the unit that a character stands for, if it stands for one
abbrev pub character_value : Character → Option ℕ
character_value (Plain c) = Some c
character_value (Escaped c) = Some (escape_value c)
character_value Null = Some 0
character_value (Hexadecimal a b) = Some (hex_value a * 16 + hex_value b)
character_value (Unicode a b c d) = Some (((hex_value a * 16 + hex_value b) * 16 + hex_value c) * 16 + hex_value d)
character_value (Continuation c) = None
character_value ContinuationPair = None
character_value (Refused c) = None

-- how many units a character has
abbrev pub width : Character → ℕ
width (Plain c) = 1
width (Escaped c) = 2
width Null = 2
width (Hexadecimal a b) = 4
width (Unicode a b c d) = 6
width (Continuation c) = 2
width ContinuationPair = 3
width (Refused c) = 2

-- why an escape is refused: the digits 0 to 7 are octal
abbrev pub refused_kind : ℕ → LexKind
refused_kind c = if is_between 48 55 c then OctalLiteral else BadEscape

-- the units of characters, and then the rest
abbrev pub spell_all : List Character → List ℕ → List ℕ
spell_all [] rest = rest
spell_all (c ∷ cs) rest = spell c (spell_all cs rest)

-- the characters may stand in this order in a text with this quote before this rest
abbrev pub AreCharacters : ℕ → List Character → List ℕ → Type 0
AreCharacters quote [] rest = Unit {0}
AreCharacters quote (c ∷ cs) rest = IsCharacter quote c (spell_all cs rest) × AreCharacters quote cs rest

-- the fault of a character at this place
abbrev pub fault_at : ℕ → Character → Option Fault
fault_at place (Refused c) = Some (fault place (refused_kind c))
fault_at place _ = None

-- the first of two, where there is one
abbrev pub option_or : {X : Type 0} → Option X → Option X → Option X
option_or None second = second
option_or (Some x) second = Some x

-- the first fault among characters that begin at this place
abbrev pub refused_in : ℕ → List Character → Option Fault
refused_in place [] = None
refused_in place (c ∷ cs) = option_or (fault_at place c) (refused_in (place + width c) cs)

-- the characters of a text end here: at its quote, at a line end, or because nothing follows but `\`
abbrev pub ends_text : ℕ → List ℕ → Bool
ends_text quote [] = true
ends_text quote (c ∷ []) = (c == quote) || is_line_end c || (c == 92)
ends_text quote (c ∷ d ∷ rest) = (c == quote) || is_line_end c

-- the units are a quote, these characters, and this rest, where the text ends
pub record ReadsText (units : List ℕ) (quote : ℕ) (characters : List Character) (rest : List ℕ) : Type 0 where
  pub is_quote : class_of quote ≡ Quote
  pub spelled : units ≡ quote ∷ spell_all characters rest
  pub each : AreCharacters quote characters rest
  pub ends : ends_text quote rest ≡ true

-- where a text that is read so is refused, counted from its quote, and why
abbrev pub text_fault : ℕ → List Character → List ℕ → Option Fault
text_fault quote characters rest =
    if begins (λ c. c == quote) rest then refused_in 1 characters else Some (fault 0 OpenText)

-- the spelling is a quote, characters of which none is refused, and that quote again; it stands for these units
pub record StandsFor (spelling : List ℕ) (units : List ℕ) : Type 0 where
  pub quote : ℕ
  pub characters : List Character
  pub reads : ReadsText spelling quote characters (quote ∷ [])
  pub right : refused_in 1 characters ≡ None
  pub value : units ≡ filter_map character_value characters
