-- The units of a script, each of one class (ECMA-262 6, 7.2, 7.3, 7.6, 7.7, 7.8). Units by number: 48 to 57 are the
-- decimal digits, 65 to 90 and 97 to 122 the letters.
use Rattle.std.specs.Prelude.{ℕ, Bool, true, false, ◌||◌, if◌then◌else◌, [], ◌∷◌, codes}
use Rattle.rip_base.specs.Blank as Blank
use Rattle.rip_base.specs.Units.{is_between, is_one_of}
use Rattle.rip_lexer.specs.declared.units.UnitClass.{UnitClass}
use Rattle.rip_lexer.specs.declared.units.UnitClass.TheVariants.{NameStart, Digit, LineEnd, White, Quote, Mark, Other}

-- A letter of ASCII, `$` or `_` may begin a name (7.6). A line end is LF, CR, LS or PS (7.3), and white space is
-- what 7.2 lists. A quote begins a text (7.8.4), and a mark a punctuator (7.7). What is left begins nothing.
unfoldable pub class_of : ℕ → UnitClass
class_of c =
    if is_between 97 122 c || is_between 65 90 c || is_one_of (codes "$_") c then NameStart
    else (if is_between 48 57 c then Digit
    else (if Blank.is_line_end c then LineEnd
    else (if Blank.is_white_space c then White
    else (if is_one_of (34 ∷ 39 ∷ []) c then Quote
    else (if is_one_of (codes "!%&()*+,-./:;<=>?[]^{|}~") c then Mark
    else Other)))))

-- the class of digits
abbrev pub is_digit_class : UnitClass → Bool
is_digit_class Digit = true
is_digit_class _ = false

-- the classes of units that a name may hold behind its first
abbrev pub is_name_class : UnitClass → Bool
is_name_class NameStart = true
is_name_class Digit = true
is_name_class _ = false

-- the class of line ends
abbrev pub is_line_end_class : UnitClass → Bool
is_line_end_class LineEnd = true
is_line_end_class _ = false

-- the classes of white space and line ends
abbrev pub is_blank_class : UnitClass → Bool
is_blank_class White = true
is_blank_class LineEnd = true
is_blank_class _ = false

-- the class of units that may begin a name
abbrev pub is_name_start_class : UnitClass → Bool
is_name_start_class NameStart = true
is_name_start_class _ = false

-- the class of quotes
abbrev pub is_quote_class : UnitClass → Bool
is_quote_class Quote = true
is_quote_class _ = false

-- the class of units that may begin a punctuator
abbrev pub is_mark_class : UnitClass → Bool
is_mark_class Mark = true
is_mark_class _ = false

-- a decimal digit
abbrev pub is_digit : ℕ → Bool
is_digit c = is_digit_class (class_of c)

-- a unit that may begin a name (7.6)
abbrev pub is_name_start : ℕ → Bool
is_name_start c = is_name_start_class (class_of c)

-- a unit that may begin a punctuator (7.7)
abbrev pub is_mark : ℕ → Bool
is_mark c = is_mark_class (class_of c)

-- a unit that a name may hold behind its first
abbrev pub is_name_unit : ℕ → Bool
is_name_unit c = is_name_class (class_of c)

-- a line end (7.3)
abbrev pub is_line_end : ℕ → Bool
is_line_end c = is_line_end_class (class_of c)

-- a quote of a text (7.8.4)
abbrev pub is_quote : ℕ → Bool
is_quote c = is_quote_class (class_of c)

-- white space or a line end
abbrev pub is_blank : ℕ → Bool
is_blank c = is_blank_class (class_of c)
