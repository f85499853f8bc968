-- Texts with references (HTML 13.1.4, narrowed to the names and numbers of the subset), and the units that they stand
-- for. Units by number: 38 is `&`, 35 `#`, 120 `x`, 59 `;`.
use Rattle.std.specs.Prelude.{◌≡◌, ℕ, Bool, true, false, not, ◌||◌, ◌&&◌, ◌==◌, nat_le, if◌then◌else◌, List, [], ◌∷◌, ◌++◌, length, Option, Some, None, IsSome, unwrap_or, codes}
use Rattle.std.specs.Str.{bytes_eq}
use Rattle.std.specs.List.{list_all}
use Rattle.std.specs.Char.Escape.{encode_utf16}
use Rattle.std.specs.Str.Parse.{digits_value}
use Rattle.rip_base.specs.Units.{is_between, is_hex_digit, begins}
use Rattle.rip_markup.specs.Units.{is_letter, is_digit}

-- the code point of a reference by name
unfoldable pub named_code : List ℕ → Option ℕ
named_code name =
    if bytes_eq name (codes "amp") then Some 38
    else (if bytes_eq name (codes "lt") then Some 60
    else (if bytes_eq name (codes "gt") then Some 62
    else (if bytes_eq name (codes "quot") then Some 34
    else (if bytes_eq name (codes "apos") then Some 39
    else (if bytes_eq name (codes "nbsp") then Some 160
    else None)))))

-- a code point that no reference may name: 0, a control of Latin-1, a surrogate, or past Unicode
abbrev pub is_refused_code : ℕ → Bool
is_refused_code code = (code == 0) || is_between 128 159 code || is_between 0xD800 0xDFFF code || not (nat_le code 0x10FFFF)

-- the code point, if a reference may name it
abbrev pub allowed_code : ℕ → Option ℕ
allowed_code code = if is_refused_code code then None else Some code

-- the code point of one digit or more, each of which passes
abbrev pub digits_code : (ℕ → Bool) → ℕ → List ℕ → Option ℕ
digits_code passes base [] = None
digits_code passes base (c ∷ digits) = if list_all passes (c ∷ digits) then allowed_code (digits_value base (c ∷ digits)) else None

-- the code point that the units behind `&#` name: decimal digits, or `x` and hexadecimal digits
abbrev pub number_code : List ℕ → Option ℕ
number_code [] = None
number_code (c ∷ rest) = if c == 120 then digits_code is_hex_digit 16 rest else digits_code is_digit 10 (c ∷ rest)

-- the code point that the units between `&` and `;` name
abbrev pub code_of : List ℕ → Option ℕ
code_of [] = None
code_of (c ∷ rest) = if c == 35 then number_code rest else named_code (c ∷ rest)

-- a unit that may stand in a reference
abbrev pub is_reference_unit : ℕ → Bool
is_reference_unit c = is_letter c || is_digit c || (c == 35)

-- a unit behind an `&` with which a reference begins
abbrev pub starts_reference : ℕ → Bool
starts_reference c = is_letter c || (c == 35)

-- these units between `&` and `;` are a reference
abbrev pub is_reference : List ℕ → Bool
is_reference body = begins starts_reference body && list_all is_reference_unit body

-- a part of a text: a unit, or a reference with the units between `&` and `;`
pub data Item : Type 0 where
  Plain : ℕ → Item
  Referring : List ℕ → Item

-- the units of an item, and then the rest
abbrev pub item_text : Item → List ℕ → List ℕ
item_text (Plain c) rest = c ∷ rest
item_text (Referring body) rest = 38 ∷ (body ++ (59 ∷ rest))

-- The item may stand before this rest. An `&` that no letter and no `#` follows is itself.
abbrev pub IsItem : Item → List ℕ → Type 0
IsItem (Plain c) rest = ((c == 38) && begins starts_reference rest) ≡ false
IsItem (Referring body) rest = (is_reference body ≡ true) × IsSome (code_of body)

-- the units that an item stands for (RFC 2781)
abbrev pub item_units : Item → List ℕ
item_units (Plain c) = c ∷ []
item_units (Referring body) = encode_utf16 (unwrap_or (code_of body) 0)

-- the units of items, and then the rest
abbrev pub items_text : List Item → List ℕ → List ℕ
items_text [] rest = rest
items_text (item ∷ items) rest = item_text item (items_text items rest)

-- the items may stand in this order before this rest
abbrev pub AreItems : List Item → List ℕ → Type 0
AreItems [] rest = Unit {0}
AreItems (item ∷ items) rest = IsItem item (items_text items rest) × AreItems items rest

-- an `&` that a letter or `#` follows, and no reference stands here
pub record IsBadReference (text : List ℕ) : Type 0 where
  pub after : List ℕ
  pub ampersand : text ≡ 38 ∷ after
  pub starts : begins starts_reference after ≡ true
  pub no_reference : (body rest : List ℕ) → after ≡ body ++ (59 ∷ rest) → is_reference body ≡ true → IsSome (code_of body) → ⊥

-- the text is these items, or it is these items and then a reference that is none; its place counts from the first unit
abbrev pub IsRead : List ℕ → List Item → Option ℕ → Type 0
IsRead text items None = (text ≡ items_text items []) × AreItems items []
IsRead text items (Some place) = (rest : List ℕ) × (text ≡ items_text items rest) × AreItems items rest × IsBadReference rest × (place ≡ length (items_text items []))
