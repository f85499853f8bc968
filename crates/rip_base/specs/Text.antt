use Rattle.std.specs.Prelude.{◌≡◌, ℕ, List, true}
use Rattle.std.specs.List.{flat_map}
use Rattle.std.specs.Str.{encode_utf8_all, all_scalars}
use Rattle.std.specs.Char.Escape.{encode_utf16}

-- the units of characters in UTF-16, one or two for each (RFC 2781 section 2.1)
abbrev pub encode_utf16_all : List ℕ → List ℕ
encode_utf16_all cs = flat_map encode_utf16 cs

-- the units are the UTF-16 of some characters, so that no surrogate is without its partner (RFC 2781 section 2.2)
abbrev pub IsUtf16 : List ℕ → Type 0
IsUtf16 units = (cs : List ℕ) × ((all_scalars cs ≡ true) × (encode_utf16_all cs ≡ units))

-- bytes and units spell the same characters, in UTF-8 (RFC 3629 section 3) and in UTF-16
pub record IsSameText (bytes units : List ℕ) : Type 0 where
  pub characters : List ℕ
  pub are : all_scalars characters ≡ true
  pub in_bytes : encode_utf8_all characters ≡ bytes
  pub in_units : encode_utf16_all characters ≡ units
