-- The text of a page: UTF-8 with a mark or none before it (RFC 3629 sections 3 and 6), in which each line ends in LF
-- (HTML 13.2.3.5). Units by number: 13 is CR, 10 LF.
use Rattle.std.specs.Prelude.{◌≡◌, ℕ, pred, ◌+◌, Bool, true, false, ◌&&◌, ◌==◌, nat_lt, if◌then◌else◌, List, [], ◌∷◌, drop}
use Rattle.std.specs.Str.{IsUtf8}
use Rattle.std.specs.Str.Lossy.{utf8_valid_len}
use Rattle.rip_base.specs.Text.{IsSameText}
use Rattle.rip_base.specs.declared.page.PageKind.TheVariants.{NotUtf8}
use Rattle.rip_base.specs.Units.{is_between}
use Rattle.rip_markup.specs.declared.input.PageText.{PageText}
use Rattle.rip_markup.specs.declared.refusal.PageRefusal.{PageRefusal}
use Rattle.rip_markup.specs.declared.refusal.PageRefusal.TheVariants.{At, Memory}

-- how many bytes the mark has that may stand before a text in UTF-8
abbrev pub mark_count : List ℕ → ℕ
mark_count (a ∷ b ∷ c ∷ rest) = if (a == 0xEF) && (b == 0xBB) && (c == 0xBF) then 3 else 0
mark_count _ = 0

-- the bytes behind the mark
abbrev pub unmarked : List ℕ → List ℕ
unmarked bytes = drop (mark_count bytes) bytes

-- The units with lines that end in LF: a CR becomes LF, and an LF behind a CR is dropped. The first argument says
-- whether a CR stands before the units.
abbrev pub lines : Bool → List ℕ → List ℕ
lines behind_cr [] = []
lines behind_cr (c ∷ rest) =
    if c == 13 then 10 ∷ lines true rest
    else (if behind_cr && (c == 10) then lines false rest
    else c ∷ lines false rest)

-- the bytes of a page spell this text
pub record IsTextOf (bytes : List ℕ) (text : PageText) : Type 0 where
  pub mark : text.mark ≡ mark_count bytes
  pub spelled : IsSameText (unmarked bytes) text.raw
  pub normal : text.units ≡ lines false text.raw

-- Why bytes have no text: they aren't UTF-8, and the place is that of the first byte that belongs to no character. For
-- want of memory nothing is said.
abbrev pub IsTextRefusal : List ℕ → PageRefusal → Type 0
IsTextRefusal bytes (At place kind) = (IsUtf8 (unmarked bytes) → ⊥) × (place ≡ mark_count bytes + utf8_valid_len (unmarked bytes)) × (kind ≡ NotUtf8)
IsTextRefusal bytes Memory = Unit {0}

-- how many bytes a unit has in UTF-8; those of a character outside the first plane are shared by its two units
abbrev pub unit_width : ℕ → ℕ
unit_width c = if nat_lt c 0x80 then 1 else (if nat_lt c 0x800 then 2 else (if is_between 0xD800 0xDFFF c then 2 else 3))

-- How many bytes stand before a place in the text whose lines end in LF, counted in the text as the page spells it. An
-- LF that is dropped stands before what follows it.
abbrev pub bytes_before : Bool → List ℕ → ℕ → ℕ
bytes_before behind_cr [] place = 0
bytes_before behind_cr (c ∷ rest) place =
    if behind_cr && (c == 10) then 1 + bytes_before false rest place
    else (if place == 0 then 0 else unit_width c + bytes_before (c == 13) rest (pred place))

-- the units of a unit in a text whose lines end in LF
abbrev pub line_units : Bool → ℕ → List ℕ
line_units behind_cr c = if c == 13 then 10 ∷ [] else (if behind_cr && (c == 10) then [] else c ∷ [])
