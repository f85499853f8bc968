-- How the texts are found that `join` joins. No public clause cites this.
use Rattle.std.specs.Prelude.{ℕ, zero, suc, true, false, List, [], codes, map, length, ◌+◌, slice_get, slice_range, unwrap_or}
use Rattle.std.specs.Fmt.{signed_decimal}
use Rattle.rip_base.specs.declared.value.Value.{Value}
use Rattle.rip_base.specs.declared.value.Value.TheVariants.{Undefined, Null, Bool as Boolean, Num, NaN, Text, Object}
use Rattle.rip_values.specs.declared.fixed.FixedText.TheVariants.{Undefined as UndefinedText, Null as NullText, True as TrueText, False as FalseText, NaN as NaNText}
use Rattle.rip_values.specs.Pool.{with_text}
use Rattle.rip_heap.specs.Conversions.{span_of}
use Rattle.rip_heap.specs.World.{World}
use Rattle.rip_builtins.specs.declared.pieces.Piece.{Piece}
use Rattle.rip_builtins.specs.declared.pieces.Piece.TheVariants.{Nothing, Comma, Numeral, Part}
use Rattle.rip_builtins.specs.Joining.{joined_by}

-- the element at this place; past the end it is undefined
abbrev pub item_at : List Value → ℕ → Value
item_at items place = unwrap_or (slice_get items place) Undefined

-- how the text of a value is found; an object has none
abbrev pub piece_of_value : Value → Piece
piece_of_value Undefined = Part (span_of UndefinedText)
piece_of_value Null = Part (span_of NullText)
piece_of_value (Boolean false) = Part (span_of FalseText)
piece_of_value (Boolean true) = Part (span_of TrueText)
piece_of_value (Num z) = Numeral z
piece_of_value NaN = Part (span_of NaNText)
piece_of_value (Text span) = Part span
piece_of_value (Object n) = Nothing

-- of an element, of which null and undefined are empty
abbrev pub piece_of_element : Value → Piece
piece_of_element Undefined = Nothing
piece_of_element Null = Nothing
piece_of_element v = piece_of_value v

-- of the separator, which is a comma where none is given
abbrev pub piece_of_separator : Value → Piece
piece_of_separator Undefined = Comma
piece_of_separator v = piece_of_value v

-- the text of a piece, where the pool has these units
abbrev pub piece_in : List ℕ → Piece → List ℕ
piece_in units Nothing = []
piece_in units Comma = codes ","
piece_in units (Numeral z) = signed_decimal z
piece_in units (Part span) = slice_range units span.start (span.start + span.count)

-- the texts of the elements joined, where the pool has these units
abbrev pub joined_in : List ℕ → Value → List Value → List ℕ
joined_in units separator items =
    joined_by (piece_in units (piece_of_separator separator)) (map (λ v. piece_in units (piece_of_element v)) items)

-- what stands before the element at this place: nothing before the first
abbrev pub gap : ℕ → List ℕ → List ℕ
gap zero between = []
gap (suc place) between = between

-- the world with these units behind all texts, each charged
abbrev pub with_units : World → List ℕ → World
with_units w units = record w { pool = with_text w.pool units (length units) }
