-- The functions of texts. Places count units from 0; a piece of a text costs nothing.
use Rattle.std.specs.Prelude.{ℕ, ℤ, pos, negsuc, List, length, ◌+◌, ◌-◌, min, max, nat_lt, Option, None, Some, Result, Ok, slice_get, option_and_then, if◌then◌else◌}
use Rattle.rip_base.specs.declared.value.Span.{Span}
use Rattle.rip_base.specs.declared.value.Value.{Value}
use Rattle.rip_base.specs.declared.value.Value.TheVariants.{Undefined, Num, NaN, Text}
use Rattle.rip_base.specs.declared.value.Fault.{Fault}
use Rattle.rip_values.specs.declared.fixed.FixedText.TheVariants.{Empty}
use Rattle.rip_values.specs.Pool.{Texts, text_at}
use Rattle.rip_heap.specs.Conversions.{span_of}
use Rattle.rip_heap.specs.Outcome.{Outcome}
use Rattle.rip_heap.specs.World.{World}
use Rattle.rip_builtins.specs.Arguments.{argument, integer_in, then_gives, then_tries, value_or_fault}

-- the part of a text from one place up to another
abbrev pub piece : Span → ℕ → ℕ → Span
piece text from to = record { start = text.start + from; count = to - from }

-- the place in a list of so many, if the integer is one
abbrev pub place_within : ℕ → ℤ → Option ℕ
place_within count (pos n) = if nat_lt n count then Some n else None
place_within count (negsuc n) = None

-- the integer, or the nearest end of a list of so many
abbrev pub clamped : ℕ → ℤ → ℕ
clamped count (pos n) = min n count
clamped count (negsuc n) = 0

-- one unit of the text, or the empty text where there is none
abbrev pub unit_or_empty : Span → Option ℕ → Span
unit_or_empty text None = span_of Empty
unit_or_empty text (Some place) = piece text place (place + 1)

-- `charAt` (ECMA-262 15.5.4.4)
abbrev pub char_at : World → Span → List Value → Outcome
char_at w text args = value_or_fault w (then_gives (integer_in w.pool (argument args 0)) (λ place. Text (unit_or_empty text (place_within (length (text_at w.pool text)) place))))

-- a unit as a number, or NaN where there is none
abbrev pub number_or_nan : Option ℕ → Value
number_or_nan None = NaN
number_or_nan (Some unit) = Num (pos unit)

-- `charCodeAt` (15.5.4.5)
abbrev pub char_code_at : World → Span → List Value → Outcome
char_code_at w text args =
    value_or_fault w (then_gives (integer_in w.pool (argument args 0)) (λ place.
    number_or_nan (option_and_then (slice_get (text_at w.pool text)) (place_within (length (text_at w.pool text)) place))))

-- the place that an end of a piece or of a slice is given by; undefined is the length
abbrev pub end_in : Texts → ℕ → Value → Result ℤ Fault
end_in pool count Undefined = Ok (pos count)
end_in pool count v = integer_in pool v

-- the part between two places, the lesser first
abbrev pub piece_between : Span → ℕ → ℕ → Span
piece_between text a b = piece text (min a b) (max a b)

-- `substring` (15.5.4.15)
abbrev pub substring : World → Span → List Value → Outcome
substring w text args =
    value_or_fault w (then_tries (integer_in w.pool (argument args 0)) (λ a.
    then_gives (end_in w.pool (length (text_at w.pool text)) (argument args 1)) (λ b.
    Text (piece_between text (clamped (length (text_at w.pool text)) a) (clamped (length (text_at w.pool text)) b)))))
