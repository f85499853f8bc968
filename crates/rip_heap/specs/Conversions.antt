use Rattle.std.specs.Prelude.{ℕ, ℤ, pos, Bool, true, false, not, List, [], ◌∷◌, length, drop, Option, None, Some, Result, Ok, Err, ◌==◌, ◌^◌, ◌+◌, ◌-ℤ◌, nat_eq, nat_le, nat_lt, if◌then◌else◌, unsigned_abs, codes, unwrap_or}
use Rattle.std.specs.Cmp.Lexicographic.{pointwise}
use Rattle.std.specs.Int.{int_rem_euclid}
use Rattle.std.specs.Ordering.{int_eq}
use Rattle.std.specs.Fmt.{signed_decimal}
use Rattle.std.specs.Str.Parse.{digits_value, starts_with_minus, without_leading_sign}
use Rattle.rip_base.specs.declared.value.Span.{Span}
use Rattle.rip_base.specs.declared.value.Value.{Value}
use Rattle.rip_base.specs.declared.value.Value.TheVariants.{Undefined, Null, Bool as Boolean, Num, NaN, Text, Object}
use Rattle.rip_base.specs.declared.value.Numeral.{Numeral}
use Rattle.rip_base.specs.declared.value.Numeral.TheVariants.{Num as Number, NaN as NotANumber}
use Rattle.rip_base.specs.declared.value.Fault.{Fault}
use Rattle.rip_base.specs.declared.value.Fault.TheVariants.{NotWhole, Infinite, OutOfRange, ObjectToPrimitive, TextTooLong}
use Rattle.rip_base.specs.declared.value.Limit.TheVariants.{Units}
use Rattle.rip_values.specs.declared.fixed.FixedText.{FixedText}
use Rattle.rip_values.specs.declared.fixed.FixedText.TheVariants.{Undefined as UndefinedText, Null as NullText, True as TrueText, False as FalseText, NaN as NaNText}
use Rattle.rip_base.specs.Blank.{trimmed}
use Rattle.rip_values.specs.FixedTable.{text_of}
use Rattle.rip_values.specs.FixedTexts.{fixed_span}
use Rattle.rip_base.specs.Numbers.{IsNumberOf}
use Rattle.rip_base.specs.NumberScan.{signed_value, is_numeral, is_hexadecimal, is_fraction}
use Rattle.rip_values.specs.Pool.{Texts, text_at}
use Rattle.rip_heap.specs.declared.outcome.Halt.{Halt}
use Rattle.rip_heap.specs.declared.outcome.Halt.TheVariants.{Fault as HaltFault, Limit as HaltLimit}
use Rattle.rip_heap.specs.Names.{same_text}
use Rattle.rip_heap.specs.Texts.{new_text}
use Rattle.rip_heap.specs.World.{World}

-- TO BOOLEAN

-- ECMA-262 9.2
abbrev pub boolean_of : Texts → Value → Bool
boolean_of pool Undefined = false
boolean_of pool Null = false
boolean_of pool (Boolean b) = b
boolean_of pool (Num z) = not (unsigned_abs z == 0)
boolean_of pool NaN = false
boolean_of pool (Text span) = not (length (text_at pool span) == 0)
boolean_of pool (Object n) = true

-- TO NUMBER

-- the whole number, or that it is past the range
abbrev pub ranged : ℤ → Result Numeral Fault
ranged z = if nat_le (unsigned_abs z) 9007199254740991 then Ok (Number z) else Err OutOfRange

-- what a sign or none and decimal digits, a decimal fraction or `Infinity` stand for, of which `literal` is the part
-- behind the sign
abbrev pub number_of_literal : Bool → List ℕ → Result Numeral Fault
number_of_literal negative literal =
    if is_numeral 10 literal then ranged (signed_value negative (digits_value 10 literal))
    else if is_fraction literal then Err NotWhole
    else if pointwise nat_eq literal (codes "Infinity") then Err Infinite
    else Ok NotANumber

-- ECMA-262 9.3.1, of a text with no blanks around it; the law that it is what the grammar there gives stands in the
-- contract of `to_number`
abbrev pub number_of_trimmed : List ℕ → Result Numeral Fault
number_of_trimmed [] = Ok (Number (pos 0))
number_of_trimmed (unit ∷ rest) =
    if is_hexadecimal (unit ∷ rest) then ranged (pos (digits_value 16 (drop 2 (unit ∷ rest))))
    else number_of_literal (starts_with_minus (unit ∷ rest)) (without_leading_sign (unit ∷ rest))

-- ECMA-262 9.3.1, of any text
unfoldable pub number_of_text : List ℕ → Result Numeral Fault
number_of_text text = number_of_trimmed (trimmed text)

-- ECMA-262 9.3
abbrev pub number_of : Texts → Value → Result Numeral Fault
number_of pool Undefined = Ok NotANumber
number_of pool Null = Ok (Number (pos 0))
number_of pool (Boolean false) = Ok (Number (pos 0))
number_of pool (Boolean true) = Ok (Number (pos 1))
number_of pool (Num z) = Ok (Number z)
number_of pool NaN = Ok NotANumber
number_of pool (Text span) = number_of_text (text_at pool span)
number_of pool (Object n) = Err ObjectToPrimitive

-- of a text, the number is one that the grammar of ECMA-262 9.3.1 gives it
abbrev pub IsSpelled : Texts → Value → Result Numeral Fault → Type 0
IsSpelled pool Undefined answer = Unit {0}
IsSpelled pool Null answer = Unit {0}
IsSpelled pool (Boolean b) answer = Unit {0}
IsSpelled pool (Num z) answer = Unit {0}
IsSpelled pool NaN answer = Unit {0}
IsSpelled pool (Text span) answer = IsNumberOf (trimmed (text_at pool span)) answer
IsSpelled pool (Object n) answer = Unit {0}

-- TO INTEGERS

-- ECMA-262 9.4: each number other than NaN is whole
abbrev pub integer_of : Numeral → ℤ
integer_of (Number z) = z
integer_of NotANumber = pos 0

-- ECMA-262 9.6: the number modulo 2^32
abbrev pub uint32_of : Numeral → ℕ
uint32_of n = unsigned_abs (int_rem_euclid (integer_of n) (pos (2 ^ 32)))

-- ECMA-262 9.5: the same, less 2^32 from 2^31 on
abbrev pub int32_of : Numeral → ℤ
int32_of n = if nat_lt (uint32_of n) (2 ^ 31) then pos (uint32_of n) else pos (uint32_of n) -ℤ pos (2 ^ 32)

-- TO TEXT

-- the span of a fixed text, which stands in every pool
abbrev pub span_of : FixedText → Span
span_of fixed = unwrap_or (fixed_span (text_of fixed)) (record { start = 0; count = 0 })

-- what a conversion answers where it makes a text, or where that would pass the limit of units
abbrev pub text_made : World → Option (Span × World) → Result Span Halt × World
text_made w None = (Err (HaltLimit Units), w)
text_made w (Some made) = (Ok made.0, made.1)

-- whether a text of so many units can be made: no text that a run makes is longer than the limit, which is judged
-- before the charge
abbrev pub room_for_text : Texts → ℕ → Result (Unit {0}) Halt
room_for_text pool count =
    if nat_le count pool.text_limit then
    (if nat_le (pool.used + count) pool.limit then Ok tt else Err (HaltLimit Units))
    else Err (HaltFault TextTooLong)

-- what the conversion of a whole number answers: a new text, whose length is judged before it is charged
abbrev pub numeral_made : World → List ℕ → Result Span Halt × World
numeral_made w text =
    if nat_le (length text) w.pool.text_limit then text_made w (new_text w text) else (Err (HaltFault TextTooLong), w)

-- ECMA-262 9.8: the span of the text, and the world with it. A whole number makes a new text, at its length in units;
-- the others cost nothing
abbrev pub text_of_value : World → Value → Result Span Halt × World
text_of_value w Undefined = (Ok (span_of UndefinedText), w)
text_of_value w Null = (Ok (span_of NullText), w)
text_of_value w (Boolean false) = (Ok (span_of FalseText), w)
text_of_value w (Boolean true) = (Ok (span_of TrueText), w)
text_of_value w (Num z) = numeral_made w (signed_decimal z)
text_of_value w NaN = (Ok (span_of NaNText), w)
text_of_value w (Text span) = (Ok span, w)
text_of_value w (Object n) = (Err (HaltFault ObjectToPrimitive), w)

-- the text of a value; an object has none
abbrev pub text_in : World → Value → List ℕ
text_in w Undefined = text_at w.pool (span_of UndefinedText)
text_in w Null = text_at w.pool (span_of NullText)
text_in w (Boolean false) = text_at w.pool (span_of FalseText)
text_in w (Boolean true) = text_at w.pool (span_of TrueText)
text_in w (Num z) = signed_decimal z
text_in w NaN = text_at w.pool (span_of NaNText)
text_in w (Text span) = text_at w.pool span
text_in w (Object n) = []

-- the fault of the conversion to a text, which comes before any charge
abbrev pub text_fault : Texts → Value → Option Fault
text_fault pool Undefined = None
text_fault pool Null = None
text_fault pool (Boolean b) = None
text_fault pool (Num z) = if nat_le (length (signed_decimal z)) pool.text_limit then None else Some TextTooLong
text_fault pool NaN = None
text_fault pool (Text span) = None
text_fault pool (Object n) = Some ObjectToPrimitive

-- STRICT EQUALITY

-- ECMA-262 11.9.6: values of one kind that are the same; texts by their units, objects by identity; NaN is equal to
-- nothing
abbrev pub strictly_equal : Texts → Value → Value → Bool
strictly_equal pool Undefined Undefined = true
strictly_equal pool Null Null = true
strictly_equal pool (Boolean true) (Boolean b) = b
strictly_equal pool (Boolean false) (Boolean b) = not b
strictly_equal pool (Num a) (Num b) = int_eq a b
strictly_equal pool (Text a) (Text b) = same_text pool a b
strictly_equal pool (Object a) (Object b) = a == b
strictly_equal pool a b = false
