use Rattle.std.specs.Prelude.{ℕ, ℤ, true, false, length, Option, None, Some, nat_lt, is_some, unsigned_abs, if◌then◌else◌}
use Rattle.rip_base.specs.declared.value.Span.{Span}
use Rattle.rip_base.specs.declared.value.Value.{Value}
use Rattle.rip_base.specs.declared.value.Value.TheVariants.{Undefined, Null, Bool as Boolean, Num, NaN, Text, Object}
use Rattle.rip_base.specs.declared.value.Fault.TheVariants.{NotInProfile}
use Rattle.rip_values.specs.declared.fixed.FixedText.TheVariants.{Length, HasOwnProperty}
use Rattle.rip_values.specs.Pool.{text_at}
use Rattle.rip_heap.specs.declared.keys.Found.{Found}
use Rattle.rip_heap.specs.declared.keys.Found.TheVariants.{Here, Barred, Nowhere}
use Rattle.rip_heap.specs.Arrays.{elements_at}
use Rattle.rip_heap.specs.Keys.{is_named, is_index, index_of, is_of_object_prototype, is_underscored, look_up}
use Rattle.rip_heap.specs.Objects.{find}
use Rattle.rip_heap.specs.Outcome.{Outcome, Gives, Throws, Faults}
use Rattle.rip_heap.specs.World.{World}
use Rattle.rip_heap.specs.declared.holder.Asked.{Asked}
use Rattle.rip_heap.specs.declared.holder.Asked.TheVariants.{Name, Numeral, Element, ArrayName}
use Rattle.rip_heap.specs.Holders.{asking, not_in_profile}

-- what is found nowhere: `hasOwnProperty` is there
abbrev pub absent : World → Span → Outcome
absent w name =
    if is_named w.pool name HasOwnProperty then Gives (Boolean true) w
    else if is_of_object_prototype w.pool name then Faults NotInProfile
    else Gives (Boolean false) w

-- the place that is found
abbrev pub found : World → Span → Found → Outcome
found w name Here = Gives (Boolean true) w
found w name Barred = Faults NotInProfile
found w name Nowhere = absent w name

-- `in` of a plain object; a name that begins with two underscores is outside the profile
abbrev pub in_plain : World → ℕ → Span → Outcome
in_plain w n name = if is_underscored (text_at w.pool name) then Faults NotInProfile else found w name (look_up w n name)

-- ARRAYS

-- `in` of an array, by the index of a name, or else `length`
abbrev pub at_index : World → ℕ → Span → Option ℕ → Outcome
at_index w n name (Some i) = Gives (Boolean (nat_lt i (length (elements_at w n)))) w
at_index w n name None = if is_named w.pool name Length then Gives (Boolean true) w else Faults NotInProfile

-- `in` of an array
abbrev pub in_array : World → ℕ → Span → Outcome
in_array w n name = at_index w n name (index_of w.pool name)

-- `in`

-- an index costs nothing, other numerals do
abbrev pub number_in_array : World → ℤ → ℕ → Outcome
number_in_array w z n =
    if is_index z then Gives (Boolean (nat_lt (unsigned_abs z) (length (elements_at w n)))) w
    else not_in_profile w (Num z)

-- `in` by what the key asks; a numeral is none of the names that have a rule of their own
abbrev pub in_asked : ℕ → Asked → World → Outcome
in_asked n (Name name) w = in_plain w n name
in_asked n (Numeral name) w = Gives (Boolean (is_some (find w n name))) w
in_asked n (Element z) w = number_in_array w z n
in_asked n (ArrayName name) w = in_array w n name

-- `in` (ECMA-262 11.8.7)
abbrev pub contained : World → Value → Value → Outcome
contained w a Undefined = Throws
contained w a Null = Throws
contained w a (Boolean b) = Throws
contained w a (Num z) = Throws
contained w a NaN = Throws
contained w a (Text span) = Throws
contained w a (Object n) = asking w n a (in_asked n)
