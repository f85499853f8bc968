-- `hasOwnProperty` (ECMA-262 15.2.4.5).
use Rattle.std.specs.Prelude.{ℕ, ℤ, Bool, false, List, length, Option, None, Some, nat_lt, is_some, unsigned_abs, if◌then◌else◌}
use Rattle.rip_base.specs.declared.value.Span.{Span}
use Rattle.rip_base.specs.declared.value.Value.{Value}
use Rattle.rip_base.specs.declared.value.Value.TheVariants.{Undefined, Null, Bool as Boolean, Num, NaN, Text, Object}
use Rattle.rip_base.specs.declared.value.Fault.TheVariants.{NotInProfile}
use Rattle.rip_values.specs.declared.fixed.FixedText.TheVariants.{Length}
use Rattle.rip_values.specs.Pool.{text_at}
use Rattle.rip_heap.specs.Arrays.{elements_at}
use Rattle.rip_heap.specs.Conversions.{text_of_value}
use Rattle.rip_heap.specs.declared.holder.Asked.{Asked}
use Rattle.rip_heap.specs.declared.holder.Asked.TheVariants.{Name, Numeral, Element, ArrayName}
use Rattle.rip_heap.specs.Holders.{asking, not_in_profile}
use Rattle.rip_heap.specs.Keys.{is_barred, is_index, is_named, is_underscored, index_of}
use Rattle.rip_heap.specs.Objects.{own}
use Rattle.rip_heap.specs.Outcome.{Outcome, Gives, Faults, after_text}
use Rattle.rip_heap.specs.World.{World, object_at, class_of}
use Rattle.rip_builtins.specs.Arguments.{argument}

-- whether a plain object has its own property of this name
abbrev pub own_of_plain : World → ℕ → Span → Outcome
own_of_plain w n name =
    if is_underscored (text_at w.pool name) then Faults NotInProfile
    else if is_barred w.pool name (class_of (object_at w n)) then Faults NotInProfile
    else Gives (Boolean (is_some (own w n name))) w

-- whether an array has the index, or else the name, which is `length`
abbrev pub is_own_of_array : World → ℕ → Span → Option ℕ → Bool
is_own_of_array w n name (Some i) = nat_lt i (length (elements_at w n))
is_own_of_array w n name None = is_named w.pool name Length

abbrev pub own_of_array : World → ℕ → Span → Outcome
own_of_array w n name =
    if is_underscored (text_at w.pool name) then Faults NotInProfile
    else Gives (Boolean (is_own_of_array w n name (index_of w.pool name))) w

-- an index costs nothing; other numerals do, and no array has them
abbrev pub number_of_array : World → ℕ → ℤ → Outcome
number_of_array w n z =
    if is_index z then Gives (Boolean (nat_lt (unsigned_abs z) (length (elements_at w n)))) w
    else after_text (text_of_value w (Num z)) (λ name v. Gives (Boolean false) v)

-- whether it has what the key asks; a numeral is none of the names that have a rule of their own
abbrev pub own_asked : ℕ → Asked → World → Outcome
own_asked n (Name name) w = own_of_plain w n name
own_asked n (Numeral name) w = Gives (Boolean (is_some (own w n name))) w
own_asked n (Element z) w = number_of_array w n z
own_asked n (ArrayName name) w = own_of_array w n name

-- whether a value has its own property of that key
abbrev pub has_own : World → Value → Value → Outcome
has_own w (Object n) key = asking w n key (own_asked n)
has_own w Undefined key = not_in_profile w key
has_own w Null key = not_in_profile w key
has_own w (Boolean b) key = not_in_profile w key
has_own w (Num z) key = not_in_profile w key
has_own w NaN key = not_in_profile w key
has_own w (Text span) key = not_in_profile w key

-- `hasOwnProperty`: the key is converted before the receiver is looked at
abbrev pub has_own_property : World → Value → List Value → Outcome
has_own_property w this args = has_own w this (argument args 0)
