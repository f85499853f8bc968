-- The functions of arrays, each on an array of that number.
use Rattle.std.specs.Prelude.{ℕ, ℤ, pos, negsuc, suc, List, [], length, drop, ◌-◌, min, Option, None, Some, Result, Ok, Err, unwrap_or, slice_range}
use Rattle.std.specs.List.{position_from}
use Rattle.rip_base.specs.declared.value.Value.{Value}
use Rattle.rip_base.specs.declared.value.Value.TheVariants.{Undefined, Num}
use Rattle.rip_base.specs.declared.value.Fault.{Fault}
use Rattle.rip_base.specs.declared.value.Limit.TheVariants.{Cells}
use Rattle.rip_values.specs.Pool.{Texts}
use Rattle.rip_heap.specs.Arrays.{elements_at, last_of, popped, push_items, new_array}
use Rattle.rip_heap.specs.Conversions.{strictly_equal}
use Rattle.rip_heap.specs.Outcome.{Outcome, Gives, Faults, Exceeds}
use Rattle.rip_heap.specs.World.{World}
use Rattle.rip_builtins.specs.Arguments.{argument, integer_in, then_gives, value_or_fault, object_or_limit}
use Rattle.rip_builtins.specs.Texts.{end_in}

-- PUSH AND POP

-- the new length and the world, or the limit of cells
abbrev pub pushed : ℕ → Option World → Outcome
pushed n None = Exceeds Cells
pushed n (Some w) = Gives (Num (pos (length (elements_at w n)))) w

-- `push` (ECMA-262 15.4.4.7): all arguments behind the elements, at a cell each; the new length
abbrev pub push : World → ℕ → List Value → Outcome
push w n args = pushed n (push_items w n args)

-- `pop` (15.4.4.6): the last element, which is taken away
abbrev pub pop : World → ℕ → Outcome
pop w n = Gives (unwrap_or (last_of (elements_at w n)) Undefined) (popped w n)

-- SLICE

-- the place in a list of so many, which negative integers count from its end; at most the length, and not below 0
abbrev pub place_from_end : ℕ → ℤ → ℕ
place_from_end count (pos n) = min n count
place_from_end count (negsuc n) = count - suc n

-- an outcome behind a conversion
abbrev pub behind : {A : Type 0} → Result A Fault → (A → Outcome) → Outcome
behind (Ok x) further = further x
behind (Err fault) further = Faults fault

-- a new array of the elements between two places
abbrev pub slice_between : World → List Value → ℤ → ℤ → Outcome
slice_between w items a b = object_or_limit (new_array w (slice_range items (place_from_end (length items) a) (place_from_end (length items) b)))

-- `slice` (15.4.4.10)
abbrev pub slice : World → ℕ → List Value → Outcome
slice w n args =
    behind (integer_in w.pool (argument args 0)) (λ a.
    behind (end_in w.pool (length (elements_at w n)) (argument args 1)) (λ b.
    slice_between w (elements_at w n) a b))

-- INDEX OF

-- the place as a value, or -1 where there is none
abbrev pub place_or_none : Option ℕ → Value
place_or_none None = Num (negsuc 0)
place_or_none (Some place) = Num (pos place)

-- the first place from this one on at which the value stands
abbrev pub first_equal : Texts → Value → List Value → ℕ → Option ℕ
first_equal pool v items from = position_from (strictly_equal pool v) from (drop from items)

-- where the value stands from an integer on
abbrev pub place_of_value : Texts → Value → List Value → ℤ → Value
place_of_value pool v items from = place_or_none (first_equal pool v items (place_from_end (length items) from))

-- the same, of which an empty list asks no integer
abbrev pub index_in : Texts → List Value → List Value → Result Value Fault
index_in pool [] args = Ok (place_or_none None)
index_in pool items args = then_gives (integer_in pool (argument args 1)) (place_of_value pool (argument args 0) items)

-- `indexOf` (15.4.4.14)
abbrev pub index_of : World → ℕ → List Value → Outcome
index_of w n args = value_or_fault w (index_in w.pool (elements_at w n) args)
