-- How the elements of arrays lie in one row of slots: each slot knows the array that it is of, and those of an array hold
-- its elements in the order of the row.
use Rattle.std.specs.Prelude.{◌≡◌, ℕ, suc, zero, ◌+◌, ◌-◌, ◌<◌, ◌≤◌, Bool, true, false, ◌==◌, List, [], ◌∷◌, ◌++◌, length, slice_index_or, slice_set, take}
use Rattle.rip_base.specs.declared.value.Value.{Value}
use Rattle.rip_base.specs.declared.value.Value.TheVariants.{Undefined}
use Rattle.rip_heap_region.specs.declared.pages.slot.Slot.{Slot}
use Rattle.rip_heap_region.specs.Pages.{slot_at}
use Rattle.rip_heap_region.specs.declared.segments.array.Array.{Array}

-- a value for the array of that owner, or none
abbrev pub value_if : Bool → Slot → List Value → List Value
value_if true s values = s.value ∷ values
value_if false s values = values

-- the values in all slots of that owner
abbrev pub values_of : ℕ → List Slot → List Value
values_of owner [] = []
values_of owner (s ∷ slots) = value_if (s.link == owner) s (values_of owner slots)

-- the elements of an array: the first of what the slots of its owner hold
abbrev pub elements_of : ℕ → List Slot → Array → List Value
elements_of owner slots array = take array.count (values_of owner slots)

-- the elements of each, the first of which is of this owner, the next one of the next
abbrev pub lists_from : ℕ → List Array → List Slot → List (List Value)
lists_from owner [] slots = []
lists_from owner (array ∷ arrays) slots = elements_of owner slots array ∷ lists_from (owner + 1) arrays slots

-- how many slots before this place are of that owner
abbrev pub rank : ℕ → List Slot → ℕ → ℕ
rank owner slots at = length (values_of owner (take at slots))

-- how many places of its array a segment ends behind
abbrev pub end_of : Slot → ℕ
end_of s = s.name.start + s.name.count

-- how many places an array with that top has
abbrev pub places_of : List Slot → ℕ → ℕ
places_of slots zero = 0
places_of slots (suc at) = end_of (slot_at slots at)

-- a slot of that owner in which nothing stands yet
abbrev pub blank_of : ℕ → Slot
blank_of owner = record { value = Undefined; name = record { start = 0; count = 0 }; next = 0; link = owner }

-- a segment that has one slot more
abbrev pub one_more : Slot → Slot
one_more s = record s { name = record { start = s.name.start; count = s.name.count + 1 } }

-- the slots with this one behind them, and the segment at that place one longer
abbrev pub longer : List Slot → ℕ → Slot → List Slot
longer slots at s = slice_set (slots ++ s ∷ []) at (one_more (slot_at slots at))

-- behind the place at which a segment begins: what knows the last segment of an array
pub record IsTop (slots : List Slot) (top : ℕ) : Type 0 where
  pub some : 0 < top
  pub there : top ≤ length slots
  pub begun : 0 < (slot_at slots (top - 1)).name.count

-- where in the row the slot lies that has so many of its owner before it
pub record IsSeat (slots : List Slot) (owner place at : ℕ) : Type 0 where
  pub within : at < length slots
  pub owned : (slot_at slots at).link ≡ owner
  pub ranked : rank owner slots at ≡ place

-- a segment that begins at this place: slots of one owner side by side; its first slot knows how many slots of the owner
-- lie before it, how many it has, and where another one begins that reaches up to it
pub record IsSegment (slots : List Slot) (at : ℕ) : Type 0 where
  pub within : at + (slot_at slots at).name.count ≤ length slots
  pub owned : (k : ℕ) → k < (slot_at slots at).name.count → (slot_at slots (at + k)).link ≡ (slot_at slots at).link
  pub ranked : rank (slot_at slots at).link slots at ≡ (slot_at slots at).name.start
  pub earlier : 0 < (slot_at slots at).name.start → (slot_at slots at).next < at
  pub led : 0 < (slot_at slots at).name.start → 0 < (slot_at slots (slot_at slots at).next).name.count
  pub same : 0 < (slot_at slots at).name.start → (slot_at slots (slot_at slots at).next).link ≡ (slot_at slots at).link
  pub reached : 0 < (slot_at slots at).name.start → (slot_at slots at).name.start ≤ end_of (slot_at slots (slot_at slots at).next)

-- each slot that says how many it is the first of begins a segment
abbrev pub AreSegments : List Slot → Type 0
AreSegments slots = (at : ℕ) → at < length slots → 0 < (slot_at slots at).name.count → IsSegment slots at

-- an array without segments has nothing; any other knows its last one: `top` is its place and one
pub record IsArray (slots : List Slot) (owner : ℕ) (array : Array) : Type 0 where
  pub none : array.top ≡ 0 → values_of owner slots ≡ []
  pub there : array.top ≤ length slots
  pub begun : 0 < array.top → 0 < (slot_at slots (array.top - 1)).name.count
  pub owned : 0 < array.top → (slot_at slots (array.top - 1)).link ≡ owner
  pub ended : 0 < array.top → end_of (slot_at slots (array.top - 1)) ≡ length (values_of owner slots)
  pub fits : array.count ≤ length (values_of owner slots)

-- the array of that number
abbrev pub array_at : List Array → ℕ → Array
array_at arrays i = slice_index_or arrays i (record { top = 0; count = 0 })

-- segments, arrays that know theirs, and no slot of an owner who is none of them
pub record AreArrays (arrays : List Array) (slots : List Slot) : Type 0 where
  pub segments : AreSegments slots
  pub each : (i : ℕ) → i < length arrays → IsArray slots i (array_at arrays i)
  pub known : (at : ℕ) → at < length slots → (slot_at slots at).link < length arrays

-- they are arrays, and have these elements
pub record AreLaid (arrays : List Array) (slots : List Slot) (lists : List (List Value)) : Type 0 where
  pub laid : AreArrays arrays slots
  pub same : lists_from 0 arrays slots ≡ lists
