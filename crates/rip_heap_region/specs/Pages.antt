-- What contracts see of a region: a list of slots for each row, and the room. How the rows lie in pages is told behind.
use Rattle.std.specs.Prelude.{◌≡◌, ℕ, suc, zero, ◌∷◌, ◌+◌, ◌*◌, ◌/◌, ◌%◌, ◌<◌, ◌≤◌, List, [], length, slice_index_or}
use Rattle.rip_base.specs.declared.value.Value.TheVariants.{Undefined}
use Rattle.rip_heap_region.specs.declared.pages.for_rows.ForRows.{ForRows}
use Rattle.rip_heap_region.specs.declared.pages.for_rows.Row.{Row}
use Rattle.rip_heap_region.specs.declared.pages.for_rows.Row.TheVariants.{Objects, Properties, Elements, Scopes, Bindings}
use Rattle.rip_heap_region.specs.declared.pages.slot.Slot.{Slot}

-- the slots of each row, and for how many there is room in all
pub record Paged : Type 0 where
  pub objects : List Slot
  pub properties : List Slot
  pub elements : List Slot
  pub scopes : List Slot
  pub bindings : List Slot
  pub room : ℕ

-- rows with nothing in them, and so much room
abbrev pub empty_pages : ℕ → Paged
empty_pages room = record { objects = []; properties = []; elements = []; scopes = []; bindings = []; room = room }

-- a slot in which nothing stands
abbrev pub no_slot : Slot
no_slot = record { value = Undefined; name = record { start = 0; count = 0 }; next = 0; link = 0 }

-- the slot at this place
abbrev pub slot_at : List Slot → ℕ → Slot
slot_at slots at = slice_index_or slots at no_slot

-- the slots of that row
abbrev pub row_of : Row → Paged → List Slot
row_of Objects p = p.objects
row_of Properties p = p.properties
row_of Elements p = p.elements
row_of Scopes p = p.scopes
row_of Bindings p = p.bindings

-- the rows with these slots in that one
abbrev pub with_row : Row → List Slot → Paged → Paged
with_row Objects slots p = record p { objects = slots }
with_row Properties slots p = record p { properties = slots }
with_row Elements slots p = record p { elements = slots }
with_row Scopes slots p = record p { scopes = slots }
with_row Bindings slots p = record p { bindings = slots }

-- how many slots the rows have together
abbrev pub filled : Paged → ℕ
filled p = length p.objects + length p.properties + length p.elements + length p.scopes + length p.bindings

-- HOW ROWS LIE IN PAGES

-- the number of that row
abbrev pub for_row : Row → ForRows → ℕ
for_row Objects n = n.objects
for_row Properties n = n.properties
for_row Elements n = n.elements
for_row Scopes n = n.scopes
for_row Bindings n = n.bindings

-- the same with this number for that row
abbrev pub with_number : Row → ℕ → ForRows → ForRows
with_number Objects k n = record n { objects = k }
with_number Properties k n = record n { properties = k }
with_number Elements k n = record n { elements = k }
with_number Scopes k n = record n { scopes = k }
with_number Bindings k n = record n { bindings = k }

-- a number for no row
abbrev pub no_numbers : ForRows
no_numbers = record { objects = 0; properties = 0; elements = 0; scopes = 0; bindings = 0 }

-- where the page of that number of the row begins
abbrev pub start_of : List ForRows → Row → ℕ → ℕ
start_of starts row k = for_row row (slice_index_or starts k no_numbers)

-- where the slot at this place of the row lies
abbrev pub place_in : List ForRows → Row → ℕ → ℕ
place_in starts row at = start_of starts row (at / 16) + at % 16

-- the slots of a row from this place on, so many
abbrev pub row_from : List Slot → List ForRows → Row → ℕ → ℕ → List Slot
row_from slots starts row at zero = []
row_from slots starts row at (suc n) = slot_at slots (place_in starts row at) ∷ row_from slots starts row (at + 1) n

-- the rows that lie in the slots
abbrev pub rows_in : List Slot → List ForRows → ForRows → ℕ → Paged
rows_in slots starts lens room = record {
  objects = row_from slots starts Objects 0 lens.objects;
  properties = row_from slots starts Properties 0 lens.properties;
  elements = row_from slots starts Elements 0 lens.elements;
  scopes = row_from slots starts Scopes 0 lens.scopes;
  bindings = row_from slots starts Bindings 0 lens.bindings;
  room = room;
}

-- how many pages a row of so many slots has
abbrev pub pages_of : ℕ → ℕ
pages_of len = (len + 15) / 16

-- how many pages the rows have together
abbrev pub all_pages : ForRows → ℕ
all_pages lens = pages_of lens.objects + pages_of lens.properties + pages_of lens.elements + pages_of lens.scopes + pages_of lens.bindings

-- so many slots are the pages of the rows: each page of a row lies among them and is no other one
pub record AreLaid (size : ℕ) (starts : List ForRows) (lens : ForRows) : Type 0 where
  pub sized : size ≡ 16 * all_pages lens
  pub known : (row : Row) (k : ℕ) → k < pages_of (for_row row lens) → k < length starts
  pub lies : (row : Row) (k : ℕ) → k < pages_of (for_row row lens) → start_of starts row k + 16 ≤ size
  pub even : (row : Row) (k : ℕ) → k < pages_of (for_row row lens) → start_of starts row k % 16 ≡ 0
  pub apart : (row other : Row) (k n : ℕ) → k < pages_of (for_row row lens) → n < pages_of (for_row other lens)
      → start_of starts row k ≡ start_of starts other n → (row ≡ other) × (k ≡ n)

-- what is kept of pages: they are laid in the slots, which are counted, and there is room for all
pub record ArePages (slots : List Slot) (starts : List ForRows) (lens : ForRows) (filled room slots_capacity starts_capacity : ℕ) : Type 0 where
  pub counted : filled ≡ lens.objects + lens.properties + lens.elements + lens.scopes + lens.bindings
  pub within : filled ≤ room
  pub most : room ≤ 2147418112
  pub laid : AreLaid (length slots) starts lens
  pub slots_room : room + 80 ≤ slots_capacity
  pub starts_room : room / 16 + 1 ≤ starts_capacity

-- a row of so many slots has room for one more: a page more, if those that it had were full
pub record IsRoomMade (slots after : List Slot) (starts starts_after : List ForRows) (row : Row) (len : ℕ) : Type 0 where
  pub kept : (k : ℕ) → k < length slots → slot_at after k ≡ slot_at slots k
  pub sized : length after + 16 * pages_of len ≡ length slots + 16 * pages_of (len + 1)
  pub known : len / 16 < length starts_after
  pub more : length starts ≤ length starts_after
  pub same : (other : Row) (k : ℕ) → (other ≡ row → k < pages_of len) → start_of starts_after other k ≡ start_of starts other k
  pub begun : len % 16 ≡ 0 → start_of starts_after row (len / 16) ≡ length slots
