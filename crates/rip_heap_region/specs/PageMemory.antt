-- The memory of rows in pages: for how many slots and for how many pages there is memory, and how many bytes that is.
use Rattle.std.specs.Prelude.{◌≡◌, ℕ, ◌+◌, ◌*◌, ◌/◌, ◌≤◌, ◌<◌, ◌^◌, List, []}
use Rattle.rip_heap_region.specs.declared.pages.for_rows.ForRows.{ForRows}
use Rattle.rip_heap_region.specs.declared.pages.slot.Slot.{Slot}

-- for how many slots there is memory, and for how many pages of each row where they begin
pub record Memory : Type 0 where
  pub slots : ℕ
  pub starts : ℕ

-- the memory of rows with so much room: a page more for each row, since each may have one that is not full
abbrev pub memory_for : ℕ → Memory
memory_for room = record { slots = room + 80; starts = room / 16 + 1 }

-- how many bytes it takes: a slot has 32, and where a page of each of the five rows begins 20
abbrev pub bytes_of : Memory → ℕ
bytes_of m = 32 * m.slots + 20 * m.starts

-- nothing lies in it yet
pub record IsUntouched (slots : List Slot) (starts : List ForRows) (slots_capacity starts_capacity : ℕ) : Type 0 where
  pub no_slots : slots ≡ []
  pub no_starts : starts ≡ []
  pub few_slots : slots_capacity < 2 ^ 32
  pub few_starts : starts_capacity < 2 ^ 32
