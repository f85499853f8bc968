-- The memory of a heap: for how many units, slots, pages, indexes, buckets and entries it is, and how many bytes that is.
use Rattle.std.specs.Prelude.{◌≡◌, ℕ, ◌+◌, ◌-◌, ◌*◌, ◌/◌, ◌<◌, ◌≤◌, ◌^◌, List}
use Rattle.rip_values.specs.FixedTable.{fixed_size}
use Rattle.rip_values.specs.FixedTexts.{fixed_units}
use Rattle.rip_heap_region.specs.PageMemory.{Memory as PageMemory, bytes_of as page_bytes, memory_for as pages_for}
use Rattle.rip_heap_region.specs.IndexMemory.{Memory as IndexMemory, bytes_of as index_bytes, memory_for as indexes_for}
use Rattle.rip_heap.specs.World.{first_node, first_object}
use Rattle.rip_heap.specs.declared.limits.HeapLimits.{HeapLimits}

-- the limits of the heap that it is for; for how many units of texts there is memory, that of the rows and that of the indexes;
-- and for how many entries of the table by which a text is searched
pub record Memory : Type 0 where
  pub limits : HeapLimits
  pub units : ℕ
  pub pages : PageMemory
  pub indexes : IndexMemory
  pub entries : ℕ

-- for how many slots the rows have room: one for each cell, and a sixteenth more for places that arrays get ahead
abbrev pub slots_for : ℕ → ℕ
slots_for cells = cells + cells / 16

-- the memory of a heap with these limits: beside the units that may be charged that of the fixed texts, and of 4,096 units of
-- the names of a usual program and page
abbrev pub memory_for : HeapLimits → Memory
memory_for limits = record {
  limits = limits;
  units = fixed_size + 4096 + limits.units;
  pages = pages_for (slots_for limits.cells);
  indexes = indexes_for limits.cells;
  entries = limits.text;
}

-- how many bytes it takes: a unit has 2, and an entry 4
abbrev pub bytes_of : Memory → ℕ
bytes_of m = 2 * m.units + page_bytes m.pages + index_bytes m.indexes + 4 * m.entries

-- all that may be made can be numbered: objects below the first node, slots, units and entries by 32 bits
pub record CanBeNumbered (limits : HeapLimits) : Type 0 where
  pub objects : limits.cells ≤ first_node - first_object
  pub slots : slots_for limits.cells ≤ 2147418112
  pub units : fixed_size + limits.units < 2 ^ 32
  pub entries : limits.text < 2 ^ 32

-- what is kept of it: it is the memory of a heap with its limits, and its units begin with the fixed texts
pub record IsMemory (m : Memory) (units : List ℕ) : Type 0 where
  pub whole : m ≡ memory_for m.limits
  pub numbered : CanBeNumbered m.limits
  pub fixed : units ≡ fixed_units
