-- The memory of indexes: for how many blocks and for how many buckets there is memory, and how many bytes that is.
use Rattle.std.specs.Prelude.{◌≡◌, ℕ, ◌+◌, ◌-◌, ◌*◌, ◌/◌, ◌<◌, ◌^◌, List, []}
use Rattle.rip_heap_region.specs.declared.buckets.blocks.IndexBlock.{IndexBlock}

-- for how many indexes there is memory, and for how many buckets of all of them together
pub record Memory : Type 0 where
  pub blocks : ℕ
  pub buckets : ℕ

-- the memory for the indexes of so many objects and properties together
abbrev pub memory_for : ℕ → Memory
memory_for cells = record { blocks = cells / 16 + 1; buckets = cells - cells / 8 }

-- how many bytes it takes: a block has 12, and a bucket 4
abbrev pub bytes_of : Memory → ℕ
bytes_of m = 12 * m.blocks + 4 * m.buckets

-- nothing lies in it yet
pub record IsUntouched (blocks : List IndexBlock) (numbers : List ℕ) (blocks_capacity numbers_capacity : ℕ) : Type 0 where
  pub no_blocks : blocks ≡ []
  pub no_numbers : numbers ≡ []
  pub few_blocks : blocks_capacity < 2 ^ 32
  pub few_numbers : numbers_capacity < 2 ^ 32
