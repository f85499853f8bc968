-- How the buckets of all indexes lie in one row of numbers, of which each index has a block.
use Rattle.std.specs.Prelude.{◌≡◌, ◌≢◌, ◌⊎◌, ℕ, suc, zero, Bool, true, false, ◌==◌, List, ◌+◌, ◌≤◌, if◌then◌else◌, slice_index_or, slice_range}
use Rattle.rip_heap_region.specs.declared.buckets.blocks.IndexBlock.{IndexBlock}

-- the blocks in the order of making, and the row of numbers in which they lie
pub record ListedBlocks : Type 0 where
  pub blocks : List IndexBlock
  pub numbers : List ℕ

-- where there is no index
abbrev pub no_block : IndexBlock
no_block = record { owner = 0; start = 0; buckets = 0 }

-- the block of that number; one that was not made is none
abbrev pub block_at : List IndexBlock → ℕ → IndexBlock
block_at blocks at = slice_index_or blocks at no_block

-- a block, if it is the one that is meant
abbrev pub block_if : Bool → IndexBlock → IndexBlock
block_if true block = block
block_if false block = no_block

-- the block of an object that knows it by its number and one, and has none by 0; a block of another owner is none of its
abbrev pub block_of : List IndexBlock → ℕ → ℕ → IndexBlock
block_of blocks zero owner = no_block
block_of blocks (suc number) owner = block_if ((block_at blocks number).owner == owner) (block_at blocks number)

-- the numbers of its buckets
abbrev pub buckets_in : List ℕ → IndexBlock → List ℕ
buckets_in numbers block = slice_range numbers block.start (block.start + block.buckets)

-- the numbers of the buckets of that owner, who knows the index by this number; where it has none there are none
abbrev pub buckets_at : ListedBlocks → ℕ → ℕ → List ℕ
buckets_at listed index owner = buckets_in listed.numbers (block_of listed.blocks index owner)

-- where a block ends
abbrev pub end_of : IndexBlock → ℕ
end_of block = block.start + block.buckets

-- one of two blocks ends where the other one begins, or before it
abbrev pub Apart : IndexBlock → IndexBlock → Type 0
Apart a b = (end_of a ≤ b.start) ⊎ (end_of b ≤ a.start)

-- what is kept of blocks and numbers: each block lies within the row, no two overlap, and both have their room
pub record AreBlocks (blocks : List IndexBlock) (size capacity room : ℕ) : Type 0 where
  pub within : (i : ℕ) → end_of (block_at blocks i) ≤ size
  pub apart : (i j : ℕ) → i ≢ j → Apart (block_at blocks i) (block_at blocks j)
  pub filled : size ≤ room
  pub reserved : room ≤ capacity

-- the indexes of others are as before
abbrev pub OthersStay : ℕ → ListedBlocks → ListedBlocks → Type 0
OthersStay owner old new = (index other : ℕ) → other ≢ owner → buckets_at new index other ≡ buckets_at old index other

-- a number, or the link where it stands for this place: places are counted from 1
abbrev pub relinked : ℕ → ℕ → ℕ → ℕ
relinked place link zero = zero
relinked place link (suc number) = if number == place then link else suc number
