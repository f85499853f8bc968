-- The blocks of a row of numbers: what a change within one of them leaves to the others, and what it makes of its own.
use Rattle.std.proofs.Common.{◌≡◌, ◌≢◌, ℕ, zero, suc, ◌+◌, ◌-◌, ◌<◌, ◌≤◌, ◌==◌, Bool, true, false, ◌⊎◌, inl, inr, List, [], ◌∷◌, ◌++◌, length, map, refl, sym, ap, ◌∙◌, subst, arith, drop, replicate, take}
use Rattle.std.specs.Prelude.{slice_index, slice_range, slice_set}
use Rattle.std.proofs.Math.Seq.{take-set-lt}
use Rattle.std.proofs.lemmas.Bool.{cases_order}
use Rattle.std.proofs.lemmas.Bool.Decides.{nat_tests}
use Rattle.std.proofs.lemmas.Grind.{same_number_lists}
use Rattle.std.proofs.lemmas.List.{drop-append-le, drop-set-add, get_or-append-add, get_or-drop, get_or-map, get_or-set_other, get_or-take, get_or_append_left, get_or_at, get_or_past, length-append, length-drop, length-map, length-replicate, length-set, length-take-le, take-append-le, take_all}
use Rattle.rip_heap_region.specs.declared.buckets.blocks.IndexBlock.{IndexBlock}
use Rattle.rip_heap_region.specs.Blocks.{Apart, AreBlocks, ListedBlocks, OthersStay, block_at, block_if, block_of, buckets_at, buckets_in, end_of, no_block, relinked}

-- PARTS OF A ROW

part-length : (row : List ℕ) (at n : ℕ) → at + n ≤ length row → length (slice_range row at (at + n)) ≡ n
part-length row at n within =
    let size : at + n - at ≡ n = omega arith in
    length-take-le (at + n - at) (drop at row) (omega (arith, length-drop at row)) ∙ size

part-append : (row more : List ℕ) (at n : ℕ) → at + n ≤ length row → slice_range (row ++ more) at (at + n) ≡ slice_range row at (at + n)
part-append row more at n within =
    ap (take (at + n - at)) (drop-append-le at row more (omega arith)) ∙ take-append-le (at + n - at) (drop at row) more (omega (arith, length-drop at row))

-- a number of a part
part_number : (row : List ℕ) (at n k : ℕ) → k < n → slice_index (slice_range row at (at + n)) k ≡ slice_index row (at + k)
part_number row at n k lt = get_or-take (at + n - at) (drop at row) k 0 (omega (arith, lt)) ∙ get_or-drop at row k 0

-- rows that have the same numbers there have the same part
part_like : (row row' : List ℕ) (at n : ℕ) → at + n ≤ length row → length row' ≡ length row → ((k : ℕ) → at ≤ k → k < at + n → slice_index row' k ≡ slice_index row k)
    → slice_range row' at (at + n) ≡ slice_range row at (at + n)
part_like row row' at n within same each =
    let new = part-length row' at n (omega (arith, within, same)) in
    let old = part-length row at n within in
    same_number_lists (slice_range row' at (at + n)) (slice_range row at (at + n)) (new ∙ sym old)
    (λ k lt.
    let low : k < n = omega (arith, lt, new) in
    part_number row' at n k low ∙ each (at + k) (omega arith) (omega (arith, low)) ∙ sym (part_number row at n k low))

-- a part of which each number was changed alike
part_mapped : (f : ℕ → ℕ) (row row' : List ℕ) (at n : ℕ) → at + n ≤ length row → length row' ≡ length row → ((k : ℕ) → at ≤ k → k < at + n → slice_index row' k ≡ f (slice_index row k))
    → slice_range row' at (at + n) ≡ map f (slice_range row at (at + n))
part_mapped f row row' at n within same each =
    let new = part-length row' at n (omega (arith, within, same)) in
    let old = part-length row at n within in
    same_number_lists (slice_range row' at (at + n)) (map f (slice_range row at (at + n))) (new ∙ sym old ∙ sym (length-map (slice_range row at (at + n)) f))
    (λ k lt.
    let low : k < n = omega (arith, lt, new) in
    part_number row' at n k low ∙ each (at + k) (omega arith) (omega (arith, low)) ∙ sym (ap f (part_number row at n k low))
    ∙ sym (get_or-map f (slice_range row at (at + n)) k 0 0 (omega (arith, low, old))))

-- a number of a part is another
part-set : (row : List ℕ) (at n i x : ℕ) → i < n → slice_range (slice_set row (at + i) x) at (at + n) ≡ slice_set (slice_range row at (at + n)) i x
part-set row at n i x lt = ap (take (at + n - at)) (drop-set-add at row i x) ∙ take-set-lt (at + n - at) (drop at row) i x (omega (arith, lt))

-- a part of what is put behind the row
part_behind : (row : List ℕ) (n x : ℕ) → slice_range (row ++ replicate n x) (length row) (length row + n) ≡ replicate n x
part_behind row n x =
    same_number_lists (slice_range (row ++ replicate n x) (length row) (length row + n)) (replicate n x) (new ∙ sym (length-replicate n x)) (λ k less. by k (omega (arith, less, new)))
  where
    new : length (slice_range (row ++ replicate n x) (length row) (length row + n)) ≡ n
    new = part-length (row ++ replicate n x) (length row) n (omega (arith, length-append row (replicate n x), length-replicate n x))

    by : (k : ℕ) → k < n → slice_index (slice_range (row ++ replicate n x) (length row) (length row + n)) k ≡ slice_index (replicate n x) k
    by k less = part_number (row ++ replicate n x) (length row) n k less ∙ get_or-append-add row (replicate n x) k 0

-- THE BLOCKS

-- the numbers outside a block are as before
pub record Untouched (block : IndexBlock) (row row' : List ℕ) : Type 0 where
  pub count : length row' ≡ length row
  pub below : (k : ℕ) → k < block.start → slice_index row' k ≡ slice_index row k
  pub behind : (k : ℕ) → end_of block ≤ k → slice_index row' k ≡ slice_index row k

pub untouched_set : (block : IndexBlock) (row : List ℕ) (place x : ℕ) → block.start ≤ place → place < end_of block → Untouched block row (slice_set row place x)
untouched_set block row place x low high = record {
  count = length-set row place x;
  below = λ k lt. get_or-set_other row place k x 0 (λ is. omega (arith, lt, low, is));
  behind = λ k le. get_or-set_other row place k x 0 (λ is. omega (arith, le, high, is));
}

-- the numbers of a block that is apart are as before
alike : (a b : IndexBlock) (row row' : List ℕ) → Untouched a row row' → Apart a b → (k : ℕ) → b.start ≤ k → k < end_of b → slice_index row' k ≡ slice_index row k
alike a b row row' same (inl h) k low high = same.behind k (omega (arith, h, low))
alike a b row row' same (inr h) k low high = same.below k (omega (arith, h, high))

-- a block that was read lies within the row
pub block_within : (blocks : List IndexBlock) (row : List ℕ) (capacity room index owner : ℕ) (r : IndexBlock) → AreBlocks blocks (length row) capacity room → r ≡ block_of blocks index owner
    → end_of r ≤ length row
block_within blocks row capacity room index owner r h is = subst (λ b. end_of b ≤ length row) (sym is) (by index)
  where
    if : (i : ℕ) (t : Bool) → end_of (block_if t (block_at blocks i)) ≤ length row
    if i true = h.within i
    if i false = omega arith

    by : (index : ℕ) → end_of (block_of blocks index owner) ≤ length row
    by zero = omega arith
    by (suc i) = if i ((block_at blocks i).owner == owner)

-- a block of an owner is apart from those of others
apart_of : (blocks : List IndexBlock) (size capacity room index owner i : ℕ) → AreBlocks blocks size capacity room → (block_at blocks i).owner ≢ owner → Apart (block_of blocks index owner) (block_at blocks i)
apart_of blocks size capacity room zero owner i h differ = inl (omega arith)
apart_of blocks size capacity room (suc j) owner i h differ = by ((block_at blocks j).owner == owner) refl
  where
    by : (t : Bool) → ((block_at blocks j).owner == owner) ≡ t → Apart (block_if t (block_at blocks j)) (block_at blocks i)
    by false is = inl (omega arith)
    by true is =
        let own : (block_at blocks j).owner ≡ owner = grind (arith, nat_tests) in
        h.apart j i (λ same. differ (ap (λ n. (block_at blocks n).owner) (sym same) ∙ own))

-- a change within one block leaves the indexes of the other owners
pub others_stay : (blocks : List IndexBlock) (row row' : List ℕ) (capacity room index owner : ℕ) (r : IndexBlock) (now : ListedBlocks) → AreBlocks blocks (length row) capacity room
    → record { blocks = blocks; numbers = row } ≡ now → r ≡ block_of blocks index owner → Untouched r row row' → OthersStay owner now (record { blocks = blocks; numbers = row' })
others_stay blocks row row' capacity room index owner r now h shown is same =
    subst (λ l. OthersStay owner l (record { blocks = blocks; numbers = row' })) shown (stay (subst (λ b. Untouched b row row') is same))
  where
    each : (i other : ℕ) → other ≢ owner → Untouched (block_of blocks index owner) row row' → (t : Bool) → ((block_at blocks i).owner == other) ≡ t
        → buckets_in row' (block_if t (block_at blocks i)) ≡ buckets_in row (block_if t (block_at blocks i))
    each i other differ same false test = refl
    each i other differ same true test =
        let own : (block_at blocks i).owner ≡ other = grind (arith, nat_tests) in
        let b = block_at blocks i in
        let apart = apart_of blocks (length row) capacity room index owner i h (λ e. differ (sym own ∙ e)) in
        part_like row row' b.start b.buckets (h.within i) same.count (alike (block_of blocks index owner) b row row' same apart)

    stay : Untouched (block_of blocks index owner) row row' → OthersStay owner (record { blocks = blocks; numbers = row }) (record { blocks = blocks; numbers = row' })
    stay same zero other differ = refl
    stay same (suc i) other differ = each i other differ same ((block_at blocks i).owner == other) refl

-- one of its buckets is another
pub bucket_set : (blocks : List IndexBlock) (row : List ℕ) (index owner bucket number : ℕ) (r : IndexBlock) (now : ListedBlocks) → record { blocks = blocks; numbers = row } ≡ now
    → r ≡ block_of blocks index owner → bucket < r.buckets → buckets_in (slice_set row (r.start + bucket) number) (block_of blocks index owner) ≡ slice_set (buckets_at now index owner) bucket number
bucket_set blocks row index owner bucket number r now shown is lt =
    ap (buckets_in (slice_set row (r.start + bucket) number)) (sym is) ∙ part-set row r.start r.buckets bucket number lt
    ∙ ap (λ b. slice_set (buckets_in row b) bucket number) is ∙ ap (λ l. slice_set (buckets_at l index owner) bucket number) shown

-- each of its buckets is changed alike
pub buckets_mapped : (f : ℕ → ℕ) (blocks : List IndexBlock) (row row' : List ℕ) (capacity room index owner : ℕ) (r : IndexBlock) (now : ListedBlocks) → AreBlocks blocks (length row) capacity room
    → record { blocks = blocks; numbers = row } ≡ now → r ≡ block_of blocks index owner → length row' ≡ length row
    → ((k : ℕ) → r.start ≤ k → k < end_of r → slice_index row' k ≡ f (slice_index row k))
    → buckets_in row' (block_of blocks index owner) ≡ map f (buckets_at now index owner)
buckets_mapped f blocks row row' capacity room index owner r now h shown is same each =
    ap (buckets_in row') (sym is) ∙ part_mapped f row row' r.start r.buckets (block_within blocks row capacity room index owner r h is) same each
    ∙ ap (λ b. map f (buckets_in row b)) is ∙ ap (λ l. map f (buckets_at l index owner)) shown

-- a row of which each number was written
pub row_written : (row new : List ℕ) (size : ℕ) → length new ≡ length row → size ≡ length row → take size (new ++ drop (length new) row) ≡ new
row_written row new size same count =
    take-append-le size new (drop (length new) row) (omega (arith, same, count)) ∙ take_all size new (omega (arith, same, count))

-- A NEW BLOCK

-- the row with so many zeros behind it, as `resize` makes it
pub row_grown : (row row' : List ℕ) (size end more : ℕ) → size ≡ length row → end ≡ length row + more → row' ≡ take end row ++ replicate (end - size) 0 → row' ≡ row ++ replicate more 0
row_grown row row' size end more is ends made =
    let count : end - size ≡ more = omega (arith, is, ends) in
    made ∙ (λ t. take_all end row (omega (arith, ends)) t ++ replicate (count t) 0)

-- zeros alone in its buckets
pub opened_buckets : (blocks blocks' : List IndexBlock) (row row' : List ℕ) (r : IndexBlock) (number : ℕ) → blocks' ≡ blocks ++ r ∷ [] → number ≡ length blocks → r.start ≡ length row → row' ≡ row ++ replicate r.buckets 0
    → buckets_at (record { blocks = blocks'; numbers = row' }) (number + 1) r.owner ≡ replicate r.buckets 0
opened_buckets blocks blocks' row row' r number more is start made = ap (λ bs. buckets_at (record { blocks = bs; numbers = row' }) (number + 1) r.owner) more ∙ ap (λ n. buckets_at listed n r.owner) next ∙ ap (buckets_in row') block ∙ (λ t. slice_range (made t) (start t) (start t + r.buckets)) ∙ part_behind row r.buckets 0
  where
    listed : ListedBlocks
    listed = record { blocks = blocks ++ r ∷ []; numbers = row' }

    next : number + 1 ≡ suc number
    next = omega arith

    there : block_at (blocks ++ r ∷ []) number ≡ r
    there = get_or_at blocks r [] no_block number (sym is)

    block : block_of (blocks ++ r ∷ []) (suc number) r.owner ≡ r
    block =
        let own : (r.owner == r.owner) ≡ true = grind (arith, nat_tests) in
        ap (λ (b : IndexBlock). block_if (b.owner == r.owner) b) there ∙ ap (λ t. block_if t r) own

-- the others are as before
pub others_opened : (blocks blocks' : List IndexBlock) (row row' : List ℕ) (capacity room more : ℕ) (r : IndexBlock) (now : ListedBlocks) → AreBlocks blocks (length row) capacity room
    → record { blocks = blocks; numbers = row } ≡ now → blocks' ≡ blocks ++ r ∷ [] → row' ≡ row ++ replicate more 0 → OthersStay r.owner now (record { blocks = blocks'; numbers = row' })
others_opened blocks blocks' row row' capacity room more r now h shown one made =
    subst (λ l. OthersStay r.owner l (record { blocks = blocks'; numbers = row' })) shown
    (subst (λ bs. OthersStay r.owner (record { blocks = blocks; numbers = row }) (record { blocks = bs; numbers = row' })) (sym one)
    (subst (λ xs. OthersStay r.owner (record { blocks = blocks; numbers = row }) (record { blocks = blocks ++ r ∷ []; numbers = xs })) (sym made) stay))
  where
    -- of a block that was there
    old : (i other : ℕ) (t : Bool) → buckets_in (row ++ replicate more 0) (block_if t (block_at blocks i)) ≡ buckets_in row (block_if t (block_at blocks i))
    old i other false = refl
    old i other true = part-append row (replicate more 0) (block_at blocks i).start (block_at blocks i).buckets (h.within i)

    -- the new one is of another owner
    new : (other : ℕ) → other ≢ r.owner → block_if (r.owner == other) r ≡ no_block
    new other differ =
        let test : (r.owner == other) ≡ false = grind (arith, nat_tests) in
        ap (λ t. block_if t r) test

    -- where there is no block
    none : (t : Bool) → block_if t no_block ≡ no_block
    none true = refl
    none false = refl

    by : (i other : ℕ) → other ≢ r.owner → (i ≡ length blocks) ⊎ ((i < length blocks) ⊎ (length blocks < i))
        → buckets_at (record { blocks = blocks ++ r ∷ []; numbers = row ++ replicate more 0 }) (suc i) other ≡ buckets_at (record { blocks = blocks; numbers = row }) (suc i) other
    by i other differ (inl is) =
        let here : block_at (blocks ++ r ∷ []) i ≡ r = get_or_at blocks r [] no_block i (sym is) in
        let past : block_at blocks i ≡ no_block = get_or_past blocks i no_block (omega (arith, is)) in
        ap (λ (b : IndexBlock). buckets_in (row ++ replicate more 0) (block_if (b.owner == other) b)) here
        ∙ ap (buckets_in (row ++ replicate more 0)) (new other differ)
        ∙ sym (ap (λ (b : IndexBlock). buckets_in row (block_if (b.owner == other) b)) past ∙ ap (buckets_in row) (none (0 == other)))
    by i other differ (inr (inl lt)) =
        let here : block_at (blocks ++ r ∷ []) i ≡ block_at blocks i = get_or_append_left blocks (r ∷ []) no_block i lt in
        ap (λ (b : IndexBlock). buckets_in (row ++ replicate more 0) (block_if (b.owner == other) b)) here
        ∙ old i other ((block_at blocks i).owner == other)
    by i other differ (inr (inr gt)) =
        let here : block_at (blocks ++ r ∷ []) i ≡ no_block = get_or_past (blocks ++ r ∷ []) i no_block (omega (arith, gt, length-append blocks (r ∷ []))) in
        let past : block_at blocks i ≡ no_block = get_or_past blocks i no_block (omega (arith, gt)) in
        ap (λ (b : IndexBlock). buckets_in (row ++ replicate more 0) (block_if (b.owner == other) b)) here
        ∙ ap (buckets_in (row ++ replicate more 0)) (none (0 == other))
        ∙ sym (ap (λ (b : IndexBlock). buckets_in row (block_if (b.owner == other) b)) past ∙ ap (buckets_in row) (none (0 == other)))

    stay : OthersStay r.owner (record { blocks = blocks; numbers = row }) (record { blocks = blocks ++ r ∷ []; numbers = row ++ replicate more 0 })
    stay zero other differ = refl
    stay (suc i) other differ = by i other differ (cases_order i (length blocks))

-- it lies behind the others
pub blocks_opened : (blocks blocks' : List IndexBlock) (row row' : List ℕ) (capacity capacity' room : ℕ) (r : IndexBlock) → AreBlocks blocks (length row) capacity room
    → blocks' ≡ blocks ++ r ∷ [] → row' ≡ row ++ replicate r.buckets 0 → r.start ≡ length row → length row + r.buckets ≤ room → capacity ≤ capacity'
    → AreBlocks blocks' (length row') capacity' room
blocks_opened blocks blocks' row row' capacity capacity' room r h one made start fits more = record {
  within = λ i. subst (λ bs. end_of (block_at bs i) ≤ length row') (sym one) (by i (cases_order i (length blocks)));
  apart = λ i j differ. subst (λ bs. Apart (block_at bs i) (block_at bs j)) (sym one) (apart i j differ (cases_order i (length blocks)) (cases_order j (length blocks)));
  filled = omega (arith, size, fits);
  reserved = omega (arith, h.reserved, more);
}
  where
    size : length row' ≡ length row + r.buckets
    size = ap length made ∙ length-append row (replicate r.buckets 0) ∙ ap (λ n. length row + n) (length-replicate r.buckets 0)

    new : (i : ℕ) → i ≡ length blocks → block_at (blocks ++ r ∷ []) i ≡ r
    new i is = get_or_at blocks r [] no_block i (sym is)

    old : (i : ℕ) → i < length blocks → block_at (blocks ++ r ∷ []) i ≡ block_at blocks i
    old i lt = get_or_append_left blocks (r ∷ []) no_block i lt

    past : (i : ℕ) → length blocks < i → block_at (blocks ++ r ∷ []) i ≡ no_block
    past i gt = get_or_past (blocks ++ r ∷ []) i no_block (omega (arith, gt, length-append blocks (r ∷ [])))

    by : (i : ℕ) → (i ≡ length blocks) ⊎ ((i < length blocks) ⊎ (length blocks < i)) → end_of (block_at (blocks ++ r ∷ []) i) ≤ length row'
    by i (inl is) = subst (λ b. end_of b ≤ length row') (sym (new i is)) (omega (arith, size, start))
    by i (inr (inl lt)) = subst (λ b. end_of b ≤ length row') (sym (old i lt)) (omega (arith, size, h.within i))
    by i (inr (inr gt)) = subst (λ b. end_of b ≤ length row') (sym (past i gt)) (omega arith)

    apart : (i j : ℕ) → i ≢ j → (i ≡ length blocks) ⊎ ((i < length blocks) ⊎ (length blocks < i)) → (j ≡ length blocks) ⊎ ((j < length blocks) ⊎ (length blocks < j))
        → Apart (block_at (blocks ++ r ∷ []) i) (block_at (blocks ++ r ∷ []) j)
    apart i j differ (inr (inr gt)) other = subst (λ b. Apart b (block_at (blocks ++ r ∷ []) j)) (sym (past i gt)) (inl (omega arith))
    apart i j differ one (inr (inr gt)) = subst (λ b. Apart (block_at (blocks ++ r ∷ []) i) b) (sym (past j gt)) (inr (omega arith))
    apart i j differ (inl is) (inl same) = absurd (differ (is ∙ sym same))
    apart i j differ (inl is) (inr (inl lt)) =
        subst (λ b. Apart b (block_at (blocks ++ r ∷ []) j)) (sym (new i is)) (subst (Apart r) (sym (old j lt)) (inr (omega (arith, h.within j, start))))
    apart i j differ (inr (inl lt)) (inl is) =
        subst (λ b. Apart (block_at (blocks ++ r ∷ []) i) b) (sym (new j is)) (subst (λ b. Apart b r) (sym (old i lt)) (inl (omega (arith, h.within i, start))))
    apart i j differ (inr (inl lt)) (inr (inl less)) =
        subst (λ b. Apart b (block_at (blocks ++ r ∷ []) j)) (sym (old i lt)) (subst (Apart (block_at blocks i)) (sym (old j less)) (h.apart i j differ))

-- THE OTHER INDEXES

pub others_same : (owner : ℕ) (x : ListedBlocks) → OthersStay owner x x
others_same owner x index other differ = refl

pub others_then : (owner : ℕ) (x y z : ListedBlocks) → OthersStay owner x y → OthersStay owner y z → OthersStay owner x z
others_then owner x y z a b index other differ = b index other differ ∙ a index other differ

-- HOW A PART IS CHANGED

-- the numbers from one place on stand for their links, before this place
pub record Relinked (from to gone link : ℕ) (old new : List ℕ) (place : ℕ) : Type 0 where
  pub low : from ≤ place
  pub high : place ≤ to
  pub count : length new ≡ length old
  pub done : (k : ℕ) → from ≤ k → k < place → slice_index new k ≡ relinked gone link (slice_index old k)
  pub below : (k : ℕ) → k < from → slice_index new k ≡ slice_index old k
  pub rest : (k : ℕ) → place ≤ k → slice_index new k ≡ slice_index old k
