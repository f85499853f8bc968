-- How the properties of an object are found by name: those whose names fall into one bucket hang together.
use Rattle.std.specs.Prelude.{◌≡◌, ◌≢◌, ℕ, suc, zero, List, [], ◌∷◌, ◌+◌, ◌-◌, ◌*◌, ◌%◌, ◌^◌, ◌<◌, ◌≤◌, fold, length, map, slice_get, slice_index, slice_index_or, Some}
use Rattle.rip_base.specs.declared.value.Span.{Span}
use Rattle.rip_base.specs.declared.value.Value.TheVariants.{Undefined}
use Rattle.rip_values.specs.Pool.{Texts, IsSpan, text_at}
use Rattle.rip_heap_region.specs.declared.pages.property.Property.{Property}
use Rattle.rip_heap_region.specs.declared.pages.slot.Slot.{Slot}
use Rattle.rip_heap_region.specs.Pages.{slot_at}
use Rattle.rip_heap_region.specs.Blocks.{ListedBlocks, buckets_at}

-- the number that is made of one unit more
abbrev pub hash_more : ℕ → ℕ → ℕ
hash_more hash unit = (hash * 31 % 2 ^ 32 + unit) % 2 ^ 32

-- the bucket of a text, of so many
unfoldable pub bucket_of : ℕ → List ℕ → ℕ
bucket_of count text = fold hash_more 0 text % count

-- the name of the property of that number
abbrev pub name_at : List Property → ℕ → Span
name_at properties k = (slice_index_or properties k (record { name = record { start = 0; count = 0 }; value = Undefined })).name

-- the bucket of that name
abbrev pub bucket_at : Texts → ℕ → List Property → ℕ → ℕ
bucket_at pool count properties k = bucket_of count (text_at pool (name_at properties k))

-- of the numbers before `to`, v is how many there are up to and with the last that has the bucket, or 0; `f` gives the
-- bucket of a number
pub record IsLast (f : ℕ → ℕ) (bucket to v : ℕ) : Type 0 where
  pub within : v ≤ to
  pub apart : (k : ℕ) → v ≤ k → k < to → f k ≢ bucket
  pub last : 0 < v → f (v - 1) ≡ bucket

-- `lasts` has the last number of each bucket, and `before` for each number the one before it in its bucket, of the names of
-- these properties, which lie in the pool
pub record IsIndex (pool : Texts) (properties : List Property) (lasts before : List ℕ) : Type 0 where
  pub some : 0 < length lasts
  pub spans : (k : ℕ) → k < length properties → IsSpan pool (name_at properties k)
  pub all : length before ≡ length properties
  pub heads : (b : ℕ) → b < length lasts → IsLast (bucket_at pool (length lasts) properties) b (length properties) (slice_index lasts b)
  pub links : (i : ℕ) → i < length properties → IsLast (bucket_at pool (length lasts) properties) (bucket_at pool (length lasts) properties i) i (slice_index before i)

-- where the property of that number stands, counted from 1; none stands at 0
abbrev pub to_place : List ℕ → ℕ → ℕ
to_place places zero = 0
to_place places (suc number) = slice_index places number + 1

-- an index of these properties by where they stand: a bucket has the place of its last one, and the link of each leads to
-- the one before it in its bucket
pub record IsPlaced (pool : Texts) (slots : List Slot) (places : List ℕ) (properties : List Property) (buckets : List ℕ) : Type 0 where
  pub numbers : List ℕ
  pub before : List ℕ
  pub index : IsIndex pool properties numbers before
  pub placed : map (to_place places) numbers ≡ buckets
  pub links : (i : ℕ) → i < length places → (slot_at slots (slice_index places i)).link ≡ to_place places (slice_index before i)

-- the buckets are an index of these properties, or there are none
abbrev pub IsIndexOf : Texts → List Slot → List ℕ → List Property → List ℕ → Type 0
IsIndexOf pool slots places properties [] = Unit {0}
IsIndexOf pool slots places properties (bucket ∷ buckets) = IsPlaced pool slots places properties (bucket ∷ buckets)

-- so are those that this owner knows by this number
abbrev pub IsIndexAt : Texts → List Slot → List ℕ → List Property → ListedBlocks → ℕ → ℕ → Type 0
IsIndexAt pool slots places properties listed index owner = IsIndexOf pool slots places properties (buckets_at listed index owner)

-- no link has changed but those of slots at these places
abbrev pub OthersKeepLinks : List ℕ → List Slot → List Slot → Type 0
OthersKeepLinks places old new = (p : ℕ) → p < length old → ((i : ℕ) → slice_get places i ≢ Some p) → (slot_at new p).link ≡ (slot_at old p).link
