-- How a heap keeps its objects and its scopes in a region of slots: what lies in the rows, and what it stands for. No
-- public clause cites this.
use Rattle.std.specs.Prelude.{◌≡◌, ℕ, ◌+◌, ◌-◌, ◌^◌, ◌<◌, ◌≤◌, Option, None, Some, List, [], ◌∷◌, ◌++◌, length, map, option_map, remove, slice_get, slice_index_or, slice_set}
use Rattle.rip_base.specs.declared.value.Value.{Value}
use Rattle.rip_values.specs.Pool.{Texts}
use Rattle.rip_heap_region.specs.declared.pages.property.Property.{Property}
use Rattle.rip_heap_region.specs.Pages.{Paged, filled, slot_at}
use Rattle.rip_heap_region.specs.declared.chains.chain.Chain.{Chain}
use Rattle.rip_heap_region.specs.Chains.{AreChains, chain_at, places_of, properties_of}
use Rattle.rip_heap_region.specs.declared.segments.array.Array.{Array}
use Rattle.rip_heap_region.specs.Segments.{AreArrays, lists_from}
use Rattle.rip_heap_region.specs.Blocks.{ListedBlocks}
use Rattle.rip_heap_region.specs.NameIndex.{IsIndexAt}
use Rattle.rip_heap.specs.declared.class.Class.TheVariants.{Array as ArrayClass}
use Rattle.rip_heap.specs.declared.stored.StoredObject.{StoredObject}
use Rattle.rip_heap.specs.HeadSlots.{array_in, chain_in, head_in, index_in}
use Rattle.rip_heap.specs.Objects.{with_value}
use Rattle.rip_heap.specs.Rooms.{Rooms, spending}
use Rattle.rip_heap.specs.ScopeSlots.{AreScopes, scopes_of}
use Rattle.rip_heap.specs.World.{Scope}

-- the rows, and how many cells were spent on what lies in them
pub record Kept : Type 0 where
  pub pages : Paged
  pub rooms : Rooms

-- the heads in the order of making, the lists of the properties and of the elements at the same places, and the scopes
pub record Listed : Type 0 where
  pub heads : List StoredObject
  pub properties : List (List Property)
  pub elements : List (List Value)
  pub scopes : List Scope
  pub rooms : Rooms

-- where the properties of each object hang
abbrev pub chains_in : Paged → List Chain
chains_in pages = map chain_in pages.objects

-- where the elements of each lie
abbrev pub arrays_in : Paged → List Array
arrays_in pages = map array_in pages.objects

-- what lies in the rows
abbrev pub listed : Kept → Listed
listed k = record {
  heads = map head_in k.pages.objects;
  properties = map (properties_of k.pages.properties) (chains_in k.pages);
  elements = lists_from 0 (arrays_in k.pages) k.pages.elements;
  scopes = scopes_of k.pages;
  rooms = k.rooms;
}

-- the properties of the object at this place
abbrev pub properties_here : Kept → ℕ → List Property
properties_here k at = slice_index_or (listed k).properties at []

-- where they stand
abbrev pub places_here : Kept → ℕ → List ℕ
places_here k at = places_of k.pages.properties (chain_at (chains_in k.pages) at)

-- the elements of the object at this place
abbrev pub elements_here : Kept → ℕ → List Value
elements_here k at = slice_index_or (listed k).elements at []

-- the object at this place is an array
abbrev pub IsArrayHere : Kept → ℕ → Type 0
IsArrayHere k at = option_map (λ (head : StoredObject). head.class) (slice_get (listed k).heads at) ≡ Some ArrayClass

-- the objects with one more behind them that has nothing in it, at a cell
abbrev pub with_bare : Listed → StoredObject → Listed
with_bare l head = record l {
  heads = l.heads ++ head ∷ [];
  properties = l.properties ++ [] ∷ [];
  elements = l.elements ++ [] ∷ [];
  rooms = spending 1 l.rooms;
}

-- the objects with these properties of the one at this place; where there is none nothing is changed
abbrev pub with_properties : Listed → ℕ → List Property → Listed
with_properties l at properties = record l { properties = slice_set l.properties at properties }

-- the objects with these elements of the one at this place; where there is none nothing is changed
abbrev pub with_elements : Listed → ℕ → List Value → Listed
with_elements l at items = record l { elements = slice_set l.elements at items }

-- the properties with this value of the one of that number, if there is one
abbrev pub valued : List Property → Value → Option ℕ → List Property
valued properties v None = properties
valued properties v (Some number) = with_value properties number v

-- the properties without the one of that number, if there is one
abbrev pub without : List Property → Option ℕ → List Property
without properties None = properties
without properties (Some number) = remove properties number

-- what each object knows as its index is one of the names of its properties, or none
abbrev pub AreIndexes : Texts → Paged → ListedBlocks → Type 0
AreIndexes pool pages blocks = (i : ℕ) → i < length pages.objects
    → IsIndexAt pool pages.properties (places_of pages.properties (chain_at (chains_in pages) i))
    (properties_of pages.properties (chain_at (chains_in pages) i)) blocks (index_in (slot_at pages.objects i)) i

-- indexes of one state of the rows are those of the other one
abbrev pub IndexesStay : Paged → Paged → Type 0
IndexesStay old new = (pool : Texts) (blocks : ListedBlocks) → AreIndexes pool old blocks → AreIndexes pool new blocks

-- what is kept of the rows: properties hang together, elements lie together, scopes have their bindings; and each cell that
-- may still be spent has its slot
pub record AreRows (pages : Paged) (spent room : ℕ) : Type 0 where
  pub chains : AreChains (chains_in pages) pages.properties
  pub arrays : AreArrays (arrays_in pages) pages.elements
  pub scopes : AreScopes pages
  pub numbered : (i : ℕ) → index_in (slot_at pages.objects i) < 2 ^ 28
  pub within : spent ≤ room
  pub paid : filled pages + (room - spent) ≤ pages.room
