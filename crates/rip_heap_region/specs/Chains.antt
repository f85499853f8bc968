-- How the properties of objects hang together in one row of slots.
use Rattle.std.specs.Prelude.{◌≡◌, ◌≢◌, ℕ, suc, zero, ◌+◌, ◌-◌, ◌<◌, ◌≤◌, List, [], ◌∷◌, Some, length, map, slice_get, slice_index_or, slice_set}
use Rattle.rip_base.specs.declared.value.Value.{Value}
use Rattle.rip_heap_region.specs.declared.pages.property.Property.{Property}
use Rattle.rip_heap_region.specs.declared.pages.slot.Slot.{Slot}
use Rattle.rip_heap_region.specs.Pages.{slot_at}
use Rattle.rip_heap_region.specs.declared.chains.chain.Chain.{Chain}

-- so many places, from this one on, each led to by the one before
abbrev pub walk : List Slot → ℕ → ℕ → List ℕ
walk slots at zero = []
walk slots at (suc n) = at ∷ walk slots (slot_at slots at).next n

-- where the properties of a chain stand, in the order of making
abbrev pub places_of : List Slot → Chain → List ℕ
places_of slots chain = walk slots chain.first chain.count

-- the property that stands in a slot
abbrev pub property_in : Slot → Property
property_in s = record { name = s.name; value = s.value }

-- those that stand at these places
abbrev pub properties_at : List Slot → List ℕ → List Property
properties_at slots places = map (λ place. property_in (slot_at slots place)) places

-- the properties of a chain
abbrev pub properties_of : List Slot → Chain → List Property
properties_of slots chain = properties_at slots (places_of slots chain)

-- the properties with this value of the one of that number; where there is none nothing is changed
abbrev pub with_value : List Property → ℕ → Value → List Property
with_value properties number v = slice_set properties number (record (slice_index_or properties number (record { name = record { start = 0; count = 0 }; value = v })) { value = v })

-- the places rise, from the first number on, and lie below the second
abbrev pub Rising : ℕ → ℕ → List ℕ → Type 0
Rising from to [] = Unit {0}
Rising from to (p ∷ ps) = (from ≤ p) × (p < to) × Rising (p + 1) to ps

-- the places of a chain rise and lie in the row, and it knows the last of them
pub record IsChain (slots : List Slot) (chain : Chain) : Type 0 where
  pub rising : Rising 0 (length slots) (places_of slots chain)
  pub last : 0 < chain.count → slice_get (places_of slots chain) (chain.count - 1) ≡ Some chain.last

-- the place is one of them, the one of that number
pub record IfOneOf (place : ℕ) (places : List ℕ) : Type 0 where
  pub number : ℕ
  pub is : slice_get places number ≡ Some place

-- no place is in both lists
abbrev pub Apart : List ℕ → List ℕ → Type 0
Apart places others = (i j p : ℕ) → slice_get places i ≡ Some p → slice_get others j ≡ Some p → ⊥

-- the chain of that number
abbrev pub chain_at : List Chain → ℕ → Chain
chain_at chains i = slice_index_or chains i (record { first = 0; last = 0; count = 0 })

-- each is a chain, and no two share a place
pub record AreChains (chains : List Chain) (slots : List Slot) : Type 0 where
  pub each : (i : ℕ) → i < length chains → IsChain slots (chain_at chains i)
  pub apart : (i j : ℕ) → i < length chains → j < length chains → i ≢ j
      → Apart (places_of slots (chain_at chains i)) (places_of slots (chain_at chains j))

-- they are chains, and have these places and these properties
pub record AreHung (chains : List Chain) (slots : List Slot) (places : List (List ℕ)) (lists : List (List Property)) : Type 0 where
  pub hang : AreChains chains slots
  pub stand : map (places_of slots) chains ≡ places
  pub hold : map (properties_of slots) chains ≡ lists

-- no link is another one than before
abbrev pub SameLinks : List Slot → List Slot → Type 0
SameLinks old new = (p : ℕ) → p < length old → (slot_at new p).link ≡ (slot_at old p).link

-- nothing but links is other than before
pub record OnlyLinks (old new : List Slot) : Type 0 where
  pub size : length new ≡ length old
  pub nexts : (p : ℕ) → p < length old → (slot_at new p).next ≡ (slot_at old p).next
  pub properties : (p : ℕ) → p < length old → property_in (slot_at new p) ≡ property_in (slot_at old p)
