-- What is read in the row of objects after a change of one slot, and with one slot more.
use Rattle.std.proofs.Common.{◌≡◌, ℕ, List, [], ◌∷◌, ◌++◌, ap, ◌∙◌}
use Rattle.std.specs.Prelude.{map, slice_set}
use Rattle.std.proofs.Math.Seq.{map-set_same}
use Rattle.std.proofs.lemmas.List.{map-set, map_push}
use Rattle.rip_heap_region.specs.declared.pages.slot.Slot.{Slot}
use Rattle.rip_heap_region.specs.Pages.{no_slot, slot_at}
use Rattle.rip_heap_region.specs.declared.chains.chain.Chain.{Chain}
use Rattle.rip_heap_region.specs.declared.segments.array.Array.{Array}
use Rattle.rip_heap.specs.declared.class.Class.TheVariants.{Array as ArrayClass}
use Rattle.rip_heap.specs.declared.stored.StoredObject.{StoredObject}
use Rattle.rip_heap.specs.HeadSlots.{IsStorable, array_in, chain_in, head_in, index_in, slot_of, with_array, with_chain}
use Rattle.rip_heap.proofs.HeadLemmas.{array_of_slot, array_with_array, array_with_chain, head_with_array, head_with_chain, index_of_slot, index_with_chain}

-- ONE OBJECT MORE

pub heads_with_slot : (slots : List Slot) (head : StoredObject) → IsStorable head → map head_in (slots ++ slot_of head ∷ []) ≡ map head_in slots ++ head ∷ []
heads_with_slot slots head storable = map_push head_in slots (slot_of head) ∙ ap (λ h. map head_in slots ++ h ∷ []) storable

pub chains_with_slot : (slots : List Slot) (head : StoredObject) → map chain_in (slots ++ slot_of head ∷ []) ≡ map chain_in slots ++ record { first = 0; last = 0; count = 0 } ∷ []
chains_with_slot slots head = map_push chain_in slots (slot_of head)

pub arrays_with_slot : (slots : List Slot) (head : StoredObject) → IsStorable head → map array_in (slots ++ slot_of head ∷ []) ≡ map array_in slots ++ record { top = 0; count = 0 } ∷ []
arrays_with_slot slots head storable =
    map_push array_in slots (slot_of head) ∙ ap (λ array. map array_in slots ++ array ∷ []) (array_of_slot head storable)

pub indexes_with_slot : (slots : List Slot) (head : StoredObject) → map index_in (slots ++ slot_of head ∷ []) ≡ map index_in slots ++ 0 ∷ []
indexes_with_slot slots head =
    map_push index_in slots (slot_of head) ∙ ap (λ index. map index_in slots ++ index ∷ []) (index_of_slot head)

-- OTHER PROPERTIES OF ONE

pub heads_with_chain : (slots : List Slot) (at : ℕ) (chain : Chain) (index : ℕ) → map head_in (slice_set slots at (with_chain (slot_at slots at) chain index)) ≡ map head_in slots
heads_with_chain slots at chain index =
    map-set_same head_in slots at (with_chain (slot_at slots at) chain index) no_slot (head_with_chain (slot_at slots at) chain index)

pub arrays_with_chain : (slots : List Slot) (at : ℕ) (chain : Chain) (index : ℕ) → map array_in (slice_set slots at (with_chain (slot_at slots at) chain index)) ≡ map array_in slots
arrays_with_chain slots at chain index =
    map-set_same array_in slots at (with_chain (slot_at slots at) chain index) no_slot (array_with_chain (slot_at slots at) chain index)

pub chains_with_chain : (slots : List Slot) (at : ℕ) (chain : Chain) (index : ℕ) → map chain_in (slice_set slots at (with_chain (slot_at slots at) chain index)) ≡ slice_set (map chain_in slots) at chain
chains_with_chain slots at chain index = map-set chain_in slots at (with_chain (slot_at slots at) chain index)

pub indexes_with_chain : (slots : List Slot) (at : ℕ) (chain : Chain) (index : ℕ) → map index_in (slice_set slots at (with_chain (slot_at slots at) chain index)) ≡ slice_set (map index_in slots) at index
indexes_with_chain slots at chain index =
    map-set index_in slots at (with_chain (slot_at slots at) chain index)
    ∙ ap (slice_set (map index_in slots) at) (index_with_chain (slot_at slots at) chain index)

-- OTHER ELEMENTS OF AN ARRAY

pub heads_with_array : (slots : List Slot) (at : ℕ) (array : Array) → (head_in (slot_at slots at)).class ≡ ArrayClass → map head_in (slice_set slots at (with_array (slot_at slots at) array)) ≡ map head_in slots
heads_with_array slots at array is =
    map-set_same head_in slots at (with_array (slot_at slots at) array) no_slot (head_with_array (slot_at slots at) array is)

pub arrays_with_array : (slots : List Slot) (at : ℕ) (array : Array) → (head_in (slot_at slots at)).class ≡ ArrayClass → map array_in (slice_set slots at (with_array (slot_at slots at) array)) ≡ slice_set (map array_in slots) at array
arrays_with_array slots at array is =
    map-set array_in slots at (with_array (slot_at slots at) array)
    ∙ ap (slice_set (map array_in slots) at) (array_with_array (slot_at slots at) array is)

pub chains_with_array : (slots : List Slot) (at : ℕ) (array : Array) → map chain_in (slice_set slots at (with_array (slot_at slots at) array)) ≡ map chain_in slots
chains_with_array slots at array =
    map-set_same chain_in slots at (with_array (slot_at slots at) array) no_slot (λ _. chain_in (slot_at slots at))

pub indexes_with_array : (slots : List Slot) (at : ℕ) (array : Array) → map index_in (slice_set slots at (with_array (slot_at slots at) array)) ≡ map index_in slots
indexes_with_array slots at array =
    map-set_same index_in slots at (with_array (slot_at slots at) array) no_slot (λ _. index_in (slot_at slots at))
