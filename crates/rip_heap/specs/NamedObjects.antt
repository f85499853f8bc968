-- What a heap keeps of texts, objects and scopes, beside which there are indexes that no contract sees. No public clause
-- cites this.
use Rattle.std.specs.Prelude.{◌≡◌, ℕ, [], ◌∷◌, ◌++◌, ◌<◌, ◌≤◌, Option, None, Some, List, length, slice_get, slice_index_or, slice_set, option_and_then, option_map, take}
use Rattle.rip_base.specs.declared.value.Span.{Span}
use Rattle.rip_base.specs.declared.value.Value.{Value}
use Rattle.rip_values.specs.Pool.{Texts}
use Rattle.rip_heap.specs.declared.class.Class.TheVariants.{Array}
use Rattle.rip_heap.specs.Growth.{KeepsObject}
use Rattle.rip_heap.specs.Names.{place_of}
use Rattle.rip_heap.specs.Region.{Listed}
use Rattle.rip_heap.specs.Rooms.{Rooms, spending}
use Rattle.rip_heap.specs.Stored.{all_stored, objects_of}
use Rattle.rip_heap.specs.World.{Object, Scope}

-- the texts, the objects whose properties they name, the scopes, and how many cells were spent on these
pub record Named : Type 0 where
  pub pool : Texts
  pub objects : List Object
  pub scopes : List Scope
  pub rooms : Rooms

-- the texts beside what lies in the rows
abbrev pub named_in : Texts → Listed → Named
named_in pool l = record {
  pool = pool;
  objects = objects_of (all_stored l.heads l.properties) l.elements;
  scopes = l.scopes;
  rooms = l.rooms;
}

-- the same with this object behind the others, for so many cells
abbrev pub with_another : Named → Object → ℕ → Named
with_another n o cells = record n { objects = n.objects ++ o ∷ []; rooms = spending cells n.rooms }

-- the same with this scope behind the others, for so many cells
abbrev pub with_scope : Named → Scope → ℕ → Named
with_scope n s cells = record n { scopes = n.scopes ++ s ∷ []; rooms = spending cells n.rooms }

-- the objects with an edit of the one at this place; where there is none nothing is changed
abbrev pub edited : List Object → ℕ → (Object → Object) → Option Object → List Object
edited objects at edit None = objects
edited objects at edit (Some o) = slice_set objects at (edit o)

-- the same beside the texts
abbrev pub with_edit : Named → ℕ → (Object → Object) → Named
with_edit n at edit = record n { objects = edited n.objects at edit (slice_get n.objects at) }

-- the same for so many cells
abbrev pub with_paid_edit : Named → ℕ → (Object → Object) → ℕ → Named
with_paid_edit n at edit cells = record (with_edit n at edit) { rooms = spending cells n.rooms }

-- the object with these elements behind the others
abbrev pub with_more : List Value → Object → Object
with_more items o = record o { elements = o.elements ++ items }

-- no object is gone, and each keeps what never changes in it
pub record KeepObjects (old new : List Object) : Type 0 where
  pub made : length old ≤ length new
  pub objects : (i : ℕ) (d : Object) → i < length old → KeepsObject (slice_index_or old i d) (slice_index_or new i d)

-- the place of the property with this name of the object at this place
abbrev pub place_at : Named → ℕ → Span → Option ℕ
place_at n at name = option_and_then (λ o. place_of n.pool name o.properties) (slice_get n.objects at)

-- an array is at this place
abbrev pub IsArrayAt : List Object → ℕ → Type 0
IsArrayAt objects at = option_map (λ (o : Object). o.class) (slice_get objects at) ≡ Some Array

-- the first units of the texts, so many, in which the names of all indexes lie; charges and limits are left out
abbrev pub first_texts : Texts → ℕ → Texts
first_texts pool n = record { units = take n pool.units; used = 0; limit = 0; text_limit = 0 }
