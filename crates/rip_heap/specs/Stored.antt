-- How a heap keeps its objects: the head of each, and the properties and the elements of all of them beside. Of this
-- public clauses cite the properties of an object alone.
use Rattle.std.specs.Prelude.{Option, None, Some, List, [], ◌∷◌}
use Rattle.rip_base.specs.declared.value.Value.{Value}
use Rattle.rip_heap_region.specs.declared.pages.property.Property.{Property}
use Rattle.rip_heap.specs.declared.stored.StoredObject.{StoredObject}
use Rattle.rip_heap.specs.World.{Object}

-- an object without its elements: its head, and its properties
pub record Stored : Type 0 where
  pub head : StoredObject
  pub properties : List Property

-- all of an object but its properties and its elements
abbrev pub head_of : Object → StoredObject
head_of o = record { class = o.class; proto = o.proto; code = o.code }

-- the properties of an object, or none
abbrev pub properties_of : Option Object → List Property
properties_of None = []
properties_of (Some o) = o.properties

-- the head with these properties
abbrev pub stored_with : StoredObject → List Property → Stored
stored_with head properties = record { head = head; properties = properties }

-- the heads, each with the list of its place; one without a list has no properties
abbrev pub all_stored : List StoredObject → List (List Property) → List Stored
all_stored [] lists = []
all_stored (head ∷ heads) [] = stored_with head [] ∷ all_stored heads []
all_stored (head ∷ heads) (properties ∷ lists) = stored_with head properties ∷ all_stored heads lists

-- the object with these elements
abbrev pub object_of : Stored → List Value → Object
object_of s items = record { class = s.head.class; proto = s.head.proto; code = s.head.code; properties = s.properties; elements = items }

-- the objects, each with the list of its place; one without a list has no elements
abbrev pub objects_of : List Stored → List (List Value) → List Object
objects_of [] lists = []
objects_of (s ∷ stored) [] = object_of s [] ∷ objects_of stored []
objects_of (s ∷ stored) (items ∷ lists) = object_of s items ∷ objects_of stored lists
