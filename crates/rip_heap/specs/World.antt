use Rattle.std.specs.Prelude.{ℕ, Bool, true, false, Option, None, Some, List, [], length, ◌+◌, ◌-◌, ◌^◌, ◌<◌, ◌≤◌, nat_lt, nat_le, if◌then◌else◌, slice_get, slice_set, option_and_then}
use Rattle.rip_base.specs.declared.value.Value.{Value}
use Rattle.rip_values.specs.FixedTexts.{fixed_units}
use Rattle.rip_values.specs.Pool.{Texts}
use Rattle.rip_heap.specs.declared.class.Class.{Class}
use Rattle.rip_heap.specs.declared.class.Class.TheVariants.{Plain, Prototype, Array, Function, Error, TypeError, RangeError, ThrownTypeError, ThrownReferenceError, Code, Event}
use Rattle.rip_heap.specs.declared.limits.HeapLimits.{HeapLimits}
use Rattle.rip_heap_region.specs.declared.pages.property.Property.{Property}

-- an object (ECMA-262 8.6): its class, its prototype, of a script function the node and the scope, its properties in
-- the order of making, and of an array its elements
pub record Object : Type 0 where
  pub class : Class
  pub proto : Option ℕ
  pub code : Option (ℕ × ℕ)
  pub properties : List Property
  pub elements : List Value

-- a scope (ECMA-262 10.2): the scope around it, and its bindings, of which some have no value yet
pub record Scope : Type 0 where
  pub parent : Option ℕ
  pub bindings : List (Option Value)

-- all that a script's heap holds: the most cells that may be charged, the cells charged, the texts, the objects and
-- the scopes, each in the order of making
pub record World : Type 0 where
  pub limit : ℕ
  pub cells : ℕ
  pub pool : Texts
  pub objects : List Object
  pub scopes : List Scope

-- the world in which a session begins
abbrev pub empty_world : HeapLimits → World
empty_world limits = record {
  limit = limits.cells;
  cells = 0;
  pool = record { units = fixed_units; used = 0; limit = limits.units; text_limit = limits.text };
  objects = [];
  scopes = [];
}

-- CHARGES

-- the world with so many cells more charged
abbrev pub paid : ℕ → World → World
paid n w = record w { cells = w.cells + n }

-- the operation is done at a charge of so many cells, or is not done where that would pass the limit
abbrev pub charging : {A : Type 0} → ℕ → World → (World → A) → Option A
charging n w operation = if nat_le (w.cells + n) w.limit then Some (operation (paid n w)) else None

-- what each thing costs, in cells: an object with nothing in it
abbrev pub cost_of_object : ℕ
cost_of_object = 1

-- of a property
abbrev pub cost_of_property : ℕ
cost_of_property = 1

-- of an element that is pushed
abbrev pub cost_of_element : ℕ
cost_of_element = 1

-- of an array of so many elements
abbrev pub cost_of_array : ℕ → ℕ
cost_of_array count = 1 + count

-- of a scope of so many bindings
abbrev pub cost_of_scope : ℕ → ℕ
cost_of_scope bindings = 1 + bindings

-- of a function of the script, with its `prototype` object and the property that leads there
abbrev pub cost_of_function : ℕ
cost_of_function = 4

-- NUMBERS

-- the number of the first object of a heap; those below are the built-ins
abbrev pub first_object : ℕ
first_object = 128

-- the number of the first node of the document; each object of a heap has a number below it
abbrev pub first_node : ℕ
first_node = 2 ^ 31

-- the number is that of an object of the world
abbrev pub IsObject : World → ℕ → Type 0
IsObject w n = (first_object ≤ n) × (n < first_object + length w.objects)

-- the number is that of a scope of the world
abbrev pub IsScope : World → ℕ → Type 0
IsScope w n = n < length w.scopes

-- the object of that number, or none
abbrev pub object_at : World → ℕ → Option Object
object_at w n = if nat_lt n first_object then None else slice_get w.objects (n - first_object)

-- the scope of that number, or none
abbrev pub scope_at : World → ℕ → Option Scope
scope_at w n = slice_get w.scopes n

-- the world with this object in place of the one of that number
abbrev pub with_object : World → ℕ → Object → World
with_object w n o = record w { objects = slice_set w.objects (n - first_object) o }

-- the world with this scope in place of the one of that number
abbrev pub with_scope : World → ℕ → Scope → World
with_scope w n s = record w { scopes = slice_set w.scopes n s }

-- the class of an object; a number that is no object of the world counts as a plain one
abbrev pub class_of : Option Object → Class
class_of None = Plain
class_of (Some o) = o.class

-- the prototype of an object, or none
abbrev pub proto_of : Option Object → Option ℕ
proto_of o = option_and_then (λ object. object.proto) o

-- of a script function its node and its scope
abbrev pub code_of : Option Object → Option (ℕ × ℕ)
code_of o = option_and_then (λ object. object.code) o

-- the class is that of arrays
abbrev pub is_array : Class → Bool
is_array Plain = false
is_array Prototype = false
is_array Array = true
is_array Function = false
is_array Error = false
is_array TypeError = false
is_array RangeError = false
is_array ThrownTypeError = false
is_array ThrownReferenceError = false
is_array Code = false
is_array Event = false

-- the object, if it is an array
abbrev pub as_array : Option Object → Option Object
as_array o = option_and_then (λ object. if is_array object.class then Some object else None) o
