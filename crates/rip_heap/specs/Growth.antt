use Rattle.std.specs.Prelude.{◌≡◌, ℕ, None, length, ◌+◌, ◌<◌, ◌≤◌, ◌⊎◌, slice_index_or}
use Rattle.rip_base.specs.declared.value.Value.{Value}
use Rattle.rip_base.specs.declared.value.Value.TheVariants.{Undefined, Null, Bool, Num, NaN, Text, Object as ObjectValue}
use Rattle.rip_values.specs.Pool.{IsSpan, KeepsTexts}
use Rattle.rip_heap.specs.World.{World, Object, Scope, first_object, first_node}

-- what never changes in an object: its class, its prototype, and of a script function its node and its scope
abbrev pub KeepsObject : Object → Object → Type 0
KeepsObject old new = (new.class ≡ old.class) × (new.proto ≡ old.proto) × (new.code ≡ old.code)

-- what never changes in a scope: the scope around it, and how many bindings it has
abbrev pub KeepsScope : Scope → Scope → Type 0
KeepsScope old new = (new.parent ≡ old.parent) × (length new.bindings ≡ length old.bindings)

-- what holds of a world and a later one, whatever was done between them: the limits stand, nothing used is given back,
-- and what was made stays, each under its number
pub record Grows (old new : World) : Type 0 where
  pub limit : new.limit ≡ old.limit
  pub unit_limit : new.pool.limit ≡ old.pool.limit
  pub text_limit : new.pool.text_limit ≡ old.pool.text_limit
  pub cells : old.cells ≤ new.cells
  pub units : old.pool.used ≤ new.pool.used
  pub texts : KeepsTexts old.pool new.pool
  pub spans : length old.pool.units ≤ length new.pool.units
  pub made : length old.objects ≤ length new.objects
  pub objects : (i : ℕ) (d : Object) → i < length old.objects → KeepsObject (slice_index_or old.objects i d) (slice_index_or new.objects i d)
  pub opened : length old.scopes ≤ length new.scopes
  pub scopes : (i : ℕ) (d : Scope) → i < length old.scopes → KeepsScope (slice_index_or old.scopes i d) (slice_index_or new.scopes i d)

-- no object that is new is a script function
abbrev pub MakesNoFunction : World → World → Type 0
MakesNoFunction old new = (i : ℕ) (d : Object) → length old.objects ≤ i → i < length new.objects → (slice_index_or new.objects i d).code ≡ None

-- the value is of this world: its text stands in the pool, and its object is one of the heap, a built-in or a node
abbrev pub Belongs : World → Value → Type 0
Belongs w Undefined = Unit {0}
Belongs w Null = Unit {0}
Belongs w (Bool b) = Unit {0}
Belongs w (Num z) = Unit {0}
Belongs w NaN = Unit {0}
Belongs w (Text span) = IsSpan w.pool span
Belongs w (ObjectValue n) = (n < first_object + length w.objects) ⊎ (first_node ≤ n)
