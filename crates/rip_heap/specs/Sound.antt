use Rattle.std.specs.Prelude.{ℕ, List, length, ◌+◌, ◌<◌, ◌≤◌, slice_index_or, All, IfSome}
use Rattle.rip_heap.specs.World.{Object, Scope, first_object, first_node}

-- the prototype of each object is an object made before it, so that no chain of prototypes has a cycle
abbrev pub HaveOlderProtos : List Object → Type 0
HaveOlderProtos objects = (i : ℕ) (d : Object) → i < length objects → IfSome (slice_index_or objects i d).proto (λ n. (first_object ≤ n) × (n < first_object + i))

-- the scope around each scope was made before it
abbrev pub HaveOlderParents : List Scope → Type 0
HaveOlderParents scopes = (i : ℕ) (d : Scope) → i < length scopes → IfSome (slice_index_or scopes i d).parent (λ n. n < i)

-- what each heap keeps: the limit is not passed, all that is made was charged, objects have numbers below those of
-- nodes, and prototypes and outer scopes are older
pub record IsSound (limit cells : ℕ) (objects : List Object) (scopes : List Scope) : Type 0 where
  pub within : cells ≤ limit
  pub numbers : first_object + limit ≤ first_node
  pub made : length objects ≤ cells
  pub opened : length scopes ≤ cells
  pub elements : All (λ o. length o.elements ≤ cells) objects
  pub bindings : All (λ s. length s.bindings ≤ cells) scopes
  pub protos : HaveOlderProtos objects
  pub parents : HaveOlderParents scopes
