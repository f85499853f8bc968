-- How a heap keeps its scopes in two rows of slots: the head of each, and the bindings of all. No public clause cites this.
use Rattle.std.specs.Prelude.{ℕ, Option, None, Some, List, [], ◌∷◌, ◌+◌, ◌≤◌, ◌==◌, if◌then◌else◌, length, map, option_and_then, slice_get, slice_range, slice_set}
use Rattle.rip_base.specs.declared.value.Value.{Value}
use Rattle.rip_base.specs.declared.value.Value.TheVariants.{Undefined, Object}
use Rattle.rip_heap_region.specs.declared.pages.slot.Slot.{Slot}
use Rattle.rip_heap_region.specs.Pages.{Paged}
use Rattle.rip_heap.specs.declared.scope_slots.ScopeHead.{ScopeHead}
use Rattle.rip_heap.specs.Scopes.{bindings_of}
use Rattle.rip_heap.specs.World.{Scope}

-- the scope around a scope, by the value of its slot
abbrev pub parent_in : Value → Option ℕ
parent_in (Object scope) = Some scope
parent_in value = None

-- the head of a scope, in its slot
abbrev pub scope_head_in : Slot → ScopeHead
scope_head_in s = record { parent = parent_in s.value; start = s.name.start; count = s.name.count }

-- the value of a binding, in its slot: a link tells that there is one
abbrev pub binding_in : Slot → Option Value
binding_in s = if s.link == 0 then None else Some s.value

-- the value in the slot of a scope
abbrev pub value_of_parent : Option ℕ → Value
value_of_parent None = Undefined
value_of_parent (Some scope) = Object scope

-- the slot of a scope
abbrev pub slot_of_scope : ScopeHead → Slot
slot_of_scope head = record {
  value = value_of_parent head.parent;
  name = record { start = head.start; count = head.count };
  next = 0;
  link = 0;
}

-- the slot of a binding that has a value
abbrev pub slot_of_value : Value → Slot
slot_of_value v = record { value = v; name = record { start = 0; count = 0 }; next = 0; link = 1 }

-- the scope of a head, with its part of the row
abbrev pub scope_in : List (Option Value) → ScopeHead → Scope
scope_in row head = record { parent = head.parent; bindings = slice_range row head.start (head.start + head.count) }

-- the scopes of the heads, in their order
abbrev pub scopes_in : List (Option Value) → List ScopeHead → List Scope
scopes_in row heads = map (scope_in row) heads

-- the scopes that the rows hold
abbrev pub scopes_of : Paged → List Scope
scopes_of p = scopes_in (map binding_in p.bindings) (map scope_head_in p.scopes)

-- the parts of the heads lie between the two places, each behind those of the heads before it
abbrev pub LieWithin : ℕ → ℕ → List ScopeHead → Type 0
LieWithin from to [] = from ≤ to
LieWithin from to (head ∷ heads) = (from ≤ head.start) × LieWithin (head.start + head.count) to heads

-- the bindings of each scope lie in the row, behind those of the scopes before it
abbrev pub AreScopes : Paged → Type 0
AreScopes p = LieWithin 0 (length p.bindings) (map scope_head_in p.scopes)

-- the value of the binding at this place of the scope, or none
abbrev pub binding_of : Option Scope → ℕ → Option Value
binding_of scope place = option_and_then (λ value. value) (slice_get (bindings_of scope) place)

-- the scopes with a value in the binding at this place of the one of that number; where there is none nothing is changed
abbrev pub bound : List Scope → ℕ → ℕ → Value → Option Scope → List Scope
bound scopes n place v None = scopes
bound scopes n place v (Some s) = slice_set scopes n (record s { bindings = slice_set s.bindings place (Some v) })
