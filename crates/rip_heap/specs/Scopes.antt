use Rattle.std.specs.Prelude.{ℕ, Option, None, Some, List, [], ◌∷◌, ◌++◌, length, nat_lt, if◌then◌else◌, replicate, slice_get, slice_set, option_and_then}
use Rattle.rip_base.specs.declared.value.Value.{Value}
use Rattle.rip_heap.specs.World.{World, Scope, scope_at, with_scope, charging, cost_of_scope}

-- the scope around a new one: what is no scope of the world counts as none
abbrev pub kept_parent : World → Option ℕ → Option ℕ
kept_parent w parent = option_and_then (λ n. if nat_lt n (length w.scopes) then Some n else None) parent

-- a new scope with so many bindings, none of which has a value yet (ECMA-262 10.5)
abbrev pub new_scope : World → Option ℕ → ℕ → Option (ℕ × World)
new_scope w parent names =
    charging (cost_of_scope names) w (λ x. (length x.scopes, record x { scopes = x.scopes ++ record { parent = kept_parent w parent; bindings = replicate names None } ∷ [] }))

-- the scope around a scope, or none
abbrev pub parent_of : Option Scope → Option ℕ
parent_of s = option_and_then (λ scope. scope.parent) s

-- the bindings of a scope, or of none
abbrev pub bindings_of : Option Scope → List (Option Value)
bindings_of None = []
bindings_of (Some s) = s.bindings

-- the value of the binding at this place; none where there is no such binding, or no value yet
abbrev pub binding : World → ℕ → ℕ → Option Value
binding w n place = option_and_then (λ value. value) (slice_get (bindings_of (scope_at w n)) place)

-- the scope with a value in the binding at this place, or the world as it was where there is no scope
abbrev pub bound_in : World → ℕ → ℕ → Value → Option Scope → World
bound_in w n place v None = w
bound_in w n place v (Some s) = with_scope w n (record s { bindings = slice_set s.bindings place (Some v) })

-- the binding at this place has the value v; where there is no such binding nothing is changed
abbrev pub with_binding : World → ℕ → ℕ → Value → World
with_binding w n place v = bound_in w n place v (scope_at w n)
