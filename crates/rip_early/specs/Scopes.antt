-- Which scopes stand around a node, and what a name means there (ECMA-262 10.2.2.1, 10.3.1).
use Rattle.std.specs.Prelude.{ℕ, suc, Bool, true, false, List, [], ◌∷◌, length, Option, None, Some, option_map}
use Rattle.std.specs.List.{flat_map}
use Rattle.rip_tree.specs.declared.form.Form.{Form}
use Rattle.rip_tree.specs.declared.form.Form.TheVariants as F
use Rattle.rip_tree.specs.declared.node.Piece.{Piece}
use Rattle.rip_values.specs.Globals.{global_named}
use Rattle.rip_tree.specs.declared.program.Resolved.TheVariants.{Binding, Global}
use Rattle.rip_tree.specs.declared.program.Scoping.{Scoping}
use Rattle.rip_tree.specs.Branches.{Plant, units_at}
use Rattle.rip_early.specs.declared.meaning.Meaning.{Meaning}
use Rattle.rip_early.specs.Around.{form_of, around}
use Rattle.rip_early.specs.Names.{Name, place_in, function_scope}

-- SCOPES

-- the names that a scope binds, and whether it is that of a function expression's own name (13)
pub record Scope : Type 0 where
  pub names : List Name
  pub is_own : Bool

-- the scope that binds these names
abbrev pub scope_of_names : List Name → Scope
scope_of_names names = record { names = names; is_own = false }

-- the scope around a named function expression, which has its name alone (13)
abbrev pub own_scope : Plant → Option Piece → List Scope
own_scope t (Some p) = record { names = units_at t.units p ∷ []; is_own = true } ∷ []
own_scope t None = []

-- the scopes that a node makes, the inner one first: that of a function with its parameters and body (13.2.1), a
-- function expression's own name (13), that of a catch clause (12.14), and the top scope, which all scripts share (14)
abbrev pub scopes_made : List Name → Plant → ℕ → Form → List Scope
scopes_made top t id F.Script = scope_of_names top ∷ []
scopes_made top t id (F.FunctionDeclaration head) = scope_of_names (function_scope t id) ∷ []
scopes_made top t id (F.Function head) = scope_of_names (function_scope t id) ∷ own_scope t head.name
scopes_made top t id (F.Catch p) = scope_of_names (units_at t.units p ∷ []) ∷ []
scopes_made top t id _ = []

-- the scopes that nodes make, one node after another
abbrev pub scopes_among : List Name → Plant → List ℕ → List Scope
scopes_among top t ids = flat_map (λ a. scopes_made top t a (form_of t a)) ids

-- the scopes around a node, the inner one first
abbrev pub scopes_around : List Name → Plant → ℕ → List Scope
scopes_around top t id = scopes_among top t (around t id)

-- the scopes that a node makes, other than the top scope
abbrev pub inner_made : Plant → ℕ → Form → List Scope
inner_made t id F.Script = []
inner_made t id f = scopes_made [] t id f

-- the same without the top scope
abbrev pub inner_scopes : Plant → ℕ → List Scope
inner_scopes t id = flat_map (λ a. inner_made t a (form_of t a)) (around t id)

-- NAMES

-- a global, or nothing
abbrev pub global_meaning : Name → Meaning
global_meaning name = record { resolved = option_map Global (global_named name); is_own = false }

-- the name means what the first scope that binds it says, or else a global (10.2.2.1)
abbrev pub meaning_in : ℕ → List Scope → Name → Meaning
meaning_in up [] name = global_meaning name
meaning_in up (s ∷ ss) name = elim (place_in s.names name) [
  | Some place ↦ record { resolved = Some (Binding up place); is_own = s.is_own }
  | None ↦ meaning_in (suc up) ss name
]

-- what a name means where a node stands
abbrev pub meaning_at : List Name → Plant → ℕ → Piece → Meaning
meaning_at top t id p = meaning_in 0 (scopes_around top t id) (units_at t.units p)

-- the first binding of the scope that a node makes for its own name
abbrev pub first_binding : Bool → Meaning
first_binding is_own = record { resolved = Some (Binding 0 0); is_own = is_own }

-- the node reads and binds no name
abbrev pub no_meaning : Meaning
no_meaning = record { resolved = None; is_own = false }

-- what the name of a function expression means in its own scope, if it has one
abbrev pub own_meaning : Option Piece → Meaning
own_meaning (Some p) = first_binding true
own_meaning None = no_meaning

-- what the name of a declaration means, if it has one
abbrev pub name_meaning : List Name → Plant → ℕ → Option Piece → Meaning
name_meaning top t id (Some p) = meaning_at top t id p
name_meaning top t id None = no_meaning

-- what the name means that a node reads or binds
abbrev pub node_meaning : List Name → Plant → ℕ → Form → Meaning
node_meaning top t id (F.Name p) = meaning_at top t id p
node_meaning top t id (F.Declarator p) = meaning_at top t id p
node_meaning top t id (F.Parameter p) = meaning_at top t id p
node_meaning top t id (F.FunctionDeclaration head) = name_meaning top t id head.name
node_meaning top t id (F.Function head) = own_meaning head.name
node_meaning top t id (F.Catch p) = first_binding false
node_meaning top t id _ = no_meaning

-- how many bindings the scope of a function or a catch clause has
abbrev pub binding_count : Plant → ℕ → Form → ℕ
binding_count t id (F.FunctionDeclaration head) = length (function_scope t id)
binding_count t id (F.Function head) = length (function_scope t id)
binding_count t id (F.Catch p) = 1
binding_count t id _ = 0

-- what the rules of scope say of a node
abbrev pub scoping_at : List Name → Plant → ℕ → Scoping
scoping_at top t id = record {
  names = binding_count t id (form_of t id);
  resolved = (node_meaning top t id (form_of t id)).resolved;
  is_own = (node_meaning top t id (form_of t id)).is_own;
}
