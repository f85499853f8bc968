-- What the names mean that scripts bind, and which scope binds them (ECMA-262 10.5, 12.14, 13).
use Rattle.std.specs.Prelude.{◌≡◌, ℕ, ◌+◌, Bool, true, false, List, [], ◌∷◌, ◌++◌, length, map, Option, Some, None, is_some}
use Rattle.std.specs.List.{All}
use Rattle.rip_tree.specs.declared.form.Form.{Form}
use Rattle.rip_tree.specs.declared.form.Form.TheVariants as F
use Rattle.rip_tree.specs.declared.node.Node.{Node}
use Rattle.rip_tree.specs.declared.node.Piece.{Piece}
use Rattle.rip_tree.specs.declared.program.Resolved.{Resolved}
use Rattle.rip_tree.specs.declared.program.Resolved.TheVariants.{Binding}
use Rattle.rip_tree.specs.Branches.{Plant, node_of, units_at}
use Rattle.rip_tree.specs.Program.{joined, scoping_of}
use Rattle.rip_parser.specs.Parsed.{IsTreeOf}
use Rattle.rip_early.specs.Around.{around, form_of, home_of}
use Rattle.rip_early.specs.Looking.{is_binding}
use Rattle.rip_early.specs.Mistakes.{bound_name}
use Rattle.rip_early.specs.Names.{Name, place_in, function_scope, top_scope}
use Rattle.rip_early.specs.Program.{program_of}
use Rattle.rip_early.specs.Scopes.{Scope, scope_of_names, scopes_around, scopes_made}

-- the tree is that of some script
abbrev pub IsScriptTree : Plant → Type 0
IsScriptTree t = (script : List ℕ) × IsTreeOf script t

-- what the program of scripts, of which this one stands behind these, resolves a node of it to
abbrev pub resolved_in : List Plant → Plant → List Plant → ℕ → Option Resolved
resolved_in before t after id = (scoping_of (program_of (before ++ t ∷ after)).scoping (length (joined before).branches + id)).resolved

-- BOUND BY A SCRIPT OR A FUNCTION

-- what a node names that binds its name in the scope around it: a part of `var`, a parameter, a function declaration
abbrev pub name_for_home : Form → Option Piece
name_for_home (F.Declarator p) = Some p
name_for_home (F.Parameter p) = Some p
name_for_home (F.FunctionDeclaration head) = head.name
name_for_home _ = None

-- the names that the scope of a script or a function binds
abbrev pub names_bound_by : List Name → Plant → ℕ → Form → List Name
names_bound_by top t id F.Script = top
names_bound_by top t id _ = function_scope t id

-- the name of a catch clause is bound within it, and nothing outside a script or a function is looked at
abbrev pub caught_by : Plant → Form → List Name → List Name
caught_by t F.Script outer = []
caught_by t (F.FunctionDeclaration head) outer = []
caught_by t (F.Function head) outer = []
caught_by t (F.Catch p) outer = units_at t.units p ∷ outer
caught_by t _ outer = outer

-- the names of the catch clauses among these nodes up to the first script or function
abbrev pub caught : Plant → List ℕ → List Name
caught t [] = []
caught t (a ∷ outer) = caught_by t (form_of t a) (caught t outer)

-- the binding that is meant, where a name has this place in the scope of the script or function: that of the first of so
-- many catch clauses within it that has the name too, if there is one
abbrev pub nearest_binding : Option ℕ → ℕ → ℕ → Resolved
nearest_binding (Some up) many place = Binding up 0
nearest_binding None many place = Binding many place

-- only around a part of `var` may such clauses stand
abbrev pub is_var_part : Form → Bool
is_var_part (F.Declarator p) = true
is_var_part _ = false

-- the scope of a catch clause, which binds one name
abbrev pub catch_scope : Name → Scope
catch_scope name = scope_of_names (name ∷ [])

-- The name of a node is bound by the nearest script or function, and the node means that binding, or that of the first
-- catch clause of this name within. For a binding tells how many scopes it is out, and those around the node are first of
-- these clauses, then of the script or function.
pub record IsBoundAtHome (top : List Name) (t : Plant) (id : ℕ) (name : Name) (resolved : Option Resolved) : Type 0 where
  pub home : ℕ
  pub place : ℕ
  pub outer : List Scope
  pub nearest : home_of t id ≡ Some home
  pub scopes : scopes_around top t id ≡ map catch_scope (caught t (around t id)) ++ scope_of_names (names_bound_by top t home (form_of t home)) ∷ outer
  pub bound : place_in (names_bound_by top t home (form_of t home)) name ≡ Some place
  pub means : resolved ≡ Some (nearest_binding (place_in (caught t (around t id)) name) (length (caught t (around t id))) place)
  pub directly : is_var_part (form_of t id) ≡ false → caught t (around t id) ≡ []

-- in the program of scripts each node that binds a name for the scope around it is bound so
abbrev pub NamesAreBoundAtHome : Type 0
NamesAreBoundAtHome = (before : List Plant) (t : Plant) (after : List Plant) → All IsScriptTree (before ++ t ∷ after)
    → (id : ℕ) (node : Node) (p : Piece) → node_of t.branches id ≡ Some node → name_for_home node.form ≡ Some p
    → IsBoundAtHome (top_scope (before ++ t ∷ after)) t id (units_at t.units p) (resolved_in before t after id)

-- BOUND BY ITSELF

-- what a node names that has a scope for its own name: a catch clause, a function expression
abbrev pub name_for_itself : Form → Option Piece
name_for_itself (F.Catch p) = Some p
name_for_itself (F.Function head) = head.name
name_for_itself _ = None

-- the last scope that a node makes has its name alone, and the node means that binding
pub record IsBoundByItself (made : List Scope) (name : Name) (resolved : Option Resolved) : Type 0 where
  pub inner : List Scope
  pub is_own : Bool
  pub makes : made ≡ inner ++ record { names = name ∷ []; is_own = is_own } ∷ []
  pub means : resolved ≡ Some (Binding 0 0)

-- in the program of scripts each node that has a scope for its own name is bound so
abbrev pub OwnNamesAreBound : Type 0
OwnNamesAreBound = (before : List Plant) (t : Plant) (after : List Plant)
    → (id : ℕ) (node : Node) (p : Piece) → node_of t.branches id ≡ Some node → name_for_itself node.form ≡ Some p
    → IsBoundByItself (scopes_made (top_scope (before ++ t ∷ after)) t id node.form) (units_at t.units p) (resolved_in before t after id)

-- ALL

-- in the program of scripts each node that binds a name is resolved to a binding
abbrev pub BoundNamesAreResolved : Type 0
BoundNamesAreResolved = (trees : List Plant) → All IsScriptTree trees
    → (id : ℕ) (node : Node) → node_of (program_of trees).grove.branches id ≡ Some node
    → is_some (bound_name node.form) ≡ true → is_binding (scoping_of (program_of trees).scoping id).resolved ≡ true
