-- The names that functions and scripts bind (ECMA-262 10.5, 13, 14). A name is its units.
use Rattle.std.specs.Prelude.{ℕ, Bool, false, ◌==◌, if◌then◌else◌, List, [], ◌∷◌, ◌++◌, filter_map, fold, Option, None, Some, option_map, position}
use Rattle.std.specs.List.{flat_map}
use Rattle.std.specs.Str.{bytes_eq}
use Rattle.rip_tree.specs.declared.form.Form.{Form}
use Rattle.rip_tree.specs.declared.form.Form.TheVariants as F
use Rattle.rip_tree.specs.declared.node.Piece.{Piece}
use Rattle.rip_tree.specs.Branches.{Plant, units_at}
use Rattle.rip_early.specs.Around.{in_text, form_of, children_of, home_of}

-- a name: its units
abbrev pub Name : Type 0
Name = List ℕ

-- the place of the first of these names that is this one
abbrev pub place_in : List Name → Name → Option ℕ
place_in names name = position (λ other. bytes_eq other name) names

-- the names with one more, if it is none of them
abbrev pub with_name : List Name → Name → List Name
with_name names name = elim (place_in names name) [ Some place ↦ names | None ↦ names ++ name ∷ [] ]

-- each of the names once, where it stands first
abbrev pub distinct : List Name → List Name
distinct names = fold with_name [] names

-- what a parameter names
abbrev pub parameter_piece : Form → Option Piece
parameter_piece (F.Parameter p) = Some p
parameter_piece _ = None

-- what a function declaration names
abbrev pub declared_piece : Form → Option Piece
declared_piece (F.FunctionDeclaration head) = head.name
declared_piece _ = None

-- what a part of `var` names
abbrev pub var_piece : Form → Option Piece
var_piece (F.Declarator p) = Some p
var_piece _ = None

-- the name that a node has by such a piece
abbrev pub name_by : (Form → Option Piece) → Plant → ℕ → Option Name
name_by piece t id = option_map (units_at t.units) (piece (form_of t id))

-- the names of a function's parameters (13)
abbrev pub parameter_names : Plant → ℕ → List Name
parameter_names t id = filter_map (name_by parameter_piece t) (children_of t id)

-- the names of the functions that a script or a function declares: declarations stand in its own list alone (14)
abbrev pub function_names : Plant → ℕ → List Name
function_names t id = filter_map (name_by declared_piece t) (children_of t id)

-- there is a number, and it is this one
abbrev pub is_number : Option ℕ → ℕ → Bool
is_number None id = false
is_number (Some number) id = number == id

-- the node is part of the code of this script or function, and of no function within it
abbrev pub is_at_home : Plant → ℕ → ℕ → Bool
is_at_home t id node = is_number (home_of t node) id

-- what a node names by `var` in the code of this script or function
abbrev pub var_name_in : Plant → ℕ → ℕ → Option Name
var_name_in t id node = if is_at_home t id node then name_by var_piece t node else None

-- the names that a script or a function declares by `var`, anywhere in its code (12.2), in the order of the text
abbrev pub var_names : Plant → ℕ → List Name
var_names t id = filter_map (var_name_in t id) (in_text t)

-- the names that the scope of a function binds: parameters, functions, `var` names, each name once (10.5)
unfoldable pub function_scope : Plant → ℕ → List Name
function_scope t id = distinct (parameter_names t id ++ function_names t id ++ var_names t id)

-- the names that the one top scope of all scripts binds: of each script its functions and then its `var` names
unfoldable pub top_scope : List Plant → List Name
top_scope trees = distinct (flat_map (λ t. function_names t 0 ++ var_names t 0) trees)
