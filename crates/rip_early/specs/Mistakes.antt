-- The early errors of a script (ECMA-262 14.1 and Annex C, narrowed to the profile), each with its place.
use Rattle.std.specs.Prelude.{◌≡◌, ℕ, ◌+◌, ◌<◌, ◌≤◌, ◌==◌, Bool, true, false, not, ◌&&◌, ◌||◌, ◌⊎◌, if◌then◌else◌, List, [], ◌∷◌, ◌++◌, length, filter_map, codes, Option, None, Some, is_some, option_and_then, All, Contains}
use Rattle.std.specs.List.{flat_map}
use Rattle.std.specs.Fmt.{signed_decimal}
use Rattle.std.specs.Str.{bytes_eq}
use Rattle.rip_base.specs.declared.operator.UnaryOperator.{UnaryOperator}
use Rattle.rip_base.specs.declared.operator.UnaryOperator.TheVariants.{Delete}
use Rattle.rip_tree.specs.declared.form.Form.{Form}
use Rattle.rip_tree.specs.declared.form.Form.TheVariants as F
use Rattle.rip_tree.specs.declared.form.Key.{Key}
use Rattle.rip_tree.specs.declared.form.Key.TheVariants as K
use Rattle.rip_tree.specs.declared.node.Node.{Node}
use Rattle.rip_tree.specs.declared.node.Piece.{Piece}
use Rattle.rip_tree.specs.Branches.{Plant, child_of, node_of, units_at}
use Rattle.rip_values.specs.Globals.{global_named}
use Rattle.rip_early.specs.Around.{numbers, children_of, forms_around, is_function}
use Rattle.rip_early.specs.declared.duplicates.Placed.{Placed}
use Rattle.rip_early.specs.declared.mistake.Mistake.{Mistake}
use Rattle.rip_early.specs.declared.refusal.EarlyKind.{EarlyKind}
use Rattle.rip_early.specs.declared.refusal.EarlyKind.TheVariants.{NotStrict, Duplicate, BadBinding, BadDelete, UnknownGlobal, NoGlobalObject, BadJump}
use Rattle.rip_early.specs.declared.refusal.EarlyRefusal.{EarlyRefusal}
use Rattle.rip_early.specs.declared.refusal.EarlyRefusal.TheVariants.{At, Memory}
use Rattle.rip_early.specs.Names.{Name, place_in, top_scope}
use Rattle.rip_early.specs.Scopes.{Scope, inner_scopes, meaning_at}

-- an early error: where it stands in its script, and its kind
abbrev pub mistake : ℕ → EarlyKind → Mistake
mistake place kind = record { place = place; kind = kind }

-- the mistake, where it is one
abbrev pub where_so : Bool → Mistake → List Mistake
where_so true m = m ∷ []
where_so false m = []

-- the forms of loops, and of what `break` leaves
abbrev pub is_loop : Form → Bool
is_loop F.DoWhile = true
is_loop F.While = true
is_loop F.For = true
is_loop _ = false

-- the forms that `break` leaves: loops and `switch`
abbrev pub is_left_by_break : Form → Bool
is_left_by_break F.Switch = true
is_left_by_break f = is_loop f

-- a function stands around the node
abbrev pub has_function : List Form → Bool
has_function [] = false
has_function (f ∷ fs) = is_function f || has_function fs

-- such a form stands around the node, with no function between
abbrev pub has_target : (Form → Bool) → List Form → Bool
has_target is_target [] = false
has_target is_target (f ∷ fs) = not (is_function f) && (is_target f || has_target is_target fs)

-- the nodes that are children of a node, and the first child
abbrev pub child_nodes : Plant → ℕ → List Node
child_nodes t id = filter_map (node_of t.branches) (children_of t id)

-- the first child of a node, if it is there
abbrev pub first_child : Plant → ℕ → Option Node
first_child t id = option_and_then (node_of t.branches) (child_of t.branches id 0)

-- STRICT CODE (14.1)

-- the form is that of an expression statement
abbrev pub is_expression : Form → Bool
is_expression F.Expression = true
is_expression _ = false

-- the text `use strict`, spelled by just these units between quotes
abbrev pub is_use_strict : Plant → Form → Bool
is_use_strict t (F.Text literal) = literal.is_plain && bytes_eq (units_at t.units literal.value) (codes "use strict")
is_use_strict t _ = false

-- the statement is that text alone: parentheses around it would begin before it
abbrev pub is_directive : Plant → Option Node → Option Node → Bool
is_directive t (Some statement) (Some text) = is_expression statement.form && is_use_strict t text.form && (text.place == statement.place)
is_directive t statement text = false

-- the first statement of the script is the directive
abbrev pub is_strict : Plant → Bool
is_strict t = elim (child_of t.branches 0 0) [ Some s ↦ is_directive t (node_of t.branches s) (first_child t s) | None ↦ false ]

-- NAMES THAT STAND TWICE (13.1, 11.1.5)

-- those of the names that stand earlier as well, here or among others before
abbrev pub repeated_behind : List Name → List Placed → List Mistake
repeated_behind before [] = []
repeated_behind before (n ∷ ns) = where_so (is_some (place_in before n.name)) (mistake n.place Duplicate) ++ repeated_behind (n.name ∷ before) ns

-- those of the names that stand earlier as well
abbrev pub repeated : List Placed → List Mistake
repeated names = repeated_behind [] names

-- the text of a key: a numeral counts by its decimal text (11.1.5)
abbrev pub key_name : Plant → Key → Name
key_name t (K.Name p) = units_at t.units p
key_name t (K.Text literal) = units_at t.units literal.value
key_name t (K.Number w) = signed_decimal w

-- the name and place of a node that is a parameter
abbrev pub placed_by : Plant → Node → Form → Option Placed
placed_by t node (F.Parameter p) = Some (record { name = units_at t.units p; place = node.place })
placed_by t node _ = None

-- the same, by the form of the node
abbrev pub placed_parameter : Plant → Node → Option Placed
placed_parameter t node = placed_by t node node.form

-- the key and place of a node that is an entry of an object literal
abbrev pub placed_by_key : Plant → Node → Form → Option Placed
placed_by_key t node (F.Entry key) = Some (record { name = key_name t key; place = node.place })
placed_by_key t node _ = None

-- the same, by the form of the node
abbrev pub placed_entry : Plant → Node → Option Placed
placed_entry t node = placed_by_key t node node.form

-- a parameter's name twice in one function, a key twice in one object literal
abbrev pub duplicates : Plant → ℕ → Form → List Mistake
duplicates t id (F.FunctionDeclaration head) = repeated (filter_map (placed_parameter t) (child_nodes t id))
duplicates t id (F.Function head) = repeated (filter_map (placed_parameter t) (child_nodes t id))
duplicates t id F.Object = repeated (filter_map (placed_entry t) (child_nodes t id))
duplicates t id _ = []

-- BINDING AND ASSIGNING (12.2.1, 13.1, 12.14.1, 11.13.1, 11.3.1, 11.4.4)

-- the names that are never bound and never assigned
abbrev pub is_restricted : Name → Bool
is_restricted name = bytes_eq name (codes "eval") || bytes_eq name (codes "arguments")

-- the name is that of a global of the profile
abbrev pub is_global : Name → Bool
is_global name = is_some (global_named name)

-- the name that a node binds
abbrev pub bound_name : Form → Option Piece
bound_name (F.Declarator p) = Some p
bound_name (F.Parameter p) = Some p
bound_name (F.Catch p) = Some p
bound_name (F.FunctionDeclaration head) = head.name
bound_name (F.Function head) = head.name
bound_name _ = None

-- the forms that bind their name in the scope around them
abbrev pub is_declaration : Form → Bool
is_declaration (F.Declarator p) = true
is_declaration (F.FunctionDeclaration head) = true
is_declaration _ = false

-- `eval` or `arguments` bound, or a global declared at the top of a script
abbrev pub may_not_bind : Plant → ℕ → Form → Name → Bool
may_not_bind t id f name = is_restricted name || (is_declaration f && not (has_function (forms_around t id)) && is_global name)

-- the node binds a name that it may not bind; the place is the name
abbrev pub bad_bindings : Plant → ℕ → Form → List Mistake
bad_bindings t id f = elim (bound_name f) [ Some p ↦ where_so (may_not_bind t id f (units_at t.units p)) (mistake p.start BadBinding) | None ↦ [] ]

-- the forms that assign their first child
abbrev pub assigns : Form → Bool
assigns F.Assign = true
assigns (F.Compound op) = true
assigns (F.Prefix op) = true
assigns (F.Postfix op) = true
assigns _ = false

-- a scope binds the name
abbrev pub is_bound_in : List Scope → Name → Bool
is_bound_in [] name = false
is_bound_in (s ∷ ss) name = is_some (place_in s.names name) || is_bound_in ss name

-- `eval` or `arguments` assigned, or a global that no inner scope binds
abbrev pub may_not_assign : Plant → ℕ → Name → Bool
may_not_assign t id name = is_restricted name || (is_global name && not (is_bound_in (inner_scopes t id) name))

-- the target is a name that may not be assigned; the place is the name
abbrev pub bad_name : Plant → ℕ → Node → Form → List Mistake
bad_name t id node (F.Name p) = where_so (may_not_assign t id (units_at t.units p)) (mistake node.place BadBinding)
bad_name t id node _ = []

-- the same of a target that may not be there
abbrev pub bad_target : Plant → ℕ → Option Node → List Mistake
bad_target t id None = []
bad_target t id (Some node) = bad_name t id node node.form

-- the node assigns a name that it may not assign
abbrev pub bad_assignments : Plant → ℕ → Form → List Mistake
bad_assignments t id f = if assigns f then bad_target t id (first_child t id) else []

-- USES

-- the operator is `delete`
abbrev pub is_delete : UnaryOperator → Bool
is_delete Delete = true
is_delete op = false

-- the form is that of a name
abbrev pub is_name_form : Form → Bool
is_name_form (F.Name p) = true
is_name_form _ = false

-- there is a node, and it is a name
abbrev pub is_name : Option Node → Bool
is_name None = false
is_name (Some node) = is_name_form node.form

-- what a node is by itself: `delete` of a name (11.4.1), a free name that means nothing (10.2.2.1), `this` outside all
-- functions (10.4.3), and a jump with no target (12.7 to 12.9)
abbrev pub bad_uses : List Name → Plant → ℕ → ℕ → Form → List Mistake
bad_uses top t id place (F.Unary op) = where_so (is_delete op && is_name (first_child t id)) (mistake place BadDelete)
bad_uses top t id place (F.Name p) = where_so (not (is_some (meaning_at top t id p).resolved)) (mistake place UnknownGlobal)
bad_uses top t id place F.This = where_so (not (has_function (forms_around t id))) (mistake place NoGlobalObject)
bad_uses top t id place F.Return = where_so (not (has_function (forms_around t id))) (mistake place BadJump)
bad_uses top t id place F.Break = where_so (not (has_target is_left_by_break (forms_around t id))) (mistake place BadJump)
bad_uses top t id place F.Continue = where_so (not (has_target is_loop (forms_around t id))) (mistake place BadJump)
bad_uses top t id place _ = []

-- THE FIRST OF ALL

-- the early errors of a node
abbrev pub mistakes_of : List Name → Plant → ℕ → Option Node → List Mistake
mistakes_of top t id None = []
mistakes_of top t id (Some node) = duplicates t id node.form ++ bad_bindings t id node.form ++ bad_assignments t id node.form ++ bad_uses top t id node.place node.form

-- the early errors of a script, where the top scope binds these names
unfoldable pub mistakes : List Name → Plant → List Mistake
mistakes top t = where_so (not (is_strict t)) (mistake 0 NotStrict) ++ flat_map (λ id. mistakes_of top t id (node_of t.branches id)) (numbers t)

-- the place of a kind in the order in which those at one place count
abbrev pub order_of : EarlyKind → ℕ
order_of NotStrict = 0
order_of Duplicate = 1
order_of BadBinding = 2
order_of BadDelete = 3
order_of UnknownGlobal = 4
order_of NoGlobalObject = 5
order_of BadJump = 6

-- the one does not count after the other: it stands earlier, or at the same place and is of an earlier kind or the same
abbrev pub IsNoLater : Mistake → Mistake → Type 0
IsNoLater a b = (a.place < b.place) ⊎ ((a.place ≡ b.place) × (order_of a.kind ≤ order_of b.kind))

-- the early error is the first of all: it is one of its script, which are numbered from 1, no other of that script counts
-- before it, and the scripts before have none
pub record IsFirst (trees : List Plant) (script : ℕ) (m : Mistake) : Type 0 where
  pub before : List Plant
  pub tree : Plant
  pub after : List Plant
  pub split : trees ≡ before ++ tree ∷ after
  pub number : script ≡ length before + 1
  pub clean : All (λ t. mistakes (top_scope trees) t ≡ []) before
  pub found : Contains (mistakes (top_scope trees) tree) m
  pub first : All (IsNoLater m) (mistakes (top_scope trees) tree)

-- no script has an early error
abbrev pub AreClean : List Plant → Type 0
AreClean trees = All (λ t. mistakes (top_scope trees) t ≡ []) trees

-- the refusal tells the first early error of these scripts; want of memory tells nothing of them
abbrev pub IsRefusalOf : List Plant → EarlyRefusal → Type 0
IsRefusalOf trees (At script place kind) = IsFirst trees script (mistake place kind)
IsRefusalOf trees Memory = Unit {0}
