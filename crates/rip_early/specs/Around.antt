-- What stands around a node of a tree.
use Rattle.std.specs.Prelude.{ℕ, zero, suc, ◌==◌, Bool, true, false, ◌||◌, if◌then◌else◌, List, [], ◌∷◌, length, map, Option, None, Some, position}
use Rattle.std.specs.List.{range_with_len, flat_map}
use Rattle.rip_tree.specs.declared.form.Form.{Form}
use Rattle.rip_tree.specs.declared.form.Form.TheVariants as F
use Rattle.rip_tree.specs.declared.node.Node.{Node}
use Rattle.rip_tree.specs.Branches.{Plant, links_of, node_of}

-- the numbers of the nodes
abbrev pub numbers : Plant → List ℕ
numbers t = range_with_len 0 (length t.branches)

-- the form of a node, or else that of the empty statement
abbrev pub form_or_empty : Option Node → Form
form_or_empty None = F.Empty
form_or_empty (Some node) = node.form

-- the form of the node with this number; past the last node it is that of the empty statement
abbrev pub form_of : Plant → ℕ → Form
form_of t id = form_or_empty (node_of t.branches id)

-- the children that are there
abbrev pub present : List (Option ℕ) → List ℕ
present [] = []
present (None ∷ cs) = present cs
present (Some c ∷ cs) = c ∷ present cs

-- the numbers of a node's children, in the order of the text
abbrev pub children_of : Plant → ℕ → List ℕ
children_of t id = present (links_of t.branches id)

-- the nodes at and below this one in the order of the text: the node, and then what stands at each of its children, from
-- left to right; so many levels are gone down
abbrev pub in_text_within : ℕ → Plant → ℕ → List ℕ
in_text_within zero t id = []
in_text_within (suc levels) t id = id ∷ flat_map (in_text_within levels t) (children_of t id)

-- the nodes of a script in the order of its text; a child has a greater number than its parent, so that there are no more
-- levels than nodes
abbrev pub in_text : Plant → List ℕ
in_text t = in_text_within (length t.branches) t 0

-- the number is among these children
abbrev pub holds : ℕ → List (Option ℕ) → Bool
holds id [] = false
holds id (None ∷ cs) = holds id cs
holds id (Some c ∷ cs) = (c == id) || holds id cs

-- the node of which this one is a child
abbrev pub parent_of : Plant → ℕ → Option ℕ
parent_of t id = position (λ b. holds id b.children) t.branches

-- the parent, if there is one, and then what stands around it
abbrev pub parent_first : Option ℕ → (ℕ → List ℕ) → List ℕ
parent_first None outer = []
parent_first (Some p) outer = p ∷ outer p

-- the nodes around this one, its parent first and then outwards; so many levels are looked at
abbrev pub around_within : ℕ → Plant → ℕ → List ℕ
around_within zero t id = []
around_within (suc levels) t id = parent_first (parent_of t id) (around_within levels t)

-- the nodes around this one; a node has a lower number than its children, so that no more levels are there
abbrev pub around : Plant → ℕ → List ℕ
around t id = around_within id t id

-- the forms of these nodes
abbrev pub forms_of : Plant → List ℕ → List Form
forms_of t ids = map (form_of t) ids

-- the forms of the nodes around this one, its parent's first
abbrev pub forms_around : Plant → ℕ → List Form
forms_around t id = forms_of t (around t id)

-- the forms of functions
abbrev pub is_function : Form → Bool
is_function (F.FunctionDeclaration head) = true
is_function (F.Function head) = true
is_function _ = false

-- the forms whose scope `var` binds in: a script and a function (10.5)
abbrev pub is_home : Form → Bool
is_home F.Script = true
is_home f = is_function f

-- the first of these nodes with such a form
abbrev pub first_with : (Form → Bool) → Plant → List ℕ → Option ℕ
first_with is t [] = None
first_with is t (a ∷ outer) = if is (form_of t a) then Some a else first_with is t outer

-- the script or function whose code the node is part of: the nearest around it
abbrev pub home_of : Plant → ℕ → Option ℕ
home_of t id = first_with is_home t (around t id)
