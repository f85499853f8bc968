-- The names of members and of entries, and of each node the first node that has the same name.
use Rattle.std.specs.Prelude.{◌≡◌, ℕ, ◌≤◌, Bool, false, List, Option, None, Some, option_map, option_and_then, bytes_eq, length, map}
use Rattle.std.specs.List.{position_or_len, range_with_len}
use Rattle.rip_tree.specs.declared.form.Form.{Form}
use Rattle.rip_tree.specs.declared.form.Form.TheVariants as F
use Rattle.rip_tree.specs.declared.form.Key.TheVariants as K
use Rattle.rip_tree.specs.declared.node.Piece.{Piece}
use Rattle.rip_tree.specs.Branches.{Branch, node_of, units_at}
use Rattle.rip_tree.specs.Program.{Grove}

-- the name that a node has as a member (ECMA-262 11.2.1), or as an entry of an object literal, a name or a text (11.1.5);
-- of others none
abbrev pub name_piece : Form → Option Piece
name_piece (F.Member p) = Some p
name_piece (F.Entry (K.Name p)) = Some p
name_piece (F.Entry (K.Text literal)) = Some literal.value
name_piece _ = None

-- the units of that name, in a program with these units
abbrev pub name_of : List ℕ → Form → Option (List ℕ)
name_of units form = option_map (units_at units) (name_piece form)

-- there is a name, and it is this one
abbrev pub is_name : List ℕ → Option (List ℕ) → Bool
is_name name None = false
is_name name (Some own) = bytes_eq own name

-- the branch has this name
abbrev pub has_name : List ℕ → List ℕ → Branch → Bool
has_name units name b = is_name name (name_of units b.node.form)

-- the name of the node with this number, if it has one; past the last there is none
abbrev pub name_at : Grove → ℕ → Option (List ℕ)
name_at g id = option_and_then (λ node. name_of g.units node.form) (node_of g.branches id)

-- the number of the first node with this name, or else this number, where there is no name
abbrev pub first_with : Grove → ℕ → Option (List ℕ) → ℕ
first_with g id None = id
first_with g id (Some name) = position_or_len (has_name g.units name) g.branches

-- of the node with this number, the number of the first node that has the same name; of a node without a name, and past
-- the last, it is the number itself
unfoldable pub first_named : Grove → ℕ → ℕ
first_named g id = first_with g id (name_at g id)

-- these are, of each node in order, the first node with its name
abbrev pub AreFirsts : Grove → List ℕ → Type 0
AreFirsts g firsts = firsts ≡ map (first_named g) (range_with_len 0 (length g.branches))

-- the first node with the name of a node comes no later, it has that name, and it is the first with it
abbrev pub FirstsHaveTheNames : Grove → Type 0
FirstsHaveTheNames g = (id : ℕ) → (first_named g id ≤ id) × (name_at g (first_named g id) ≡ name_at g id) × (first_named g (first_named g id) ≡ first_named g id)
