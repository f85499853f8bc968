-- The tree of a document (DOM Level 2 Core 1.1.1 and 1.2), as lists.
use Rattle.std.specs.Prelude.{ℕ, zero, suc, Bool, true, false, not, ◌+◌, ◌==◌, ◌&&◌, ◌||◌, nat_lt, if◌then◌else◌, Option, None, Some, List, [], ◌∷◌, ◌++◌, length, map, slice_index_or}
use Rattle.std.specs.List.{list_any, range_with_len}
use Rattle.rip_base.specs.declared.page.NodeKind.{NodeKind}
use Rattle.rip_base.specs.declared.page.NodeKind.TheVariants.{Document, Element, Text, Comment}
use Rattle.rip_base.specs.declared.value.Span.{Span}
use Rattle.rip_dom.specs.Lists.{without, with_item, is_place, item_behind, item_in_front}

-- a node: what it is; of an element its name, of a text or comment its text; the names and values of its attributes in
-- the order of making; its parent, or none; and its children in their order
pub record Node : Type 0 where
  pub kind : NodeKind
  pub name : Option Span
  pub text : Option Span
  pub attributes : List (Span × Span)
  pub parent : Option ℕ
  pub children : List ℕ

-- a document: the most nodes and attributes that may be made, how many were made, and the nodes. A node's number is its
-- place here, the count of nodes made before it
pub record Tree : Type 0 where
  pub limit : ℕ
  pub used : ℕ
  pub nodes : List Node

-- what is told of a number that is no node's: nothing
abbrev pub no_node : Node
no_node = record { kind = Text; name = None; text = None; attributes = []; parent = None; children = [] }

-- the node of this number
abbrev pub node_at : Tree → ℕ → Node
node_at t n = slice_index_or t.nodes n no_node

-- the node's parent, or none (1.2, parentNode)
abbrev pub parent_of : Tree → ℕ → Option ℕ
parent_of t n = (node_at t n).parent

-- the node's children, in their order (1.2, childNodes)
abbrev pub children_of : Tree → ℕ → List ℕ
children_of t n = (node_at t n).children

-- the next sibling of a node that has this parent (1.2, nextSibling)
abbrev pub next_of : Tree → ℕ → Option ℕ → Option ℕ
next_of t n None = None
next_of t n (Some p) = item_behind n (children_of t p)

-- the previous sibling (1.2, previousSibling)
abbrev pub previous_of : Tree → ℕ → Option ℕ → Option ℕ
previous_of t n None = None
previous_of t n (Some p) = item_in_front None n (children_of t p)

-- the node, its parent, and so on upwards, at most so many
abbrev pub way_up : ℕ → Tree → Option ℕ → List ℕ
way_up zero t x = []
way_up (suc k) t None = []
way_up (suc k) t (Some n) = n ∷ way_up k t (parent_of t n)

-- the first node is the second one, or stands above it
abbrev pub is_above : Tree → ℕ → ℕ → Bool
is_above t c n = list_any (λ m. m == c) (way_up (length t.nodes) t (Some n))

-- KINDS

-- the kind is that of the document
abbrev pub is_document : NodeKind → Bool
is_document Document = true
is_document Element = false
is_document Text = false
is_document Comment = false

-- the kind is that of elements
abbrev pub is_element : NodeKind → Bool
is_element Document = false
is_element Element = true
is_element Text = false
is_element Comment = false

-- the kind is that of texts
abbrev pub is_text : NodeKind → Bool
is_text Document = false
is_text Element = false
is_text Text = true
is_text Comment = false

-- a document and an element can have children
abbrev pub has_children : NodeKind → Bool
has_children Document = true
has_children Element = true
has_children Text = false
has_children Comment = false

-- CHANGES

-- each node of the tree, by its number, is made into another
abbrev pub each : (ℕ → Node → Node) → Tree → Tree
each f t = record t { nodes = map (λ n. f n (node_at t n)) (range_with_len 0 (length t.nodes)) }

-- the node has no parent, and is no child of any
abbrev pub taken_out : Tree → ℕ → Tree
taken_out t c = each (λ n x. record x {
  parent = if n == c then None else x.parent;
  children = without c x.children;
}) t

-- the node leaves its old place and comes below the parent, before the child at the place, or behind all where no place
-- is given (1.2, insertBefore)
abbrev pub put_in : Tree → ℕ → ℕ → Option ℕ → Tree
put_in t p c at = each (λ n x. record x {
  parent = if n == c then Some p else x.parent;
  children = if n == p then with_item c at (without c x.children) else without c x.children;
}) t

-- a node put before itself stays
abbrev pub inserted : Tree → ℕ → ℕ → Option ℕ → Tree
inserted t p c at = if is_place at c then t else put_in t p c at

-- the node comes to the place of the old child, which leaves (1.2, replaceChild); one replaced by itself stays
abbrev pub replaced : Tree → ℕ → ℕ → ℕ → Tree
replaced t p c o = if o == c then t else taken_out (put_in t p c (Some o)) o

-- WHAT IS REFUSED

-- an element other than these two is a child of the parent
abbrev pub has_other_element : Tree → ℕ → ℕ → Option ℕ → Bool
has_other_element t p c o = list_any (λ n. is_element (node_at t n).kind && (not (n == c) && not (is_place o n))) (children_of t p)

-- the node cannot come below the parent in place of the old child, if there is one (HIERARCHY_REQUEST_ERR): the parent
-- has no children, the node is the document, the parent or above it, or it would be a text or a second element of the
-- document
abbrev pub is_barred : Tree → ℕ → ℕ → Option ℕ → Bool
is_barred t p c o =
    not (has_children (node_at t p).kind)
    || (is_document (node_at t c).kind
    || (is_above t c p
    || (is_document (node_at t p).kind
    && (is_text (node_at t c).kind || (is_element (node_at t c).kind && has_other_element t p c o)))))

-- the node is a child of the parent; a place that is not given is no matter
abbrev pub is_child : Tree → ℕ → Option ℕ → Bool
is_child t p None = true
is_child t p (Some r) = is_place (parent_of t r) p

-- the code of a refusal, or none: 3 before 8 (NOT_FOUND_ERR)
abbrev pub insert_code : Tree → ℕ → ℕ → Option ℕ → Option ℕ
insert_code t p c at = if is_barred t p c None then Some 3 else if is_child t p at then None else Some 8

-- the same for a replacement
abbrev pub replace_code : Tree → ℕ → ℕ → ℕ → Option ℕ
replace_code t p c o = if is_barred t p c (Some o) then Some 3 else if is_child t p (Some o) then None else Some 8

-- a removal is refused only where the node is no child of the parent
abbrev pub remove_code : Tree → ℕ → ℕ → Option ℕ
remove_code t p c = if is_child t p (Some c) then None else Some 8

-- NEW NODES

-- a node that stands nowhere yet
abbrev pub bare_node : NodeKind → Option Span → Option Span → Node
bare_node kind name text = record { kind = kind; name = name; text = text; attributes = []; parent = None; children = [] }

-- the tree with a node more
abbrev pub with_node : Tree → NodeKind → Option Span → Option Span → Tree
with_node t kind name text = record t { used = t.used + 1; nodes = t.nodes ++ bare_node kind name text ∷ [] }

-- a node costs 1; it is not made where that would pass the limit
abbrev pub new_node : Tree → NodeKind → Option Span → Option Span → Option (ℕ × Tree)
new_node t kind name text = if nat_lt t.used t.limit then Some (length t.nodes, with_node t kind name text) else None

-- an attribute costs 1: the tree in which this node has an attribute more, behind its others
abbrev pub with_attribute : Tree → ℕ → Span → Span → Tree
with_attribute t n name value = record (each (λ m x. record x {
  attributes = if m == n then x.attributes ++ (name, value) ∷ [] else x.attributes;
}) t) { used = t.used + 1 }
