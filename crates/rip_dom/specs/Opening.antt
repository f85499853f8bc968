-- The document that a page is made into, node by node in document order.
use Rattle.std.specs.Prelude.{ℕ, ◌+◌, ◌<◌, ◌≤◌, ◌≡◌, Option, None, Some, List, [], ◌∷◌, length, is_some, unwrap_or, nat_lt, if◌then◌else◌, Result, Ok, Err}
use Rattle.rip_base.specs.declared.page.NodeKind.{NodeKind}
use Rattle.rip_base.specs.declared.page.NodeKind.TheVariants.{Document, Element, Text, Comment}
use Rattle.rip_base.specs.declared.page.PageNode.{PageNode}
use Rattle.rip_base.specs.declared.page.Attribute.{Attribute}
use Rattle.rip_base.specs.declared.value.Span.{Span}
use Rattle.rip_base.specs.declared.value.Limit.TheVariants.{Fuel, Cells, Units, Nodes, Depth, Queue, Replies}
use Rattle.rip_base.specs.declared.value.Refused.{Refused}
use Rattle.rip_base.specs.declared.value.Refused.TheVariants.{Limit as At, Memory}
use Rattle.rip_values.specs.FixedTexts.{fixed_span}
use Rattle.rip_values.specs.Pool.{Texts, span_behind, with_text}
use Rattle.rip_dom.specs.Tree.{Tree, with_node, put_in, with_attribute}

-- the texts of the session and the tree, while a page is read
pub record Opening : Type 0 where
  pub pool : Texts
  pub tree : Tree

-- where a name of the page stands: a fixed text at its place, another behind all texts
abbrev pub name_span : Texts → List ℕ → Span
name_span pool name = unwrap_or (fixed_span name) (span_behind pool name)

-- the texts with a name of the page, which costs nothing
abbrev pub with_name : Texts → List ℕ → Texts
with_name pool name = if is_some (fixed_span name) then pool else with_text pool name 0

-- the texts with a text or a value of the page, which costs its length
abbrev pub with_value : Texts → List ℕ → Texts
with_value pool text = with_text pool text (length text)

-- an element has a name
abbrev pub name_of : NodeKind → Span → Option Span
name_of Document span = None
name_of Element span = Some span
name_of Text span = None
name_of Comment span = None

-- a text or comment has a text
abbrev pub text_of : NodeKind → Span → Option Span
text_of Document span = None
text_of Element span = None
text_of Text span = Some span
text_of Comment span = Some span

-- the node comes behind the children of its parent, which stands before it on each page
abbrev pub placed : Tree → ℕ → Option ℕ → Tree
placed t n None = t
placed t n (Some p) = if nat_lt p n then put_in t p n None else t

-- the node has an attribute of the page more
abbrev pub attribute_step : ℕ → Opening → Attribute → Opening
attribute_step n s a = record {
  pool = with_value (with_name s.pool a.name) a.value;
  tree = with_attribute s.tree n (name_span s.pool a.name) (span_behind (with_name s.pool a.name) a.value);
}

-- the node has these attributes of the page more, in their order
abbrev pub attributes_in : ℕ → Opening → List Attribute → Opening
attributes_in n s [] = s
attributes_in n s (a ∷ rest) = attributes_in n (attribute_step n s a) rest

-- the tree has a node of the page more: it is made, put behind the children of its parent, and gets its attributes
abbrev pub node_step : Opening → PageNode → Opening
node_step s x = attributes_in (length s.tree.nodes) (record {
  pool = with_value (with_name s.pool x.name) x.text;
  tree = placed
      (with_node s.tree x.kind (name_of x.kind (name_span s.pool x.name)) (text_of x.kind (span_behind (with_name s.pool x.name) x.text)))
      (length s.tree.nodes) x.parent;
}) x.attributes

-- the tree has these nodes of the page more, in their order
abbrev pub nodes_in : Opening → List PageNode → Opening
nodes_in s [] = s
nodes_in s (x ∷ xs) = nodes_in (node_step s x) xs

-- the tree without a node, in which so many nodes and attributes may be made
abbrev pub no_tree : ℕ → Tree
no_tree limit = record { limit = limit; used = 0; nodes = [] }

-- what the nodes of a page cost: each node and each attribute 1
abbrev pub count_of_nodes : List PageNode → ℕ
count_of_nodes [] = 0
count_of_nodes (x ∷ xs) = 1 + length x.attributes + count_of_nodes xs

-- what the values of attributes cost: their lengths
abbrev pub count_of_values : List Attribute → ℕ
count_of_values [] = 0
count_of_values (a ∷ rest) = length a.value + count_of_values rest

-- what the texts of a page cost: the lengths of texts, comments and values of attributes
abbrev pub count_of_units : List PageNode → ℕ
count_of_units [] = 0
count_of_units (x ∷ xs) = length x.text + count_of_values x.attributes + count_of_units xs

-- the refusal is want of memory, or the limit of units where that holds
abbrev pub IsShort : Type 0 → Refused → Type 0
IsShort P Memory = Unit {0}
IsShort P (At Units) = P
IsShort P (At Fuel) = ⊥
IsShort P (At Cells) = ⊥
IsShort P (At Nodes) = ⊥
IsShort P (At Depth) = ⊥
IsShort P (At Queue) = ⊥
IsShort P (At Replies) = ⊥

-- what the maker answers: the limit of nodes is judged first, then that of units
abbrev pub Opens : List PageNode → ℕ → Texts → Result Tree Refused → Texts → Type 0
Opens nodes limit pool (Ok tree) new =
    (count_of_nodes nodes ≤ limit) × (pool.used + count_of_units nodes ≤ pool.limit)
    × (record { pool = new; tree = tree } ≡ nodes_in (record { pool = pool; tree = no_tree limit }) nodes)
Opens nodes limit pool (Err Memory) new = Unit {0}
Opens nodes limit pool (Err (At Nodes)) new = limit < count_of_nodes nodes
Opens nodes limit pool (Err (At Units)) new = (count_of_nodes nodes ≤ limit) × (pool.limit < pool.used + count_of_units nodes)
Opens nodes limit pool (Err (At Fuel)) new = ⊥
Opens nodes limit pool (Err (At Cells)) new = ⊥
Opens nodes limit pool (Err (At Depth)) new = ⊥
Opens nodes limit pool (Err (At Queue)) new = ⊥
Opens nodes limit pool (Err (At Replies)) new = ⊥
