-- Laws of trees, in words that no step uses.
use Rattle.std.specs.Prelude.{◌≡◌, ◌↔◌, ℕ, ◌+◌, ◌<◌, false, Option, Some, List, length}
use Rattle.rip_base.specs.declared.page.NodeKind.{NodeKind}
use Rattle.rip_base.specs.declared.value.Span.{Span}
use Rattle.rip_dom.specs.Linked.{Has, Differ}
use Rattle.rip_dom.specs.Lists.{without, with_item, item_behind}
use Rattle.rip_dom.specs.Tree.{Tree, parent_of, children_of, is_above, new_node, put_in, taken_out}

-- parent and children agree: the children of a node are the nodes whose parent it is, each once
pub record Agree (t : Tree) : Type 0 where
  pub are : (p n : ℕ) → Has n (children_of t p) ↔ (parent_of t n ≡ Some p)
  pub once : (p : ℕ) → Differ (children_of t p)

-- no node is its own ancestor: none is its parent, or above it
abbrev pub HasNoCycle : Tree → Type 0
HasNoCycle t = (n p : ℕ) → parent_of t n ≡ Some p → is_above t n p ≡ false

-- what is put before an item of a list is read there: that item stands behind it
abbrev pub PutsAreRead : Type 0
PutsAreRead = (ns : List ℕ) (c r : ℕ) → (Has c ns → ⊥) → Has r ns → item_behind c (with_item c (Some r) ns) ≡ Some r

-- a new node has a number that no node had, and no move gives a number back: as many nodes are made as before
abbrev pub NumbersAreNew : Type 0
NumbersAreNew =
    ((t u : Tree) (kind : NodeKind) (name text : Option Span) (n : ℕ) → new_node t kind name text ≡ Some (n, u) → (n ≡ length t.nodes) × (length u.nodes ≡ n + 1))
    × ((t : Tree) (p c : ℕ) (at : Option ℕ) → length (put_in t p c at).nodes ≡ length t.nodes)
    × ((t : Tree) (c : ℕ) → length (taken_out t c).nodes ≡ length t.nodes)

-- a node that is put in is a child of its new parent at its place, and other lists stay but where the node left
abbrev pub PutsLeaveOthers : Type 0
PutsLeaveOthers = (t : Tree) (p c n : ℕ) (at : Option ℕ) → n < length t.nodes →
    (n ≡ c → parent_of (put_in t p c at) n ≡ Some p)
    × ((n ≡ c → ⊥) → parent_of (put_in t p c at) n ≡ parent_of t n)
    × (n ≡ p → children_of (put_in t p c at) n ≡ with_item c at (without c (children_of t n)))
    × ((n ≡ p → ⊥) → children_of (put_in t p c at) n ≡ without c (children_of t n))
