-- Document order, in which a node comes before the nodes below it, and these in the order of their siblings.
use Rattle.std.specs.Prelude.{ℕ, zero, suc, Bool, false, ◌&&◌, nat_eq, codes, Option, None, Some, List, [], ◌∷◌, length, flat_map, find}
use Rattle.std.specs.Cmp.Lexicographic.{pointwise}
use Rattle.rip_base.specs.declared.value.Span.{Span}
use Rattle.rip_values.specs.Pool.{Texts, text_at}
use Rattle.rip_dom.specs.Tree.{Tree, node_at, children_of, is_element}
use Rattle.rip_dom.specs.Names.{attribute_of}

-- the node, and then its children in their order, each with what is below it, down to so many levels
abbrev pub levels : ℕ → Tree → ℕ → List ℕ
levels zero t n = []
levels (suc k) t n = n ∷ flat_map (levels k t) (children_of t n)

-- the node and all that is below it, in document order; no node is further down than there are nodes
abbrev pub in_order : Tree → ℕ → List ℕ
in_order t n = levels (length t.nodes) t n

-- there is a value, and it is this text
abbrev pub is_value : Texts → List ℕ → Option Span → Bool
is_value pool text None = false
is_value pool text (Some value) = pointwise nat_eq (text_at pool value) text

-- the node is an element whose attribute `id` has this text
abbrev pub has_id : Texts → Tree → List ℕ → ℕ → Bool
has_id pool t id n = is_element (node_at t n).kind && is_value pool id (attribute_of pool t n (codes "id"))

-- the first element of the document, whose number is 0, that has this id (DOM Level 2 Core 1.2, getElementById)
abbrev pub element_of_id : Texts → Tree → List ℕ → Option ℕ
element_of_id pool t id = find (has_id pool t id) (in_order t 0)
