-- Texts that are written (DOM Level 2 Core 1.2, nodeValue and its like for all that is below an element).
use Rattle.std.specs.Prelude.{◌≡◌, ℕ, ◌==◌, ◌&&◌, not, nat_lt, Bool, true, false, if◌then◌else◌, None, Some, List, [], ◌∷◌, length, Result, Ok, Err}
use Rattle.rip_base.specs.declared.page.NodeKind.TheVariants.{Text}
use Rattle.rip_base.specs.declared.value.Limit.TheVariants.{Nodes}
use Rattle.rip_base.specs.declared.value.Refused.{Refused}
use Rattle.rip_base.specs.declared.value.Refused.TheVariants.{Limit as At, Memory}
use Rattle.rip_base.specs.declared.value.Span.{Span}
use Rattle.rip_dom.specs.Tree.{Tree, node_at, children_of, each, is_element, put_in, taken_out, with_node}

-- the tree in which the node has this text
abbrev pub with_text_of : Tree → ℕ → Span → Tree
with_text_of t n text = each (λ m x. record x { text = if m == n then Some text else x.text }) t

-- the tree without these nodes, which leave one after another
abbrev pub without_nodes : Tree → List ℕ → Tree
without_nodes t [] = t
without_nodes t (c ∷ cs) = without_nodes (taken_out t c) cs

-- the tree in which the node has no children: each has left, and keeps its number and its own children
abbrev pub emptied : Tree → ℕ → Tree
emptied t n = without_nodes t (children_of t n)

-- the text is the empty one
abbrev pub is_empty : Span → Bool
is_empty text = text.count == 0

-- the tree in which one text node is all that the element has, or nothing for the empty text
abbrev pub filled : Tree → ℕ → Span → Tree
filled t n text =
    if is_empty text then emptied t n
    else put_in (with_node (emptied t n) Text None (Some text)) n (length t.nodes) None

-- the tree in which the text was written: below an element, and in place of the text of another node
abbrev pub written : Tree → ℕ → Span → Tree
written t n text = if is_element (node_at t n).kind then filled t n text else with_text_of t n text

-- the text is not written: its node would pass the limit
abbrev pub is_past : Tree → ℕ → Span → Bool
is_past t n text = is_element (node_at t n).kind && (not (is_empty text) && not (nat_lt t.used t.limit))

-- the call writes the text, or answers the limit of nodes and changes nothing
abbrev pub Writes : Bool → Tree → Tree → Result (Unit {0}) Refused → Tree → Type 0
Writes past made old (Ok done) new = (past ≡ false) × (new ≡ made)
Writes past made old (Err (At l)) new = (past ≡ true) × (l ≡ Nodes) × (new ≡ old)
Writes past made old (Err Memory) new = ⊥
