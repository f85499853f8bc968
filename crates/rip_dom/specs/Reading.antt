-- Texts that are read: those of the text nodes below a node, joined in document order.
use Rattle.std.specs.Prelude.{◌≡◌, ℕ, ◌+◌, ◌<◌, ◌≤◌, if◌then◌else◌, unwrap_or, List, length, flat_map, Result, Ok, Err}
use Rattle.rip_base.specs.declared.value.Limit.TheVariants.{Fuel, Cells, Units, Nodes, Depth, Queue, Replies}
use Rattle.rip_base.specs.declared.value.Refused.TheVariants.{Limit as At, Memory}
use Rattle.rip_base.specs.declared.value.Span.{Span}
use Rattle.rip_values.specs.Pool.{Texts, text_at, span_behind, with_text}
use Rattle.rip_dom.specs.declared.reading.TextRefused.{TextRefused}
use Rattle.rip_dom.specs.declared.reading.TextRefused.TheVariants.{TooLong, Refused}
use Rattle.rip_dom.specs.Document.{no_span}
use Rattle.rip_dom.specs.Order.{in_order}
use Rattle.rip_dom.specs.Tree.{Node, Tree, node_at, is_text}

-- the span of a text node's text; of another node, also of a comment, that of no text
abbrev pub own_span : Node → Span
own_span x = if is_text x.kind then unwrap_or x.text no_span else no_span

-- the texts of the node and of all that is below it, joined in document order
abbrev pub text_below : Texts → Tree → ℕ → List ℕ
text_below pool t n = flat_map (λ m. text_at pool (own_span (node_at t m))) (in_order t n)

-- the answer of a reader: a new text, charged at its length. The limit of texts is judged before the charge, and what is
-- refused changes nothing
abbrev pub Reads : List ℕ → Texts → Result Span TextRefused → Texts → Type 0
Reads text old (Ok span) new =
    (length text ≤ old.text_limit) × (old.used + length text ≤ old.limit)
    × (span ≡ span_behind old text) × (new ≡ with_text old text (length text))
Reads text old (Err TooLong) new = (old.text_limit < length text) × (new ≡ old)
Reads text old (Err (Refused (At Units))) new = (length text ≤ old.text_limit) × (old.limit < old.used + length text) × (new ≡ old)
Reads text old (Err (Refused (At Fuel))) new = ⊥
Reads text old (Err (Refused (At Cells))) new = ⊥
Reads text old (Err (Refused (At Nodes))) new = ⊥
Reads text old (Err (Refused (At Depth))) new = ⊥
Reads text old (Err (Refused (At Queue))) new = ⊥
Reads text old (Err (Refused (At Replies))) new = ⊥
Reads text old (Err (Refused Memory)) new = ⊥
