-- The nodes of a page made token by token, as functions. Those that read pages are stated by these; that they agree
-- with the numbering of `Nodes` is proved, and no public clause cites them.
use Rattle.std.specs.Prelude.{ℕ, nat_lt, if◌then◌else◌, List, [], ◌∷◌, ◌++◌, length, drop}
use Rattle.rip_base.specs.declared.page.PageNode.{PageNode}
use Rattle.rip_markup.specs.declared.token.Token.{Token}
use Rattle.rip_markup.specs.declared.token.Token.TheVariants as T
use Rattle.rip_markup.specs.declared.token.Placed.{Placed}
use Rattle.rip_html.specs.Tags.{is_void}
use Rattle.rip_html.specs.Nodes.{element_node, text_nodes, comment_node}

-- the innermost of the open elements, or the document
abbrev pub parent_of : List ℕ → ℕ
parent_of [] = 0
parent_of (number ∷ others) = number

-- nodes where texts and comments are kept: not in the document, in html and in head, which are nodes 0, 1 and 2
abbrev pub if_kept : ℕ → List PageNode → List PageNode
if_kept parent nodes = if nat_lt 2 parent then nodes else []

-- the nodes that a token makes, where the parent has this number
abbrev pub token_nodes : ℕ → Token → List PageNode
token_nodes parent (T.Text run) = if_kept parent (text_nodes parent run.units)
token_nodes parent (T.Comment units) = if_kept parent (comment_node parent units ∷ [])
token_nodes parent (T.StartTag tag) = element_node parent tag ∷ []
token_nodes parent _ = []

-- the numbers of the open elements behind a token, the innermost first, where the next node gets this number
abbrev pub open_after : List ℕ → ℕ → Token → List ℕ
open_after numbers next (T.StartTag tag) = if is_void tag.name then numbers else next ∷ numbers
open_after numbers next (T.EndTag end) = drop 1 numbers
open_after numbers next _ = numbers

-- nodes, and behind them those of tokens, where elements with these numbers are open
abbrev pub built : List ℕ → List PageNode → List Placed → List PageNode
built numbers nodes [] = nodes
built numbers nodes (t ∷ others) = built (open_after numbers (length nodes) t.token) (nodes ++ token_nodes (parent_of numbers) t.token) others
