-- A page has no more nodes than its text has units.
use Rattle.std.proofs.Common.{◌≡◌, ℕ, ◌+◌, ◌≤◌, Bool, true, false, cond, nat_lt, List, [], ◌∷◌, ◌++◌, length, sym, subst, arith, length-append}
use Rattle.std.specs.Prelude.{codes, None}
use Rattle.rip_base.specs.declared.page.PageNode.{PageNode}
use Rattle.rip_markup.specs.Counts.{one_if_any, least_units, least_of_all}
use Rattle.rip_markup.specs.Tokens.{IsTokens}
use Rattle.rip_markup.specs.declared.token.Token.{Token}
use Rattle.rip_markup.specs.declared.token.Token.TheVariants as T
use Rattle.rip_markup.specs.declared.token.Placed.{Placed}
use Rattle.rip_markup.proofs.Counting.{units_counted}
use Rattle.rip_html.specs.Building.{parent_of, token_nodes, open_after, built}
use Rattle.rip_html.specs.Forests.{Forest, Nothing, Words, Remark, Void, Nested, end_of, forest_tokens}
use Rattle.rip_html.specs.Grammar.{Parts, page_tokens, head_tokens, body_tokens}
use Rattle.rip_html.specs.Nodes.{document_node, text_nodes, comment_node}
use Rattle.rip_html.specs.Pages.{bare}
use Rattle.rip_html.specs.Refusals.{first_refusal}
use Rattle.rip_html.proofs.Lasting.{accepted_made}

-- nodes that are made stay
pub built_longer : (numbers : List ℕ) (nodes : List PageNode) (tokens : List Placed) → length nodes ≤ length (built numbers nodes tokens)
built_longer numbers nodes [] = omega arith
built_longer numbers nodes (t ∷ others) =
    let more = token_nodes (parent_of numbers) t.token in
    omega (arith, built_longer (open_after numbers (length nodes) t.token) (nodes ++ more) others, length-append nodes more)

-- how many whole end tags are among tokens
abbrev ends_of : Token → ℕ
ends_of (T.EndTag end) = cond end.whole 1 0
ends_of _ = 0

abbrev ends : List Token → ℕ
ends [] = 0
ends (t ∷ others) = ends_of t + ends others

kept_few : (b : Bool) (nodes : List PageNode) → length (cond b nodes []) ≤ length nodes
kept_few true nodes = omega arith
kept_few false nodes = omega arith

text_few : (units : List ℕ) (parent : ℕ) → length (text_nodes parent units) ≤ one_if_any units
text_few [] parent = omega arith
text_few (c ∷ units) parent = omega arith

-- a token makes no more nodes than it has units, and a whole end tag none
token_few : (t : Token) (parent : ℕ) → length (token_nodes parent t) + ends_of t ≤ least_units t
token_few (T.Text run) parent = omega (arith, kept_few (nat_lt 2 parent) (text_nodes parent run.units), text_few run.units parent)
token_few (T.Comment units) parent = omega (arith, kept_few (nat_lt 2 parent) (comment_node parent units ∷ []))
token_few (T.StartTag tag) parent = omega arith
token_few (T.EndTag end) parent = omega arith
token_few T.OpenComment parent = omega arith
token_few T.Doctype parent = omega arith
token_few T.Stray parent = omega arith
token_few T.End parent = omega arith

tokens_few : (tokens : List Placed) (numbers : List ℕ) (nodes : List PageNode) → length (built numbers nodes tokens) + ends (bare tokens) ≤ length nodes + least_of_all tokens
tokens_few [] numbers nodes = omega arith
tokens_few (t ∷ others) numbers nodes =
    let made = token_nodes (parent_of numbers) t.token in
    omega (arith, token_few t.token (parent_of numbers), length-append nodes made, tokens_few others (open_after numbers (length nodes) t.token) (nodes ++ made))

-- a page has an end tag
ends_behind : (front rest : List Token) → ends rest ≤ ends (front ++ rest)
ends_behind [] rest = omega arith
ends_behind (t ∷ front) rest = omega (arith, ends_behind front rest)

ends_of_forest : (f : Forest) (rest : List Token) → ends rest ≤ ends (forest_tokens f rest)
ends_of_forest Nothing rest = omega arith
ends_of_forest (Words run others) rest = omega (arith, ends_of_forest others rest)
ends_of_forest (Remark units others) rest = omega (arith, ends_of_forest others rest)
ends_of_forest (Void tag others) rest = omega (arith, ends_of_forest others rest)
ends_of_forest (Nested tag content others) rest = omega (arith, ends_of_forest others rest, ends_of_forest content (end_of tag.name ∷ forest_tokens others rest))

page_ends : (p : Parts) → 1 ≤ ends (page_tokens p)
page_ends p =
    let behind_head = end_of (codes "head") ∷ (p.before_body ++ body_tokens p) in
    let inside = p.before_head ++ head_tokens p in
    let one : 1 ≤ ends behind_head = omega arith in
    omega (arith, one, ends_of_forest p.head behind_head, ends_behind p.before_head (head_tokens p), ends_behind p.doctype (T.StartTag p.html ∷ inside), ends_behind p.beginning (p.doctype ++ (T.StartTag p.html ∷ inside)))

-- the nodes of a page that is refused nowhere are no more than the units of its text
pub nodes_few : (text : List ℕ) (tokens : List Placed) → IsTokens text tokens → first_refusal tokens ≡ None → length (built [] (document_node ∷ []) tokens) ≤ length text
nodes_few text tokens are none =
    let made = accepted_made text tokens are none in
    let some : 1 ≤ ends (bare tokens) = subst (λ (ts : List Token). 1 ≤ ends ts) (sym made.spelled) (page_ends made.parts) in
    omega (arith, some, tokens_few tokens [] (document_node ∷ []), units_counted text tokens are)
