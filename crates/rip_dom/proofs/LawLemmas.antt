-- Laws of moves and of numbers.
use Rattle.std.proofs.Common.{◌≡◌, ℕ, ◌+◌, ◌<◌, inl, inr, cond, ◌==◌, length, Option, None, Some, sym, ap, ◌∙◌}
use Rattle.std.specs.Prelude.{nat_lt}
use Rattle.std.proofs.lemmas.Bool.{cases_Bool, cond-true, cond-false, eq-eqb, ne_eqb}
use Rattle.std.proofs.lemmas.Option.{same_Some, none-some}
use Rattle.std.proofs.lemmas.List.{length_push}
use Rattle.rip_base.specs.declared.page.NodeKind.{NodeKind}
use Rattle.rip_base.specs.declared.value.Span.{Span}
use Rattle.rip_dom.specs.Laws.{NumbersAreNew, PutsLeaveOthers}
use Rattle.rip_dom.specs.Lists.{without, with_item}
use Rattle.rip_dom.specs.Tree.{Tree, Node, node_at, parent_of, children_of, new_node, with_node, bare_node, put_in}
use Rattle.rip_dom.proofs.TreeLemmas.{length-nodes, length-put_in, nodes-at}

made-new : (t u : Tree) (kind : NodeKind) (name text : Option Span) (n : ℕ) → new_node t kind name text ≡ Some (n, u) → (n ≡ length t.nodes) × (length u.nodes ≡ n + 1)
made-new t u kind name text n e =
    elim (cases_Bool (nat_lt t.used t.limit)) [
      | inl b ↦
          let same : (length t.nodes, with_node t kind name text) ≡ (n, u) = same_Some (length t.nodes, with_node t kind name text) (n, u) (sym (cond-true (nat_lt t.used t.limit) (Some (length t.nodes, with_node t kind name text)) None b) ∙ e) in
          let number : length t.nodes ≡ n = ap (λ (r : ℕ × Tree). r.0) same in (
            sym number,
            sym (ap (λ (r : ℕ × Tree). length r.1.nodes) same) ∙ length_push t.nodes (bare_node kind name text) ∙ ap (λ k. k + 1) number,
          )
      | inr b ↦ absurd (none-some (n, u) (sym (cond-false (nat_lt t.used t.limit) (Some (length t.nodes, with_node t kind name text)) None b) ∙ e))
    ]

pub numbers-new : NumbersAreNew
numbers-new = (made-new, length-put_in, λ t c. length-nodes (λ n. let x = node_at t n in record x { parent = cond (n == c) None x.parent; children = without c x.children }) (length t.nodes))

abbrev put : Tree → ℕ → ℕ → Option ℕ → ℕ → Node
put t p c at n = let x = node_at t n in record x { parent = cond (n == c) (Some p) x.parent; children = cond (n == p) (with_item c at (without c x.children)) (without c x.children) }

put-at : (t : Tree) (p c : ℕ) (at : Option ℕ) (n : ℕ) → n < length t.nodes → node_at (put_in t p c at) n ≡ put t p c at n
put-at t p c at n h = nodes-at (put t p c at) (length t.nodes) n h

pub others-left : PutsLeaveOthers
others-left t p c n at h = (
  (λ e. ap (λ (x : Node). x.parent) (put-at t p c at n h) ∙ cond-true (n == c) (Some p) (parent_of t n) (eq-eqb n c e)),
  (λ e. ap (λ (x : Node). x.parent) (put-at t p c at n h) ∙ cond-false (n == c) (Some p) (parent_of t n) (ne_eqb n c e)),
  (λ e. ap (λ (x : Node). x.children) (put-at t p c at n h) ∙ cond-true (n == p) (with_item c at (without c (children_of t n))) (without c (children_of t n)) (eq-eqb n p e)),
  (λ e. ap (λ (x : Node). x.children) (put-at t p c at n h) ∙ cond-false (n == p) (with_item c at (without c (children_of t n))) (without c (children_of t n)) (ne_eqb n p e)),
)
