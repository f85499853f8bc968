-- The body is sought node by node.
use Rattle.std.proofs.Common.{◌≡◌, ℕ, suc, ◌+◌, true, false, None, Some, List, ◌∷◌, length, drop, ap, ◌∙◌, arith}
use Rattle.std.specs.Prelude.{slice_get}
use Rattle.std.proofs.Math.Seq.{drop-cons, drop-length}
use Rattle.std.proofs.lemmas.Bool.{cond-true, cond-false}
use Rattle.std.proofs.lemmas.Option.{slice_get_within, get_or_from_slice_get}
use Rattle.rip_base.specs.declared.page.PageNode.{PageNode}
use Rattle.rip_host.specs.Opening.{body_from, is_body}

rest-begins : (nodes : List PageNode) (i : ℕ) (x : PageNode) → slice_get nodes i ≡ Some x → drop i nodes ≡ x ∷ drop (suc i) nodes
rest-begins nodes i x e =
    drop-cons nodes i x (slice_get_within nodes i x e) ∙ ap (λ y. y ∷ drop (suc i) nodes) (get_or_from_slice_get nodes i x x e)

pub body-on : (nodes : List PageNode) (i : ℕ) (x : PageNode) → slice_get nodes i ≡ Some x → is_body x ≡ false → body_from i (drop i nodes) ≡ body_from (i + 1) (drop (i + 1) nodes)
body-on nodes i x e f =
    let next : suc i ≡ i + 1 = omega arith in
    ap (body_from i) (rest-begins nodes i x e)
    ∙ cond-false (is_body x) (Some i) (body_from (suc i) (drop (suc i) nodes)) f
    ∙ ap (λ k. body_from k (drop k nodes)) next

pub body-here : (nodes : List PageNode) (i : ℕ) (x : PageNode) → slice_get nodes i ≡ Some x → is_body x ≡ true → body_from i (drop i nodes) ≡ Some i
body-here nodes i x e t =
    ap (body_from i) (rest-begins nodes i x e) ∙ cond-true (is_body x) (Some i) (body_from (suc i) (drop (suc i) nodes)) t

pub body-end : (nodes : List PageNode) (i : ℕ) → i ≡ length nodes → body_from i (drop i nodes) ≡ None
body-end nodes i e = ap (λ k. body_from k (drop k nodes)) e ∙ ap (body_from (length nodes)) (drop-length nodes)
