-- What stands around a node, from its parent.
use Rattle.std.proofs.Common.{◌≡◌, ℕ, zero, suc, ◌+◌, ◌-◌, ◌<◌, ◌≤◌, ◌==◌, ◌⊎◌, inl, inr, List, [], ◌∷◌, length, Option, Some, None, Bool, true, false, ◌||◌, get_or, refl, sym, ap, ◌∙◌, subst, arith}
use Rattle.std.proofs.lemmas.Bool.{eqb-true}
use Rattle.std.proofs.lemmas.List.Quantifiers.{position-Some}
use Rattle.rip_tree.specs.declared.form.Form.{Form}
use Rattle.rip_tree.specs.declared.node.Node.{Node}
use Rattle.rip_tree.specs.Branches.{Branch, Plant, AreBetween, ChildrenFollow, node_of}
use Rattle.rip_early.specs.Around.{holds, parent_of, parent_first, around_within, around, form_or_empty, form_of}
use Rattle.rip_early.specs.Contexts.{context_among, context_of, context_within}
use Rattle.rip_early.proofs.Parents.{no_branch}

one_of : (a b : Bool) → (a || b) ≡ true → (a ≡ true) ⊎ (b ≡ true)
one_of true b is = inl refl
one_of false b is = inr is

-- a child that is held has a number above the low one
holds-above : (low high id : ℕ) (cs : List (Option ℕ)) → AreBetween low high cs → holds id cs ≡ true → low < id
holds-above low high id [] between is = cc
holds-above low high id (None ∷ cs) between is = holds-above low high id cs between is
holds-above low high id (Some c ∷ cs) between is =
    elim (one_of (c == id) (holds id cs) is) [
      | inl same ↦ (let e : c ≡ id = eqb-true c id same in let above : low < c = between.0 in omega arith)
      | inr rest ↦ holds-above low high id cs between.2 rest
    ]

-- the children of a branch have numbers above its own
pub ChildrenFollow-get : (total : ℕ) (bs : List Branch) (i at : ℕ) (d : Branch) → ChildrenFollow total bs → length bs ≤ total → i < length bs → at ≡ total - length bs + i
    → AreBetween at total (get_or bs i d).children
ChildrenFollow-get total [] i at d follow less h is = absurd (omega arith)
ChildrenFollow-get total (b ∷ bs) zero at d follow less h is =
    let e : total - (length bs + 1) ≡ at = omega arith in subst (λ n. AreBetween n total b.children) e follow.0
ChildrenFollow-get total (b ∷ bs) (suc i) at d follow less h is = ChildrenFollow-get total bs i at d follow.1 (omega arith) (omega arith) (omega arith)

-- a parent has a lower number, and is a node of the tree
pub parent-below : (t : Plant) (id p : ℕ) → ChildrenFollow (length t.branches) t.branches → parent_of t id ≡ Some p → (p < id) × (p < length t.branches)
parent-below t id p follow is =
    let hit = position-Some (λ b. holds id b.children) t.branches p no_branch is in
    let at : p ≡ length t.branches - length t.branches + p = omega arith in (
      holds-above p (length t.branches) id (get_or t.branches p no_branch).children
          (ChildrenFollow-get (length t.branches) t.branches p p no_branch follow (omega arith) hit.0 at) hit.1,
      hit.0,
    )

parent_first-same : (o : Option ℕ) (f g : ℕ → List ℕ) → ((p : ℕ) → o ≡ Some p → f p ≡ g p) → parent_first o f ≡ parent_first o g
parent_first-same None f g same = refl
parent_first-same (Some p) f g same = ap (λ ids. p ∷ ids) (same p refl)

parent_first-none : (o : Option ℕ) (f : ℕ → List ℕ) → ((p : ℕ) → o ≡ Some p → ⊥) → parent_first o f ≡ []
parent_first-none None f never = refl
parent_first-none (Some p) f never = absurd (never p refl)

-- no more levels are there than the number says
pub around_within-same : (t : Plant) → ChildrenFollow (length t.branches) t.branches → (m n id : ℕ) → id ≤ m → id ≤ n → around_within m t id ≡ around_within n t id
around_within-same t follow zero zero id h k = refl
around_within-same t follow zero (suc n) id h k = sym (parent_first-none (parent_of t id) (around_within n t) (λ p is. let below : p < id = (parent-below t id p follow is).0 in omega arith))
around_within-same t follow (suc m) zero id h k = parent_first-none (parent_of t id) (around_within m t) (λ p is. let below : p < id = (parent-below t id p follow is).0 in omega arith)
around_within-same t follow (suc m) (suc n) id h k =
    parent_first-same (parent_of t id) (around_within m t) (around_within n t)
    (λ p is. let below : p < id = (parent-below t id p follow is).0 in around_within-same t follow m n p (omega arith) (omega arith))

-- around a node stands its parent, and then what stands around that
pub around-parent : (t : Plant) → ChildrenFollow (length t.branches) t.branches → (id p : ℕ) → parent_of t id ≡ Some p → around t id ≡ p ∷ around t p
around-parent t follow zero p is = absurd (let below : p < 0 = (parent-below t 0 p follow is).0 in omega arith)
around-parent t follow (suc k) p is =
    let below : p < suc k = (parent-below t (suc k) p follow is).0 in
    ap (λ o. parent_first o (around_within k t)) is
    ∙ ap (λ ids. p ∷ ids) (around_within-same t follow k p p (omega arith) (omega arith))

-- around a node without a parent stands nothing
pub around-none : (t : Plant) (id : ℕ) → parent_of t id ≡ None → around t id ≡ []
around-none t zero is = refl
around-none t (suc k) is = ap (λ o. parent_first o (around_within k t)) is

-- the form of a node that is there
pub form_of-node : (t : Plant) (id : ℕ) (node : Node) → node_of t.branches id ≡ Some node → form_of t id ≡ node.form
form_of-node t id node is = ap form_or_empty is

-- past the last node there is none
pub node_of-none : (bs : List Branch) (id : ℕ) → length bs ≤ id → node_of bs id ≡ None
node_of-none [] id h = refl
node_of-none (b ∷ bs) zero h = absurd (omega arith)
node_of-none (b ∷ bs) (suc id) h = node_of-none bs id (omega arith)

-- what stands around a node, from what stands around its parent
pub context-parent : (t : Plant) → ChildrenFollow (length t.branches) t.branches → (id p : ℕ) (f : Form) → parent_of t id ≡ Some p → form_of t p ≡ f
    → context_of t id ≡ context_within p f (context_of t p)
context-parent t follow id p f is form =
    ap (context_among t) (around-parent t follow id p is) ∙ ap (λ g. context_within p g (context_of t p)) form

-- what stands around a node without a parent
pub context-none : (t : Plant) (id : ℕ) → parent_of t id ≡ None → context_of t id ≡ record { home = None; maker = None; in_function = false; may_break = false; may_continue = false }
context-none t id is = ap (context_among t) (around-none t id is)
