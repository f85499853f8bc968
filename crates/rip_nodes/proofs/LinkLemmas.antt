-- Nodes that links lead to are nodes of the document.
use Rattle.std.proofs.Common.{◌≡◌, ℕ, zero, suc, ◌+◌, ◌<◌, ◌≤◌, ◌⊎◌, inl, inr, Bool, true, false, Option, None, Some, List, [], ◌∷◌, length, refl, sym, ap, ◌∙◌, subst, arith, rules}
use Rattle.std.specs.Prelude.{IfSome, ◌==◌}
use Rattle.std.proofs.lemmas.Bool.{cases_eq, cases_lt, cases_Bool, cond-true, cond-false, eq-eqb, ne_eqb}
use Rattle.std.proofs.lemmas.List.{get_or_past, length-append}
use Rattle.std.proofs.lemmas.Option.{same_Some, none-some}
use Rattle.std.specs.Prelude.{find, nat_lt, ◌&&◌, if◌then◌else◌}
use Rattle.rip_base.specs.declared.page.NodeKind.{NodeKind}
use Rattle.rip_base.specs.declared.value.Span.{Span}
use Rattle.rip_values.specs.Pool.{Texts}
use Rattle.rip_heap.specs.World.{first_node}
use Rattle.rip_dom.specs.Laws.{Agree}
use Rattle.rip_dom.specs.Linked.{Has}
use Rattle.rip_dom.specs.Lists.{first_of, last_or, item_behind, item_in_front}
use Rattle.rip_dom.specs.Order.{element_of_id, has_id, in_order}
use Rattle.rip_dom.specs.Tree.{Tree, node_at, no_node, parent_of, children_of, next_of, previous_of, new_node, with_node, is_element}

-- a number past the nodes has no parent
parent-past : (t : Tree) (n : ℕ) → length t.nodes ≤ n → parent_of t n ≡ None
parent-past t n h = ap (λ x. x.parent) (get_or_past t.nodes n no_node h)

-- nor any child
children-past : (t : Tree) (n : ℕ) → length t.nodes ≤ n → children_of t n ≡ []
children-past t n h = ap (λ x. x.children) (get_or_past t.nodes n no_node h)

pub first-has : (ns : List ℕ) (m : ℕ) → first_of ns ≡ Some m → Has m ns
first-has [] m e = absurd (none-some m e)
first-has (n ∷ ns) m e = inl (sym (same_Some n m e))

last-has : (x : Option ℕ) (ns : List ℕ) (m : ℕ) → last_or x ns ≡ Some m → (x ≡ Some m) ⊎ Has m ns
last-has x [] m e = inl e
last-has x (n ∷ ns) m e = elim (last-has (Some n) ns m e) [
  | inl f ↦ inr (inl (sym (same_Some n m f)))
  | inr h ↦ inr (inr h)
]

pub behind-has : (c : ℕ) (ns : List ℕ) (m : ℕ) → item_behind c ns ≡ Some m → Has m ns
behind-has c [] m e = absurd (none-some m e)
behind-has c (n ∷ ns) m e =
    elim (cases_eq n c) [
      | inl f ↦ inr (first-has ns m (sym (cond-true (n == c) (first_of ns) (item_behind c ns) (eq-eqb n c f)) ∙ e))
      | inr f ↦ inr (behind-has c ns m (sym (cond-false (n == c) (first_of ns) (item_behind c ns) (ne_eqb n c f)) ∙ e))
    ]

front-has : (x : Option ℕ) (c : ℕ) (ns : List ℕ) (m : ℕ) → item_in_front x c ns ≡ Some m → (x ≡ Some m) ⊎ Has m ns
front-has x c [] m e = absurd (none-some m e)
front-has x c (n ∷ ns) m e =
    elim (cases_eq n c) [
      | inl f ↦ inl (sym (cond-true (n == c) x (item_in_front (Some n) c ns) (eq-eqb n c f)) ∙ e)
      | inr f ↦ elim (front-has (Some n) c ns m (sym (cond-false (n == c) x (item_in_front (Some n) c ns) (ne_eqb n c f)) ∙ e)) [
        | inl g ↦ inr (inl (sym (same_Some n m g)))
        | inr g ↦ inr (inr g)
      ]
    ]

-- a child is a node of the document
pub child-below : (t : Tree) (n m : ℕ) → Agree t → length t.nodes ≤ t.limit → t.limit ≤ first_node → Has m (children_of t n) → m < first_node
child-below t n m a few small h =
    elim (cases_lt m (length t.nodes)) [
      | inl below ↦ omega (arith, below, few, small)
      | inr past ↦ absurd (none-some n (sym (parent-past t m past) ∙ (a.are n m).0 h))
    ]

-- so is a parent
parent-below : (t : Tree) (n p : ℕ) → Agree t → length t.nodes ≤ t.limit → t.limit ≤ first_node → parent_of t n ≡ Some p → p < first_node
parent-below t n p a few small e =
    elim (cases_lt p (length t.nodes)) [
      | inl below ↦ omega (arith, below, few, small)
      | inr past ↦ absurd (subst (Has n) (children-past t p past) ((a.are p n).1 e))
    ]

pub below-parent : (t : Tree) (n : ℕ) (o : Option ℕ) → o ≡ parent_of t n → Agree t → length t.nodes ≤ t.limit → t.limit ≤ first_node → IfSome o (λ m. m < first_node)
below-parent t n None e a few small = tt
below-parent t n (Some p) e a few small = parent-below t n p a few small (sym e)

pub below-first : (t : Tree) (n : ℕ) (o : Option ℕ) → o ≡ first_of (children_of t n) → Agree t → length t.nodes ≤ t.limit → t.limit ≤ first_node → IfSome o (λ m. m < first_node)
below-first t n None e a few small = tt
below-first t n (Some m) e a few small = child-below t n m a few small (first-has (children_of t n) m (sym e))

pub below-last : (t : Tree) (n : ℕ) (o : Option ℕ) → o ≡ last_or None (children_of t n) → Agree t → length t.nodes ≤ t.limit → t.limit ≤ first_node → IfSome o (λ m. m < first_node)
below-last t n None e a few small = tt
below-last t n (Some m) e a few small = elim (last-has None (children_of t n) m (sym e)) [
  | inl f ↦ absurd (none-some m f)
  | inr h ↦ child-below t n m a few small h
]

sibling-next : (t : Tree) (n m : ℕ) (p : Option ℕ) → next_of t n p ≡ Some m → Agree t → length t.nodes ≤ t.limit → t.limit ≤ first_node → m < first_node
sibling-next t n m None e a few small = absurd (none-some m e)
sibling-next t n m (Some p) e a few small = child-below t p m a few small (behind-has n (children_of t p) m e)

pub below-next : (t : Tree) (n : ℕ) (o : Option ℕ) → o ≡ next_of t n (parent_of t n) → Agree t → length t.nodes ≤ t.limit → t.limit ≤ first_node → IfSome o (λ m. m < first_node)
below-next t n None e a few small = tt
below-next t n (Some m) e a few small = sibling-next t n m (parent_of t n) (sym e) a few small

sibling-previous : (t : Tree) (n m : ℕ) (p : Option ℕ) → previous_of t n p ≡ Some m → Agree t → length t.nodes ≤ t.limit → t.limit ≤ first_node → m < first_node
sibling-previous t n m None e a few small = absurd (none-some m e)
sibling-previous t n m (Some p) e a few small = elim (front-has None n (children_of t p) m e) [
  | inl f ↦ absurd (none-some m f)
  | inr h ↦ child-below t p m a few small h
]

pub below-previous : (t : Tree) (n : ℕ) (o : Option ℕ) → o ≡ previous_of t n (parent_of t n) → Agree t → length t.nodes ≤ t.limit → t.limit ≤ first_node → IfSome o (λ m. m < first_node)
below-previous t n None e a few small = tt
below-previous t n (Some m) e a few small = sibling-previous t n m (parent_of t n) (sym e) a few small

-- MADE AND FOUND

if-some : {A : Type 0} (b : Bool) (a : A) (x : A) → (if b then Some a else None) ≡ Some x → a ≡ x
if-some true a x e = same_Some a x e
if-some false a x e = absurd (none-some x e)

-- a node that was made has a number that objects of nodes have
pub made-below : (t u : Tree) (kind : NodeKind) (name text : Option Span) (n : ℕ) → new_node t kind name text ≡ Some (n, u) → length u.nodes ≤ u.limit → t.limit ≤ first_node → n < first_node
made-below t u kind name text n e few small =
    let h = if-some (nat_lt t.used t.limit) (length t.nodes, with_node t kind name text) (n, u) e in
    let number : length t.nodes ≡ n = ap (λ p. p.0) h in
    let more : length u.nodes ≡ length t.nodes + 1 = ap (λ p. length p.1.nodes) (sym h) ∙ length-append t.nodes _ in
    let limit : u.limit ≡ t.limit = ap (λ p. p.1.limit) (sym h) in
    omega (arith, number, more, limit, few, small)

pub element-below : (t u : Tree) (name text : Option Span) (kind : NodeKind) (n : ℕ) → u ≡ with_node t kind name text → n ≡ length t.nodes → length u.nodes ≤ u.limit → t.limit ≤ first_node → n < first_node
element-below t u name text kind n e number few small =
    let more : length u.nodes ≡ length t.nodes + 1 = ap (λ (x : Tree). length x.nodes) e ∙ length-append t.nodes _ in
    let limit : u.limit ≡ t.limit = ap (λ (x : Tree). x.limit) e in
    omega (arith, number, more, limit, few, small)

find-passes : (p : ℕ → Bool) (ns : List ℕ) (n : ℕ) → find p ns ≡ Some n → p n ≡ true
find-passes p [] n e = absurd (none-some n e)
find-passes p (m ∷ ms) n e =
    elim (cases_Bool (p m)) [
      | inl t ↦ let h : Some m ≡ Some n = sym (cond-true (p m) (Some m) (find p ms) t) ∙ e in subst (λ k. p k ≡ true) (same_Some m n h) t
      | inr f ↦ find-passes p ms n (sym (cond-false (p m) (Some m) (find p ms) f) ∙ e)
    ]

true-not-false : true ≡ false → ⊥
true-not-false e = search rules

and-first : (a b : Bool) → (a && b) ≡ true → a ≡ true
and-first true b e = refl
and-first false b e = e

-- an element that was found is a node
found-there : (pool : Texts) (t : Tree) (id : List ℕ) (n : ℕ) → element_of_id pool t id ≡ Some n → n < length t.nodes
found-there pool t id n e =
    elim (cases_lt n (length t.nodes)) [
      | inl below ↦ below
      | inr past ↦
          let element = and-first (is_element (node_at t n).kind) _ (find-passes (has_id pool t id) (in_order t 0) n e) in
          let none : is_element (node_at t n).kind ≡ false = ap (λ x. is_element x.kind) (get_or_past t.nodes n no_node past) in
          absurd (true-not-false (sym element ∙ none))
    ]

pub below-found : (pool : Texts) (t : Tree) (id : List ℕ) (n : ℕ) (o : Option ℕ) → o ≡ element_of_id pool t id → o ≡ Some n → length t.nodes ≤ t.limit → t.limit ≤ first_node → n < first_node
below-found pool t id n o e f few small = let below = found-there pool t id n (sym e ∙ f) in omega (arith, below, few, small)
