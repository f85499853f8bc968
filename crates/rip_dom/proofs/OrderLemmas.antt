-- The way through a document, step by step, is its document order.
use Rattle.std.proofs.Common.{◌≡◌, ℕ, zero, suc, ◌+◌, ◌-◌, ◌<◌, ◌≤◌, ◌⊎◌, inl, inr, Bool, true, false, ◌==◌, List, [], ◌∷◌, ◌++◌, length, find, flat_map, Option, None, Some, refl, sym, ap, ◌∙◌, subst, arith}
use Rattle.std.proofs.lemmas.Bool.{both_ways, cases_Bool, cases_lt, cond-true, cond-false, eq-eqb, ne_eqb}
use Rattle.std.proofs.lemmas.Option.{same_Some, none-some}
use Rattle.std.proofs.lemmas.List.{append_assoc, append-nil, length-append, get_or_past}
use Rattle.rip_base.specs.declared.value.Span.{Span}
use Rattle.rip_dom.specs.declared.dom.NodeRecord.{NodeRecord}
use Rattle.rip_dom.specs.declared.order.Step.{Step}
use Rattle.rip_dom.specs.declared.order.Step.TheVariants.{Enter, Leave, End}
use Rattle.rip_dom.specs.Document.{IsDeep, IsDocument, tree_of}
use Rattle.rip_dom.specs.Linked.{Has, Differ, AreListed}
use Rattle.rip_dom.specs.Lists.{Lists, first_of, item_behind, owner_at}
use Rattle.rip_dom.specs.Order.{levels, in_order}
use Rattle.rip_dom.specs.Tree.{Node, Tree, children_of, next_of, no_node, parent_of}
use Rattle.rip_dom.specs.Way.{Grows, behind, entered, found_at, is_end, step, way_on}
use Rattle.rip_dom.proofs.DepthLemmas.{deep-within}
use Rattle.rip_dom.proofs.DomLemmas.{agree}
use Rattle.rip_dom.proofs.Paths.{few-below}
use Rattle.rip_dom.proofs.TreeLemmas.{fits, made, parent-is}

-- NODES BELOW

deep-unique : (up : ℕ → Option ℕ) (j k : ℕ) (x : Option ℕ) → IsDeep up j x → IsDeep up k x → j ≡ k
deep-unique up zero zero x a b = refl
deep-unique up zero (suc k) None a b = absurd b
deep-unique up zero (suc k) (Some n) a b = absurd a
deep-unique up (suc j) zero None a b = absurd a
deep-unique up (suc j) zero (Some n) a b = absurd b
deep-unique up (suc j) (suc k) None a b = absurd a
deep-unique up (suc j) (suc k) (Some n) a b = ap suc (deep-unique up j k (up n) a b)

deep-same : (up new : ℕ → Option ℕ) → ((n : ℕ) → new n ≡ up n) → (k : ℕ) (x : Option ℕ) → IsDeep up k x → IsDeep new k x
deep-same up new e zero None d = tt
deep-same up new e zero (Some n) d = absurd d
deep-same up new e (suc k) None d = absurd d
deep-same up new e (suc k) (Some n) d = subst (λ x. IsDeep new k x) (sym (e n)) (deep-same up new e k (up n) d)

-- so many parents above the first node stands the second
abbrev Under : Tree → ℕ → ℕ → ℕ → Type 0
Under t zero m n = m ≡ n
Under t (suc j) m n = (p : ℕ) × (parent_of t m ≡ Some p) × Under t j p n

under-more : (t : Tree) (j m n p : ℕ) → Under t j m n → parent_of t n ≡ Some p → Under t (suc j) m p
under-more t zero m n p u f = (p, ap (parent_of t) u ∙ f, refl)
under-more t (suc j) m n p u f = (u.0, u.1, under-more t j u.0 n p u.2 f)

under-one : (t : Tree) (j m a b : ℕ) → Under t j m a → Under t j m b → a ≡ b
under-one t zero m a b u v = sym u ∙ v
under-one t (suc j) m a b u v = under-one t j u.0 a b u.2 (subst (λ q. Under t j q b) (same_Some v.0 u.0 (sym v.1 ∙ u.1)) v.2)

under-deep : (t : Tree) (j m n e : ℕ) → Under t j m n → IsDeep (parent_of t) e (Some n) → (b : ℕ) × (b ≡ j + e) × IsDeep (parent_of t) b (Some m)
under-deep t zero m n e u d = (e, omega arith, subst (λ k. IsDeep (parent_of t) e (Some k)) (sym u) d)
under-deep t (suc j) m n e u d =
    let r = under-deep t j u.0 n e u.2 d in
    (suc r.0, omega (arith, r.1), subst (λ x. IsDeep (parent_of t) r.0 x) (sym u.1) r.2)

under-known : (t : Tree) → Grows t → (j m n : ℕ) → Under t j m n → n < length t.nodes → m < length t.nodes
under-known t g zero m n u h = subst (λ k. k < length t.nodes) (sym u) h
under-known t g (suc j) m n u h = g.mine m u.0 u.1

-- two nodes of one depth that stand above the same node are one
same-child : (t : Tree) (e m a b i j : ℕ) → Under t i m a → Under t j m b → IsDeep (parent_of t) e (Some a) → IsDeep (parent_of t) e (Some b) → a ≡ b
same-child t e m a b i j u v d f =
    let r = under-deep t i m a e u d in
    let s = under-deep t j m b e v f in
    let same : r.0 ≡ s.0 = deep-unique (parent_of t) r.0 s.0 (Some m) r.2 s.2 in
    let k : j ≡ i = omega (arith, same, r.1, s.1) in
    under-one t i m a b u (subst (λ l. Under t l m b) k v)

child-deep : (t : Tree) → Grows t → (e n c : ℕ) → IsDeep (parent_of t) e (Some n) → Has c (children_of t n) → IsDeep (parent_of t) (suc e) (Some c)
child-deep t g e n c d h = subst (λ x. IsDeep (parent_of t) e x) (sym (g.owned n c h)) d

-- LISTS

has-append : (m : ℕ) (xs ys : List ℕ) → Has m (xs ++ ys) → Has m xs ⊎ Has m ys
has-append m [] ys h = inr h
has-append m (x ∷ xs) ys h =
    elim h [
      | inl e ↦ inl (inl e)
      | inr f ↦ elim (has-append m xs ys f) [
        | inl a ↦ inl (inr a)
        | inr b ↦ inr b
      ]
    ]

differ-append : (xs ys : List ℕ) → Differ xs → Differ ys → ((m : ℕ) → Has m xs → Has m ys → ⊥) → Differ (xs ++ ys)
differ-append [] ys d e f = e
differ-append (x ∷ xs) ys d e f = (
  (λ h. elim (has-append x xs ys h) [
    | inl a ↦ d.0 a
    | inr b ↦ f x (inl refl) b
  ]),
  differ-append xs ys d.1 e (λ m a b. f m (inr a) b),
)

has-flat : (f : ℕ → List ℕ) (m : ℕ) (cs : List ℕ) → Has m (flat_map f cs) → (c : ℕ) × Has c cs × Has m (f c)
has-flat f m [] h = absurd h
has-flat f m (c ∷ cs) h =
    elim (has-append m (f c) (flat_map f cs) h) [
      | inl a ↦ (c, inl refl, a)
      | inr b ↦ let r = has-flat f m cs b in (r.0, inr r.1, r.2)
    ]

-- THE ORDER HAS EACH NODE ONCE

levels-under : (t : Tree) → Grows t → (d n m : ℕ) → Has m (levels d t n) → (j : ℕ) × Under t j m n
levels-under t g zero n m h = absurd h
levels-under t g (suc d) n m h =
    elim h [
      | inl e ↦ (0, e)
      | inr f ↦
          let c = has-flat (levels d t) m (children_of t n) f in
          let u = levels-under t g d c.0 m c.2 in
          (suc u.0, under-more t u.0 m c.0 n u.1 (g.owned n c.0 c.1))
    ]

differ-flat : (t : Tree) → Grows t → (d e : ℕ) (cs : List ℕ) → Differ cs → ((c : ℕ) → Has c cs → IsDeep (parent_of t) e (Some c)) → ((c : ℕ) → Has c cs → Differ (levels d t c)) → Differ (flat_map (levels d t) cs)
differ-flat t g d e [] q k l = tt
differ-flat t g d e (c ∷ cs) q k l =
    differ-append (levels d t c) (flat_map (levels d t) cs) (l c (inl refl)) (differ-flat t g d e cs q.1 (λ a b. k a (inr b)) (λ a b. l a (inr b)))
    (λ m a b.
    let u = levels-under t g d c m a in
    let o = has-flat (levels d t) m cs b in
    let v = levels-under t g d o.0 m o.2 in
    let s : c ≡ o.0 = same-child t e m c o.0 u.0 v.0 u.1 v.1 (k c (inl refl)) (k o.0 (inr o.1)) in
    q.0 (subst (λ x. Has x cs) (sym s) o.1))

levels-differ : (t : Tree) → Grows t → (d e n : ℕ) → IsDeep (parent_of t) e (Some n) → Differ (levels d t n)
levels-differ t g zero e n h = tt
levels-differ t g (suc d) e n h = (
  (λ f.
      let c = has-flat (levels d t) n (children_of t n) f in
      let u = levels-under t g d c.0 n c.2 in
      let r = under-deep t (suc u.0) n n e (under-more t u.0 n c.0 n u.1 (g.owned n c.0 c.1)) h in
      let same : r.0 ≡ e = deep-unique (parent_of t) r.0 e (Some n) r.2 h in
      omega (arith, same, r.1)),
  differ-flat t g d (suc e) (children_of t n) (g.once n) (λ c k. child-deep t g e n c h k) (λ c k. levels-differ t g d (suc e) c (child-deep t g e n c h k)),
)

levels-few : (t : Tree) → Grows t → (d n : ℕ) → n < length t.nodes → length (levels d t n) ≤ length t.nodes
levels-few t g d n h =
    few-below (length t.nodes) (levels d t n) (levels-differ t g d (g.deep n).0 n (g.deep n).1)
    (λ m k. let u = levels-under t g d n m k in under-known t g u.0 m n u.1 h)

-- STEPS

-- from the entrance of a node to its end, all that is below it is entered, in two steps for each node
abbrev Goes : Tree → ℕ → ℕ → ℕ → Type 0
Goes t r d n = (j k : ℕ) → suc j ≡ length (levels d t n) + length (levels d t n) + k → way_on t r j (Enter n) ≡ levels d t n ++ way_on t r k (Leave n)

behind-entered : (p : ℕ) (x : Option ℕ) → behind x (Some p) ≡ entered p x
behind-entered p None = refl
behind-entered p (Some n) = refl

children-go : (t : Tree) (r d p : ℕ) (cs : List ℕ) → Differ cs → ((c : ℕ) → Has c cs → item_behind c (children_of t p) ≡ item_behind c cs) → ((c : ℕ) → Has c cs → parent_of t c ≡ Some p)
    → ((c : ℕ) → Has c cs → c ≡ r → ⊥) → ((c : ℕ) → Has c cs → Goes t r d c)
    → (j k : ℕ) → j ≡ length (flat_map (levels d t) cs) + length (flat_map (levels d t) cs) + k → way_on t r j (entered p (first_of cs)) ≡ flat_map (levels d t) cs ++ way_on t r k (Leave p)
children-go t r d p [] q b o a go j k e =
    let f : j ≡ 0 + 0 + k = e in
    let s : j ≡ k = omega (arith, f) in
    ap (λ i. way_on t r i (Leave p)) s
children-go t r d p (c ∷ cs) q b o a go j k e =
    go c (inl refl) j (suc (length (flat_map (levels d t) cs) + length (flat_map (levels d t) cs) + k)) s
    ∙ ap (λ l. levels d t c ++ l)
    (ap (way_on t r (length (flat_map (levels d t) cs) + length (flat_map (levels d t) cs) + k)) leaves
    ∙ children-go t r d p cs q.1 later (λ x h. o x (inr h)) (λ x h. a x (inr h)) (λ x h. go x (inr h)) (length (flat_map (levels d t) cs) + length (flat_map (levels d t) cs) + k) k refl)
    ∙ sym (append_assoc (levels d t c) (flat_map (levels d t) cs) (way_on t r k (Leave p)))
  where
    s : suc j ≡ length (levels d t c) + length (levels d t c) + suc (length (flat_map (levels d t) cs) + length (flat_map (levels d t) cs) + k)
    s =
        let f : j ≡ length (levels d t c ++ flat_map (levels d t) cs) + length (levels d t c ++ flat_map (levels d t) cs) + k = e in
        omega (arith, f, length-append (levels d t c) (flat_map (levels d t) cs))

    here : item_behind c (c ∷ cs) ≡ first_of cs
    here = cond-true (c == c) (first_of cs) (item_behind c cs) (eq-eqb c c refl)

    leaves : step t r (Leave c) ≡ entered p (first_of cs)
    leaves =
        cond-false (c == r) End (behind (next_of t c (parent_of t c)) (parent_of t c)) (ne_eqb c r (a c (inl refl)))
        ∙ ap (λ x. behind (next_of t c x) x) (o c (inl refl))
        ∙ ap (λ x. behind x (Some p)) (b c (inl refl) ∙ here)
        ∙ behind-entered p (first_of cs)

    later : (x : ℕ) → Has x cs → item_behind x (children_of t p) ≡ item_behind x cs
    later x h = b x (inr h) ∙ cond-false (c == x) (first_of cs) (item_behind x cs) (ne_eqb c x (λ z. q.0 (subst (λ y. Has y cs) (sym z) h)))

node-goes : (t : Tree) (r rd : ℕ) → Grows t → IsDeep (parent_of t) rd (Some r) → (d n e : ℕ) → IsDeep (parent_of t) e (Some n) → rd ≤ e → n < length t.nodes → length t.nodes < e + d
    → (j k : ℕ) → suc j ≡ length (levels d t n) + length (levels d t n) + k → way_on t r j (Enter n) ≡ levels d t n ++ way_on t r k (Leave n)
node-goes t r rd g rr zero n e h le b big j k s =
    let f : e ≤ length t.nodes = deep-within (parent_of t) (length t.nodes) g.known e n b h in
    let l : length t.nodes < e + 0 = big in
    absurd (omega (arith, f, l))
node-goes t r rd g rr (suc d) n e h le b big zero k s =
    let f : 1 ≡ suc (length (flat_map (levels d t) (children_of t n))) + suc (length (flat_map (levels d t) (children_of t n))) + k = s in
    absurd (omega (arith, f))
node-goes t r rd g rr (suc d) n e h le b big (suc i) k s =
    let l : suc (suc i) ≡ suc (length (flat_map (levels d t) (children_of t n))) + suc (length (flat_map (levels d t) (children_of t n))) + k = s in
    let f : i ≡ length (flat_map (levels d t) (children_of t n)) + length (flat_map (levels d t) (children_of t n)) + k = omega (arith, l) in
    ap (λ l. n ∷ l) (children-go t r d n (children_of t n) (g.once n) (λ c m. refl) (λ c m. g.owned n c m)
    (λ c m x.
    let same : suc e ≡ rd = deep-unique (parent_of t) (suc e) rd (Some r) (subst (λ y. IsDeep (parent_of t) (suc e) (Some y)) x (child-deep t g e n c h m)) rr in
    omega (arith, same, le))
    (λ c m. node-goes t r rd g rr d c (suc e) (child-deep t g e n c h m) (omega (arith, le)) (g.mine c n (g.owned n c m)) (omega (arith, big)))
    i k f)

pub at-end : (t : Tree) (r k : ℕ) → way_on t r k End ≡ []
at-end t r zero = refl
at-end t r (suc k) = refl

ended : (t : Tree) (r k : ℕ) → way_on t r k (Leave r) ≡ []
ended t r zero = refl
ended t r (suc k) = ap (way_on t r k) (cond-true (r == r) End (behind (next_of t r (parent_of t r)) (parent_of t r)) (eq-eqb r r refl)) ∙ at-end t r k

deep-some : (up : ℕ → Option ℕ) (k n : ℕ) → IsDeep up k (Some n) → 0 < k
deep-some up zero n d = absurd d
deep-some up (suc k) n d = omega arith

-- twice as many steps as there are nodes go through all that is below the root
way-is : (t : Tree) (r : ℕ) → Grows t → r < length t.nodes → way_on t r (length t.nodes + length t.nodes) (Enter r) ≡ in_order t r
way-is t r g h =
    node-goes t r (g.deep r).0 g (g.deep r).1 (length t.nodes) r (g.deep r).0 (g.deep r).1 (omega arith) h big (length t.nodes + length t.nodes) (suc (length t.nodes + length t.nodes) - (length (in_order t r) + length (in_order t r))) s
    ∙ ap (λ l. in_order t r ++ l) (ended t r (suc (length t.nodes + length t.nodes) - (length (in_order t r) + length (in_order t r))))
    ∙ append-nil (in_order t r)
  where
    big : length t.nodes < (g.deep r).0 + length t.nodes
    big = omega (arith, deep-some (parent_of t) (g.deep r).0 r (g.deep r).1)

    few : length (in_order t r) ≤ length t.nodes
    few = levels-few t g (length t.nodes) r h

    s : suc (length t.nodes + length t.nodes) ≡ length (in_order t r) + length (in_order t r) + (suc (length t.nodes + length t.nodes) - (length (in_order t r) + length (in_order t r)))
    s = omega (arith, few)

-- a node that is not there has nothing below it
alone : (t : Tree) (r c : ℕ) → children_of t r ≡ [] → way_on t r (c + c) (Enter r) ≡ levels c t r
alone t r zero none = let z : zero + zero ≡ zero = omega arith in ap (λ k. way_on t r k (Enter r)) z
alone t r (suc k) none =
    let two : suc k + suc k ≡ suc (suc (k + k)) = omega arith in
    ap (λ j. way_on t r j (Enter r)) two
    ∙ ap (λ l. r ∷ l) (ap (λ cs. way_on t r (suc (k + k)) (entered r (first_of cs))) none ∙ ended t r (suc (k + k)))
    ∙ sym (ap (λ cs. r ∷ flat_map (levels k t) cs) none)

-- the same from each number on, also where no node has it
pub way-from : (t : Tree) (r : ℕ) → Grows t → way_on t r (length t.nodes + length t.nodes) (Enter r) ≡ in_order t r
way-from t r g =
    elim (cases_lt r (length t.nodes)) [
      | inl h ↦ way-is t r g h
      | inr z ↦ alone t r (length t.nodes) (ap (λ (x : Node). x.children) (get_or_past t.nodes r no_node z))
    ]

-- WHAT IS LOOKED FOR ON THE WAY

pub one-left : (e i : ℕ) → i < e → e - i ≡ suc (e - (i + 1))
one-left e i h = omega (arith, h)

found-here : (f : ℕ → Bool) (t : Tree) (r k n : ℕ) (s : Step) → found_at f s ≡ Some n → find f (way_on t r (suc k) s) ≡ Some n
found-here f t r k n (Enter m) e =
    elim (cases_Bool (f m)) [
      | inl b ↦ cond-true (f m) (Some m) (find f (way_on t r k (step t r (Enter m)))) b ∙ sym (cond-true (f m) (Some m) None b) ∙ e
      | inr b ↦ absurd (none-some n (sym (cond-false (f m) (Some m) None b) ∙ e))
    ]
found-here f t r k n (Leave m) e = absurd (none-some n e)
found-here f t r k n End e = absurd (none-some n e)

not-here : (f : ℕ → Bool) (t : Tree) (r k : ℕ) (s : Step) → found_at f s ≡ None → find f (way_on t r (suc k) s) ≡ find f (way_on t r k (step t r s))
not-here f t r k (Enter m) e =
    elim (cases_Bool (f m)) [
      | inl b ↦ absurd (none-some m (sym e ∙ cond-true (f m) (Some m) None b))
      | inr b ↦ cond-false (f m) (Some m) (find f (way_on t r k (step t r (Enter m)))) b
    ]
not-here f t r k (Leave m) e = refl
not-here f t r k End e = sym (ap (find f) (at-end t r k))

pub find-first : (f : ℕ → Bool) (t : Tree) (e : ℕ) → Grows t → e ≡ length t.nodes + length t.nodes → find f (way_on t 0 (e - 0) (Enter 0)) ≡ find f (in_order t 0)
find-first f t e g h =
    let z : e - 0 ≡ length t.nodes + length t.nodes = omega (arith, h) in
    ap (λ k. find f (way_on t 0 k (Enter 0))) z ∙ ap (find f) (way-from t 0 g)

pub find-found : (f : ℕ → Bool) (t : Tree) (r e i n : ℕ) (s : Step) → i < e → found_at f s ≡ Some n → find f (way_on t r (e - i) s) ≡ Some n
find-found f t r e i n s h w = ap (λ k. find f (way_on t r k s)) (one-left e i h) ∙ found-here f t r (e - (i + 1)) n s w

pub find-more : (f : ℕ → Bool) (t : Tree) (r e i : ℕ) (s : Step) → i < e → found_at f s ≡ None → find f (way_on t r (e - i) s) ≡ find f (way_on t r (e - (i + 1)) (step t r s))
find-more f t r e i s h w = ap (λ k. find f (way_on t r k s)) (one-left e i h) ∙ not-here f t r (e - (i + 1)) s w

pub way-at-end : (t : Tree) (r k : ℕ) (s : Step) → is_end s ≡ true → way_on t r k s ≡ []
way-at-end t r k (Enter n) e = absurd (both_ways false refl e)
way-at-end t r k (Leave n) e = absurd (both_ways false refl e)
way-at-end t r k End e = at-end t r k

pub find-end : (f : ℕ → Bool) (t : Tree) (r k : ℕ) (s : Step) → is_end s ≡ true → find f (way_on t r k s) ≡ None
find-end f t r k s e = ap (find f) (way-at-end t r k s e)

pub find-over : (f : ℕ → Bool) (t : Tree) (r e i : ℕ) (s : Step) → e ≤ i → find f (way_on t r (e - i) s) ≡ None
find-over f t r e i s h = let z : e - i ≡ 0 = omega (arith, h) in ap (λ k. find f (way_on t r k s)) z

-- THE DOCUMENT

pub owner-known : (os : List (Option ℕ)) (n p : ℕ) → owner_at os n ≡ Some p → n < length os
owner-known os n p e =
    elim (cases_lt n (length os)) [
      | inl h ↦ h
      | inr g ↦ absurd (none-some p (sym (get_or_past os n None g) ∙ e))
    ]

pub document-grows : (lim rr pr : ℕ) (R : List NodeRecord) (C A : Lists) (P : List (Span × Span)) → IsDocument lim R C A P rr pr → AreListed C → Grows (tree_of lim R C A P)
document-grows lim rr pr R C A P d l = record {
  deep = λ n. ((d.rooted n).0, deep-same (owner_at C.owners) (parent_of (tree_of lim R C A P)) (λ m. sym (parent-is lim R C A P (fits d) m)) (d.rooted n).0 (Some n) (d.rooted n).1);
  known = λ n p e. subst (λ k. p < k) (sym (made lim R C A P)) (d.parents n p (parent-is lim R C A P (fits d) n ∙ e));
  mine = λ n p e. subst (λ k. n < k) (sym (made lim R C A P)) (subst (λ k. n < k) d.child_items (owner-known C.owners n p (parent-is lim R C A P (fits d) n ∙ e)));
  owned = λ p n h. ((agree lim R C A P (fits d) l).are p n).0 h;
  once = (agree lim R C A P (fits d) l).once;
}
