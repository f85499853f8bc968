-- The tree that records and linked lists stand for, and what each change of them leaves of it.
use Rattle.std.proofs.Common.{◌≡◌, ℕ, zero, suc, ◌+◌, ◌<◌, ◌≤◌, true, false, cond, ◌==◌, inl, inr, List, [], ◌∷◌, ◌++◌, length, map, get_or, set, Option, None, Some, refl, sym, ap, ap₂, ◌∙◌, subst, arith, length-set, get_or-set_same, get_or-set_other}
use Rattle.std.specs.Prelude.{IfSome, option_and_then, slice_set}
use Rattle.std.specs.List.{range_with_len}
use Rattle.std.proofs.lemmas.Bool.{both_ways, cases_eq, cases_lt, cond-true, cond-false, eq-eqb, ne_eqb}
use Rattle.std.proofs.lemmas.List.{length-map, get_or-map, get_or_past, get_or_append_left, get_or_push, length_push, map_push}
use Rattle.std.proofs.lemmas.List.FromFn.{length-range_with_len, get_or-map-range_with_len}
use Rattle.rip_base.specs.declared.value.Span.{Span}
use Rattle.rip_dom.specs.declared.dom.NodeRecord.{NodeRecord}
use Rattle.rip_dom.specs.Lists.{Lists, list_at, owner_at, without, with_item, is_place, item_behind, item_in_front}
use Rattle.rip_dom.specs.Tree.{Node, Tree, no_node, node_at, parent_of, children_of, next_of, previous_of, each, taken_out, put_in, with_node, bare_node, is_child, with_attribute}
use Rattle.rip_dom.specs.Linked.{Has, AreKnown}
use Rattle.rip_dom.specs.Document.{no_span, no_record, record_at, pair_at, node_of, tree_of, IsDocument}
use Rattle.rip_dom.proofs.Paths.{place_cases}

abbrev pub make : NodeRecord → List (Span × Span) → Option ℕ → List ℕ → Node
make r a o c = record { kind = r.kind; name = r.name; text = r.text; attributes = a; parent = o; children = c }

pub same-node : (r s : NodeRecord) (a b : List (Span × Span)) (o p : Option ℕ) (c d : List ℕ) → r ≡ s → a ≡ b → o ≡ p → c ≡ d → make r a o c ≡ make s b p d
same-node r s a b o p c d e f g h = ap₂ (λ r a. make r a o c) e f ∙ ap₂ (λ o c. make s b o c) g h

-- each record has its lists
pub record Fits (R : List NodeRecord) (C A : Lists) : Type 0 where
  pub lists : length C.lists ≡ length R
  pub owners : length C.owners ≡ length R
  pub attributes : length A.lists ≡ length R

pub fits : {lim rr pr : ℕ} {R : List NodeRecord} {C A : Lists} {P : List (Span × Span)} → IsDocument lim R C A P rr pr → Fits R C A
fits d = record { lists = d.child_lists; owners = d.child_items; attributes = d.attribute_lists }

pub length-nodes : (f : ℕ → Node) (k : ℕ) → length (map f (range_with_len 0 k)) ≡ k
length-nodes f k = length-map (range_with_len 0 k) f ∙ length-range_with_len 0 k

pub nodes-at : (f : ℕ → Node) (k n : ℕ) → n < k → get_or (map f (range_with_len 0 k)) n no_node ≡ f n
nodes-at f k n h = get_or-map-range_with_len f 0 k n n no_node h (omega arith)

-- the node of a number is what its record and its lists say, also where there is none
pub node-at : (lim : ℕ) (R : List NodeRecord) (C A : Lists) (P : List (Span × Span)) → Fits R C A → (n : ℕ) → node_at (tree_of lim R C A P) n ≡ node_of R C A P n
node-at lim R C A P f n =
    elim (cases_lt n (length R)) [
      | inl h ↦ nodes-at (node_of R C A P) (length R) n h
      | inr g ↦
          get_or_past (map (node_of R C A P) (range_with_len 0 (length R))) n no_node (subst (λ k. k ≤ n) (sym (length-nodes (node_of R C A P) (length R))) g)
          ∙ same-node no_record (record_at R n) [] (map (pair_at P) (list_at A.lists n)) None (owner_at C.owners n) [] (list_at C.lists n)
          (sym (get_or_past R n no_record g))
          (ap (map (pair_at P)) (sym (get_or_past A.lists n [] (subst (λ k. k ≤ n) (sym f.attributes) g))))
          (sym (get_or_past C.owners n None (subst (λ k. k ≤ n) (sym f.owners) g)))
          (sym (get_or_past C.lists n [] (subst (λ k. k ≤ n) (sym f.lists) g)))
    ]

pub made : (lim : ℕ) (R : List NodeRecord) (C A : Lists) (P : List (Span × Span)) → length (tree_of lim R C A P).nodes ≡ length R
made lim R C A P = length-nodes (node_of R C A P) (length R)

pub kind-is : (lim : ℕ) (R : List NodeRecord) (C A : Lists) (P : List (Span × Span)) → Fits R C A → (n : ℕ) (r : NodeRecord) → r ≡ record_at R n → r.kind ≡ (node_at (tree_of lim R C A P) n).kind
kind-is lim R C A P f n r e = ap (λ (r : NodeRecord). r.kind) e ∙ sym (ap (λ (x : Node). x.kind) (node-at lim R C A P f n))

pub name-is : (lim : ℕ) (R : List NodeRecord) (C A : Lists) (P : List (Span × Span)) → Fits R C A → (n : ℕ) (r : NodeRecord) → r ≡ record_at R n → r.name ≡ (node_at (tree_of lim R C A P) n).name
name-is lim R C A P f n r e = ap (λ (r : NodeRecord). r.name) e ∙ sym (ap (λ (x : Node). x.name) (node-at lim R C A P f n))

pub text-is : (lim : ℕ) (R : List NodeRecord) (C A : Lists) (P : List (Span × Span)) → Fits R C A → (n : ℕ) (r : NodeRecord) → r ≡ record_at R n → r.text ≡ (node_at (tree_of lim R C A P) n).text
text-is lim R C A P f n r e = ap (λ (r : NodeRecord). r.text) e ∙ sym (ap (λ (x : Node). x.text) (node-at lim R C A P f n))

pub parent-is : (lim : ℕ) (R : List NodeRecord) (C A : Lists) (P : List (Span × Span)) → Fits R C A → (n : ℕ) → owner_at C.owners n ≡ parent_of (tree_of lim R C A P) n
parent-is lim R C A P f n = sym (ap (λ (x : Node). x.parent) (node-at lim R C A P f n))

pub children-are : (lim : ℕ) (R : List NodeRecord) (C A : Lists) (P : List (Span × Span)) → Fits R C A → (n : ℕ) → list_at C.lists n ≡ children_of (tree_of lim R C A P) n
children-are lim R C A P f n = sym (ap (λ (x : Node). x.children) (node-at lim R C A P f n))

next-in : (lim : ℕ) (R : List NodeRecord) (C A : Lists) (P : List (Span × Span)) → Fits R C A → (n : ℕ) (o : Option ℕ) → option_and_then (λ p. item_behind n (list_at C.lists p)) o ≡ next_of (tree_of lim R C A P) n o
next-in lim R C A P f n None = refl
next-in lim R C A P f n (Some p) = ap (item_behind n) (children-are lim R C A P f p)

previous-in : (lim : ℕ) (R : List NodeRecord) (C A : Lists) (P : List (Span × Span)) → Fits R C A → (n : ℕ) (o : Option ℕ) → option_and_then (λ p. item_in_front None n (list_at C.lists p)) o ≡ previous_of (tree_of lim R C A P) n o
previous-in lim R C A P f n None = refl
previous-in lim R C A P f n (Some p) = ap (item_in_front None n) (children-are lim R C A P f p)

pub next-is : (lim : ℕ) (R : List NodeRecord) (C A : Lists) (P : List (Span × Span)) → Fits R C A → (n : ℕ)
    → option_and_then (λ p. item_behind n (list_at C.lists p)) (owner_at C.owners n) ≡ next_of (tree_of lim R C A P) n (parent_of (tree_of lim R C A P) n)
next-is lim R C A P f n = next-in lim R C A P f n (owner_at C.owners n) ∙ ap (next_of (tree_of lim R C A P) n) (parent-is lim R C A P f n)

pub previous-is : (lim : ℕ) (R : List NodeRecord) (C A : Lists) (P : List (Span × Span)) → Fits R C A → (n : ℕ)
    → option_and_then (λ p. item_in_front None n (list_at C.lists p)) (owner_at C.owners n) ≡ previous_of (tree_of lim R C A P) n (parent_of (tree_of lim R C A P) n)
previous-is lim R C A P f n = previous-in lim R C A P f n (owner_at C.owners n) ∙ ap (previous_of (tree_of lim R C A P) n) (parent-is lim R C A P f n)

-- MOVES

abbrev tree : ℕ → ℕ → List Node → Tree
tree lim used nodes = record { limit = lim; used = used; nodes = nodes }

map-same : (f g : ℕ → Node) → ((n : ℕ) → f n ≡ g n) → (ns : List ℕ) → map f ns ≡ map g ns
map-same f g e [] = refl
map-same f g e (n ∷ ns) = ap₂ (λ x xs. x ∷ xs) (e n) (map-same f g e ns)

-- a change of the lists of children is a change of each node
moved : (lim : ℕ) (R : List NodeRecord) (C D A : Lists) (P : List (Span × Span)) (g : ℕ → Node → Node) → Fits R C A
    → ((n : ℕ) → node_of R D A P n ≡ g n (node_of R C A P n)) → tree_of lim R D A P ≡ each g (tree_of lim R C A P)
moved lim R C D A P g f e =
    ap (tree lim (length R + length P))
    (map-same (node_of R D A P) (λ n. g n (node_at (tree_of lim R C A P) n)) (λ n. e n ∙ ap (g n) (sym (node-at lim R C A P f n))) (range_with_len 0 (length R))
    ∙ ap (λ k. map (λ n. g n (node_at (tree_of lim R C A P) n)) (range_with_len 0 k)) (sym (made lim R C A P)))

-- the same for the lists of attributes
pub changed : (lim : ℕ) (R : List NodeRecord) (C A B : Lists) (P : List (Span × Span)) (g : ℕ → Node → Node) → Fits R C A
    → ((n : ℕ) → node_of R C B P n ≡ g n (node_of R C A P n)) → tree_of lim R C B P ≡ each g (tree_of lim R C A P)
changed lim R C A B P g f e =
    ap (tree lim (length R + length P))
    (map-same (node_of R C B P) (λ n. g n (node_at (tree_of lim R C A P) n)) (λ n. e n ∙ ap (g n) (sym (node-at lim R C A P f n))) (range_with_len 0 (length R))
    ∙ ap (λ k. map (λ n. g n (node_at (tree_of lim R C A P) n)) (range_with_len 0 k)) (sym (made lim R C A P)))

pub list-without : (c : ℕ) (ls : List (List ℕ)) (q : ℕ) → list_at (map (without c) ls) q ≡ without c (list_at ls q)
list-without c ls q =
    elim (cases_lt q (length ls)) [
      | inl h ↦ get_or-map (without c) ls q [] [] h
      | inr g ↦ get_or_past (map (without c) ls) q [] (subst (λ k. k ≤ q) (sym (length-map ls (without c))) g) ∙ ap (without c) (sym (get_or_past ls q [] g))
    ]

-- an element of a list with one place written
written : {X : Type 0} (xs : List X) (c : ℕ) (v d : X) → c < length xs → (n : ℕ) → get_or (set xs c v) n d ≡ cond (n == c) v (get_or xs n d)
written xs c v d h n =
    elim (cases_eq n c) [
      | inl e ↦ subst (λ k. get_or (set xs c v) k d ≡ v) (sym e) (get_or-set_same xs c v d h) ∙ sym (cond-true (n == c) v (get_or xs n d) (eq-eqb n c e))
      | inr e ↦ get_or-set_other xs c n v d e ∙ sym (cond-false (n == c) v (get_or xs n d) (ne_eqb n c e))
    ]

-- the lists without the item, and with it in another place
abbrev pub without_item : Lists → ℕ → Lists
without_item C c = record C { lists = map (without c) C.lists; owners = slice_set C.owners c None }

abbrev pub with_item_in : Lists → ℕ → ℕ → Option ℕ → Lists
with_item_in C p c at = record C { lists = slice_set C.lists p (with_item c at (list_at C.lists p)); owners = slice_set C.owners c (Some p) }

pub fits-without : (R : List NodeRecord) (C A : Lists) (c : ℕ) → Fits R C A → Fits R (without_item C c) A
fits-without R C A c f = record { lists = length-map C.lists (without c) ∙ f.lists; owners = length-set C.owners c None ∙ f.owners; attributes = f.attributes }

pub fits-with : (R : List NodeRecord) (C A : Lists) (p c : ℕ) (at : Option ℕ) → Fits R C A → Fits R (with_item_in C p c at) A
fits-with R C A p c at f = record { lists = length-set C.lists p (with_item c at (list_at C.lists p)) ∙ f.lists; owners = length-set C.owners c (Some p) ∙ f.owners; attributes = f.attributes }

pub taken-out : (lim : ℕ) (R : List NodeRecord) (C A : Lists) (P : List (Span × Span)) (c : ℕ) → Fits R C A → c < length R → tree_of lim R (without_item C c) A P ≡ taken_out (tree_of lim R C A P) c
taken-out lim R C A P c f h =
    moved lim R C (without_item C c) A P (λ n x. record x { parent = cond (n == c) None x.parent; children = without c x.children }) f
    (λ n. same-node (record_at R n) (record_at R n) (map (pair_at P) (list_at A.lists n)) (map (pair_at P) (list_at A.lists n))
    (owner_at (slice_set C.owners c None) n) (cond (n == c) None (owner_at C.owners n)) (list_at (map (without c) C.lists) n) (without c (list_at C.lists n))
    refl refl (written C.owners c None None (subst (λ k. c < k) (sym f.owners) h) n) (list-without c C.lists n))

pub put-in : (lim : ℕ) (R : List NodeRecord) (C A : Lists) (P : List (Span × Span)) (p c : ℕ) (at : Option ℕ) → Fits R C A → p < length R → c < length R
    → tree_of lim R (with_item_in (without_item C c) p c at) A P ≡ put_in (tree_of lim R C A P) p c at
put-in lim R C A P p c at f ph ch =
    moved lim R C (with_item_in (without_item C c) p c at) A P
    (λ n x. record x { parent = cond (n == c) (Some p) x.parent; children = cond (n == p) (with_item c at (without c x.children)) (without c x.children) }) f
    (λ n. same-node (record_at R n) (record_at R n) (map (pair_at P) (list_at A.lists n)) (map (pair_at P) (list_at A.lists n))
    (owner_at (slice_set (slice_set C.owners c None) c (Some p)) n) (cond (n == c) (Some p) (owner_at C.owners n))
    (list_at (slice_set (map (without c) C.lists) p (with_item c at (list_at (map (without c) C.lists) p))) n)
    (cond (n == p) (with_item c at (without c (list_at C.lists n))) (without c (list_at C.lists n)))
    refl refl (owner n) (children n))
  where
    owner : (n : ℕ) → owner_at (slice_set (slice_set C.owners c None) c (Some p)) n ≡ cond (n == c) (Some p) (owner_at C.owners n)
    owner n =
        written (slice_set C.owners c None) c (Some p) None (subst (λ k. c < k) (sym (length-set C.owners c None ∙ f.owners)) ch) n
        ∙ elim (cases_eq n c) [
          | inl e ↦ cond-true (n == c) (Some p) (owner_at (slice_set C.owners c None) n) (eq-eqb n c e) ∙ sym (cond-true (n == c) (Some p) (owner_at C.owners n) (eq-eqb n c e))
          | inr e ↦ ap (cond (n == c) (Some p)) (get_or-set_other C.owners c n None None e)
        ]

    children : (n : ℕ) → list_at (slice_set (map (without c) C.lists) p (with_item c at (list_at (map (without c) C.lists) p))) n
        ≡ cond (n == p) (with_item c at (without c (list_at C.lists n))) (without c (list_at C.lists n))
    children n =
        written (map (without c) C.lists) p (with_item c at (list_at (map (without c) C.lists) p)) [] (subst (λ k. p < k) (sym (length-map C.lists (without c) ∙ f.lists)) ph) n
        ∙ elim (cases_eq n p) [
          | inl e ↦ cond-true (n == p) (with_item c at (list_at (map (without c) C.lists) p)) (list_at (map (without c) C.lists) n) (eq-eqb n p e)
              ∙ ap (with_item c at) (list-without c C.lists p ∙ ap (λ k. without c (list_at C.lists k)) (sym e))
              ∙ sym (cond-true (n == p) (with_item c at (without c (list_at C.lists n))) (without c (list_at C.lists n)) (eq-eqb n p e))
          | inr e ↦ cond-false (n == p) (with_item c at (list_at (map (without c) C.lists) p)) (list_at (map (without c) C.lists) n) (ne_eqb n p e)
              ∙ list-without c C.lists n
              ∙ sym (cond-false (n == p) (with_item c at (without c (list_at C.lists n))) (without c (list_at C.lists n)) (ne_eqb n p e))
        ]

pub length-put_in : (t : Tree) (p c : ℕ) (at : Option ℕ) → length (put_in t p c at).nodes ≡ length t.nodes
length-put_in t p c at =
    length-nodes (λ n. let x = node_at t n in record x { parent = cond (n == c) (Some p) x.parent; children = cond (n == p) (with_item c at (without c x.children)) (without c x.children) }) (length t.nodes)

-- a place among the children of a parent, other than the node that is put there
pub place-stands : (lim : ℕ) (R : List NodeRecord) (C A : Lists) (P : List (Span × Span)) (p c : ℕ) (at : Option ℕ) → Fits R C A → is_child (tree_of lim R C A P) p at ≡ true → is_place at c ≡ false
    → IfSome at (λ r. owner_at (slice_set C.owners c None) r ≡ Some p)
place-stands lim R C A P p c None f h d = tt
place-stands lim R C A P p c (Some r) f h d =
    elim (cases_eq r c) [
      | inl e ↦ absurd (both_ways (c == r) d (eq-eqb c r (sym e)))
      | inr e ↦ get_or-set_other C.owners c r None None e ∙ parent-is lim R C A P f r ∙ is-place (parent_of (tree_of lim R C A P) r) p h
    ]
  where
    is-place : (o : Option ℕ) (p : ℕ) → is_place o p ≡ true → o ≡ Some p
    is-place o p h = elim (place_cases o p) [ inl e ↦ e.0 | inr e ↦ absurd (both_ways (is_place o p) e.1 h) ]

pub free : (os : List (Option ℕ)) (c : ℕ) → owner_at (slice_set os c None) c ≡ None
free os c =
    elim (cases_lt c (length os)) [
      | inl h ↦ get_or-set_same os c None None h
      | inr g ↦ get_or_past (slice_set os c None) c None (subst (λ k. k ≤ c) (sym (length-set os c None)) g)
    ]

-- ONE NODE MORE

more : {X : Type 0} (xs : List X) (d : X) (n : ℕ) → get_or (xs ++ d ∷ []) n d ≡ get_or xs n d
more [] d zero = refl
more [] d (suc n) = refl
more (x ∷ xs) d zero = refl
more (x ∷ xs) d (suc n) = more xs d n

abbrev pub one_more : Lists → Lists
one_more C = record C { lists = C.lists ++ [] ∷ []; owners = C.owners ++ None ∷ [] }

abbrev pub list_more : Lists → Lists
list_more A = record A { lists = A.lists ++ [] ∷ [] }

pub fits-more : (R : List NodeRecord) (C A : Lists) (r : NodeRecord) → Fits R C A → Fits (R ++ r ∷ []) (one_more C) (list_more A)
fits-more R C A r f = record {
  lists = length_push C.lists [] ∙ ap (λ k. k + 1) f.lists ∙ sym (length_push R r);
  owners = length_push C.owners None ∙ ap (λ k. k + 1) f.owners ∙ sym (length_push R r);
  attributes = length_push A.lists [] ∙ ap (λ k. k + 1) f.attributes ∙ sym (length_push R r);
}

node-read : (R : List NodeRecord) (C A : Lists) (P : List (Span × Span)) (r : NodeRecord) → (i : ℕ) → record_at (R ++ r ∷ []) i ≡ record_at R i → node_of (R ++ r ∷ []) (one_more C) (list_more A) P i ≡ node_of R C A P i
node-read R C A P r i e =
    same-node (record_at (R ++ r ∷ []) i) (record_at R i) (map (pair_at P) (list_at (A.lists ++ [] ∷ []) i)) (map (pair_at P) (list_at A.lists i))
    (owner_at (C.owners ++ None ∷ []) i) (owner_at C.owners i) (list_at (C.lists ++ [] ∷ []) i) (list_at C.lists i)
    e (ap (map (pair_at P)) (more A.lists [] i)) (more C.owners None i) (more C.lists [] i)

node-new : (R : List NodeRecord) (C A : Lists) (P : List (Span × Span)) (r : NodeRecord) → Fits R C A → (i : ℕ) → length R ≡ i → node_of (R ++ r ∷ []) (one_more C) (list_more A) P i ≡ bare_node r.kind r.name r.text
node-new R C A P r f i e =
    same-node (record_at (R ++ r ∷ []) i) r (map (pair_at P) (list_at (A.lists ++ [] ∷ []) i)) []
    (owner_at (C.owners ++ None ∷ []) i) None (list_at (C.lists ++ [] ∷ []) i) []
    (get_or_push R r no_record i e)
    (ap (map (pair_at P)) (more A.lists [] i ∙ get_or_past A.lists i [] (omega (arith, f.attributes, e))))
    (more C.owners None i ∙ get_or_past C.owners i None (omega (arith, f.owners, e)))
    (more C.lists [] i ∙ get_or_past C.lists i [] (omega (arith, f.lists, e)))

range-more : (f : ℕ → Node) (a k : ℕ) → map f (range_with_len a (suc k)) ≡ map f (range_with_len a k) ++ f (a + k) ∷ []
range-more f a zero = ap (λ n. f n ∷ []) (omega arith)
range-more f a (suc k) =
    let e : a + 1 + k ≡ a + suc k = omega arith in
    ap (λ xs. f a ∷ xs) (range-more f (a + 1) k ∙ ap (λ n. map f (range_with_len (a + 1) k) ++ f n ∷ []) e)

map-range-same : (f g : ℕ → Node) (a k : ℕ) → ((n : ℕ) → a ≤ n → n < a + k → f n ≡ g n) → map f (range_with_len a k) ≡ map g (range_with_len a k)
map-range-same f g a zero e = refl
map-range-same f g a (suc k) e = ap₂ (λ x xs. x ∷ xs) (e a (omega arith) (omega arith)) (map-range-same f g (a + 1) k (λ n h i. e n (omega (arith, h)) (omega (arith, i))))

pub node-more : (lim : ℕ) (R : List NodeRecord) (C A : Lists) (P : List (Span × Span)) (r : NodeRecord) → Fits R C A
    → tree_of lim (R ++ r ∷ []) (one_more C) (list_more A) P ≡ with_node (tree_of lim R C A P) r.kind r.name r.text
node-more lim R C A P r f = ap₂ (tree lim) used nodes
  where
    used : length (R ++ r ∷ []) + length P ≡ length R + length P + 1
    used = omega (arith, length_push R r)

    count : length (R ++ r ∷ []) ≡ suc (length R)
    count = omega (arith, length_push R r)

    nodes : map (node_of (R ++ r ∷ []) (one_more C) (list_more A) P) (range_with_len 0 (length (R ++ r ∷ []))) ≡ map (node_of R C A P) (range_with_len 0 (length R)) ++ bare_node r.kind r.name r.text ∷ []
    nodes =
        ap (λ k. map (node_of (R ++ r ∷ []) (one_more C) (list_more A) P) (range_with_len 0 k)) count
        ∙ range-more (node_of (R ++ r ∷ []) (one_more C) (list_more A) P) 0 (length R)
        ∙ ap₂ (λ xs x. xs ++ x ∷ [])
        (map-range-same (node_of (R ++ r ∷ []) (one_more C) (list_more A) P) (node_of R C A P) 0 (length R) (λ n _ h. node-read R C A P r n (get_or_append_left R (r ∷ []) no_record n (omega (arith, h)))))
        (node-new R C A P r f (0 + length R) (omega arith))

-- ONE ATTRIBUTE MORE

with_item-last : (c : ℕ) (ns : List ℕ) → with_item c None ns ≡ ns ++ c ∷ []
with_item-last c [] = refl
with_item-last c (n ∷ ns) = ap (λ ms. n ∷ ms) (with_item-last c ns)

pairs-same : (P : List (Span × Span)) (v : Span × Span) (ns : List ℕ) → ((m : ℕ) → Has m ns → m < length P) → map (pair_at (P ++ v ∷ [])) ns ≡ map (pair_at P) ns
pairs-same P v [] h = refl
pairs-same P v (n ∷ ns) h = ap₂ (λ x xs. x ∷ xs) (get_or_append_left P (v ∷ []) (no_span, no_span) n (h n (inl refl))) (pairs-same P v ns (λ m g. h m (inr g)))

abbrev with_pair : Lists → ℕ → ℕ → Lists
with_pair A n k = with_item_in (record A { owners = A.owners ++ None ∷ [] }) n k None

abbrev with_value_at : ℕ → Span × Span → ℕ → Node → Node
with_value_at n v m x = record x { attributes = cond (m == n) (x.attributes ++ v ∷ []) x.attributes }

pub attribute-more : (lim : ℕ) (R : List NodeRecord) (C A : Lists) (P : List (Span × Span)) (n : ℕ) (v : Span × Span) → Fits R C A → n < length R → AreKnown A → length A.owners ≡ length P
    → tree_of lim R C (with_pair A n (length P)) (P ++ v ∷ []) ≡ with_attribute (tree_of lim R C A P) n v.0 v.1
attribute-more lim R C A P n v f h known o = ap₂ (tree lim) used nodes
  where
    used : length R + length (P ++ v ∷ []) ≡ length R + length P + 1
    used = omega (arith, length_push P v)

    below : (q m : ℕ) → Has m (list_at A.lists q) → m < length P
    below q m g = subst (λ k. m < k) o (known q m g)

    mine : map (pair_at (P ++ v ∷ [])) (with_item (length P) None (list_at A.lists n)) ≡ map (pair_at P) (list_at A.lists n) ++ v ∷ []
    mine =
        ap (map (pair_at (P ++ v ∷ []))) (with_item-last (length P) (list_at A.lists n))
        ∙ map_push (pair_at (P ++ v ∷ [])) (list_at A.lists n) (length P)
        ∙ ap₂ (λ xs x. xs ++ x ∷ []) (pairs-same P v (list_at A.lists n) (below n)) (get_or_push P v (no_span, no_span) (length P) refl)

    pairs : (m : ℕ) → map (pair_at (P ++ v ∷ [])) (list_at (slice_set A.lists n (with_item (length P) None (list_at A.lists n))) m) ≡ cond (m == n) (map (pair_at P) (list_at A.lists m) ++ v ∷ []) (map (pair_at P) (list_at A.lists m))
    pairs m =
        elim (cases_eq m n) [
          | inl e ↦ subst (λ m. map (pair_at (P ++ v ∷ [])) (list_at (slice_set A.lists n (with_item (length P) None (list_at A.lists n))) m) ≡ cond (m == n) (map (pair_at P) (list_at A.lists m) ++ v ∷ []) (map (pair_at P) (list_at A.lists m))) (sym e)
              (ap (map (pair_at (P ++ v ∷ []))) (get_or-set_same A.lists n (with_item (length P) None (list_at A.lists n)) [] (subst (λ k. n < k) (sym f.attributes) h))
              ∙ mine ∙ sym (cond-true (n == n) (map (pair_at P) (list_at A.lists n) ++ v ∷ []) (map (pair_at P) (list_at A.lists n)) (eq-eqb n n refl)))
          | inr e ↦
              ap (map (pair_at (P ++ v ∷ []))) (get_or-set_other A.lists n m (with_item (length P) None (list_at A.lists n)) [] e)
              ∙ pairs-same P v (list_at A.lists m) (below m)
              ∙ sym (cond-false (m == n) (map (pair_at P) (list_at A.lists m) ++ v ∷ []) (map (pair_at P) (list_at A.lists m)) (ne_eqb m n e))
        ]

    each-node : (m : ℕ) → node_of R C (with_pair A n (length P)) (P ++ v ∷ []) m ≡ with_value_at n v m (node_of R C A P m)
    each-node m =
        same-node (record_at R m) (record_at R m) (map (pair_at (P ++ v ∷ [])) (list_at (slice_set A.lists n (with_item (length P) None (list_at A.lists n))) m))
        (cond (m == n) (map (pair_at P) (list_at A.lists m) ++ v ∷ []) (map (pair_at P) (list_at A.lists m)))
        (owner_at C.owners m) (owner_at C.owners m) (list_at C.lists m) (list_at C.lists m) refl (pairs m) refl refl

    nodes : map (node_of R C (with_pair A n (length P)) (P ++ v ∷ [])) (range_with_len 0 (length R)) ≡ (each (with_value_at n v) (tree_of lim R C A P)).nodes
    nodes =
        map-same (node_of R C (with_pair A n (length P)) (P ++ v ∷ [])) (λ m. with_value_at n v m (node_at (tree_of lim R C A P) m))
        (λ m. each-node m ∙ ap (with_value_at n v m) (sym (node-at lim R C A P f m))) (range_with_len 0 (length R))
        ∙ ap (λ k. map (λ m. with_value_at n v m (node_at (tree_of lim R C A P) m)) (range_with_len 0 k)) (sym (made lim R C A P))

pub length-with_attribute : (t : Tree) (n : ℕ) (name value : Span) → length (with_attribute t n name value).nodes ≡ length t.nodes
length-with_attribute t n name value = length-nodes (λ m. with_value_at n (name, value) m (node_at t m)) (length t.nodes)
