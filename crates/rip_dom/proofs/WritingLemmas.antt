-- Children that leave, and texts that are written.
use Rattle.std.proofs.Common.{◌≡◌, ℕ, suc, ◌+◌, ◌<◌, ◌≤◌, inl, inr, false, cond, ◌==◌, List, [], ◌∷◌, length, map, set, None, Some, refl, sym, ap, ap₂, ◌∙◌, subst, arith, length-set, get_or-set_same, get_or-set_other}
use Rattle.std.specs.Prelude.{slice_set}
use Rattle.std.specs.List.{range_with_len}
use Rattle.std.proofs.lemmas.Bool.{cases_eq, cases_lt, cond-true, cond-false, eq-eqb, ne_eqb}
use Rattle.std.proofs.lemmas.Option.{same_Some, none-some}
use Rattle.std.proofs.lemmas.List.{get_or_past}
use Rattle.rip_base.specs.declared.page.NodeKind.TheVariants.{Text}
use Rattle.rip_base.specs.declared.value.Span.{Span}
use Rattle.rip_dom.specs.declared.dom.NodeRecord.{NodeRecord}
use Rattle.rip_dom.specs.Document.{no_record, record_at, pair_at, node_of, tree_of, IsDocument}
use Rattle.rip_dom.specs.Linked.{Has, Differ}
use Rattle.rip_dom.specs.Lists.{Lists, first_of, list_at, owner_at, without}
use Rattle.rip_dom.specs.Tree.{Node, Tree, children_of, node_at, no_node, put_in, taken_out, with_node}
use Rattle.rip_dom.specs.Way.{Grows}
use Rattle.rip_dom.specs.Writing.{emptied, filled, is_empty, with_text_of, without_nodes}
use Rattle.rip_dom.proofs.Paths.{few-below, without-same, without-absent}
use Rattle.rip_dom.proofs.TreeLemmas.{Fits, made, make, node-at, nodes-at, length-nodes}

-- CHILDREN LEAVE

abbrev out : ℕ → ℕ → Node → Node
out c n x = record x { parent = cond (n == c) None x.parent; children = without c x.children }

children-out : (t : Tree) (c n : ℕ) → n < length t.nodes → children_of (taken_out t c) n ≡ without c (children_of t n)
children-out t c n h = ap (λ (x : Node). x.children) (nodes-at (λ m. out c m (node_at t m)) (length t.nodes) n h)

pub length-out : (t : Tree) (c : ℕ) → length (taken_out t c).nodes ≡ length t.nodes
length-out t c = length-nodes (λ m. out c m (node_at t m)) (length t.nodes)

-- while children leave: what is left of them, and that what they leave is what all of them leave
pub record Clears (old now : Tree) (n made i : ℕ) : Type 0 where
  pub same : without_nodes now (children_of now n) ≡ without_nodes old (children_of old n)
  pub nodes : length now.nodes ≡ length old.nodes
  pub used : now.used ≡ old.used
  pub limit : now.limit ≡ old.limit
  pub few : length (children_of now n) + i ≤ made

children-few : (t : Tree) (n : ℕ) → Grows t → length (children_of t n) ≤ length t.nodes
children-few t n g = few-below (length t.nodes) (children_of t n) (g.once n) (λ m h. g.mine m n (g.owned n m h))

pub clears-none : (t : Tree) (n made : ℕ) → Grows t → made ≡ length t.nodes → Clears t t n made 0
clears-none t n made g e = record { same = refl; nodes = refl; used = refl; limit = refl; few = omega (arith, children-few t n g, e) }

has-child : (t : Tree) (n c : ℕ) (rest : List ℕ) → children_of t n ≡ c ∷ rest → n < length t.nodes
has-child t n c rest e =
    elim (cases_lt n (length t.nodes)) [
      | inl h ↦ h
      | inr g ↦
          let f : c ∷ rest ≡ [] = sym e ∙ ap (λ (x : Node). x.children) (get_or_past t.nodes n no_node g) in
          let l : suc (length rest) ≡ 0 = ap length f in
          absurd (omega (arith, l))
    ]

clears-by : (old now : Tree) (n made i c : ℕ) (cs : List ℕ) → Clears old now n made i → Grows now → children_of now n ≡ cs → first_of cs ≡ Some c → Clears old (taken_out now c) n made (i + 1)
clears-by old now n made i c [] l g e f = absurd (none-some c f)
clears-by old now n made i c (m ∷ rest) l g e f = record {
  same = ap (without_nodes (taken_out now c)) left ∙ ap (λ k. without_nodes (taken_out now k) rest) (sym head) ∙ sym (ap (without_nodes now) e) ∙ l.same;
  nodes = length-out now c ∙ l.nodes;
  used = l.used;
  limit = l.limit;
  few = omega (arith, fewer, l.few, counted);
}
  where
    head : m ≡ c
    head = same_Some m c f

    once : Differ (m ∷ rest)
    once = subst Differ e (g.once n)

    left : children_of (taken_out now c) n ≡ rest
    left =
        children-out now c n (has-child now n m rest e)
        ∙ ap (without c) e
        ∙ without-same c m rest head
        ∙ without-absent c rest (λ h. once.0 (subst (λ k. Has k rest) (sym head) h))

    fewer : length (children_of (taken_out now c) n) ≡ length rest
    fewer = ap length left

    counted : length (children_of now n) ≡ suc (length rest)
    counted = ap length e

pub clears-more : (old now new : Tree) (n made i c : ℕ) → Clears old now n made i → Grows now → first_of (children_of now n) ≡ Some c → new ≡ taken_out now c → Clears old new n made (i + 1)
clears-more old now new n made i c l g f e = subst (λ t. Clears old t n made (i + 1)) (sym e) (clears-by old now n made i c (children_of now n) l g refl f)

-- the child that leaves is a node
child-by : (t : Tree) (n c : ℕ) (cs : List ℕ) → children_of t n ≡ cs → first_of cs ≡ Some c → Has c (children_of t n)
child-by t n c [] e f = absurd (none-some c f)
child-by t n c (m ∷ rest) e f = subst (Has c) (sym e) (inl (sym (same_Some m c f)))

pub child-known : (t : Tree) (n c : ℕ) → Grows t → first_of (children_of t n) ≡ Some c → c < length t.nodes
child-known t n c g f = g.mine c n (g.owned n c (child-by t n c (children_of t n) refl f))

none-left : (cs : List ℕ) → first_of cs ≡ None → cs ≡ []
none-left [] f = refl
none-left (m ∷ rest) f = absurd (none-some m (sym f))

pub clears-all : (old now : Tree) (n made i : ℕ) → Clears old now n made i → first_of (children_of now n) ≡ None → now ≡ emptied old n
clears-all old now n made i l f = sym (ap (without_nodes now) (none-left (children_of now n) f)) ∙ l.same

none-of : (cs : List ℕ) (made i : ℕ) → length cs + i ≤ made → made ≤ i → cs ≡ []
none-of [] made i h g = refl
none-of (m ∷ rest) made i h g = let l : suc (length rest) + i ≤ made = h in absurd (omega (arith, l, g))

pub clears-end : (old now : Tree) (n made i : ℕ) → Clears old now n made i → made ≤ i → now ≡ emptied old n
clears-end old now n made i l g = sym (ap (without_nodes now) (none-of (children_of now n) made i l.few g)) ∙ l.same

-- A TEXT IN PLACE OF ANOTHER

abbrev tree : ℕ → ℕ → List Node → Tree
tree lim used nodes = record { limit = lim; used = used; nodes = nodes }

map-same : (f g : ℕ → Node) → ((n : ℕ) → f n ≡ g n) → (ns : List ℕ) → map f ns ≡ map g ns
map-same f g e [] = refl
map-same f g e (n ∷ ns) = ap₂ (λ x xs. x ∷ xs) (e n) (map-same f g e ns)

abbrev texted : ℕ → Span → ℕ → Node → Node
texted n text m x = record x { text = cond (m == n) (Some text) x.text }

pub text-set : (lim : ℕ) (R S : List NodeRecord) (C A : Lists) (P : List (Span × Span)) (n : ℕ) (text : Span) → Fits R C A → n < length R → S ≡ slice_set R n (record (record_at R n) { text = Some text })
    → tree_of lim S C A P ≡ with_text_of (tree_of lim R C A P) n text
text-set lim R S C A P n text f h s =
    ap (λ S. tree_of lim S C A P) s
    ∙ ap₂ (tree lim) (ap (λ k. k + length P) count)
    (ap (λ k. map (node_of (set R n (record (record_at R n) { text = Some text })) C A P) (range_with_len 0 k)) count
    ∙ map-same (node_of (set R n (record (record_at R n) { text = Some text })) C A P) (λ m. texted n text m (node_at (tree_of lim R C A P) m))
    (λ m. each-node m ∙ ap (texted n text m) (sym (node-at lim R C A P f m))) (range_with_len 0 (length R))
    ∙ ap (λ k. map (λ m. texted n text m (node_at (tree_of lim R C A P) m)) (range_with_len 0 k)) (sym (made lim R C A P)))
  where
    count : length (set R n (record (record_at R n) { text = Some text })) ≡ length R
    count = length-set R n (record (record_at R n) { text = Some text })

    each-node : (m : ℕ) → node_of (set R n (record (record_at R n) { text = Some text })) C A P m ≡ texted n text m (node_of R C A P m)
    each-node m =
        elim (cases_eq m n) [
          | inl e ↦
              ap (λ r. make r (map (pair_at P) (list_at A.lists m)) (owner_at C.owners m) (list_at C.lists m))
              (subst (λ k. record_at (set R n (record (record_at R n) { text = Some text })) k ≡ record (record_at R k) { text = Some text }) (sym e) (get_or-set_same R n (record (record_at R n) { text = Some text }) no_record h))
              ∙ ap (λ x. record (node_of R C A P m) { text = x }) (sym (cond-true (m == n) (Some text) (record_at R m).text (eq-eqb m n e)))
          | inr e ↦
              ap (λ r. make r (map (pair_at P) (list_at A.lists m)) (owner_at C.owners m) (list_at C.lists m)) (get_or-set_other R n m (record (record_at R n) { text = Some text }) no_record e)
              ∙ ap (λ x. record (node_of R C A P m) { text = x }) (sym (cond-false (m == n) (Some text) (record_at R m).text (ne_eqb m n e)))
        ]

pub document-texted : (lim rr pr sr : ℕ) (R S : List NodeRecord) (C A : Lists) (P : List (Span × Span)) → IsDocument lim R C A P rr pr → length S ≡ length R → sr ≡ rr → IsDocument lim S C A P sr pr
document-texted lim rr pr sr R S C A P d l q = record {
  child_lists = d.child_lists ∙ sym l;
  child_items = d.child_items ∙ sym l;
  attribute_lists = d.attribute_lists ∙ sym l;
  attribute_items = d.attribute_items;
  parents = λ n p f. subst (λ k. p < k) (sym l) (d.parents n p f);
  rooted = d.rooted;
  within = omega (arith, d.within, l);
  small = d.small;
  child_limit = d.child_limit;
  attribute_limit = d.attribute_limit;
  records_reserved = omega (arith, d.records_reserved, q);
  pairs_reserved = d.pairs_reserved;
}

-- one text node in place of all children
pub filled-is : (t a b u : Tree) (n child : ℕ) (text : Span) → is_empty text ≡ false → a ≡ emptied t n → length a.nodes ≡ length t.nodes → child ≡ length a.nodes → b ≡ with_node a Text None (Some text) → u ≡ put_in b n child None
    → u ≡ filled t n text
filled-is t a b u n child text i e l c f g =
    g
    ∙ ap₂ (λ b c. put_in b n c None) (f ∙ ap (λ a. with_node a Text None (Some text)) e) (c ∙ l)
    ∙ sym (cond-false (is_empty text) (emptied t n) (put_in (with_node (emptied t n) Text None (Some text)) n (length t.nodes) None) i)
