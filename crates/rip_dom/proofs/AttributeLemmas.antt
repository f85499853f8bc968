-- An attribute that gets another value.
use Rattle.std.proofs.Common.{◌≡◌, ℕ, ◌+◌, ◌<◌, inl, inr, Bool, true, false, cond, ◌==◌, List, [], ◌∷◌, length, map, set, find, is_some, None, Some, option_map, refl, sym, ap, ap₂, ◌∙◌, subst, arith, length-set, get_or-set_same, get_or-set_other}
use Rattle.std.specs.Prelude.{slice_set}
use Rattle.std.specs.List.{range_with_len}
use Rattle.std.proofs.lemmas.Bool.{cases_eq, cases_Bool, cond-true, cond-false, eq-eqb, ne_eqb}
use Rattle.std.proofs.lemmas.Option.{same_Some, none-some}
use Rattle.rip_base.specs.declared.value.Span.{Span}
use Rattle.rip_values.specs.Pool.{Texts}
use Rattle.rip_dom.specs.declared.dom.NodeRecord.{NodeRecord}
use Rattle.rip_dom.specs.Lists.{Lists, list_at, owner_at}
use Rattle.rip_dom.specs.Linked.{Has, Differ, AreListed}
use Rattle.rip_dom.specs.Tree.{Node, Tree, each, node_at}
use Rattle.rip_dom.specs.Document.{no_span, record_at, pair_at, node_of, tree_of, IsDocument}
use Rattle.rip_dom.specs.Names.{attribute_of, has_name, is_named}
use Rattle.rip_dom.specs.Attributes.{with_value, with_value_of}
use Rattle.rip_dom.proofs.NameLemmas.{attribute-is}
use Rattle.rip_dom.proofs.OrderLemmas.{owner-known}
use Rattle.rip_dom.proofs.TreeLemmas.{Fits, made, node-at, same-node}

abbrev Pairs : Type 0
Pairs = List (Span × Span)

found-in : (f : ℕ → Bool) (ks : List ℕ) (k : ℕ) → find f ks ≡ Some k → Has k ks
found-in f [] k e = absurd (none-some k e)
found-in f (x ∷ xs) k e =
    elim (cases_Bool (f x)) [
      | inl t ↦ inl (sym (same_Some x k (sym (cond-true (f x) (Some x) (find f xs) t) ∙ e)))
      | inr t ↦ inr (found-in f xs k (sym (cond-false (f x) (Some x) (find f xs) t) ∙ e))
    ]

-- the attribute that is found is one of the attributes
pub found-below : (pool : Texts) (P : Pairs) (name : List ℕ) (A : Lists) (n k : ℕ) → AreListed A → length A.owners ≡ length P → find (is_named pool P name) (list_at A.lists n) ≡ Some k → k < length P
found-below pool P name A n k l e f = subst (λ j. k < j) e (owner-known A.owners k n (l.owned n k (found-in (is_named pool P name) (list_at A.lists n) k f)))

abbrev valued : Pairs → ℕ → Span → Pairs
valued P k v = set P k ((pair_at P k).0, v)

pairs-other : (P : Pairs) (k : ℕ) (v : Span) (ks : List ℕ) → (Has k ks → ⊥) → map (pair_at (valued P k v)) ks ≡ map (pair_at P) ks
pairs-other P k v [] h = refl
pairs-other P k v (x ∷ xs) h =
    ap₂ (λ a rest. a ∷ rest) (get_or-set_other P k x ((pair_at P k).0, v) (no_span, no_span) (λ e. h (inl (sym e)))) (pairs-other P k v xs (λ g. h (inr g)))

value-first : (P : Pairs) (p : Span × Span → Bool) (v : Span) (ks : List ℕ) (k : ℕ) → Differ ks → k < length P → find (λ j. p (pair_at P j)) ks ≡ Some k
    → map (pair_at (valued P k v)) ks ≡ with_value_of p v (map (pair_at P) ks)
value-first P p v [] k d h e = absurd (none-some k e)
value-first P p v (x ∷ xs) k d h e =
    elim (cases_Bool (p (pair_at P x))) [
      | inl t ↦
          let same : x ≡ k = same_Some x k (sym (cond-true (p (pair_at P x)) (Some x) (find (λ j. p (pair_at P j)) xs) t) ∙ e) in
          ap₂ (λ a rest. a ∷ rest)
          (subst (λ j. pair_at (valued P k v) j ≡ ((pair_at P j).0, v)) (sym same) (get_or-set_same P k ((pair_at P k).0, v) (no_span, no_span) h))
          (pairs-other P k v xs (λ g. d.0 (subst (λ j. Has j xs) (sym same) g)))
          ∙ sym (cond-true (p (pair_at P x)) (((pair_at P x).0, v) ∷ map (pair_at P) xs) (pair_at P x ∷ with_value_of p v (map (pair_at P) xs)) t)
      | inr t ↦
          let rest : find (λ j. p (pair_at P j)) xs ≡ Some k = sym (cond-false (p (pair_at P x)) (Some x) (find (λ j. p (pair_at P j)) xs) t) ∙ e in
          ap₂ (λ a rest. a ∷ rest)
          (get_or-set_other P k x ((pair_at P k).0, v) (no_span, no_span) (λ s. d.0 (subst (λ j. Has j xs) (sym s) (found-in (λ j. p (pair_at P j)) xs k rest))))
          (value-first P p v xs k d.1 h rest)
          ∙ sym (cond-false (p (pair_at P x)) (((pair_at P x).0, v) ∷ map (pair_at P) xs) (pair_at P x ∷ with_value_of p v (map (pair_at P) xs)) t)
    ]

abbrev tree : ℕ → ℕ → List Node → Tree
tree lim used nodes = record { limit = lim; used = used; nodes = nodes }

map-same : (f g : ℕ → Node) → ((n : ℕ) → f n ≡ g n) → (ns : List ℕ) → map f ns ≡ map g ns
map-same f g e [] = refl
map-same f g e (n ∷ ns) = ap₂ (λ x xs. x ∷ xs) (e n) (map-same f g e ns)

repaired : (lim : ℕ) (R : List NodeRecord) (C A : Lists) (P Q : Pairs) (g : ℕ → Node → Node) → Fits R C A → length Q ≡ length P
    → ((n : ℕ) → node_of R C A Q n ≡ g n (node_of R C A P n)) → tree_of lim R C A Q ≡ each g (tree_of lim R C A P)
repaired lim R C A P Q g f l e =
    ap₂ (tree lim) (ap (λ k. length R + k) l)
    (map-same (node_of R C A Q) (λ n. g n (node_at (tree_of lim R C A P) n)) (λ n. e n ∙ ap (g n) (sym (node-at lim R C A P f n))) (range_with_len 0 (length R))
    ∙ ap (λ k. map (λ n. g n (node_at (tree_of lim R C A P) n)) (range_with_len 0 k)) (sym (made lim R C A P)))

abbrev with_named : Texts → ℕ → List ℕ → Span → ℕ → Node → Node
with_named pool n name v m x = record x { attributes = cond (m == n) (with_value_of (has_name pool name) v x.attributes) x.attributes }

pub value-set : (lim : ℕ) (R : List NodeRecord) (C A : Lists) (P Q : Pairs) (pool : Texts) (n : ℕ) (name : List ℕ) (k : ℕ) (v : Span) → Fits R C A → AreListed A → length A.owners ≡ length P
    → find (is_named pool P name) (list_at A.lists n) ≡ Some k → Q ≡ slice_set P k ((pair_at P k).0, v) → tree_of lim R C A Q ≡ with_value pool (tree_of lim R C A P) n name v
value-set lim R C A P Q pool n name k v f l o e q =
    ap (tree_of lim R C A) q
    ∙ repaired lim R C A P (valued P k v) (with_named pool n name v) f (length-set P k ((pair_at P k).0, v)) (λ m. same-node (record_at R m) (record_at R m)
    (map (pair_at (valued P k v)) (list_at A.lists m))
    (cond (m == n) (with_value_of (has_name pool name) v (map (pair_at P) (list_at A.lists m))) (map (pair_at P) (list_at A.lists m)))
    (owner_at C.owners m) (owner_at C.owners m) (list_at C.lists m) (list_at C.lists m) refl (attributes m) refl refl)
  where
    in-list : Has k (list_at A.lists n)
    in-list = found-in (is_named pool P name) (list_at A.lists n) k e

    attributes : (m : ℕ) → map (pair_at (valued P k v)) (list_at A.lists m) ≡ cond (m == n) (with_value_of (has_name pool name) v (map (pair_at P) (list_at A.lists m))) (map (pair_at P) (list_at A.lists m))
    attributes m =
        elim (cases_eq m n) [
          | inl s ↦
              value-first P (has_name pool name) v (list_at A.lists m) k (l.once m) (found-below pool P name A n k l o e) (ap (λ j. find (is_named pool P name) (list_at A.lists j)) s ∙ e)
              ∙ sym (cond-true (m == n) (with_value_of (has_name pool name) v (map (pair_at P) (list_at A.lists m))) (map (pair_at P) (list_at A.lists m)) (eq-eqb m n s))
          | inr s ↦
              pairs-other P k v (list_at A.lists m) (λ h. s (same_Some m n (sym (l.owned m k h) ∙ l.owned n k in-list)))
              ∙ sym (cond-false (m == n) (with_value_of (has_name pool name) v (map (pair_at P) (list_at A.lists m))) (map (pair_at P) (list_at A.lists m)) (ne_eqb m n s))
        ]

pub document-valued : (lim rr pr qr : ℕ) (R : List NodeRecord) (C A : Lists) (P Q : Pairs) → IsDocument lim R C A P rr pr → length Q ≡ length P → qr ≡ pr → IsDocument lim R C A Q rr qr
document-valued lim rr pr qr R C A P Q d l q = record {
  child_lists = d.child_lists;
  child_items = d.child_items;
  attribute_lists = d.attribute_lists;
  attribute_items = d.attribute_items ∙ sym l;
  parents = d.parents;
  rooted = d.rooted;
  within = omega (arith, d.within, l);
  small = d.small;
  child_limit = d.child_limit;
  attribute_limit = d.attribute_limit;
  records_reserved = d.records_reserved;
  pairs_reserved = omega (arith, d.pairs_reserved, q);
}

-- whether the attribute is there
pub value-there : (lim : ℕ) (R : List NodeRecord) (C A : Lists) (P : Pairs) (pool : Texts) (n : ℕ) (name : List ℕ) (k : ℕ) → Fits R C A → find (is_named pool P name) (list_at A.lists n) ≡ Some k
    → true ≡ is_some (attribute_of pool (tree_of lim R C A P) n name)
value-there lim R C A P pool n name k f e = sym (ap (λ o. is_some (option_map (λ k. (pair_at P k).1) o)) e) ∙ ap is_some (attribute-is lim R C A P pool n name f)

pub value-not-there : (lim : ℕ) (R : List NodeRecord) (C A : Lists) (P : Pairs) (pool : Texts) (n : ℕ) (name : List ℕ) → Fits R C A → find (is_named pool P name) (list_at A.lists n) ≡ None
    → false ≡ is_some (attribute_of pool (tree_of lim R C A P) n name)
value-not-there lim R C A P pool n name f e = sym (ap (λ o. is_some (option_map (λ k. (pair_at P k).1) o)) e) ∙ ap is_some (attribute-is lim R C A P pool n name f)
