-- An attribute taken away.
use Rattle.std.proofs.Common.{◌≡◌, ℕ, inl, inr, Bool, cond, ◌==◌, List, [], ◌∷◌, map, None, Some, refl, sym, ap, ◌∙◌, subst, length-set}
use Rattle.std.specs.Prelude.{find}
use Rattle.std.proofs.lemmas.Bool.{cases_eq, cases_Bool, cond-true, cond-false, eq-eqb, ne_eqb}
use Rattle.std.proofs.lemmas.Option.{same_Some, none-some}
use Rattle.std.proofs.lemmas.List.{length-map}
use Rattle.rip_base.specs.declared.value.Span.{Span}
use Rattle.rip_values.specs.Pool.{Texts}
use Rattle.rip_dom.specs.declared.dom.NodeRecord.{NodeRecord}
use Rattle.rip_dom.specs.Lists.{Lists, list_at, owner_at, without}
use Rattle.rip_dom.specs.Linked.{Has, Differ, AreListed}
use Rattle.rip_dom.specs.Tree.{Node}
use Rattle.rip_dom.specs.Document.{record_at, pair_at, tree_of, IsDocument}
use Rattle.rip_dom.specs.Names.{has_name, is_named, without_first, without_attribute}
use Rattle.rip_dom.proofs.Paths.{without-same, without-other, without-absent}
use Rattle.rip_dom.proofs.TreeLemmas.{Fits, without_item, list-without, same-node, changed}

abbrev Pairs : Type 0
Pairs = List (Span × Span)

-- what is found is in the list, and passes
found-in : (f : ℕ → Bool) (ks : List ℕ) (k : ℕ) → find f ks ≡ Some k → Has k ks
found-in f [] k e = absurd (none-some k e)
found-in f (x ∷ xs) k e =
    elim (cases_Bool (f x)) [
      | inl t ↦ inl (sym (same_Some x k (sym (cond-true (f x) (Some x) (find f xs) t) ∙ e)))
      | inr t ↦ inr (found-in f xs k (sym (cond-false (f x) (Some x) (find f xs) t) ∙ e))
    ]

removed-first : (P : Pairs) (p : Span × Span → Bool) (ks : List ℕ) (k : ℕ) → Differ ks → find (λ j. p (pair_at P j)) ks ≡ Some k → map (pair_at P) (without k ks) ≡ without_first p (map (pair_at P) ks)
removed-first P p [] k d e = absurd (none-some k e)
removed-first P p (x ∷ xs) k d e =
    elim (cases_Bool (p (pair_at P x))) [
      | inl t ↦
          let same : x ≡ k = same_Some x k (sym (cond-true (p (pair_at P x)) (Some x) (find (λ j. p (pair_at P j)) xs) t) ∙ e) in
          ap (map (pair_at P)) (without-same k x xs same ∙ without-absent k xs (λ h. d.0 (subst (λ j. Has j xs) (sym same) h)))
          ∙ sym (cond-true (p (pair_at P x)) (map (pair_at P) xs) (pair_at P x ∷ without_first p (map (pair_at P) xs)) t)
      | inr t ↦
          let rest : find (λ j. p (pair_at P j)) xs ≡ Some k = sym (cond-false (p (pair_at P x)) (Some x) (find (λ j. p (pair_at P j)) xs) t) ∙ e in
          ap (map (pair_at P)) (without-other k x xs (λ s. d.0 (subst (λ j. Has j xs) (sym s) (found-in (λ j. p (pair_at P j)) xs k rest))))
          ∙ ap (λ qs. pair_at P x ∷ qs) (removed-first P p xs k d.1 rest)
          ∙ sym (cond-false (p (pair_at P x)) (map (pair_at P) xs) (pair_at P x ∷ without_first p (map (pair_at P) xs)) t)
    ]

kept-all : (P : Pairs) (p : Span × Span → Bool) (ks : List ℕ) → find (λ j. p (pair_at P j)) ks ≡ None → map (pair_at P) ks ≡ without_first p (map (pair_at P) ks)
kept-all P p [] e = refl
kept-all P p (x ∷ xs) e =
    elim (cases_Bool (p (pair_at P x))) [
      | inl t ↦ absurd (none-some x (sym e ∙ cond-true (p (pair_at P x)) (Some x) (find (λ j. p (pair_at P j)) xs) t))
      | inr t ↦
          ap (λ qs. pair_at P x ∷ qs) (kept-all P p xs (sym (cond-false (p (pair_at P x)) (Some x) (find (λ j. p (pair_at P j)) xs) t) ∙ e))
          ∙ sym (cond-false (p (pair_at P x)) (map (pair_at P) xs) (pair_at P x ∷ without_first p (map (pair_at P) xs)) t)
    ]

abbrev without_named : Texts → ℕ → List ℕ → ℕ → Node → Node
without_named pool n name m x = record x { attributes = cond (m == n) (without_first (has_name pool name) x.attributes) x.attributes }

pub attribute-removed : (lim : ℕ) (R : List NodeRecord) (C A B : Lists) (P : Pairs) (pool : Texts) (n : ℕ) (name : List ℕ) (k : ℕ) → Fits R C A → AreListed A
    → find (is_named pool P name) (list_at A.lists n) ≡ Some k → B ≡ without_item A k → tree_of lim R C B P ≡ without_attribute pool (tree_of lim R C A P) n name
attribute-removed lim R C A B P pool n name k f l e b =
    ap (λ B. tree_of lim R C B P) b
    ∙ changed lim R C A (without_item A k) P (without_named pool n name) f (λ m. same-node (record_at R m) (record_at R m)
    (map (pair_at P) (list_at (map (without k) A.lists) m))
    (cond (m == n) (without_first (has_name pool name) (map (pair_at P) (list_at A.lists m))) (map (pair_at P) (list_at A.lists m)))
    (owner_at C.owners m) (owner_at C.owners m) (list_at C.lists m) (list_at C.lists m) refl (attributes m) refl refl)
  where
    in-list : Has k (list_at A.lists n)
    in-list = found-in (is_named pool P name) (list_at A.lists n) k e

    attributes : (m : ℕ) → map (pair_at P) (list_at (map (without k) A.lists) m) ≡ cond (m == n) (without_first (has_name pool name) (map (pair_at P) (list_at A.lists m))) (map (pair_at P) (list_at A.lists m))
    attributes m =
        ap (map (pair_at P)) (list-without k A.lists m)
        ∙ elim (cases_eq m n) [
          | inl s ↦
              removed-first P (has_name pool name) (list_at A.lists m) k (l.once m) (ap (λ j. find (is_named pool P name) (list_at A.lists j)) s ∙ e)
              ∙ sym (cond-true (m == n) (without_first (has_name pool name) (map (pair_at P) (list_at A.lists m))) (map (pair_at P) (list_at A.lists m)) (eq-eqb m n s))
          | inr s ↦
              ap (map (pair_at P)) (without-absent k (list_at A.lists m) (λ h. s (same_Some m n (sym (l.owned m k h) ∙ l.owned n k in-list))))
              ∙ sym (cond-false (m == n) (without_first (has_name pool name) (map (pair_at P) (list_at A.lists m))) (map (pair_at P) (list_at A.lists m)) (ne_eqb m n s))
        ]

pub attribute-not-removed : (lim : ℕ) (R : List NodeRecord) (C A : Lists) (P : Pairs) (pool : Texts) (n : ℕ) (name : List ℕ) → Fits R C A
    → find (is_named pool P name) (list_at A.lists n) ≡ None → tree_of lim R C A P ≡ without_attribute pool (tree_of lim R C A P) n name
attribute-not-removed lim R C A P pool n name f e =
    changed lim R C A A P (without_named pool n name) f (λ m. same-node (record_at R m) (record_at R m)
    (map (pair_at P) (list_at A.lists m))
    (cond (m == n) (without_first (has_name pool name) (map (pair_at P) (list_at A.lists m))) (map (pair_at P) (list_at A.lists m)))
    (owner_at C.owners m) (owner_at C.owners m) (list_at C.lists m) (list_at C.lists m) refl (attributes m) refl refl)
  where
    attributes : (m : ℕ) → map (pair_at P) (list_at A.lists m) ≡ cond (m == n) (without_first (has_name pool name) (map (pair_at P) (list_at A.lists m))) (map (pair_at P) (list_at A.lists m))
    attributes m =
        elim (cases_eq m n) [
          | inl s ↦
              kept-all P (has_name pool name) (list_at A.lists m) (ap (λ j. find (is_named pool P name) (list_at A.lists j)) s ∙ e)
              ∙ sym (cond-true (m == n) (without_first (has_name pool name) (map (pair_at P) (list_at A.lists m))) (map (pair_at P) (list_at A.lists m)) (eq-eqb m n s))
          | inr s ↦ sym (cond-false (m == n) (without_first (has_name pool name) (map (pair_at P) (list_at A.lists m))) (map (pair_at P) (list_at A.lists m)) (ne_eqb m n s))
        ]

pub document-unnamed : (lim rr pr k : ℕ) (R : List NodeRecord) (C A B : Lists) (P : Pairs) → IsDocument lim R C A P rr pr → B ≡ without_item A k → IsDocument lim R C B P rr pr
document-unnamed lim rr pr k R C A B P d e = subst (λ B. IsDocument lim R C B P rr pr) (sym e) (record {
  child_lists = d.child_lists;
  child_items = d.child_items;
  attribute_lists = length-map A.lists (without k) ∙ d.attribute_lists;
  attribute_items = length-set A.owners k None ∙ d.attribute_items;
  parents = d.parents;
  rooted = d.rooted;
  within = d.within;
  small = d.small;
  child_limit = d.child_limit;
  attribute_limit = d.attribute_limit;
  records_reserved = d.records_reserved;
  pairs_reserved = d.pairs_reserved;
})
