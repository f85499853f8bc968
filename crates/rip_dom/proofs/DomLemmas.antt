-- What the calls of a document leave of its records and lists.
use Rattle.std.proofs.Common.{◌≡◌, ℕ, zero, suc, ◌+◌, ◌^◌, ◌<◌, ◌≤◌, Bool, false, List, [], ◌∷◌, ◌++◌, length, map, Option, None, Some, refl, sym, ap, ap₂, ◌∙◌, subst, arith, length-set, get_or, get_or-set_same, get_or-set_other, inl, inr, ◌||◌, ◌==◌}
use Rattle.std.specs.Prelude.{slice_set, nat_lt}
use Rattle.std.specs.List.{list_any}
use Rattle.std.proofs.lemmas.Bool.{cases_eq, or_parts, ne_eqb, cond-false, le-ltb}
use Rattle.std.proofs.lemmas.Option.{same_Some, none-some}
use Rattle.std.proofs.lemmas.List.{length-map, length_push}
use Rattle.rip_base.specs.declared.value.Span.{Span}
use Rattle.rip_dom.specs.declared.dom.NodeRecord.{NodeRecord}
use Rattle.rip_dom.specs.Lists.{Lists, list_at, owner_at, without, with_item}
use Rattle.rip_dom.specs.Tree.{Tree, new_node, with_node, taken_out, put_in, is_above, is_barred, parent_of, way_up, with_attribute}
use Rattle.rip_dom.specs.Linked.{Has, Differ, AreKnown, AreListed}
use Rattle.rip_dom.specs.Laws.{Agree, HasNoCycle}
use Rattle.rip_dom.specs.Document.{tree_of, IsDocument, IsDeep}
use Rattle.rip_dom.proofs.DepthLemmas.{rooted-out, rooted-in, not-above, above-is}
use Rattle.rip_dom.proofs.TreeLemmas.{Fits, fits, fits-more, parent-is, children-are, made, without_item, with_item_in, one_more, list_more, node-more, taken-out, put-in, attribute-more}

pub node-pushed : (lim : ℕ) (R S : List NodeRecord) (C D A B : Lists) (P : List (Span × Span)) (r : NodeRecord) → Fits R C A
    → S ≡ R ++ r ∷ [] → D ≡ one_more C → B ≡ list_more A → tree_of lim S D B P ≡ with_node (tree_of lim R C A P) r.kind r.name r.text
node-pushed lim R S C D A B P r f s d b =
    ap (λ S. tree_of lim S D B P) s ∙ ap₂ (λ D B. tree_of lim (R ++ r ∷ []) D B P) d b ∙ node-more lim R C A P r f

pub node-refused : (lim : ℕ) (R : List NodeRecord) (C A : Lists) (P : List (Span × Span)) (r : NodeRecord) → lim ≤ length R + length P → new_node (tree_of lim R C A P) r.kind r.name r.text ≡ None
node-refused lim R C A P r h =
    cond-false (nat_lt (length R + length P) lim) (Some (length (tree_of lim R C A P).nodes, with_node (tree_of lim R C A P) r.kind r.name r.text)) None (le-ltb (length R + length P) lim h)

pub made-below : (lim : ℕ) (R : List NodeRecord) (C A : Lists) (P : List (Span × Span)) (n : ℕ) (t : Tree) → tree_of lim R C A P ≡ t → n < length t.nodes → n < length R
made-below lim R C A P n t e h = subst (λ k. n < k) (made lim R C A P) (subst (λ (t : Tree). n < length t.nodes) (sym e) h)

-- the owners of items when one of them has another
owner-same : (os : List (Option ℕ)) (c : ℕ) (o : Option ℕ) → c < length os → owner_at (slice_set os c o) c ≡ o
owner-same os c o h = get_or-set_same os c o None h

owner-other : (os : List (Option ℕ)) (c : ℕ) (o : Option ℕ) (n : ℕ) → (n ≡ c → ⊥) → owner_at (slice_set os c o) n ≡ owner_at os n
owner-other os c o n d = get_or-set_other os c n o None d

pub document-without : (lim rr pr c : ℕ) (R : List NodeRecord) (C D A : Lists) (P : List (Span × Span)) → IsDocument lim R C A P rr pr → c < length R → D ≡ without_item C c → IsDocument lim R D A P rr pr
document-without lim rr pr c R C D A P d h e = subst (λ D. IsDocument lim R D A P rr pr) (sym e) (record {
  child_lists = length-map C.lists (without c) ∙ d.child_lists;
  child_items = length-set C.owners c None ∙ d.child_items;
  attribute_lists = d.attribute_lists;
  attribute_items = d.attribute_items;
  parents = λ n p f. elim (cases_eq n c) [
    | inl s ↦ absurd (none-some p (sym (ap (owner_at (slice_set C.owners c None)) s ∙ gone) ∙ f))
    | inr s ↦ d.parents n p (sym (owner-other C.owners c None n s) ∙ f)
  ];
  rooted = rooted-out (owner_at C.owners) (owner_at (slice_set C.owners c None)) c gone (λ n s. owner-other C.owners c None n s) d.rooted;
  within = d.within;
  small = d.small;
  child_limit = d.child_limit;
  attribute_limit = d.attribute_limit;
  records_reserved = d.records_reserved;
  pairs_reserved = d.pairs_reserved;
})
  where
    gone : owner_at (slice_set C.owners c None) c ≡ None
    gone = owner-same C.owners c None (subst (λ k. c < k) (sym d.child_items) h)

pub document-with : (lim rr pr p c : ℕ) (at : Option ℕ) (R : List NodeRecord) (C D X A : Lists) (P : List (Span × Span)) → IsDocument lim R C A P rr pr → p < length R → c < length R
    → is_above (tree_of lim R C A P) c p ≡ false → D ≡ without_item C c → X ≡ with_item_in D p c at → IsDocument lim R X A P rr pr
document-with lim rr pr p c at R C D X A P d ph ch a e f = subst (λ X. IsDocument lim R X A P rr pr) (sym (f ∙ ap (λ D. with_item_in D p c at) e)) (record {
  child_lists = length-set (map (without c) C.lists) p (with_item c at (list_at (map (without c) C.lists) p)) ∙ length-map C.lists (without c) ∙ d.child_lists;
  child_items = length-set (slice_set C.owners c None) c (Some p) ∙ length-set C.owners c None ∙ d.child_items;
  attribute_lists = d.attribute_lists;
  attribute_items = d.attribute_items;
  parents = λ n q g. elim (cases_eq n c) [
    | inl s ↦ subst (λ k. k < length R) (same_Some p q (sym (ap (owner_at (slice_set (slice_set C.owners c None) c (Some p))) s ∙ goes) ∙ g)) ph
    | inr s ↦ d.parents n q (sym (others n s) ∙ g)
  ];
  rooted = rooted-in (owner_at C.owners) (owner_at (slice_set (slice_set C.owners c None) c (Some p))) c p (length R) d.rooted d.parents ph
      (sym (above-is (tree_of lim R C A P) (owner_at C.owners) (length R) c p (λ n. sym (parent-is lim R C A P (fits d) n)) (made lim R C A P)) ∙ a) goes others;
  within = d.within;
  small = d.small;
  child_limit = d.child_limit;
  attribute_limit = d.attribute_limit;
  records_reserved = d.records_reserved;
  pairs_reserved = d.pairs_reserved;
})
  where
    goes : owner_at (slice_set (slice_set C.owners c None) c (Some p)) c ≡ Some p
    goes = owner-same (slice_set C.owners c None) c (Some p) (subst (λ k. c < k) (sym (length-set C.owners c None ∙ d.child_items)) ch)

    others : (n : ℕ) → (n ≡ c → ⊥) → owner_at (slice_set (slice_set C.owners c None) c (Some p)) n ≡ owner_at C.owners n
    others n s = owner-other (slice_set C.owners c None) c (Some p) n s ∙ owner-other C.owners c None n s

more : {X : Type 0} (xs : List X) (d : X) (n : ℕ) → get_or (xs ++ d ∷ []) n d ≡ get_or xs n d
more [] d zero = refl
more [] d (suc n) = refl
more (x ∷ xs) d zero = refl
more (x ∷ xs) d (suc n) = more xs d n

deep-same : (up new : ℕ → Option ℕ) → ((n : ℕ) → new n ≡ up n) → (k : ℕ) (x : Option ℕ) → IsDeep up k x → IsDeep new k x
deep-same up new e zero None d = tt
deep-same up new e zero (Some n) d = absurd d
deep-same up new e (suc k) None d = absurd d
deep-same up new e (suc k) (Some n) d = subst (λ x. IsDeep new k x) (sym (e n)) (deep-same up new e k (up n) d)

pub document-more : (lim rr pr sr : ℕ) (R S : List NodeRecord) (C D A B : Lists) (P : List (Span × Span)) (r : NodeRecord) → IsDocument lim R C A P rr pr → length R + length P < lim
    → S ≡ R ++ r ∷ [] → D ≡ one_more C → B ≡ list_more A → sr ≡ rr → IsDocument lim S D B P sr pr
document-more lim rr pr sr R S C D A B P r d h s e b q =
    subst (λ S. IsDocument lim S D B P sr pr) (sym s) (subst (λ D. IsDocument lim (R ++ r ∷ []) D B P sr pr) (sym e) (subst (λ B. IsDocument lim (R ++ r ∷ []) (one_more C) B P sr pr) (sym b) (record {
      child_lists = length_push C.lists [] ∙ ap (λ k. k + 1) d.child_lists ∙ sym (length_push R r);
      child_items = length_push C.owners None ∙ ap (λ k. k + 1) d.child_items ∙ sym (length_push R r);
      attribute_lists = length_push A.lists [] ∙ ap (λ k. k + 1) d.attribute_lists ∙ sym (length_push R r);
      attribute_items = d.attribute_items;
      parents = λ n p f. let l : p < length R = d.parents n p (sym (more C.owners None n) ∙ f) in omega (arith, l, length_push R r);
      rooted = λ n. ((d.rooted n).0, deep-same (owner_at C.owners) (owner_at (C.owners ++ None ∷ [])) (λ m. more C.owners None m) (d.rooted n).0 (Some n) (d.rooted n).1);
      within = omega (arith, length_push R r, h);
      small = d.small;
      child_limit = d.child_limit;
      attribute_limit = d.attribute_limit;
      records_reserved = omega (arith, q, d.records_reserved);
      pairs_reserved = d.pairs_reserved;
    })))

-- the number of a new node is nobody's parent
pub node-fresh : (lim rr pr : ℕ) (R : List NodeRecord) (C A : Lists) (P : List (Span × Span)) (r : NodeRecord) (t : Tree) (number : ℕ) → IsDocument lim R C A P rr pr
    → t ≡ with_node (tree_of lim R C A P) r.kind r.name r.text → number ≡ length R → (m : ℕ) → parent_of t m ≡ Some number → ⊥
node-fresh lim rr pr R C A P r t number d e n m g =
    let o : owner_at C.owners m ≡ Some number = sym (ap (λ t. parent_of t m) (e ∙ sym (node-more lim R C A P r (fits d))) ∙ sym (parent-is lim (R ++ r ∷ []) (one_more C) (list_more A) P (fits-more R C A r (fits d)) m) ∙ more C.owners None m) ∙ g in
    let l : number < length R = d.parents m number o in
    omega (arith, l, n)

-- nothing on the way up from an older node is a node that is nobody's parent
pub fresh-above : (t : Tree) (n : ℕ) → ((m : ℕ) → parent_of t m ≡ Some n → ⊥) → (f : ℕ) (x : Option ℕ) → (x ≡ Some n → ⊥) → list_any (λ m. m == n) (way_up f t x) ≡ false
fresh-above t n h zero x d = refl
fresh-above t n h (suc f) None d = refl
fresh-above t n h (suc f) (Some m) d = ap₂ (λ a b. a || b) (ne_eqb m n (λ e. d (ap (λ k. Some k) e))) (fresh-above t n h f (parent_of t m) (h m))

pub older-not-above : (t : Tree) (n p : ℕ) → ((m : ℕ) → parent_of t m ≡ Some n → ⊥) → p < n → is_above t n p ≡ false
older-not-above t n p h l = fresh-above t n h (length t.nodes) (Some p) (λ e. let s : p ≡ n = same_Some p n e in omega (arith, s, l))

above-of : (a b c d : Bool) → (a || (b || (c || d))) ≡ false → c ≡ false
above-of a b c d h = (or_parts c d (or_parts b (c || d) (or_parts a (b || (c || d)) h).1).1).0

pub not-barred : (t : Tree) (p c : ℕ) (o : Option ℕ) → is_barred t p c o ≡ false → is_above t c p ≡ false
not-barred t p c o h = above-of _ _ (is_above t c p) _ h

pub no-cycle : (lim rr pr : ℕ) (R : List NodeRecord) (C A : Lists) (P : List (Span × Span)) → IsDocument lim R C A P rr pr → HasNoCycle (tree_of lim R C A P)
no-cycle lim rr pr R C A P d =
    λ n p e. above-is (tree_of lim R C A P) (owner_at C.owners) (length R) n p (λ m. sym (parent-is lim R C A P (fits d) m)) (made lim R C A P)
    ∙ not-above (owner_at C.owners) d.rooted n p (length R) (parent-is lim R C A P (fits d) n ∙ e)

pub agree : (lim : ℕ) (R : List NodeRecord) (C A : Lists) (P : List (Span × Span)) → Fits R C A → AreListed C → Agree (tree_of lim R C A P)
agree lim R C A P f l = record {
  are = λ p n. (
    (λ h. sym (parent-is lim R C A P f n) ∙ l.owned p n (subst (Has n) (sym (children-are lim R C A P f p)) h)),
    (λ h. subst (Has n) (children-are lim R C A P f p) (l.listed p n (parent-is lim R C A P f n ∙ h))),
  );
  once = λ p. subst Differ (children-are lim R C A P f p) (l.once p);
}

pub out-of-tree : (lim : ℕ) (R : List NodeRecord) (C D A : Lists) (P : List (Span × Span)) (c : ℕ) → Fits R C A → c < length R → D ≡ without_item C c → tree_of lim R D A P ≡ taken_out (tree_of lim R C A P) c
out-of-tree lim R C D A P c f h e = ap (λ D. tree_of lim R D A P) e ∙ taken-out lim R C A P c f h

pub into-tree : (lim : ℕ) (R : List NodeRecord) (C D X A : Lists) (P : List (Span × Span)) (p c : ℕ) (at : Option ℕ) → Fits R C A → p < length R → c < length R → D ≡ without_item C c → X ≡ with_item_in D p c at
    → tree_of lim R X A P ≡ put_in (tree_of lim R C A P) p c at
into-tree lim R C D X A P p c at f ph ch d x = ap (λ X. tree_of lim R X A P) (x ∙ ap (λ D. with_item_in D p c at) d) ∙ put-in lim R C A P p c at f ph ch

-- an attribute more: its pair, and its number behind the others of the node
pub attribute-pushed : (lim : ℕ) (R : List NodeRecord) (C A D B : Lists) (P Q : List (Span × Span)) (n k : ℕ) (v : Span × Span) → Fits R C A → n < length R → AreKnown A → length A.owners ≡ length P
    → Q ≡ P ++ v ∷ [] → k ≡ length P → D ≡ record A { owners = A.owners ++ None ∷ [] } → B ≡ with_item_in D n k None
    → tree_of lim R C B Q ≡ with_attribute (tree_of lim R C A P) n v.0 v.1
attribute-pushed lim R C A D B P Q n k v f h known o q e d b =
    ap₂ (λ B Q. tree_of lim R C B Q) (b ∙ ap₂ (λ D k. with_item_in D n k None) d e) q ∙ attribute-more lim R C A P n v f h known o

-- a document without any node
pub document-none : (lim rr pr : ℕ) (R : List NodeRecord) (C A : Lists) (P : List (Span × Span)) → lim < 2 ^ 32 → R ≡ [] → C ≡ record { limit = lim; lists = []; owners = [] } → A ≡ record { limit = lim; lists = []; owners = [] } → P ≡ []
    → rr ≡ lim → pr ≡ lim → IsDocument lim R C A P rr pr
document-none lim rr pr R C A P h r c a p q s =
    subst (λ R. IsDocument lim R C A P rr pr) (sym r) (subst (λ C. IsDocument lim [] C A P rr pr) (sym c) (subst (λ A. IsDocument lim [] (record { limit = lim; lists = []; owners = [] }) A P rr pr) (sym a)
    (subst (λ P. IsDocument lim [] (record { limit = lim; lists = []; owners = [] }) (record { limit = lim; lists = []; owners = [] }) P rr pr) (sym p) (record {
      child_lists = refl;
      child_items = refl;
      attribute_lists = refl;
      attribute_items = refl;
      parents = λ n p f. absurd (none-some p f);
      rooted = λ n. (1, tt);
      within = omega arith;
      small = h;
      child_limit = refl;
      attribute_limit = refl;
      records_reserved = omega (arith, q);
      pairs_reserved = omega (arith, s);
    }))))
