-- Ways along links, one step and at their end: the tests of a list that a loop makes.
use Rattle.std.proofs.Common.{◌≡◌, ℕ, zero, suc, ◌+◌, ◌-◌, ◌<◌, ◌≤◌, Bool, true, false, ◌==◌, ◌||◌, ◌&&◌, not, inl, inr, List, [], ◌∷◌, length, Option, None, Some, refl, sym, ap, ap₂, ◌∙◌, subst, arith}
use Rattle.std.specs.Prelude.{slice_get, option_map}
use Rattle.std.specs.List.{list_any}
use Rattle.rip_base.specs.declared.value.Span.{Span}
use Rattle.std.proofs.lemmas.Bool.{cases_lt, eq-eqb, ne_eqb}
use Rattle.std.proofs.lemmas.Option.{same_Some, none-some, slice_get-map}
use Rattle.std.proofs.lemmas.List.{length-map, get_or-map, get_or_past}
use Rattle.rip_dom.specs.declared.dom.NodeRecord.{NodeRecord}
use Rattle.rip_dom.specs.declared.lists.Ends.{Ends}
use Rattle.rip_dom.specs.declared.lists.Item.{Item}
use Rattle.rip_dom.specs.Lists.{Lists, list_at, is_place}
use Rattle.rip_dom.specs.Linked.{no_ends, ends_at, item_at, forward, backward, walk, lists_of, Path, AreLinked}
use Rattle.rip_dom.specs.Tree.{Node, Tree, way_up, parent_of, node_at, is_element, has_other_element}
use Rattle.rip_dom.specs.Document.{pair_at, tree_of}
use Rattle.rip_dom.specs.Walks.{is_other_element}
use Rattle.rip_dom.proofs.TreeLemmas.{Fits, node-at, children-are}

-- UPWARDS

abbrev pub meets : ℕ → List ℕ → Bool
meets u ns = list_any (λ m. m == u) ns

meets-here : (u n : ℕ) (ns : List ℕ) → n ≡ u → meets u (n ∷ ns) ≡ true
meets-here u n ns e = ap (λ b. b || meets u ns) (eq-eqb n u e)

meets-on : (u n : ℕ) (ns : List ℕ) → (n ≡ u → ⊥) → meets u (n ∷ ns) ≡ meets u ns
meets-on u n ns e = ap (λ b. b || meets u ns) (ne_eqb n u e)

one-left : (e i : ℕ) → i < e → e - i ≡ suc (e - (i + 1))
one-left e i h = omega (arith, h)

pub up-found : (t : Tree) (u e i n : ℕ) (x : Option ℕ) → i < e → x ≡ Some n → n ≡ u → meets u (way_up (e - i) t x) ≡ true
up-found t u e i n x h s f = ap₂ (λ k x. meets u (way_up k t x)) (one-left e i h) s ∙ meets-here u n (way_up (e - (i + 1)) t (parent_of t n)) f

pub up-step : (t : Tree) (u e i n : ℕ) (x : Option ℕ) → i < e → x ≡ Some n → (n ≡ u → ⊥) → meets u (way_up (e - i) t x) ≡ meets u (way_up (e - (i + 1)) t (parent_of t n))
up-step t u e i n x h s f = ap₂ (λ k x. meets u (way_up k t x)) (one-left e i h) s ∙ meets-on u n (way_up (e - (i + 1)) t (parent_of t n)) f

up-none-at : (t : Tree) (u k : ℕ) → meets u (way_up k t None) ≡ false
up-none-at t u zero = refl
up-none-at t u (suc k) = refl

pub up-none : (t : Tree) (u k : ℕ) (x : Option ℕ) → x ≡ None → meets u (way_up k t x) ≡ false
up-none t u k x s = ap (λ x. meets u (way_up k t x)) s ∙ up-none-at t u k

pub up-end : (t : Tree) (u e i : ℕ) (x : Option ℕ) → e ≤ i → meets u (way_up (e - i) t x) ≡ false
up-end t u e i x h = let z : e - i ≡ 0 = omega (arith, h) in ap (λ k. meets u (way_up k t x)) z

-- ALONG A LIST

pub walk-found : (f : ℕ → Bool) (I : List Item) (e i n : ℕ) (x : Option ℕ) → i < e → x ≡ Some n → f n ≡ true → list_any f (walk (e - i) I x) ≡ true
walk-found f I e i n x h s g = ap₂ (λ k x. list_any f (walk k I x)) (one-left e i h) s ∙ ap (λ b. b || list_any f (walk (e - (i + 1)) I (item_at I n).next)) g

pub walk-step : (f : ℕ → Bool) (I : List Item) (e i n : ℕ) (x : Option ℕ) → i < e → x ≡ Some n → f n ≡ false → list_any f (walk (e - i) I x) ≡ list_any f (walk (e - (i + 1)) I (item_at I n).next)
walk-step f I e i n x h s g = ap₂ (λ k x. list_any f (walk k I x)) (one-left e i h) s ∙ ap (λ b. b || list_any f (walk (e - (i + 1)) I (item_at I n).next)) g

walk-none-at : (f : ℕ → Bool) (I : List Item) (k : ℕ) → list_any f (walk k I None) ≡ false
walk-none-at f I zero = refl
walk-none-at f I (suc k) = refl

pub walk-none : (f : ℕ → Bool) (I : List Item) (k : ℕ) (x : Option ℕ) → x ≡ None → list_any f (walk k I x) ≡ false
walk-none f I k x s = ap (λ x. list_any f (walk k I x)) s ∙ walk-none-at f I k

pub walk-end : (f : ℕ → Bool) (I : List Item) (e i : ℕ) (x : Option ℕ) → e ≤ i → list_any f (walk (e - i) I x) ≡ false
walk-end f I e i x h = let z : e - i ≡ 0 = omega (arith, h) in ap (λ k. list_any f (walk k I x)) z

walk-nothing : (k : ℕ) (I : List Item) → walk k I None ≡ []
walk-nothing zero I = refl
walk-nothing (suc k) I = refl

-- a list is what the links from its first item on lead along
pub walk-list : (E : List Ends) (I : List Item) (p : ℕ) → walk (length I) I (ends_at E p).first ≡ list_at (lists_of E I) p
walk-list E I p =
    elim (cases_lt p (length E)) [
      | inl h ↦ sym (get_or-map (λ e. walk (length I) I e.first) E p no_ends [] h)
      | inr g ↦
          ap (λ (d : Ends). walk (length I) I d.first) (get_or_past E p no_ends g) ∙ walk-nothing (length I) I
          ∙ sym (get_or_past (lists_of E I) p [] (subst (λ k. k ≤ p) (sym (length-map E (λ e. walk (length I) I e.first))) g))
    ]

pub walk-start : (f : ℕ → Bool) (E : List Ends) (I : List Item) (p e : ℕ) (d : Ends) → d ≡ ends_at E p → e ≡ length I → list_any f (walk (e - 0) I d.first) ≡ list_any f (list_at (lists_of E I) p)
walk-start f E I p e d s h =
    let z : e - 0 ≡ length I = omega (arith, h) in
    ap₂ (λ k (d : Ends). list_any f (walk k I d.first)) z s ∙ ap (list_any f) (walk-list E I p)

-- OTHER ELEMENTS

any-same : (f g : ℕ → Bool) → ((n : ℕ) → f n ≡ g n) → (ns : List ℕ) → list_any f ns ≡ list_any g ns
any-same f g e [] = refl
any-same f g e (n ∷ ns) = ap₂ (λ a b. a || b) (e n) (any-same f g e ns)

pub other-element : (lim : ℕ) (R : List NodeRecord) (C A : Lists) (P : List (Span × Span)) (p c : ℕ) (o : Option ℕ) → Fits R C A
    → list_any (is_other_element R c o) (list_at C.lists p) ≡ has_other_element (tree_of lim R C A P) p c o
other-element lim R C A P p c o f =
    any-same (is_other_element R c o) (λ n. is_element (node_at (tree_of lim R C A P) n).kind && (not (n == c) && not (is_place o n)))
    (λ n. ap (λ (x : Node). is_element x.kind && (not (n == c) && not (is_place o n))) (sym (node-at lim R C A P f n))) (list_at C.lists p)
    ∙ ap (list_any (λ n. is_element (node_at (tree_of lim R C A P) n).kind && (not (n == c) && not (is_place o n)))) (children-are lim R C A P f p)

-- THE ITEM AT A PLACE

-- what is left of a list behind the item x, from the item `at` on: so many places on stands what is looked for
pub record Rests (E : List Ends) (I : List Item) (p : ℕ) (at : Option ℕ) (left : ℕ) (found : Option ℕ) : Type 0 where
  pub x : Option ℕ
  pub rest : List ℕ
  pub path : Path (forward E I p) (backward E I p) x rest
  pub here : at ≡ forward E I p x
  pub same : slice_get rest left ≡ found

pub place-start : (E : List Ends) (I : List Item) (p place limit er ir : ℕ) (d : Ends) → AreLinked E I limit er ir → d ≡ ends_at E p → Rests E I p d.first (place - 0) (slice_get (list_at (lists_of E I) p) place)
place-start E I p place limit er ir d a e =
    let z : place - 0 ≡ place = omega arith in
    record { x = None; rest = list_at (lists_of E I) p; path = a.links.paths p; here = ap (λ (d : Ends). d.first) e; same = ap (slice_get (list_at (lists_of E I) p)) z }

more-by : (E : List Ends) (I : List Item) (p n left : ℕ) (x at found : Option ℕ) (rest : List ℕ) (i : Item) → Path (forward E I p) (backward E I p) x rest → at ≡ forward E I p x → slice_get rest (suc left) ≡ found → at ≡ Some n → i ≡ item_at I n → Rests E I p i.next left found
more-by E I p n left x at found [] i w h s e f = absurd (none-some n (sym (h ∙ w.0) ∙ e))
more-by E I p n left x at found (m ∷ rest) i w h s e f =
    let same : n ≡ m = same_Some n m (sym e ∙ h ∙ w.0) in
    record { x = Some m; rest = rest; path = w.3; here = ap (λ (i : Item). i.next) f ∙ ap (λ k. (item_at I k).next) same; same = s }

pub place-more : (E : List Ends) (I : List Item) (p place i n : ℕ) (at found : Option ℕ) (t : Item) → Rests E I p at (place - i) found → i < place → at ≡ Some n → t ≡ item_at I n → Rests E I p t.next (place - (i + 1)) found
place-more E I p place i n at found t r h e f =
    more-by E I p n (place - (i + 1)) r.x at found r.rest t r.path r.here (ap (slice_get r.rest) (sym (one-left place i h)) ∙ r.same) e f

none-by : (E : List Ends) (I : List Item) (p left : ℕ) (x at found : Option ℕ) (rest : List ℕ) → Path (forward E I p) (backward E I p) x rest → at ≡ forward E I p x → slice_get rest left ≡ found → at ≡ None → None ≡ found
none-by E I p left x at found [] w h s e = s
none-by E I p left x at found (m ∷ rest) w h s e = absurd (none-some m (sym e ∙ h ∙ w.0))

pub place-none : (E : List Ends) (I : List Item) (p left : ℕ) (at found : Option ℕ) → Rests E I p at left found → at ≡ None → None ≡ found
place-none E I p left at found r e = none-by E I p left r.x at found r.rest r.path r.here r.same e

end-by : (E : List Ends) (I : List Item) (p : ℕ) (x at found : Option ℕ) (rest : List ℕ) → Path (forward E I p) (backward E I p) x rest → at ≡ forward E I p x → slice_get rest 0 ≡ found → at ≡ found
end-by E I p x at found [] w h s = h ∙ w.0 ∙ s
end-by E I p x at found (m ∷ rest) w h s = h ∙ w.0 ∙ s

pub place-end : (E : List Ends) (I : List Item) (p place i : ℕ) (at found : Option ℕ) → Rests E I p at (place - i) found → place ≤ i → at ≡ found
place-end E I p place i at found r h =
    let z : place - i ≡ 0 = omega (arith, h) in
    end-by E I p r.x at found r.rest r.path r.here (ap (slice_get r.rest) (sym z) ∙ r.same)

-- ATTRIBUTES

pub attributes-are : (lim : ℕ) (R : List NodeRecord) (C A : Lists) (P : List (Span × Span)) → Fits R C A → (n place : ℕ) → option_map (pair_at P) (slice_get (list_at A.lists n) place) ≡ slice_get (node_at (tree_of lim R C A P) n).attributes place
attributes-are lim R C A P f n place =
    sym (slice_get-map (pair_at P) (list_at A.lists n) place) ∙ ap (λ (x : Node). slice_get x.attributes place) (sym (node-at lim R C A P f n))

pub attribute-some : (P : List (Span × Span)) (o : Option ℕ) (k : ℕ) (v : Span × Span) → o ≡ Some k → v ≡ pair_at P k → Some v ≡ option_map (pair_at P) o
attribute-some P o k v e f = ap (λ v. Some v) f ∙ sym (ap (option_map (pair_at P)) e)

pub attribute-none : (P : List (Span × Span)) (o : Option ℕ) → o ≡ None → None ≡ option_map (pair_at P) o
attribute-none P o e = sym (ap (option_map (pair_at P)) e)
