-- Names in small letters, and the first attribute that has one.
use Rattle.std.proofs.Common.{◌≡◌, ℕ, zero, suc, ◌+◌, ◌-◌, ◌<◌, ◌≤◌, Bool, true, false, cond, ◌==◌, ◌&&◌, List, [], ◌∷◌, length, map, drop, get_or, Option, None, Some, refl, sym, ap, ap₂, ◌∙◌, arith}
use Rattle.std.specs.Prelude.{find, option_map}
use Rattle.std.proofs.lemmas.Bool.{eq-eqb, ne_eqb}
use Rattle.std.proofs.lemmas.List.{drop_more, drop_all}
use Rattle.rip_base.specs.declared.value.Span.{Span}
use Rattle.rip_values.specs.Pool.{Texts}
use Rattle.rip_base.specs.Units.{small_unit}
use Rattle.rip_dom.specs.declared.dom.NodeRecord.{NodeRecord}
use Rattle.rip_dom.specs.declared.lists.Ends.{Ends}
use Rattle.rip_dom.specs.declared.lists.Item.{Item}
use Rattle.rip_dom.specs.Lists.{Lists, list_at}
use Rattle.rip_dom.specs.Linked.{ends_at, item_at, walk, lists_of}
use Rattle.rip_dom.specs.Tree.{Node}
use Rattle.rip_dom.specs.Document.{pair_at, tree_of}
use Rattle.rip_dom.specs.Names.{is_small, has_name, attribute_of, is_named}
use Rattle.rip_dom.proofs.TreeLemmas.{Fits, node-at}
use Rattle.rip_dom.proofs.WalkLemmas.{walk-list}

-- texts of different lengths
pub small-length : (ts us : List ℕ) → (length ts ≡ length us → ⊥) → is_small ts us ≡ false
small-length [] [] h = absurd (h refl)
small-length [] (u ∷ us) h = refl
small-length (t ∷ ts) [] h = refl
small-length (t ∷ ts) (u ∷ us) h = ap (λ b. t == small_unit u && b) (small-length ts us (λ e. h (ap suc e))) ∙ and-false (t == small_unit u)
  where
    and-false : (b : Bool) → (b && false) ≡ false
    and-false true = refl
    and-false false = refl

small-next : (ts us : List ℕ) (i : ℕ) → i < length ts → i < length us → is_small (drop i ts) (drop i us) ≡ (get_or ts i 0 == small_unit (get_or us i 0) && is_small (drop (i + 1) ts) (drop (i + 1) us))
small-next ts us i h k = ap₂ is_small (drop_more ts i 0 h) (drop_more us i 0 k)

pub small-more : (ts us : List ℕ) (i t u : ℕ) → i < length ts → length ts ≡ length us → t ≡ get_or ts i 0 → u ≡ small_unit (get_or us i 0) → t ≡ u → is_small (drop i ts) (drop i us) ≡ is_small (drop (i + 1) ts) (drop (i + 1) us)
small-more ts us i t u h l f g e =
    small-next ts us i h (omega (arith, h, l))
    ∙ ap (λ b. b && is_small (drop (i + 1) ts) (drop (i + 1) us)) (eq-eqb (get_or ts i 0) (small_unit (get_or us i 0)) (sym f ∙ e ∙ g))

pub small-not : (ts us : List ℕ) (i t u : ℕ) → i < length ts → length ts ≡ length us → t ≡ get_or ts i 0 → u ≡ small_unit (get_or us i 0) → (t ≡ u → ⊥) → is_small (drop i ts) (drop i us) ≡ false
small-not ts us i t u h l f g e =
    small-next ts us i h (omega (arith, h, l))
    ∙ ap (λ b. b && is_small (drop (i + 1) ts) (drop (i + 1) us)) (ne_eqb (get_or ts i 0) (small_unit (get_or us i 0)) (λ s. e (f ∙ s ∙ sym g)))

pub small-end : (ts us : List ℕ) (i : ℕ) → length ts ≤ i → length ts ≡ length us → is_small (drop i ts) (drop i us) ≡ true
small-end ts us i h l = ap₂ is_small (drop_all i ts h) (drop_all i us (omega (arith, h, l)))

-- THE FIRST OF A LIST

one-left : (e i : ℕ) → i < e → e - i ≡ suc (e - (i + 1))
one-left e i h = omega (arith, h)

pub find-here : (f : ℕ → Bool) (I : List Item) (e i n : ℕ) (x : Option ℕ) → i < e → x ≡ Some n → f n ≡ true → find f (walk (e - i) I x) ≡ Some n
find-here f I e i n x h s g = ap₂ (λ k x. find f (walk k I x)) (one-left e i h) s ∙ ap (λ b. cond b (Some n) (find f (walk (e - (i + 1)) I (item_at I n).next))) g

pub find-on : (f : ℕ → Bool) (I : List Item) (e i n : ℕ) (x : Option ℕ) → i < e → x ≡ Some n → f n ≡ false → find f (walk (e - i) I x) ≡ find f (walk (e - (i + 1)) I (item_at I n).next)
find-on f I e i n x h s g = ap₂ (λ k x. find f (walk k I x)) (one-left e i h) s ∙ ap (λ b. cond b (Some n) (find f (walk (e - (i + 1)) I (item_at I n).next))) g

find-none-at : (f : ℕ → Bool) (I : List Item) (k : ℕ) → find f (walk k I None) ≡ None
find-none-at f I zero = refl
find-none-at f I (suc k) = refl

pub find-none : (f : ℕ → Bool) (I : List Item) (k : ℕ) (x : Option ℕ) → x ≡ None → find f (walk k I x) ≡ None
find-none f I k x s = ap (λ x. find f (walk k I x)) s ∙ find-none-at f I k

pub find-end : (f : ℕ → Bool) (I : List Item) (e i : ℕ) (x : Option ℕ) → e ≤ i → find f (walk (e - i) I x) ≡ None
find-end f I e i x h = let z : e - i ≡ 0 = omega (arith, h) in ap (λ k. find f (walk k I x)) z

pub find-start : (f : ℕ → Bool) (E : List Ends) (I : List Item) (p e : ℕ) (d : Ends) → d ≡ ends_at E p → e ≡ length I → find f (walk (e - 0) I d.first) ≡ find f (list_at (lists_of E I) p)
find-start f E I p e d s h =
    let z : e - 0 ≡ length I = omega (arith, h) in
    ap₂ (λ k (d : Ends). find f (walk k I d.first)) z s ∙ ap (find f) (walk-list E I p)

-- THE VALUE OF AN ATTRIBUTE

found-by : (b : Bool) (P : List (Span × Span)) (k : ℕ) (o : Option ℕ) (q : Option (Span × Span)) → option_map (pair_at P) o ≡ q → option_map (pair_at P) (cond b (Some k) o) ≡ cond b (Some (pair_at P k)) q
found-by true P k o q e = refl
found-by false P k o q e = e

found-pair : (pool : Texts) (P : List (Span × Span)) (name : List ℕ) (ks : List ℕ) → option_map (pair_at P) (find (is_named pool P name) ks) ≡ find (has_name pool name) (map (pair_at P) ks)
found-pair pool P name [] = refl
found-pair pool P name (k ∷ ks) = found-by (is_named pool P name k) P k (find (is_named pool P name) ks) (find (has_name pool name) (map (pair_at P) ks)) (found-pair pool P name ks)

value-of : (P : List (Span × Span)) (o : Option ℕ) → option_map (λ k. (pair_at P k).1) o ≡ option_map (λ a. a.1) (option_map (pair_at P) o)
value-of P None = refl
value-of P (Some k) = refl

pub attribute-is : (lim : ℕ) (R : List NodeRecord) (C A : Lists) (P : List (Span × Span)) (pool : Texts) (n : ℕ) (name : List ℕ) → Fits R C A
    → option_map (λ k. (pair_at P k).1) (find (is_named pool P name) (list_at A.lists n)) ≡ attribute_of pool (tree_of lim R C A P) n name
attribute-is lim R C A P pool n name f =
    value-of P (find (is_named pool P name) (list_at A.lists n))
    ∙ ap (option_map (λ (a : Span × Span). a.1)) (found-pair pool P name (list_at A.lists n) ∙ ap (λ (x : Node). find (has_name pool name) x.attributes) (sym (node-at lim R C A P f n)))

pub value-found : (P : List (Span × Span)) (o : Option ℕ) (k : ℕ) (v : Span × Span) → o ≡ Some k → v ≡ pair_at P k → Some v.1 ≡ option_map (λ k. (pair_at P k).1) o
value-found P o k v e f = ap (λ (v : Span × Span). Some v.1) f ∙ sym (ap (option_map (λ k. (pair_at P k).1)) e)

pub value-missing : (P : List (Span × Span)) (o : Option ℕ) → o ≡ None → None ≡ option_map (λ k. (pair_at P k).1) o
value-missing P o e = sym (ap (option_map (λ k. (pair_at P k).1)) e)
