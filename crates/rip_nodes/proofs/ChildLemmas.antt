-- The way along the children of a node, by the links between them.
use Rattle.std.proofs.Common.{◌≡◌, ℕ, zero, suc, ◌+◌, ◌<◌, ◌⊎◌, inl, inr, Bool, true, false, Option, None, Some, List, [], ◌∷◌, length, refl, sym, ap, ◌∙◌, subst, arith}
use Rattle.std.specs.Prelude.{find, ◌==◌, if◌then◌else◌}
use Rattle.std.proofs.lemmas.Bool.{cases_eq, cond-true, cond-false, eq-eqb, ne_eqb}
use Rattle.std.proofs.lemmas.Option.{none-some}
use Rattle.rip_dom.specs.Laws.{Agree}
use Rattle.rip_dom.specs.Linked.{Has, Differ}
use Rattle.rip_dom.specs.Lists.{first_of, item_behind}
use Rattle.rip_dom.specs.Tree.{Tree, children_of, next_of, parent_of}
use Rattle.rip_nodes.proofs.LinkLemmas.{first-has, behind-has}

-- the items from this one on
abbrev pub suffix : Option ℕ → List ℕ → List ℕ
suffix None ns = []
suffix (Some n) [] = []
suffix (Some n) (m ∷ ms) = if m == n then (m ∷ ms) else suffix (Some n) ms

suffix-here : (n m : ℕ) (ms : List ℕ) → m ≡ n → suffix (Some n) (m ∷ ms) ≡ m ∷ ms
suffix-here n m ms e = cond-true (m == n) (m ∷ ms) (suffix (Some n) ms) (eq-eqb m n e)

suffix-on : (n m : ℕ) (ms : List ℕ) → (m ≡ n → ⊥) → suffix (Some n) (m ∷ ms) ≡ suffix (Some n) ms
suffix-on n m ms e = cond-false (m == n) (m ∷ ms) (suffix (Some n) ms) (ne_eqb m n e)

suffix-start : (ns : List ℕ) → suffix (first_of ns) ns ≡ ns
suffix-start [] = refl
suffix-start (m ∷ ms) = suffix-here m m ms refl

suffix-skip : (x : Option ℕ) (m : ℕ) (ms : List ℕ) → (x ≡ Some m → ⊥) → suffix x (m ∷ ms) ≡ suffix x ms
suffix-skip None m ms h = refl
suffix-skip (Some n) m ms h = suffix-on n m ms (λ e. h (ap (λ k. Some k) (sym e)))

suffix-next : (ns : List ℕ) (n : ℕ) → Differ ns → Has n ns → suffix (Some n) ns ≡ n ∷ suffix (item_behind n ns) ns
suffix-next [] n d h = absurd h
suffix-next (m ∷ ms) n d h =
    elim (cases_eq m n) [
      | inl e ↦
          suffix-here n m ms e
          ∙ ap (λ k. k ∷ ms) e
          ∙ ap (λ l. n ∷ l) (sym (
          ap (λ x. suffix x (m ∷ ms)) (cond-true (m == n) (first_of ms) (item_behind n ms) (eq-eqb m n e))
          ∙ suffix-skip (first_of ms) m ms (λ f. d.0 (first-has ms m f))
          ∙ suffix-start ms))
      | inr e ↦
          let on : Has n ms = elim h [ inl f ↦ absurd (e (sym f)) | inr g ↦ g ] in
          suffix-on n m ms e
          ∙ suffix-next ms n d.1 on
          ∙ ap (λ l. n ∷ l) (sym (
          ap (λ x. suffix x (m ∷ ms)) (cond-false (m == n) (first_of ms) (item_behind n ms) (ne_eqb m n e))
          ∙ suffix-skip (item_behind n ms) m ms (λ f. d.0 (behind-has n ms m f))))
    ]

-- the way along the children of the document has come so far: none of those before passes the test
pub record IsOnWay (t : Tree) (p : ℕ → Bool) (at : Option ℕ) : Type 0 where
  pub known : (n : ℕ) → at ≡ Some n → Has n (children_of t 0)
  pub found : find p (children_of t 0) ≡ find p (suffix at (children_of t 0))

pub way-start : (t : Tree) (p : ℕ → Bool) (at : Option ℕ) → at ≡ first_of (children_of t 0) → IsOnWay t p at
way-start t p at e = record {
  known = λ n f. first-has (children_of t 0) n (sym e ∙ f);
  found = sym (ap (find p) (ap (λ x. suffix x (children_of t 0)) e ∙ suffix-start (children_of t 0)));
}

way-behind : (t : Tree) (n : ℕ) → Agree t → Has n (children_of t 0) → next_of t n (parent_of t n) ≡ item_behind n (children_of t 0)
way-behind t n a h = ap (next_of t n) ((a.are 0 n).0 h)

way-step : (t : Tree) (p : ℕ → Bool) (n : ℕ) → Agree t → IsOnWay t p (Some n) → suffix (Some n) (children_of t 0) ≡ n ∷ suffix (next_of t n (parent_of t n)) (children_of t 0)
way-step t p n a w =
    let h = w.known n refl in
    suffix-next (children_of t 0) n (a.once 0) h
    ∙ ap (λ x. n ∷ suffix x (children_of t 0)) (sym (way-behind t n a h))

pub way-on : (t : Tree) (p : ℕ → Bool) (n : ℕ) (at next : Option ℕ) → Agree t → IsOnWay t p at → at ≡ Some n → p n ≡ false → next ≡ next_of t n (parent_of t n) → IsOnWay t p next
way-on t p n at next a w i f e =
    let v = subst (IsOnWay t p) i w in
    let h = v.known n refl in
    record {
      known = λ m g. behind-has n (children_of t 0) m (sym (way-behind t n a h) ∙ sym e ∙ g);
      found =
          v.found
          ∙ ap (find p) (way-step t p n a v)
          ∙ cond-false (p n) (Some n) (find p (suffix (next_of t n (parent_of t n)) (children_of t 0))) f
          ∙ ap (λ x. find p (suffix x (children_of t 0))) (sym e);
    }

pub way-found : (t : Tree) (p : ℕ → Bool) (n : ℕ) (at : Option ℕ) → Agree t → IsOnWay t p at → at ≡ Some n → p n ≡ true → find p (children_of t 0) ≡ Some n
way-found t p n at a w i f =
    let v = subst (IsOnWay t p) i w in
    v.found ∙ ap (find p) (way-step t p n a v)
    ∙ cond-true (p n) (Some n) (find p (suffix (next_of t n (parent_of t n)) (children_of t 0))) f

pub way-end : (t : Tree) (p : ℕ → Bool) (at : Option ℕ) → IsOnWay t p at → at ≡ None → find p (children_of t 0) ≡ None
way-end t p at w i = (subst (IsOnWay t p) i w).found

pub way-shorter : (t : Tree) (p : ℕ → Bool) (n : ℕ) (at next : Option ℕ) → Agree t → IsOnWay t p at → at ≡ Some n → next ≡ next_of t n (parent_of t n)
    → length (suffix next (children_of t 0)) < length (suffix at (children_of t 0))
way-shorter t p n at next a w i e =
    let v = subst (IsOnWay t p) i w in
    let longer : length (suffix at (children_of t 0)) ≡ suc (length (suffix next (children_of t 0))) =
    ap (λ x. length (suffix x (children_of t 0))) i
    ∙ ap length (way-step t p n a v)
    ∙ ap (λ x. suc (length (suffix x (children_of t 0)))) (sym e) in
    omega (arith, longer)
