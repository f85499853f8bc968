-- The order in which early errors count, and the one that counts first in two lists.
use Rattle.std.proofs.Common.{◌≡◌, ℕ, ◌+◌, ◌⊎◌, inl, inr, List, [], ◌∷◌, ◌++◌, length, Some, None, Option, not, append_assoc, sym, ap, ◌∙◌, subst, arith}
use Rattle.std.specs.List.{Contains, flat_map, range_with_len}
use Rattle.std.proofs.lemmas.Grind.{flat_map-append}
use Rattle.std.proofs.lemmas.List.{append-nil}
use Rattle.std.proofs.lemmas.List.Elements.{All-append, All-weaker, Contains-append_left, Contains-append_right}
use Rattle.rip_tree.specs.Branches.{Plant, node_of}
use Rattle.rip_early.specs.declared.mistake.Mistake.{Mistake}
use Rattle.rip_early.specs.declared.refusal.EarlyKind.TheVariants.{NotStrict}
use Rattle.rip_early.specs.Least.{IsLeast}
use Rattle.rip_early.specs.Mistakes.{IsNoLater, is_strict, mistake, mistakes, mistakes_of, where_so}
use Rattle.rip_early.specs.Names.{Name}
use Rattle.rip_early.proofs.Gathering.{numbers-more}

pub no_later_trans : (a b c : Mistake) → IsNoLater a b → IsNoLater b c → IsNoLater a c
no_later_trans a b c (inl h) (inl k) = inl (omega arith)
no_later_trans a b c (inl h) (inr k) = inl (omega (arith, k.0))
no_later_trans a b c (inr h) (inl k) = inl (omega (arith, h.0))
no_later_trans a b c (inr h) (inr k) = inr (h.0 ∙ k.0, omega (arith, h.1, k.1))

-- the list has none, or the other has none
pub least-none : (a b : List Mistake) (o : Option Mistake) → IsLeast a None → IsLeast b o → IsLeast (a ++ b) o
least-none a b o none least = subst (λ l. IsLeast (l ++ b) o) (sym none) least

pub least-end : (a b : List Mistake) (o : Option Mistake) → IsLeast a o → IsLeast b None → IsLeast (a ++ b) o
least-end a b o least none = subst (λ l. IsLeast (a ++ l) o) (sym none) (subst (λ l. IsLeast l o) (sym (append-nil a)) least)

found_in_both : (a b : List Mistake) (one other r : Mistake) → (r ≡ one) ⊎ (r ≡ other) → Contains a one → Contains b other → Contains (a ++ b) r
found_in_both a b one other r (inl is) in_a in_b = Contains-append_left a b r (subst (Contains a) (sym is) in_a)
found_in_both a b one other r (inr is) in_a in_b = Contains-append_right a b r (subst (Contains b) (sym is) in_b)

-- of two that count first in their lists, the one that does not count after the other counts first in both
pub least-both : (a b : List Mistake) (one other r : Mistake) → (r ≡ one) ⊎ (r ≡ other) → IsNoLater r one → IsNoLater r other
    → IsLeast a (Some one) → IsLeast b (Some other) → IsLeast (a ++ b) (Some r)
least-both a b one other r either before_one before_other in_a in_b = (
  found_in_both a b one other r either in_a.0 in_b.0,
  All-append (IsNoLater r) a b
      (All-weaker (IsNoLater one) (IsNoLater r) (λ m h. no_later_trans r one m before_one h) a in_a.1)
      (All-weaker (IsNoLater other) (IsNoLater r) (λ m h. no_later_trans r other m before_other h) b in_b.1),
)

-- the early errors of a script, of whose nodes only the first count
abbrev pub mistakes_before : List Name → Plant → ℕ → List Mistake
mistakes_before top t count = where_so (not (is_strict t)) (mistake 0 NotStrict) ++ flat_map (λ id. mistakes_of top t id (node_of t.branches id)) (range_with_len 0 count)

-- those with one node more
pub mistakes_before-more : (top : List Name) (t : Plant) (id : ℕ) → mistakes_before top t (id + 1) ≡ mistakes_before top t id ++ mistakes_of top t id (node_of t.branches id)
mistakes_before-more top t id =
    let f : ℕ → List Mistake = λ n. mistakes_of top t n (node_of t.branches n) in
    let front : List Mistake = where_so (not (is_strict t)) (mistake 0 NotStrict) in
    ap (λ ns. front ++ flat_map f ns) (numbers-more id)
    ∙ ap (λ ms. front ++ ms) (flat_map-append f (range_with_len 0 id) (id ∷ []) ∙ ap (λ ms. flat_map f (range_with_len 0 id) ++ ms) (append-nil (f id)))
    ∙ sym (append_assoc front (flat_map f (range_with_len 0 id)) (f id))

-- the early error that counts first, when a node more was looked at
pub least-more : (top : List Name) (t : Plant) (id : ℕ) (o : Option Mistake) → IsLeast (mistakes_before top t id ++ mistakes_of top t id (node_of t.branches id)) o
    → IsLeast (mistakes_before top t (id + 1)) o
least-more top t id o least = subst (λ ms. IsLeast ms o) (sym (mistakes_before-more top t id)) least

-- when all nodes were looked at
pub least-all : (top : List Name) (t : Plant) (count : ℕ) (o : Option Mistake) → count ≡ length t.branches → IsLeast (mistakes_before top t count) o → IsLeast (mistakes top t) o
unfolding mistakes
least-all top t count o all least = subst (λ n. IsLeast (mistakes_before top t n) o) all least
