-- Scripts have a first early error, or they are clean.
use Rattle.std.proofs.Common.{◌≡◌, ℕ, ◌+◌, ◌<◌, ◌≤◌, ◌⊎◌, inl, inr, List, [], ◌∷◌, ◌++◌, length, refl, sym, ◌∙◌, subst, arith, append_assoc, append-nil}
use Rattle.std.specs.List.{All, Contains}
use Rattle.std.proofs.lemmas.Bool.{cases_lt}
use Rattle.std.proofs.lemmas.List.Elements.{All-append, All-cons, Contains-append_right}
use Rattle.rip_tree.specs.Branches.{Plant}
use Rattle.rip_early.specs.declared.mistake.Mistake.{Mistake}
use Rattle.rip_early.specs.Laws.{HaveAnAnswer}
use Rattle.rip_early.specs.Mistakes.{IsFirst, IsNoLater, mistakes, order_of}
use Rattle.rip_early.specs.Names.{top_scope}
use Rattle.rip_early.proofs.Firsts.{HaveNone}

-- of two early errors one does not count after the other
either : (a b : Mistake) → IsNoLater a b ⊎ IsNoLater b a
either a b = elim (cases_lt a.place b.place) [
  | inl less ↦ inl (inl less)
  | inr more ↦ elim (cases_lt b.place a.place) [
    | inl less ↦ inr (inl less)
    | inr within ↦
        let same : a.place ≡ b.place = omega arith in
        elim (cases_lt (order_of b.kind) (order_of a.kind)) [
          | inl less ↦ inr (inr (sym same, omega arith))
          | inr kinds ↦ inl (inr (same, kinds))
        ]
  ]
]

then : (a b d : Mistake) → IsNoLater a b → IsNoLater b d → IsNoLater a d
then a b d (inl x) (inl y) = inl (omega arith)
then a b d (inl x) (inr y) = inl (omega (arith, y.0))
then a b d (inr x) (inl y) = inl (omega (arith, x.0))
then a b d (inr x) (inr y) = inr (x.0 ∙ y.0, omega (arith, x.1, y.1))

no_later_itself : (a : Mistake) → IsNoLater a a
no_later_itself a = inr (refl, omega arith)

none_of : (P : Mistake → Type 0) → All P []
none_of P k d less = absurd (omega arith)

-- an early error of these counts before all others
abbrev HasLeast : List Mistake → Type 0
HasLeast ms = (m : Mistake) × Contains ms m × All (IsNoLater m) ms

least_with : (m : Mistake) (ms : List Mistake) → (ms ≡ []) ⊎ HasLeast ms → HasLeast (m ∷ ms)
least_with m ms (inl none) =
    (m, (0, omega arith, refl), All-cons (IsNoLater m) m ms (no_later_itself m) (subst (All (IsNoLater m)) (sym none) (none_of (IsNoLater m))))
least_with m ms (inr (n, found, first)) = elim (either m n) [
  | inl before ↦ (m, (0, omega arith, refl), All-cons (IsNoLater m) m ms (no_later_itself m) (λ k d less. then m n _ before (first k d less)))
  | inr behind ↦ (n, Contains-append_right (m ∷ []) ms n found, All-cons (IsNoLater n) m ms behind first)
]

least_of : (ms : List Mistake) → (ms ≡ []) ⊎ HasLeast ms
least_of [] = inl refl
least_of (m ∷ ms) = inr (least_with m ms (least_of ms))

-- the scripts are clean, or one of them has the first early error
abbrev Answer : List Plant → Type 0
Answer all = HaveNone all all ⊎ ((script : ℕ) × (m : Mistake) × IsFirst all script m)

answer_with : (all before trees : List Plant) (tree : Plant) → all ≡ before ++ tree ∷ trees → HaveNone all before
    → (mistakes (top_scope all) tree ≡ []) ⊎ HasLeast (mistakes (top_scope all) tree) → (HaveNone all (before ++ tree ∷ []) → Answer all) → Answer all
answer_with all before trees tree split clean (inl none) more =
    more (All-append (λ t. mistakes (top_scope all) t ≡ []) before (tree ∷ []) clean
    (All-cons (λ t. mistakes (top_scope all) t ≡ []) tree [] none (λ k d less. absurd (omega arith))))
answer_with all before trees tree split clean (inr (m, found, first)) more =
    inr (length before + 1, m, record { before = before; tree = tree; after = trees; split = split; number = refl; clean = clean; found = found; first = first })

answer_from : (all before trees : List Plant) → all ≡ before ++ trees → HaveNone all before → Answer all
answer_from all before [] split clean = inl (subst (HaveNone all) (sym (split ∙ append-nil before)) clean)
answer_from all before (tree ∷ trees) split clean =
    answer_with all before trees tree split clean (least_of (mistakes (top_scope all) tree))
    (λ more. answer_from all (before ++ tree ∷ []) trees (split ∙ sym (append_assoc before (tree ∷ []) trees)) more)

pub an_answer : HaveAnAnswer
an_answer trees = answer_from trees [] trees refl (λ k d less. absurd (omega arith))
