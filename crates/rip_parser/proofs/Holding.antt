-- Each node of a tree but its root is the child of one node, once.
use Rattle.std.proofs.Common.{◌≡◌, ◌≢◌, ℕ, zero, suc, ◌+◌, ◌<◌, ◌≤◌, Bool, true, false, cond, ltb, ltb-true, ltb-false, List, [], ◌∷◌, ◌++◌, length, drop, Option, Some, None, inl, inr, ◌⊎◌, refl, sym, ap, ◌∙◌, subst, arith}
use Rattle.std.proofs.lemmas.Bool.Decides.{eqb_tells}
use Rattle.std.specs.Prelude.{◌==◌}
use Rattle.rip_tree.specs.Branches.{Branch, Plant, branch_of}
use Rattle.rip_tree.specs.declared.form.Form.TheVariants as F
use Rattle.rip_grammar.specs.declared.event.Event.{Event}
use Rattle.rip_grammar.specs.declared.event.Event.TheVariants as E
use Rattle.rip_grammar.specs.Events.{emit}
use Rattle.rip_parser.specs.declared.part.Part.{Part}
use Rattle.rip_parser.specs.Words.{lexemes_of}
use Rattle.rip_parser.specs.Shows.{Row}
use Rattle.rip_parser.specs.Building.{numbers, absent, place_over}
use Rattle.rip_parser.specs.Held.{times_among, times_held}
use Rattle.rip_parser.specs.Laws.{AreHeldOnce}
use Rattle.rip_parser.proofs.Parts.{numbers-append}
use Rattle.rip_parser.proofs.Fitting.{IsOf, placed, node_part}
use Rattle.rip_parser.proofs.Trees.{Fitted, body-fits}

times-append : (id : ℕ) (cs ds : Row) → times_among id (cs ++ ds) ≡ times_among id cs + times_among id ds
times-append id [] ds = omega arith
times-append id (None ∷ cs) ds = times-append id cs ds
times-append id (Some c ∷ cs) ds = let below = times-append id cs ds in omega arith

-- how often a number is among parts, and those behind them
times-parts : (id : ℕ) (ps qs : List Part) → times_among id (numbers (ps ++ qs)) ≡ times_among id (numbers ps) + times_among id (numbers qs)
times-parts id ps qs = ap (times_among id) (numbers-append ps qs) ∙ times-append id (numbers ps) (numbers qs)

-- the branches from a number on
from-next : (bs : List Branch) (low : ℕ) (b : Branch) → branch_of bs low ≡ Some b → drop low bs ≡ b ∷ drop (suc low) bs
from-next [] low b is = cc
from-next (x ∷ bs) zero b is = let same : x ≡ b = cc in ap (λ y. y ∷ bs) same
from-next (x ∷ bs) (suc low) b is = from-next bs low b is

from-branch : (bs : List Branch) (low : ℕ) (b : Branch) → branch_of bs low ≡ Some b → drop low bs ≡ b ∷ drop (low + 1) bs
from-branch bs low b is = from-next bs low b is ∙ ap (λ k. b ∷ drop k bs) (more low)
  where
    more : (n : ℕ) → suc n ≡ n + 1
    more n = omega arith

-- so often: once from one number up to another, and else never
record Once (id low high times : ℕ) : Type 0 where
  inside : low ≤ id → id < high → times ≡ 1
  before : id < low → times ≡ 0
  behind : high ≤ id → times ≡ 0

-- one number more is held
once-more : (id low high times : ℕ) → low < high → Once id (low + 1) high times → Once id low high (times + cond (low == id) 1 0)
once-more id low high times room once = elim (eqb_tells low id) [
  | inl here ↦ subst (λ b. Once id low high (times + cond b 1 0)) (sym here.0) (record {
    inside = λ from below. let none = once.before (omega (arith, here.1)) in omega arith;
    before = λ less. absurd (omega (arith, here.1));
    behind = λ past. absurd (omega (arith, here.1));
  })
  | inr other ↦ subst (λ b. Once id low high (times + cond b 1 0)) (sym other.0) (record {
    inside = λ from below. let one = once.inside (above low id from other.1) below in omega arith;
    before = λ less. let none = once.before (omega arith) in omega arith;
    behind = λ past. let none = once.behind past in omega arith;
  })
]
  where
    above : (low id : ℕ) → low ≤ id → low ≢ id → low + 1 ≤ id
    above low id from other = by (ltb low id) refl
      where
        by : (b : Bool) → ltb low id ≡ b → low + 1 ≤ id
        by true less = let past = ltb-true low id less in omega arith
        by false not_less = let past = ltb-false low id not_less in absurd (other (omega arith))

-- the branch with this number is there
there : (bs : List Branch) (low : ℕ) (b : Branch) → branch_of bs low ≡ Some b → low < length bs
there [] low b is = cc
there (x ∷ bs) zero b is = omega arith
there (x ∷ bs) (suc low) b is = let below = there bs low b is in omega arith

module _ (script : List ℕ) (tree : Plant) (id : ℕ) where
  -- how often a number is held from a number on, and among parts that no node has taken yet
  abbrev held-by : ℕ → List Part → ℕ
  held-by low parts = times_held id (drop low tree.branches) + times_among id (numbers parts)

  once-told : (told : List Event) (parts : List Part) (low : ℕ) → IsOf script tree told parts low → Once id low (length tree.branches) (held-by low parts)
  once-told [] parts low p =
      subst (λ ps. Once id low (length tree.branches) (held-by low ps)) (sym p.0)
      (subst (λ n. Once id low (length tree.branches) (n + 0)) (sym (none tree.branches low p.1)) (at-end low (length tree.branches) p.1))
    where
      none : (bs : List Branch) (low : ℕ) → low ≡ length bs → times_held id (drop low bs) ≡ 0
      none [] zero is = refl
      none [] (suc low) is = refl
      none (b ∷ bs) zero is = absurd (omega arith)
      none (b ∷ bs) (suc low) is = none bs low (omega arith)

      at-end : (low high : ℕ) → low ≡ high → Once id low high 0
      at-end low high same = record { inside = λ from below. absurd (omega arith); before = λ less. refl; behind = λ past. refl }
  once-told (E.Absent ∷ told) parts low p =
      let below = once-told told p.0 low p.1 in
      subst (λ n. Once id low (length tree.branches) n) (sum (times_held id (drop low tree.branches)) (times_among id (numbers p.0)) (times_among id (numbers parts)) (ap (λ ps. times_among id (numbers ps)) p.2 ∙ times-parts id p.0 (absent ∷ []))) below
    where
      sum : (a b c : ℕ) → c ≡ b + 0 → a + b ≡ a + c
      sum a b c is = omega arith
  once-told (E.Parenthesized place ∷ told) parts low p =
      let below = once-told told (p.0 ++ p.1 ∷ []) low p.2 in
      let same : times_among id (numbers (p.0 ++ p.1 ∷ [])) ≡ times_among id (numbers parts) =
      times-parts id p.0 (p.1 ∷ []) ∙ sym (times-parts id p.0 (placed place p.1 ∷ [])) ∙ ap (λ ps. times_among id (numbers ps)) (sym p.3) in
      subst (λ n. Once id low (length tree.branches) (times_held id (drop low tree.branches) + n)) same below
  once-told (E.Node place head count ∷ told) parts low (before, below, form, so, many, is, found, parts-is) =
      let rest = once-told told (before ++ below) (low + 1) so in
      let more = once-more id low (length tree.branches) (held-by (low + 1) (before ++ below)) (there tree.branches low _ found) rest in
      let here = ap (times_held id) (from-branch tree.branches low _ found) in
      let left = times-parts id before below in
      let now = ap (λ ps. times_among id (numbers ps)) parts-is ∙ times-parts id before (node_part low (place_over place below) ∷ []) in
      subst (λ n. Once id low (length tree.branches) n)
      (sum (times_held id (drop low tree.branches)) (times_among id (numbers below)) (times_held id (drop (low + 1) tree.branches)) (times_among id (numbers before)) (times_among id (numbers (before ++ below))) (times_among id (numbers parts)) (cond (low == id) 1 0) here left now) more
    where
      sum : (all below rest before both parts one : ℕ) → all ≡ below + rest → both ≡ before + below → parts ≡ before + (one + 0) → (rest + both) + one ≡ all + parts
      sum all below rest before both parts one here left now = omega arith

pub are_held_once : AreHeldOnce
are_held_once script tree is =
    let body = is.found.0 in
    let a = body-fits (lexemes_of script is.tokens) script tree body is.found.1 is.found.2 in
    let root = λ (id : ℕ). ap (times_held id) (from-branch tree.branches 0 _ a.root) in
    let once = λ (id : ℕ). once-told script tree id (emit body []) a.parts 1 a.so in
    let all : (id : ℕ) → times_held id tree.branches ≡ times_held id (drop 1 tree.branches) + times_among id (numbers a.parts) =
    λ id. swap (times_held id tree.branches) (times_among id (numbers a.parts)) (times_held id (drop 1 tree.branches)) (root id) in
    (all 0 ∙ (once 0).before (omega arith), λ id some below. all id ∙ (once id).inside (omega arith) below)
  where
    swap : (all a b : ℕ) → all ≡ a + b → all ≡ b + a
    swap all a b is = omega arith
