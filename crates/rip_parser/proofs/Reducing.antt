-- Open operators that end.
use Rattle.std.proofs.Common.{◌≡◌, ℕ, ◌<◌, Bool, true, false, nat_le, cond, List, [], ◌∷◌, ◌++◌, ◌-◌, length, take, drop, reverse, length-drop, Option, Some, None, refl, sym, ap, ◌∙◌, arith}
use Rattle.std.proofs.lemmas.List.{take-append-drop, reverse-append}
use Rattle.rip_grammar.specs.declared.event.Event.{Event}
use Rattle.rip_automaton.specs.declared.frame.Pending.{Pending}
use Rattle.rip_automaton.specs.declared.frame.Frame.{Frame}
use Rattle.rip_automaton.specs.declared.frame.Frame.TheVariants as F
use Rattle.rip_automaton.specs.declared.mode.Shape.{Shape}
use Rattle.rip_automaton.specs.Frames.{pending_level, may_end, closed, told}
use Rattle.rip_automaton.specs.States.{State}
use Rattle.rip_automaton.specs.Continuations.{reduce}
use Rattle.rip_parser.specs.Running.{ending, others}

-- where no operator ends, nothing is reduced
pub reduce-done : (n : ℕ) (sh : Shape) (st : List Frame) (out : List Event) (next : Shape → List Frame → List Event → Option State) → ending n st ≡ None → reduce n sh st out next ≡ next sh st out
reduce-done n sh [] out next none = refl
reduce-done n sh (F.Operator o b ∷ st) out next none = by (nat_le n (pending_level o)) none
  where
    by : (test : Bool) → cond test (Some o) None ≡ None → cond test (cond (may_end o sh) (reduce n (closed sh) st (told o ∷ out) next) None) (next sh (F.Operator o b ∷ st) out) ≡ next sh (F.Operator o b ∷ st) out
    by true none = cc
    by false none = refl
reduce-done n sh (f ∷ st) out next none = refl

-- where one ends, it ends or may not end
pub reduce-more : (n : ℕ) (sh : Shape) (st : List Frame) (out : List Event) (next : Shape → List Frame → List Event → Option State) (o : Pending) → ending n st ≡ Some o
    → reduce n sh st out next ≡ cond (may_end o sh) (reduce n (closed sh) (others st) (told o ∷ out) next) None
reduce-more n sh [] out next o some = cc
reduce-more n sh (F.Operator p b ∷ st) out next o some = by (nat_le n (pending_level p)) some
  where
    by : (test : Bool) → cond test (Some p) None ≡ Some o → cond test (cond (may_end p sh) (reduce n (closed sh) st (told p ∷ out) next) None) (next sh (F.Operator p b ∷ st) out)
        ≡ cond (may_end o sh) (reduce n (closed sh) st (told o ∷ out) next) None
    by true some = let same : p ≡ o = cc in ap (λ (q : Pending). cond (may_end q sh) (reduce n (closed sh) st (told q ∷ out) next) None) same
    by false some = cc
reduce-more n sh (f ∷ st) out next o some = cc

pub ending-some : (n : ℕ) (st : List Frame) (o : Pending) → ending n st ≡ Some o → length (others st) < length st
ending-some n [] o some = cc
ending-some n (f ∷ st) o some = omega arith

last-gone : (all front last : List Frame) → length last ≡ 1 → all ≡ front ++ last → others (reverse all) ≡ reverse front
last-gone all front [] one splits = absurd (omega arith)
last-gone all front (y ∷ []) one splits = ap (λ (l : List Frame). others (reverse l)) splits ∙ ap others (reverse-append front (y ∷ []))
last-gone all front (y ∷ z ∷ last) one splits = absurd (omega arith)

-- the others of the open forms, when the latest is taken away
pub others-popped : (xs ys : List Frame) → ys ≡ take (length xs - 1) xs → others (reverse xs) ≡ reverse ys
others-popped [] ys is = sym (ap reverse is)
others-popped (x ∷ xs) ys is =
    let n = length (x ∷ xs) - 1 in
    let long : length (drop n (x ∷ xs)) ≡ 1 = omega (arith, length-drop n (x ∷ xs)) in
    last-gone (x ∷ xs) (take n (x ∷ xs)) (drop n (x ∷ xs)) long (sym (take-append-drop n (x ∷ xs))) ∙ sym (ap reverse is)
