-- Requests are handled in the first turns in which they may be.
use Rattle.std.proofs.Common.{◌≡◌, ℕ, ◌≤◌, max, List, [], ◌∷◌, Option, Some, None, refl, subst, arith}
use Rattle.std.proofs.Math.Nat.{le-max_left, le-max_right, max-le}
use Rattle.rip_history.specs.Handlings.{Answered, at_once, when_done, never, Request, IsFree, AreHandled, free_from, handled_turns, TurnsAreHandled, HandledOnce}

-- what a request may rest on: from that turn on, and in none before, the one before it is answered
abbrev FreeFrom : Option ℕ → Option (ℕ × Request) → Type 0
FreeFrom None before = (t : ℕ) → ¬ IsFree before t
FreeFrom (Some free) before = ((t : ℕ) → IsFree before t → free ≤ t) × ((t : ℕ) → free ≤ t → IsFree before t)

frees : (t : ℕ) (r : Request) (a : Answered) → FreeFrom (free_from t a) (Some (t, record { came = r.came; answered = a }))
frees t r at_once = (λ u h. h, λ u h. h)
frees t r (when_done d) = (λ u h. omega (arith, h), λ u h. omega (arith, h))
frees t r never = λ u h. h

are-handled : (free : Option ℕ) (before : Option (ℕ × Request)) (rs : List Request) → FreeFrom free before → AreHandled before rs (handled_turns free rs)
are-handled None before [] f = refl
are-handled (Some free) before [] f = refl
are-handled None before (r ∷ rs) f = λ t may. f t may.free
are-handled (Some free) before (r ∷ rs) f =
    let t = max r.came free in (
      record { came = le-max_left r.came free; free = f.1 t (le-max_right r.came free) },
      λ u may. max-le may.came (f.0 u may.free),
      are-handled (free_from t r.answered) (Some (t, r)) rs (frees t r r.answered),
    )

handled-once : (free : Option ℕ) (before : Option (ℕ × Request)) (rs : List Request) (turns : List ℕ) → FreeFrom free before → AreHandled before rs turns → turns ≡ handled_turns free rs
handled-once None before [] turns f h = h
handled-once (Some free) before [] turns f h = h
handled-once None before (r ∷ rs) [] f h = refl
handled-once None before (r ∷ rs) (t ∷ turns) f h = let may = h.0 in absurd (f t may.free)
handled-once (Some free) before (r ∷ rs) [] f h =
    let t = max r.came free in
    absurd (h t (record { came = le-max_left r.came free; free = f.1 t (le-max_right r.came free) }))
handled-once (Some free) before (r ∷ rs) (t ∷ turns) f h =
    let first = max r.came free in
    let may = h.0 in
    let low : first ≤ t = max-le may.came (f.0 t may.free) in
    let high : t ≤ first = h.1 first (record { came = le-max_left r.came free; free = f.1 first (le-max_right r.came free) }) in
    let same : t ≡ first = omega (arith, low, high) in
    let rest : AreHandled (Some (first, r)) rs turns = subst (λ (k : ℕ). AreHandled (Some (k, r)) rs turns) same h.2 in
    (λ i. same i ∷ handled-once (free_from first r.answered) (Some (first, r)) rs turns (frees first r r.answered) rest i)

pub turns_are_handled : TurnsAreHandled
turns_are_handled rs = are-handled (Some 0) None rs (λ t h. omega arith, λ t h. tt)

pub handled_once : HandledOnce
handled_once rs turns h = handled-once (Some 0) None rs turns (λ t g. omega arith, λ t g. tt) h
