-- One turn more.
use Rattle.std.proofs.Common.{◌≡◌, ℕ, suc, ◌+◌, List, [], ◌∷◌, ◌++◌, length, refl, sym, ap, subst, arith}
use Rattle.rip_history.specs.Run.{Site, State, Coming, after_turn, IsTurn}
use Rattle.rip_history.specs.Runs.{after_turns, AreTurns, IsOver, GoOn, EndsOver}

-- a turn stands behind turns, the first of which has this number
pub next-number : (turn last n : ℕ) → last ≡ turn + suc n → last ≡ turn + 1 + n
next-number turn last n e = omega (arith, e)

pub first-number : (turn last : ℕ) → last ≡ turn + 0 → last ≡ turn
first-number turn last e = omega (arith, e)

pub after_more : (site : Site) (turn last : ℕ) (s : State) (ts : List Coming) (t : Coming) → last ≡ turn + length ts
    → after_turns site turn s (ts ++ t ∷ []) ≡ after_turn site last t (after_turns site turn s ts)
after_more site turn last s [] t e = ap (λ (n : ℕ). after_turn site n t s) (sym (first-number turn last e))
after_more site turn last s (x ∷ ts) t e = after_more site (turn + 1) last (after_turn site turn x s) ts t (next-number turn last (length ts) e)

pub turns_more : (site : Site) (turn last : ℕ) (s : State) (ts : List Coming) (t : Coming) → last ≡ turn + length ts
    → AreTurns site turn s ts → IsTurn site last (after_turns site turn s ts) t → AreTurns site turn s (ts ++ t ∷ [])
turns_more site turn last s [] t e are is = (subst (λ (n : ℕ). IsTurn site n s t) (first-number turn last e) is, tt)
turns_more site turn last s (x ∷ ts) t e are is =
    (are.0, turns_more site (turn + 1) last (after_turn site turn x s) ts t (next-number turn last (length ts) e) are.1 is)

pub go_on_more : (site : Site) (turn last : ℕ) (s : State) (ts : List Coming) (t : Coming) → last ≡ turn + length ts
    → GoOn site turn s ts → ¬ IsOver t.knock (after_turn site last t (after_turns site turn s ts)) → GoOn site turn s (ts ++ t ∷ [])
go_on_more site turn last s [] t e go not_over = (subst (λ (n : ℕ). ¬ IsOver t.knock (after_turn site n t s)) (first-number turn last e) not_over, tt)
go_on_more site turn last s (x ∷ ts) t e go not_over =
    (go.0, go_on_more site (turn + 1) last (after_turn site turn x s) ts t (next-number turn last (length ts) e) go.1 not_over)

pub ends_over : (site : Site) (turn last : ℕ) (s : State) (ts : List Coming) (t : Coming) → last ≡ turn + length ts
    → GoOn site turn s ts → IsOver t.knock (after_turn site last t (after_turns site turn s ts)) → EndsOver site turn s (ts ++ t ∷ [])
ends_over site turn last s [] t e go over = subst (λ (n : ℕ). IsOver t.knock (after_turn site n t s)) (first-number turn last e) over
ends_over site turn last s (x ∷ []) t e go over =
    (go.0, ends_over site (turn + 1) last (after_turn site turn x s) [] t (next-number turn last 0 e) go.1 over)
ends_over site turn last s (x ∷ y ∷ ts) t e go over =
    (go.0, ends_over site (turn + 1) last (after_turn site turn x s) (y ∷ ts) t (next-number turn last (suc (length ts)) e) go.1 over)

pub length_more : (ts : List Coming) (t : Coming) → length (ts ++ t ∷ []) ≡ length ts + 1
length_more [] t = refl
length_more (x ∷ ts) t = let e = length_more ts t in omega (arith, e)
