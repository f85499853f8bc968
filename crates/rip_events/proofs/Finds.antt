-- The search for a listener that fits, along the chain of its node.
use Rattle.std.proofs.Common.{◌≡◌, ℕ, suc, ◌+◌, ◌-◌, ◌<◌, ◌≤◌, true, false, length, Option, None, Some, refl, sym, ap, ◌∙◌, arith}
use Rattle.std.proofs.lemmas.Bool.{and_left, and_right}
use Rattle.std.proofs.lemmas.List.{get_or_past}
use Rattle.rip_values.specs.Pool.{Texts, text_at}
use Rattle.rip_events.specs.declared.listener.Wanted.{Wanted}
use Rattle.rip_events.specs.Listed.{Listed, listener_at, stands_at, is_alike, may_be, is_typed, fits_typed, first_typed}
use Rattle.rip_events.specs.Chained.{is_on, first_on}
use Rattle.rip_events.proofs.Chains.{rest, skip, past, here, beyond, IsAhead}
use Rattle.std.specs.Prelude.{◌&&◌, nat_eq, List}
use Rattle.std.specs.Cmp.Lexicographic.{pointwise}

-- what fits is on the node
weak : (pool : Texts) (w : Wanted) (text : List ℕ) (l : Listed) (m : ℕ) → is_on l.registered w.node m ≡ false → fits_typed pool w text l m ≡ false
weak pool w text l m h = let x = listener_at l.registered m in
    and_right (stands_at l.standing m) (is_typed pool w text x) (and_left (is_on l.registered w.node m) (is_alike w.capture x.capture && (may_be w.function x.function && pointwise nat_eq (text_at pool x.kind) text)) h)

-- a number past all listeners fits nothing
past-all : (pool : Texts) (w : Wanted) (text : List ℕ) (l : Listed) (m : ℕ) → length l.standing ≡ length l.registered → length l.registered ≤ m → fits_typed pool w text l m ≡ false
past-all pool w text l m c h = and_left (stands_at l.standing m) (is_typed pool w text (listener_at l.registered m)) (get_or_past l.standing m false (omega (arith, c, h)))

pub start : (pool : Texts) (w : Wanted) (text : List ℕ) (l : Listed) (from until : ℕ) (at : Option ℕ) → length l.standing ≡ length l.registered → at ≡ first_on l.registered w.node from
    → first_typed pool w text from until l ≡ rest until (fits_typed pool w text l) at
start pool w text l from until at c e =
    sym (ap (rest until (fits_typed pool w text l)) e ∙ skip (length l.registered - from) from until (fits_typed pool w text l) (is_on l.registered w.node) (weak pool w text l) (λ m h. past-all pool w text l m c (omega (arith, h))))

pub step : (pool : Texts) (w : Wanted) (text : List ℕ) (l : Listed) (until n : ℕ) (at next : Option ℕ) → length l.standing ≡ length l.registered → at ≡ Some n → fits_typed pool w text l n ≡ false → (listener_at l.registered n).node ≡ w.node
    → next ≡ first_on l.registered (listener_at l.registered n).node (n + 1) → rest until (fits_typed pool w text l) at ≡ rest until (fits_typed pool w text l) next
step pool w text l until n at next c s f on e =
    let k : n + 1 ≡ suc n = omega arith in
    ap (rest until (fits_typed pool w text l)) s ∙ past until n (fits_typed pool w text l) f
    ∙ start pool w text l (suc n) until next c (e ∙ ap (λ p. first_on l.registered p (n + 1)) on ∙ ap (λ k. first_on l.registered w.node k) k)

pub ends : (pool : Texts) (w : Wanted) (text : List ℕ) (l : Listed) (until n : ℕ) (at : Option ℕ) → at ≡ Some n → until ≤ n → rest until (fits_typed pool w text l) at ≡ None
ends pool w text l until n at s h = ap (rest until (fits_typed pool w text l)) s ∙ beyond until n (fits_typed pool w text l) h

pub finds : (pool : Texts) (w : Wanted) (text : List ℕ) (l : Listed) (until n : ℕ) (at : Option ℕ) → at ≡ Some n → n < until → fits_typed pool w text l n ≡ true → rest until (fits_typed pool w text l) at ≡ Some n
finds pool w text l until n at s h f = ap (rest until (fits_typed pool w text l)) s ∙ here until n (fits_typed pool w text l) h f

pub runs-out : (pool : Texts) (w : Wanted) (text : List ℕ) (l : Listed) (until i : ℕ) (at : Option ℕ) → length l.registered ≤ i → IsAhead l.registered w.node i at → rest until (fits_typed pool w text l) at ≡ None
runs-out pool w text l until i None h a = refl
runs-out pool w text l until i (Some n) h a = absurd (omega (arith, h, a.0, a.1))
