-- The call that a client reads off a browser as the next.
use Rattle.std.proofs.Common.{◌≡◌, ◌≢◌, ℕ, ◌+◌, ◌<◌, ◌≤◌, Bool, true, false, List, refl, sym, ap, ◌∙◌, arith}
use Rattle.std.specs.Prelude.{Option, Some, None, if◌then◌else◌, is_some, nat_lt, option_map}
use Rattle.std.proofs.lemmas.Bool.{le-ltb, lt-ltb}
use Rattle.rip_calls.specs.Calls.{front_callback, front_text, number_at}
use Rattle.rip_host.specs.declared.browser.Browser.{Browser}
use Rattle.rip_client.specs.Truth.{Waiting}
use Rattle.rip_law_served.specs.Honest.{next_in}

at_false : {A : Type 0} (b : Bool) (x y : A) → b ≡ false → (if b then x else y) ≡ y
at_false true x y e = absurd (cc)
at_false false x y e = refl

at_true : {A : Type 0} (b : Bool) (x y : A) → b ≡ true → (if b then x else y) ≡ x
at_true true x y e = refl
at_true false x y e = absurd (cc)

-- behind the last number there is none
pub next_none : (s : Browser) (taken : ℕ) → taken ≡ number_at s.calls.taken → taken ≡ 18446744073709551615 → next_in s ≡ None
next_none s taken is last =
    let most : 18446744073709551615 ≤ s.calls.taken = omega arith in
    at_false (nat_lt s.calls.taken 18446744073709551615) _ _ (le-ltb s.calls.taken 18446744073709551615 most)

-- where no call waits there is none
pub next_empty : (s : Browser) → None ≡ front_text s.calls → next_in s ≡ None
next_empty s none = by (nat_lt s.calls.taken 18446744073709551615)
  where
    by : (b : Bool) → ◌≡◌ {A = Option Waiting} (if b then option_map (λ text. record { number = s.calls.taken + 1; text = text; calls_back = is_some (front_callback s.calls) }) (front_text s.calls) else None) None
    by true = ap (option_map (λ text. record { number = s.calls.taken + 1; text = text; calls_back = is_some (front_callback s.calls) })) (sym none)
    by false = refl

-- the first of the calls that wait
pub next_some : (s : Browser) (taken : ℕ) (text : List ℕ) (back : Bool) → taken ≡ number_at s.calls.taken → taken ≢ 18446744073709551615 → Some text ≡ front_text s.calls → back ≡ is_some (front_callback s.calls) → next_in s ≡ Some (record { number = taken + 1; text = text; calls_back = back })
next_some s taken text back is least front called =
    let lt : s.calls.taken < 18446744073709551615 = omega arith in
    let number : s.calls.taken + 1 ≡ taken + 1 = omega arith in
    at_true (nat_lt s.calls.taken 18446744073709551615) _ _ (lt-ltb s.calls.taken 18446744073709551615 lt)
    ∙ ap (option_map (λ text. record { number = s.calls.taken + 1; text = text; calls_back = is_some (front_callback s.calls) })) (sym front)
    ∙ λ i. Some (record { number = number i; text = text; calls_back = sym called i })
