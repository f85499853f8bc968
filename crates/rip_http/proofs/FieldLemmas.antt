-- Tests of each element of a list, and numerals.
use Rattle.std.proofs.Common.{◌≡◌, ℕ, zero, suc, ◌+◌, ◌*◌, ◌^◌, ◌<◌, Bool, true, false, ◌&&◌, List, [], ◌∷◌, ◌++◌, length, get_or, take, refl, sym, ap, ◌∙◌, arith}
use Rattle.std.specs.List.{list_all}
use Rattle.std.proofs.Math.Nat.{pow-le-pow_right}
use Rattle.std.proofs.lemmas.List.{take_more}
use Rattle.std.proofs.lemmas.Bool.{and_left, and_right}

and_assoc : (x y z : Bool) → ((x && y) && z) ≡ (x && (y && z))
and_assoc true y z = refl
and_assoc false y z = refl

list_all-append : {X : Type 0} (p : X → Bool) (xs ys : List X) → list_all p (xs ++ ys) ≡ (list_all p xs && list_all p ys)
list_all-append p [] ys = refl
list_all-append p (x ∷ xs) ys = ap (λ t. p x && t) (list_all-append p xs ys) ∙ sym (and_assoc (p x) _ _)

-- one more element passes
pub list_all_more : {X : Type 0} (p : X → Bool) (xs : List X) (i : ℕ) (d : X) → i < length xs → list_all p (take i xs) ≡ true
    → p (get_or xs i d) ≡ true → list_all p (take (i + 1) xs) ≡ true
list_all_more p xs i d inside before here =
    ap (list_all p) (take_more xs i d inside) ∙ list_all-append p (take i xs) _ ∙ (λ k. before k && (here k && true))

-- one element fails
pub list_all_fails : {X : Type 0} (p : X → Bool) (xs : List X) (i : ℕ) (d : X) → i < length xs → p (get_or xs i d) ≡ false
    → list_all p xs ≡ false
list_all_fails p [] i d inside fails = absurd (omega arith)
list_all_fails p (x ∷ xs) zero d inside fails = and_left _ _ fails
list_all_fails p (x ∷ xs) (suc i) d inside fails = and_right _ _ (list_all_fails p xs i d (omega arith) fails)

-- a number of at most 18 digits has room for one more
pub room_for_digit : (n i : ℕ) → n < 10 ^ i → i < 19 → n * 10 + 9 < 2 ^ 64
room_for_digit n i small few =
    let ten : 0 < 10 = omega arith in
    let bound = pow-le-pow_right {n = 10} ten {i = i} {j = 18} (omega arith) in
    omega (arith, bound)
